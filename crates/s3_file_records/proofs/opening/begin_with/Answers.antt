use Rattle.std.proofs.Common.{sym, ap, subst, ◌∙◌, ℕ, ℤ, SFits, w64, to_z-of_z, rules}
use Rattle.s3_keepers.specs.Sound.{IsSoundCatalogue}
use Rattle.s3_rows.specs.Meaning.{catalogue_of}
use Rattle.s3_stored_rows.specs.Bodies.{encoding}
use Rattle.s3_row_steps.specs.Steps.{AreKept}
use Rattle.s3_table_records.specs.Kept.{catalogue, kept_in}
use Rattle.s3_table_records.specs.Numbered.{SaysNumber, IsAbove}
use Rattle.s3_file_records.proofs.FoundLemmas.{above_found}
use Rattle.s3_file_records.proofs.opening.begin_with.Goals as goal

pub over-records-requires-clause-kept : goal.over-records-requires-clause-kept
over-records-requires-clause-kept g c =
    let found = c.requires.found in
    let next : SFits w64 c.args.found.now.next = search rules in
    record {
      rows = subst (λ (n : ℤ). AreKept n (g.R.StoredRows.tables c.args.rows)) (sym (to_z-of_z next)) found.kept;
      named = λ n. ap (λ (f : ℕ → ℕ). f n) c.requires.named ∙ found.named n;
    }

pub over-records-requires-clause-says : goal.over-records-requires-clause-says
over-records-requires-clause-says g c = subst (λ (n : ℕ). SaysNumber n (g.R.StoredRows.tables c.args.rows)) (sym c.begun.ensures) c.requires.says

pub over-records-requires-clause-above : goal.over-records-requires-clause-above
over-records-requires-clause-above g c =
    subst (λ (n : ℕ). IsAbove n (catalogue_of (encoding (g.B.StoredBodies.contents c.args.bodies)) (g.R.StoredRows.tables c.args.rows))) (sym c.begun.ensures)
    (above_found c.args.found.now (g.R.StoredRows.tables c.args.rows) (g.B.StoredBodies.contents c.args.bodies) c.requires.found)

pub returns-in-Ok-clause-sound : goal.returns-in-Ok-clause-sound
returns-in-Ok-clause-sound g c =
    c.make_missing.ensures.sound c.args.found.now.number
    (subst (λ r. IsSoundCatalogue (catalogue (kept_in g.R.StoredRows.tables g.B.StoredBodies.contents g.B.StoredBodies.uses r)) c.args.found.now.number)
    (sym c.over-records.ensures) (c.requires.found.sound (g.B.StoredBodies.contents c.args.bodies)))
