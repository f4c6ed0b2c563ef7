use Rattle.std.proofs.Common.{refl, sym, ap, subst, ◌∙◌, ◌<◌, ℕ, List}
use Rattle.std.specs.List.{All}
use Rattle.std.proofs.lemmas.List.Elements.{All-from_recursion}
use Rattle.s3_uploads.specs.declared.part.Part.{Part}
use Rattle.s3_stored_rows.specs.Bodies.{part_numbers}
use Rattle.s3_stored_rows.specs.Changes.{part_columns}
use Rattle.s3_stored_rows.specs.declared.rows.StoredPart.{StoredPart}
use Rattle.s3_row_values.proofs.PartLemmas.{part_added}
use Rattle.s3_row_values.proofs.reading_uploads.put_parts.Goals as goal

-- what numbers a part names, all under which something stands
abbrev AreNamed : (ℕ → ℕ) → StoredPart → Type 0
AreNamed uses p = All (λ number. 0 < uses number) (part_numbers (part_columns p))

pub loop-part-init : goal.loop-part-init
loop-part-init g c = record {
  parts = ap (λ (ps : List (ℕ × Part (List ℕ))). record c.args.upload.now { parts = ps }) c.requires.none;
  contents = refl;
  uses = refl;
  outlives = λ number bytes did. did;
}

pub put_part-requires : goal.put_part-requires
put_part-requires g c =
    let named = All-from_recursion (AreNamed (g.B.StoredBodies.uses c.args.bodies.now)) c.args.parts.now c.requires.named c.loop-part.part-index c.part-item.result c.loop-part-test.true in
    subst (λ (uses : ℕ → ℕ). AreNamed uses c.part-item.result) (sym c.loop-part.invariant.uses)
    (subst (AreNamed (g.B.StoredBodies.uses c.args.bodies.now)) (sym c.part-item.is) named)

pub loop-part-preserved : goal.loop-part-preserved
loop-part-preserved g c = record {
  parts = part_added (g.B.StoredBodies.contents c.args.bodies.now) (g.B.StoredBodies.contents c.loop-part.bodies) c.args.upload.now c.loop-part.upload c.put_part.new.upload
      c.args.parts.now c.loop-part.part-index c.part-item.result c.loop-part-test.true c.part-item.is c.requires.rising
      c.loop-part.invariant.contents c.loop-part.invariant.parts c.in_ok-put_part.ensures.ok;
  contents = c.put_part.ensures.contents ∙ c.loop-part.invariant.contents;
  uses = c.put_part.ensures.uses ∙ c.loop-part.invariant.uses;
  outlives = λ number bytes did. c.put_part.ensures.outlives number bytes (c.loop-part.invariant.outlives number bytes did);
}
