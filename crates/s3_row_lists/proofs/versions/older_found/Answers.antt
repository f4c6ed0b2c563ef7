use Rattle.std.proofs.Common.{◌≡◌, sym, ◌∙◌, w64, to_z, of_z, rules}
use Rattle.std.proofs.lemmas.Result.{IfOk-weaker}
use Rattle.s3_stored_rows.specs.Bodies.{encoding}
use Rattle.s3_row_lists.proofs.VersionListLemmas.{nothing_older, older_listed}
use Rattle.s3_row_lists.proofs.versions.older_found.Goals as goal

pub returns-in-None-clause-value : goal.returns-in-None-clause-value
returns-in-None-clause-value g c = λ contents.
    c.new.ensures.items
    ∙ sym (nothing_older (encoding contents) (g.R.StoredRows.tables c.args.rows.now) c.args.bucket.now c.args.key.now c.args.id c.requires c.in_ok-number_of.field-0 c.in_ok-number_of.ensures.value c.args.most c.in-None.is)

pub returns-in-Some-clause-value : goal.returns-in-Some-clause-value
returns-in-Some-clause-value g c = λ contents.
    let number : to_z w64 (of_z w64 c.in-Some.number) ≡ c.in-Some.number = search rules in
    IfOk-weaker c.below_told.result _ _
    (λ told is. is ∙ older_listed (encoding contents) (g.R.StoredRows.tables c.args.rows.now) c.args.bucket.now c.args.key.now c.args.id c.requires c.in_ok-number_of.field-0 c.in_ok-number_of.ensures.value
    c.args.most c.in-Some.number (to_z w64 (of_z w64 c.in-Some.number)) (g.R.StoredRows.tables c.number_of.new.rows) c.in-Some.is number c.in_ok-number_of.ensures.same)
    (c.below_told.ensures.value contents)
