use Rattle.std.proofs.Common.{◌≡◌, ◌∙◌, w64, to_z, of_z, rules}
use Rattle.std.proofs.lemmas.Result.{IfOk-weaker}
use Rattle.s3_stored_rows.specs.Bodies.{encoding}
use Rattle.s3_row_lists.proofs.VersionListLemmas.{below_listed}
use Rattle.s3_row_lists.proofs.versions.below_told.Goals as goal

pub returns-clause-value : goal.returns-clause-value
returns-clause-value g c = λ contents.
    let number : to_z w64 (of_z w64 c.args.number) ≡ c.args.number = search rules in
    IfOk-weaker c.older_told.result _ _
    (λ told is. is ∙ below_listed (encoding contents) c.args.bucket.now c.args.key.now c.in_ok-limit.limit c.args.most c.args.number (to_z w64 (of_z w64 c.args.number)) (g.R.StoredRows.tables c.args.rows.now) c.in_ok-found.found.items c.deref.result.now
    number c.in_ok-limit.ensures c.deref.ensures.value c.in_ok-found.ensures.value)
    (c.older_told.ensures contents)
