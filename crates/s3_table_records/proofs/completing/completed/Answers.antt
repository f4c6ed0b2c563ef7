use Rattle.std.proofs.Common.{◌≡◌, sym, subst, ◌∙◌}
use Rattle.std.specs.Prelude.{IfOk}
use Rattle.s3_records.specs.OpenUploads.{completed_at}
use Rattle.s3_table_records.proofs.completing.completed.Goals as goal

pub returns-in-Some-clause-value : goal.returns-in-Some-clause-value
returns-in-Some-clause-value g c =
    subst (λ found. IfOk c.joined.result (λ stored. stored ≡ completed_at c.args.least c.args.listed.now found)) (sym c.in-Some.is ∙ c.in_ok-found_upload.ensures.value) c.joined.ensures
