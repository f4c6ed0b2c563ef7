use Rattle.std.proofs.Common.{sym, ap, ◌∙◌, is_some}
use Rattle.s3_table_records.proofs.OpeningLemmas.{opened_again}
use Rattle.s3_table_records.proofs.opening.open_bucket.Goals as goal

-- it is there, as if it were made again
pub returns-in-Some : goal.returns-in-Some
returns-in-Some g c =
    c.bucket.ensures.same
    ∙ opened_again (g.K.Records.catalogue c.args.records.now) c.requires.0 c.args.name.now c.requires.1 (sym c.in_ok-bucket.ensures.there ∙ ap is_some c.in-Some.is)
