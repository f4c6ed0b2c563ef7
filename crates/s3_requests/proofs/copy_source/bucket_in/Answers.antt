use Rattle.std.proofs.Common.{ap, ◌∙◌}
use Rattle.percent_encoding.specs.Percent.{percent_decode}
use Rattle.s3_names.specs.Names.{bucket_name}
use Rattle.s3_requests.proofs.CopySourceLemmas.{refused}
use Rattle.s3_requests.proofs.copy_source.bucket_in.Goals as goal

pub returns : goal.returns
returns c =
    let sent = c.deref.ensures.value ∙ c.in_ok-name.ensures ∙ ap percent_decode c.before_first.ensures in
    refused _ _ c.in-Err.code c.as_argument.result c.as_argument.ensures (ap bucket_name sent) c.in-Err.ensures.rule
