use Rattle.std.proofs.Common.{◌∙◌, map}
use Rattle.s3_signer.specs.Presigned.{size_line}
use Rattle.s3_signer.specs.Request.{given_lines, lower_line}
use Rattle.s3_signer.proofs.PresignedLemmas.{given_before}
use Rattle.s3_signer.proofs.lines.sized_lines.Goals as goal

pub returns : goal.returns
returns c =
    c.in_ok-add_lines.ensures (map lower_line (size_line c.args.size)) c.in_ok-lines.ensures
    ∙ given_before (given_lines c.args.headers.now) (size_line c.args.size)
