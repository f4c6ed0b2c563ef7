use Rattle.std.proofs.Common.{arith}
use Rattle.std.proofs.lemmas.List.{length-map}
use Rattle.s3_signer.specs.Presigned.{asked}
use Rattle.s3_signer.specs.Request.{given_lines}
use Rattle.s3_signer.proofs.LineLemmas.{given_line}
use Rattle.s3_signer.proofs.PresignedLemmas.{few_given}
use Rattle.s3_signer.proofs.presigned.presigned_target.Goals as goal

pub returns-then-headers-gt-LINE_LIMIT-clause-refused : goal.returns-then-headers-gt-LINE_LIMIT-clause-refused
returns-then-headers-gt-LINE_LIMIT-clause-refused c = λ refused can.
    let a = asked c.args.id.now c.args.secret.now c.args.region.now c.args.method.now c.args.target.now (given_lines c.args.headers.now) c.args.stamp c.args.expires in
    omega (arith, c.if-headers-gt-LINE_LIMIT.true, few_given a can, length-map c.args.headers.now given_line)
