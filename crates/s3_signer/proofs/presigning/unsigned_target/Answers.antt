use Rattle.std.proofs.Common.{refl, rules}
use Rattle.std.specs.Prelude.{IsErrOf}
use Rattle.s3_signer.specs.declared.unsigned.Unsigned.TheVariants.{NotSignable}
use Rattle.s3_signer.specs.Line.{head_with}
use Rattle.s3_signer.specs.Presigned.{target_to_sign}
use Rattle.s3_signer.specs.Request.{ReadsBack}
use Rattle.s3_signer.proofs.PresignedLemmas.{reads_made}
use Rattle.s3_signer.proofs.presigning.unsigned_target.Goals as goal

pub returns-in_err-names-clause-refused : goal.returns-in_err-names-clause-refused
returns-in_err-names-clause-refused c = λ refused reads.
    let a = c.args.asked.now in
    let same : IsErrOf c.names.result NotSignable = search rules in
    let made : ReadsBack (head_with a.method (target_to_sign a) c.args.lines.now) = reads_made a c.args.lines.now c.requires (target_to_sign a) refl reads in
    c.names.ensures.refused same (target_to_sign a) (search (rules, made))
