use Rattle.std.proofs.Common.{◌∙◌, rules}
use Rattle.std.specs.Prelude.{IsErrOf}
use Rattle.s3_signer.specs.declared.unsigned.Unsigned.TheVariants.{NotSignable}
use Rattle.s3_signer.proofs.PresignedLemmas.{not_signed}
use Rattle.s3_signer.proofs.presigning.signed_target.Goals as goal

pub returns-in_err-signature-clause-refused : goal.returns-in_err-signature-clause-refused
returns-in_err-signature-clause-refused c = λ refused.
    let same : IsErrOf c.signature_at.result NotSignable = search rules in
    not_signed c.args.asked.now c.args.lines.now c.requires c.deref.result.now (c.deref.ensures.value ∙ c.in_ok-target.ensures.value) (c.signature_at.ensures.refused same)
