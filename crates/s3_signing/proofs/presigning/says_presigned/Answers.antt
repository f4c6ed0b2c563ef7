use Rattle.std.proofs.Common.{◌∙◌}
use Rattle.s3_signing.proofs.PresigningLemmas.{not_readable, says_by_parts}
use Rattle.s3_signing.proofs.presigning.says_presigned.Goals as goal

pub returns-in_default : goal.returns-in_default
returns-in_default c = (λ yes. cc, λ says. absurd (not_readable c.args.head.now.target _ c.in_default.ensures.err says.readable))

pub returns : goal.returns
returns c =
    says_by_parts c.args.id.now c.args.secret.now c.args.region.now c.args.head.now c.args.stamp c.args.expires c.in-Ok.target.now c.as_slice-signed.result.now c.in_ok-signature.signature c.is_written.result
    c.in-Ok.ensures.ok c.in-Ok.ensures.parts (c.as_slice-signed.ensures.value ∙ c.in_ok-names.ensures.value) c.in_ok-signature.ensures.value (c.is_sound.ensures.0 c.if-not-is_sound.false) c.is_written.ensures
