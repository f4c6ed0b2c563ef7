use Rattle.std.proofs.Common.{◌≡◌, true, rules}
use Rattle.s3_text.specs.Digest.{is_hex_digest}
use Rattle.s3_signing.specs.Authorize.{authorization_text, signature_to_write}
use Rattle.s3_signing.proofs.AcceptedLemmas.{IsVerifiedWith-written}
use Rattle.s3_signing.proofs.authorize.sign_head.Goals as goal

pub returns-clause-verified : goal.returns-clause-verified
unfolding authorization_text
returns-clause-verified c =
    let digits : is_hex_digest (signature_to_write c.args.secret.now c.args.region.now c.args.head.now c.args.stamp) ≡ true = search rules in
    IsVerifiedWith-written c.args.id.now c.args.secret.now c.args.region.now c.args.head.now c.args.stamp c.in_ok-authorization.field-0.items (search rules)
    digits c.in_ok-signed.ensures.ordered c.signed_names_are_cut.ensures c.authorizations_are_spelled.ensures.read
