use Rattle.std.proofs.Common.{ap, []}
use Rattle.hex.specs.Hex.{encode_lower}
use Rattle.s3_hmac.specs.Hmac.{hmac}
use Rattle.s3_signing.proofs.WritingLemmas.{fed_text}
use Rattle.s3_signing.proofs.signature.signature.Goals as goal

pub returns-clause-value : goal.returns-clause-value
returns-clause-value c =
    let key = c.args.key.now in
    let scheme = c.update.ensures key [] c.begin-mac.ensures in
    let stamped = c.update-3.ensures key _ (c.update-2.ensures key _ scheme) in
    let dated = c.update-5.ensures key _ (c.update-4.ensures key _ stamped) in
    let placed = c.update-7.ensures key _ (c.update-6.ensures key _ dated) in
    let tag = c.finish.ensures key _ (c.update-8.ensures key _ placed) in
    let text = fed_text c.args.stamp.now c.args.region.now c.args.hash.now in
    rw (c.hex_digest-2.ensures.value, tag, c.text.ensures.text, c.date.ensures, c.hex_digest.ensures.value)
    (ap (λ m. encode_lower (hmac key m)) text)
