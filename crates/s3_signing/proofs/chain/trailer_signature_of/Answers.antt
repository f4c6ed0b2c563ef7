use Rattle.std.proofs.Common.{ap, []}
use Rattle.hex.specs.Hex.{encode_lower}
use Rattle.s3_hmac.specs.Hmac.{hmac}
use Rattle.s3_signing.specs.Chain.{Link, trailer_signature}
use Rattle.s3_signing.proofs.ChainLemmas.{fed_trailer_text}
use Rattle.s3_signing.proofs.chain.trailer_signature_of.Goals as goal

pub returns : goal.returns
unfolding trailer_signature
returns c =
    let key = c.args.key.now in
    let scheme = c.update.ensures key [] c.new-mac.ensures in
    let stamped = c.update-3.ensures key _ (c.update-2.ensures key _ scheme) in
    let dated = c.update-5.ensures key _ (c.update-4.ensures key _ stamped) in
    let placed = c.update-7.ensures key _ (c.update-6.ensures key _ dated) in
    let linked = c.update-9.ensures key _ (c.update-8.ensures key _ placed) in
    let code = c.finish.ensures key _ (c.update-10.ensures key _ linked) in
    let link : Link = record { stamp = c.args.stamp.now; region = c.args.region.now; key = key; previous = c.args.previous.now } in
    let text = fed_trailer_text link c.args.hash.now in
    rw (c.hex_digest-2.ensures.value, code, c.text.ensures.text, c.date.ensures, c.hex_digest.ensures.value)
    (ap (λ m. encode_lower (hmac key m)) text)
