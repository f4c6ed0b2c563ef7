use Rattle.std.proofs.Common.{◌≡◌, rules}
use Rattle.hex.specs.Hex.{encode_lower}
use Rattle.s3_text.proofs.DigestLemmas.{digest_form}
use Rattle.s3_text.proofs.digest.hex_digest.Goals as goal

pub returns-clause-form : goal.returns-clause-form
returns-clause-form c =
    let value : c.encode_to_slice.new.output ≡ encode_lower c.args.digest.now = search rules in
    rw value (digest_form c.args.digest.now c.told-digest c.fits-digest)
