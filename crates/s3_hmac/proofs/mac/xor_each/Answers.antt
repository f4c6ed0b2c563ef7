use Rattle.std.proofs.Common.{◌<◌, ℕ, bit_xor, length, length-append, length-drop, length-take, arith, ap}
use Rattle.std.proofs.lemmas.List.{get_or_default, length-map}
use Rattle.std.proofs.lemmas.List.Edits.{map_over_more}
use Rattle.s3_hmac.proofs.mac.xor_each.Goals as goal

pub bytes-preserved : goal.bytes-preserved
bytes-preserved c =
    let f = λ (byte : ℕ). bit_xor byte c.args.pad in
    let i = c.bytes.byte-index in
    let in_block : i < length c.args.block = omega arith in
    let lengths = simp (length-append, length-map, length-take, length-drop) at (ap length c.bytes.invariant) in
    let in_items : i < length c.bytes.byte-items = omega arith in
    map_over_more f c.args.block c.bytes.byte-items i _ in_block c.bytes.invariant (get_or_default c.bytes.byte-items i 0 _ in_items)
