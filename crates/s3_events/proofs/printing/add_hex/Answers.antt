use Rattle.s3_events.proofs.PrintingLemmas.{none_encoded, one_encoded_more}
use Rattle.s3_events.proofs.printing.add_hex.Goals as goal

pub loop-byte-init : goal.loop-byte-init
loop-byte-init c = none_encoded _

pub loop-byte-preserved : goal.loop-byte-preserved
loop-byte-preserved c =
    one_encoded_more c.args.text.now.items _ _ c.args.bytes.now _ _ c.loop-byte-test.true c.loop-byte.invariant c.byte_digits.ensures c.in_ok-extend_from_slice.ensures.items
