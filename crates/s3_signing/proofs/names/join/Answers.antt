use Rattle.std.proofs.Common.{arith, append_assoc, refl}
use Rattle.s3_text.proofs.JoinLemmas.{join_with_byte_first, join_with_byte_more}
use Rattle.s3_signing.specs.Names.{texts}
use Rattle.s3_signing.proofs.NameLemmas.{text_at, length-texts}
use Rattle.s3_signing.proofs.names.join.Goals as goal
use Rattle.s3_signing.proofs.names.join.Goals.{then-i-gt0+in_ok-push, else-i-gt0}

pub loop-i-preserved : goal.loop-i-preserved
loop-i-preserved c =
    let names = c.args.names.now in
    let pieces = texts names in
    let piece = text_at names c.loop-i.i c.index-names-i.result c.loop-i-test.true c.index-names-i.is in
    elim c.if-i-gt0.branch [
      | then-i-gt0+in_ok-push w ↦
          let more = join_with_byte_more 59 pieces c.loop-i.i w.if-i-gt0.true (omega (arith, length-texts names)) in
          rw (more, piece, c.in_ok-extend_from_slice.ensures.items, c.deref.ensures.value, w.text-is, w.in_ok-push.ensures.items, c.loop-i.invariant, append_assoc) refl
      | else-i-gt0 w ↦
          let first = join_with_byte_first 59 pieces c.loop-i.i (omega arith) (omega (arith, length-texts names)) in
          rw (first, piece, c.in_ok-extend_from_slice.ensures.items, c.deref.ensures.value, w.text-is, c.loop-i.invariant) refl
    ]
