use Rattle.std.proofs.Common.{arith, append_assoc, map, refl}
use Rattle.s3_canonical.specs.Parameter.{pairs}
use Rattle.s3_canonical.specs.CanonicalTarget.{print_pair}
use Rattle.s3_text.proofs.JoinLemmas.{join_with_byte_first, join_with_byte_more}
use Rattle.s3_canonical.proofs.ListLemmas.{piece_at, length-pieces}
use Rattle.s3_canonical.proofs.parameter.join.Goals as goal
use Rattle.s3_canonical.proofs.parameter.join.Goals.{then-i-gt0+in_ok-push, else-i-gt0}

pub loop-i-preserved : goal.loop-i-preserved
loop-i-preserved c =
    let all = c.args.all.now in
    let pieces = map print_pair (pairs all) in
    let piece = piece_at all c.loop-i.i c.index-all-i.result c.loop-i-test.true c.index-all-i.is in
    elim c.if-i-gt0.branch [
      | then-i-gt0+in_ok-push w ↦
          let more = join_with_byte_more 38 pieces c.loop-i.i w.if-i-gt0.true (omega (arith, length-pieces all)) in
          rw (more, piece, c.in_ok-print.ensures, w.text-is, w.in_ok-push.ensures.items, c.loop-i.invariant, append_assoc) refl
      | else-i-gt0 w ↦
          let first = join_with_byte_first 38 pieces c.loop-i.i (omega arith) (omega (arith, length-pieces all)) in
          rw (first, piece, c.in_ok-print.ensures, w.text-is, c.loop-i.invariant) refl
    ]
