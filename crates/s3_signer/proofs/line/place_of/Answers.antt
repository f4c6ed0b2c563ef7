use Rattle.std.proofs.Common.{not, arith}
use Rattle.std.specs.Ordering.{is_gt}
use Rattle.s3_text.specs.Order.{byte_order}
use Rattle.s3_signer.specs.declared.line.Line.{Line}
use Rattle.s3_signer.proofs.LineLemmas.{first_place, no_place}
use Rattle.s3_signer.proofs.line.place_of.Goals as goal

pub returns-then-not-comes_after-clause-value : goal.returns-then-not-comes_after-clause-value
returns-then-not-comes_after-clause-value c =
    first_place (λ (line : Line). not (is_gt (byte_order c.args.name.now line.name.items))) c.args.lines.now _ c.index-lines-place.result c.loop-place-test.true c.index-lines-place.is (cc) c.loop-place.invariant

pub returns-clause-value : goal.returns-clause-value
returns-clause-value c =
    no_place (λ (line : Line). not (is_gt (byte_order c.args.name.now line.name.items))) c.args.lines.now
    (λ k d h. c.loop-place.invariant k d (omega (arith, c.loop-place-test.false)))
