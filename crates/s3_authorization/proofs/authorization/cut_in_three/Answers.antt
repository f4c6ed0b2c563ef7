use Rattle.std.proofs.Common.{◌==◌, ℕ, arith}
use Rattle.std.proofs.lemmas.List.Splits.{length-slice_split}
use Rattle.s3_authorization.proofs.authorization.cut_in_three.Goals as goal

pub returns-in-Some : goal.returns-in-Some
returns-in-Some c =
    λ three.
    let longer = rw (c.in_ok-first.ensures.parts, c.in_ok-second.ensures.parts, c.in-Some.ensures.parts) at three in
    omega (arith, longer, length-slice_split (λ (b : ℕ). b == c.args.byte) c.in-Some.field-0.1.now)
