use Rattle.std.proofs.Common.{◌==◌, ℕ, arith}
use Rattle.std.proofs.lemmas.List.Splits.{length-slice_split}
use Rattle.s3_conditions.proofs.range.cut_in_two.Goals as goal

pub returns-in-Some : goal.returns-in-Some
returns-in-Some c =
    λ two.
    let longer = rw (c.in_ok-before.ensures.parts, c.in-Some.ensures.parts) at two in
    omega (arith, longer, length-slice_split (λ (b : ℕ). b == 45) c.in-Some.field-0.1.now)
