use Rattle.std.proofs.Common.{arith, ap, ◌∙◌}
use Rattle.std.proofs.lemmas.Grind.{get_or_default_zero}
use Rattle.std.proofs.lemmas.List.Elements.{recursion_from_All}
use Rattle.s3_columns.specs.Numbers.{numbers_in}
use Rattle.s3_columns.proofs.NumberLemmas.{numbers_again, IsSmall}
use Rattle.s3_row_values.proofs.columns.numbers_column.Goals as goal

pub returns : goal.returns
returns c =
    let numbers = c.args.numbers.now in
    ap numbers_in c.in_ok-column.ensures.value
    ∙ numbers_again numbers (recursion_from_All IsSmall numbers (λ k d within. omega (arith, c.type_inv.numbers k, get_or_default_zero numbers k d within)))
