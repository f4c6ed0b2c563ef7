use Rattle.std.proofs.Common.{sym, ◌∙◌, ◌≡◌, drop, arith, true, false}
use Rattle.std.specs.Prelude.{nat_eq}
use Rattle.std.specs.List.{starts_with}
use Rattle.s3_prefixes.proofs.RollingLemmas.{here, not_here, found_first}
use Rattle.s3_prefixes.proofs.rolling.end_of_first.Goals as goal

pub returns-then-starts_with-clause-value : goal.returns-then-starts_with-clause-value
returns-then-starts_with-clause-value c =
    let text = c.args.text.now in
    let delimiter = c.args.delimiter.now in
    let begun : starts_with nat_eq (drop c.loop-at.at text) delimiter ≡ true = rw (sym c.from.ensures) (sym c.if-starts_with.ensures.value) in
    sym (here delimiter text c.loop-at.at c.loop-at-test.true begun)
    ∙ c.loop-at.invariant
    ∙ found_first delimiter text (grind (arith, c.if-is_empty.ensures))

pub loop-at-preserved : goal.loop-at-preserved
loop-at-preserved c =
    let text = c.args.text.now in
    let delimiter = c.args.delimiter.now in
    let other : starts_with nat_eq (drop c.loop-at.at text) delimiter ≡ false = rw (sym c.from.ensures) (sym c.if-starts_with.ensures.value) in
    not_here delimiter text c.loop-at.at c.loop-at-test.true other ∙ c.loop-at.invariant
