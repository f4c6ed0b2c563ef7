use Rattle.std.proofs.Common.{rules, ◌≡◌, ◌<◌, ◌∙◌, length, arith}
use Rattle.s3_columns.specs.Items.{items_read}
use Rattle.s3_columns.specs.Numbers.{number_at, numbers_in}
use Rattle.s3_columns.proofs.ItemLemmas.{goes_on, ends, is_done}
use Rattle.s3_columns.proofs.NumberLemmas.{number_reads, none_given, all_given}
use Rattle.s3_columns.proofs.numbers.read_numbers.Goals as goal

pub returns-in_default-clause-value : goal.returns-in_default-clause-value
unfolding numbers_in
returns-in_default-clause-value c =
    let some : 0 < length c.loop-rest.rest.now = search rules in
    let none = ends number_at number_reads.shorter c.loop-rest.numbers.items c.loop-rest.rest.now (items_read number_at c.args.bytes.now) some c.in_default.ensures.value c.loop-rest.invariant.0 in
    c.new.ensures.items ∙ none_given _ none

pub loop-rest-preserved : goal.loop-rest-preserved
loop-rest-preserved c =
    let on = goes_on number_at number_reads.shorter c.loop-rest.numbers.items c.loop-rest.rest.now c.in-Some.number c.in-Some.behind.now (items_read number_at c.args.bytes.now) c.in-Some.ensures.value c.loop-rest.invariant.0 in
    (rw c.in_ok-push.ensures.items on, omega (arith, c.in-Some.ensures.shorter))

pub returns-clause-value : goal.returns-clause-value
unfolding numbers_in
returns-clause-value c =
    let none : length c.loop-rest.rest.now ≡ 0 = search rules in
    all_given _ _ (is_done number_at c.loop-rest.numbers.items c.loop-rest.rest.now (items_read number_at c.args.bytes.now) none c.loop-rest.invariant.0)
