use Rattle.std.proofs.Common.{◌∙◌, sym, ap, arith}
use Rattle.std.proofs.lemmas.Bool.{iff_false}
use Rattle.std.proofs.lemmas.Option.{none-some, same_Some}
use Rattle.std.specs.Fmt.{decimal}
use Rattle.s3_columns.proofs.TagLemmas.{count_read}
use Rattle.s3_columns.proofs.tags.read_count.Goals as goal

pub returns-in_err-number-clause-found : goal.returns-in_err-number-clause-found
returns-in_err-number-clause-found c = λ count small e.
    absurd (none-some count (c.in_err-number.ensures ∙ count_read c.args.text.now count small e))

pub returns-then-number-gt-COUNT_MAX-clause-found : goal.returns-then-number-gt-COUNT_MAX-clause-found
returns-then-number-gt-COUNT_MAX-clause-found c = λ count small e.
    let same = same_Some c.in_ok-number.number count (c.in_ok-number.ensures ∙ count_read c.args.text.now count small e) in
    absurd (omega arith)

pub returns-then-not-is_count_in-clause-found : goal.returns-then-not-is_count_in-clause-found
returns-then-not-is_count_in-clause-found c = λ count small e.
    let same = same_Some c.in_ok-number.number count (c.in_ok-number.ensures ∙ count_read c.args.text.now count small e) in
    absurd (iff_false c.is_count_in.ensures c.if-not-is_count_in.true (e ∙ ap decimal (sym same)))

pub returns-clause-found : goal.returns-clause-found
returns-clause-found c = λ count small e.
    c.in_ok-number.ensures ∙ count_read c.args.text.now count small e
