use Rattle.std.proofs.Common.{map, filter, ap, ◌∙◌, arith}
use Rattle.std.specs.List.{dedup}
use Rattle.std.specs.Str.{bytes_eq}
use Rattle.s3_text.specs.Order.{byte_order}
use Rattle.s3_text.specs.Sorting.{sorted_by}
use Rattle.s3_requests.specs.Description.{entry_of, is_said}
use Rattle.s3_requests.specs.Name.{texts}
use Rattle.s3_requests.proofs.DescriptionLemmas.{entries_few, entries_rise, names_few}
use Rattle.s3_requests.proofs.description.entries_of.Goals as goal

pub returns-clause-value : goal.returns-clause-value
returns-clause-value c =
    let sent = ap (λ names. dedup bytes_eq (sorted_by byte_order names)) c.in_ok-names.ensures in
    c.in_ok-entries.ensures ∙ ap (λ names. filter is_said (map (entry_of c.args.head.now) names)) (ap texts c.deref.ensures.value ∙ c.in_ok-put_in_order.ensures.value ∙ sent)

pub returns-clause-order : goal.returns-clause-order
returns-clause-order c =
    let entries = c.in_ok-entries.ensures ∙ ap (λ names. filter is_said (map (entry_of c.args.head.now) (texts names))) c.deref.ensures.value in
    entries_rise c.args.head.now _ _ entries c.in_ok-put_in_order.ensures.order

pub returns-clause-count : goal.returns-clause-count
returns-clause-count c =
    let few = names_few c.args.dialect c.in_ok-names.names.items c.args.head.now.headers c.in_ok-names.ensures in
    let entries = entries_few c.args.head.now _ c.deref.result.now c.in_ok-entries.ensures in
    omega (arith, few, entries, c.has_few_lines.ensures, c.in_ok-put_in_order.ensures.count, c.deref.ensures.len)
