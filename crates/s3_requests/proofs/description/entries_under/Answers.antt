use Rattle.std.proofs.Common.{map, filter, ap, ◌∙◌}
use Rattle.std.proofs.lemmas.List.{take_all}
use Rattle.s3_requests.specs.Description.{entry_of, is_said}
use Rattle.s3_requests.specs.Name.{texts}
use Rattle.s3_requests.proofs.DescriptionLemmas.{entries_more}
use Rattle.s3_requests.proofs.description.entries_under.Goals as goal

pub loop-name-preserved : goal.loop-name-preserved
loop-name-preserved c =
    let entry = entry_of c.args.head.now in
    let this = c.in_ok-entry_under.ensures ∙ ap entry c.deref.ensures.value in
    entries_more is_said entry c.args.names.now c.loop-name.name-index c.name-item.result _ _ _ c.loop-name-test.true c.name-item.is c.loop-name.invariant this c.in_ok-push_entry.ensures

pub returns : goal.returns
returns c =
    c.loop-name.invariant ∙ ap (λ names. filter is_said (map (entry_of c.args.head.now) (texts names))) (take_all c.loop-name.name-index c.args.names.now c.loop-name-test.false)
