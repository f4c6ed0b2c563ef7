use Rattle.std.proofs.Common.{◌==◌, not, filter, sym, ◌∙◌, ap, rules, tests}
use Rattle.std.specs.List.{join_with_byte}
use Rattle.std.proofs.lemmas.Iterator.Consumers.{YieldsList-end}
use Rattle.std.proofs.lemmas.Iterator.Splits.{YieldsList-from_slice_split}
use Rattle.s3_requests.specs.Description.{is_of_transfer}
use Rattle.s3_requests.proofs.DescriptionLemmas.{codings_in, codings_yes, join_next, is_found_push}
use Rattle.s3_requests.proofs.description.codings_kept.Goals as goal

pub loop-coding-preserved-then-not-is_of_transfer : goal.loop-coding-preserved-then-not-is_of_transfer
loop-coding-preserved-then-not-is_of_transfer c =
    let before = codings_in c.loop-coding.yielded in
    let more = codings_yes c.loop-coding.yielded c.in-Some.coding (search (rules, tests)) in
    record {
      printed = rw (more, join_next 44 before _, ← c.loop-coding.invariant.printed, ← c.loop-coding.invariant.found) c.in_ok-push_value.ensures;
      found = sym (rw more (is_found_push before _));
    }

pub returns : goal.returns
returns c =
    let ended = YieldsList-end (YieldsList-from_slice_split _ (λ b. b == 44) c.args.value.now (cc) (cc) (cc) (λ x r q k. search (rules, tests))) c.loop-coding.yielded _ c.loop-coding.yielded_by _ _ c.in-None.is c.next.ensures.steps in
    c.loop-coding.invariant.printed ∙ ap (λ texts. join_with_byte 44 (filter (λ coding. not (is_of_transfer coding)) texts)) ended.0
