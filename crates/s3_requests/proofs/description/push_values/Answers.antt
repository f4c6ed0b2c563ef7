use Rattle.std.proofs.Common.{◌++◌, sym, ◌∙◌, ap, take, append_assoc, arith}
use Rattle.std.specs.List.{join_with_byte}
use Rattle.s3_requests.proofs.DescriptionLemmas.{values_in, values_yes, values_no, values_all, join_next, is_found_push}
use Rattle.s3_requests.proofs.description.push_values.Goals as goal
use Rattle.s3_requests.proofs.description.push_values.Goals.{then-is_named+in_ok-push_value, else-is_named}

pub loop-index-preserved : goal.loop-index-preserved
loop-index-preserved c =
    let name = c.args.name.now in
    let lines = c.args.head.now.headers in
    let index = c.loop-index.index in
    let before = values_in name (take index lines) in
    elim c.if-is_named.branch [
      | then-is_named+in_ok-push_value w ↦
          let more = values_yes name lines index _ _ c.header.ensures (sym c.is_named.ensures ∙ w.if-is_named.true) in
          record {
            printed = rw (more, join_next 44 before _, ← append_assoc, ← c.loop-index.invariant.printed, ← c.loop-index.invariant.found, w.text-is) w.in_ok-push_value.ensures;
            found = w.found-is ∙ sym (rw more (is_found_push before _));
          }
      | else-is_named w ↦
          let same = values_no name lines index _ _ c.header.ensures (sym c.is_named.ensures ∙ w.if-is_named.false) in
          record {
            printed = rw (same, w.text-is) c.loop-index.invariant.printed;
            found = rw (same, w.found-is) c.loop-index.invariant.found;
          }
    ]

pub returns : goal.returns
returns c =
    let all = values_all c.args.name.now c.args.head.now c.loop-index.index (omega (arith, c.header_count-index-end.ensures)) in
    c.loop-index.invariant.printed ∙ ap (λ pieces. c.args.text.now.items ++ join_with_byte 44 pieces) all
