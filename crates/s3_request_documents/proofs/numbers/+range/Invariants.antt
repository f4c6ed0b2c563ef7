use Rattle.std.proofs.Common.{◌≡◌, drop}
use Rattle.json.specs.Value.{items_view, members_view}
use Rattle.s3_request_documents.specs.Data.{items_in_range, members_in_range}
use Rattle.s3_request_documents.proofs.numbers.+range.Given as goal

-- all are in range just where those that are left are
abbrev pub invariant-items_in_range-loop-item : goal.invariant-items_in_range-loop-item
invariant-items_in_range-loop-item l = items_in_range (items_view l.item-items) ≡ items_in_range (items_view (drop l.item-index l.item-items))

abbrev pub invariant-members_in_range-loop-member : goal.invariant-members_in_range-loop-member
invariant-members_in_range-loop-member l = members_in_range (members_view l.member-items) ≡ members_in_range (members_view (drop l.member-index l.member-items))
