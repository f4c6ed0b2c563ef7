use Rattle.std.proofs.Common.{◌≡◌, List, ◌++◌}
use Rattle.s3_records.specs.declared.rows.KeyRow.{KeyRow}
use Rattle.s3_listings.specs.Drafts.{drafted, with_rows, AreBehindStart}
use Rattle.s3_listings.proofs.draft.Draft.take_each.Given as goal

-- with the rows that are left, the page becomes what it becomes with all, and they are behind the start as all were
abbrev pub invariant-loop-row : goal.invariant-loop-row
invariant-loop-row l = record {
  page : (rest : List KeyRow) → with_rows l.asked (drafted l.self) (l.row-iterator.rest.items ++ rest) ≡ with_rows l.asked (drafted l.initial.self) (l.initial.row-iterator.rest.items ++ rest);
  behind : AreBehindStart l.asked l.are_behind l.row-iterator.rest.items;
}
