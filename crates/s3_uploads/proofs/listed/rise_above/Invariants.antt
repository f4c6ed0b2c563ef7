use Rattle.std.proofs.Common.{◌≡◌, ◌≤◌, ◌+◌, drop}
use Rattle.s3_uploads.specs.Completion.{numbers_listed}
use Rattle.s3_uploads.proofs.ListedLemmas.{rises_above}
use Rattle.s3_uploads.proofs.listed.rise_above.Given as goal

-- the numbers that are left rise from the last one on just where all do, and there were no more than the last one says
abbrev pub invariant-loop-part : goal.invariant-loop-part
invariant-loop-part l = record {
  rest : rises_above l.fn.first (numbers_listed l.fn.listed) ≡ rises_above l.last (numbers_listed (drop l.part-index l.listed));
  few : 1 + l.part-index ≤ l.last;
  bound : l.last ≤ 10_000;
}
