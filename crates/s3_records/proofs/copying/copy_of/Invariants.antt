use Rattle.std.proofs.Common.{◌≡◌, ◌-◌, length, drop}
use Rattle.s3_records.proofs.copying.copy_of.Given as goal

-- the oldest so far are copied
abbrev pub invariant-loop-index : goal.invariant-loop-index
invariant-loop-index l = l.copied ≡ drop (length l.list - l.index) l.list
