use Rattle.std.proofs.Common.{◌≡◌, take}
use Rattle.s3_versions.proofs.metadata.Metadata.copy.Given as goal

-- the entries so far are copied
abbrev pub invariant-loop-entry : goal.invariant-loop-entry
invariant-loop-entry l = l.entries.items ≡ take l.entry-index l.entry-items
