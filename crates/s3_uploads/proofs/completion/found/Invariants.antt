use Rattle.std.proofs.Common.{◌≡◌, ◌≤◌, length, take}
use Rattle.s3_uploads.specs.Completion.{parts_listed}
use Rattle.s3_uploads.proofs.CompletionLemmas.{parts_of}
use Rattle.s3_uploads.proofs.completion.found.Given as goal

-- the listed parts so far are found
abbrev pub invariant-loop-part : goal.invariant-loop-part
invariant-loop-part g l = record {
  found : parts_of l.found.items ≡ parts_listed (take l.part-index l.listed) l.parts;
  few : length l.found.items ≤ l.part-index;
}
