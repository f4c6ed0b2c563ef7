use Rattle.std.proofs.Common.{◌≡◌, ◌≤◌, ◌+◌, ◌++◌, take, drop, map}
use Rattle.s3_documents.specs.Printed.{all_tokens, room_of}
use Rattle.s3_documents.proofs.printer.Printer.all.Given as goal

-- the rows so far are printed, and what is left takes its own room
abbrev pub invariant-loop-row : goal.invariant-loop-row
invariant-loop-row g l = record {
  tokens : l.self.tokens ≡ l.fn.self.tokens ++ all_tokens (map g.R.Row.told (take l.row-index l.list));
  room : l.fn.self.spare + room_of (all_tokens (map g.R.Row.told (drop l.row-index l.list))) ≤ l.self.spare + room_of (all_tokens (map g.R.Row.told l.list));
}
