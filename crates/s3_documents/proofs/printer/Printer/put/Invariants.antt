use Rattle.std.proofs.Common.{◌≡◌, ◌≤◌, ◌+◌, ◌++◌, take, drop}
use Rattle.s3_documents.specs.Printed.{fields_tokens, fields_of, room_of}
use Rattle.s3_documents.proofs.printer.Printer.put.Given as goal

-- the fields so far are printed, and what is left takes its own room
abbrev pub invariant-loop-field : goal.invariant-loop-field
invariant-loop-field l = record {
  tokens : l.self.tokens ≡ l.fn.self.tokens ++ fields_tokens (fields_of (take l.field-index l.fields));
  room : l.fn.self.spare + room_of (fields_tokens (fields_of (drop l.field-index l.fields))) ≤ l.self.spare + room_of (fields_tokens (fields_of l.fields));
}
