use Rattle.std.proofs.Common.{◌≡◌, ◌≤◌, ◌+◌, ◌++◌, drop, length}
use Rattle.s3_canonical.specs.Encoding.{encode_path}
use Rattle.s3_documents.proofs.encoded.put_encoded.Given as goal

-- what is written, with what is left to write, is all; and the room that is left suffices for this where it did for all
abbrev pub invariant-loop-b : goal.invariant-loop-b
invariant-loop-b l =
    (l.writer.bytes ++ encode_path (drop l.b-index l.text) ≡ l.initial.writer.bytes ++ encode_path l.text)
    × (l.initial.writer.spare + length (encode_path (drop l.b-index l.text)) ≤ l.writer.spare + length (encode_path l.text))
