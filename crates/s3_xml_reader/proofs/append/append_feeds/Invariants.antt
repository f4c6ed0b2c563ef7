use Rattle.std.proofs.Common.{◌≡◌, ◌++◌, length, take, drop}
use Rattle.s3_xml.specs.Grammar.{with_line_feeds}
use Rattle.s3_xml_reader.proofs.LineLemmas.{feeds_behind}
use Rattle.s3_xml_reader.proofs.append.append_feeds.Given as goal

abbrev pub invariant-loop-byte : goal.invariant-loop-byte
invariant-loop-byte l = record {
  begins : take (length l.fn.text.items) l.text.items ≡ l.fn.text.items;
  feeds : l.text.items ++ feeds_behind l.is_behind (drop l.byte-index l.raw) ≡ l.fn.text.items ++ with_line_feeds l.raw;
}
