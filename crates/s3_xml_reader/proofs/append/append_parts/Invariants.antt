use Rattle.std.proofs.Common.{◌≡◌, length, take}
use Rattle.s3_text.specs.Characters.{ampersand}
use Rattle.s3_text.specs.Cut.{parts_at}
use Rattle.s3_xml_reader.specs.Texts.{parts_text, appended}
use Rattle.s3_xml_reader.proofs.append.append_parts.Given as goal

abbrev pub invariant-loop-part : goal.invariant-loop-part
invariant-loop-part l = record {
  begins : take (length l.fn.text.items) l.text.items ≡ l.fn.text.items;
  parts : appended l.text.items (parts_text (parts_at ampersand l.left)) ≡ appended l.fn.text.items (parts_text (parts_at ampersand l.parts));
}

abbrev pub decreases-loop-part : goal.decreases-loop-part
decreases-loop-part l = length l.left
