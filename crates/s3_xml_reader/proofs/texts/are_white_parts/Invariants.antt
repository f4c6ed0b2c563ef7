use Rattle.std.proofs.Common.{◌≡◌, length}
use Rattle.s3_text.specs.Characters.{ampersand}
use Rattle.s3_text.specs.Cut.{parts_at}
use Rattle.s3_xml_reader.specs.Texts.{parts_text, is_white_text}
use Rattle.s3_xml_reader.proofs.texts.are_white_parts.Given as goal

abbrev pub invariant-loop-part : goal.invariant-loop-part
invariant-loop-part l = is_white_text (parts_text (parts_at ampersand l.left)) ≡ is_white_text (parts_text (parts_at ampersand l.parts))

abbrev pub decreases-loop-part : goal.decreases-loop-part
decreases-loop-part l = length l.left
