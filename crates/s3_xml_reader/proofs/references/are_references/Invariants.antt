use Rattle.std.proofs.Common.{◌≡◌, length, is_some}
use Rattle.s3_text.specs.Characters.{ampersand}
use Rattle.s3_text.specs.Cut.{parts_at}
use Rattle.s3_xml.specs.Grammar.{all_resolved}
use Rattle.s3_xml_reader.proofs.references.are_references.Given as goal

abbrev pub invariant-loop-part : goal.invariant-loop-part
invariant-loop-part l = is_some (all_resolved (parts_at ampersand l.left)) ≡ is_some (all_resolved (parts_at ampersand l.parts))

abbrev pub decreases-loop-part : goal.decreases-loop-part
decreases-loop-part l = length l.left
