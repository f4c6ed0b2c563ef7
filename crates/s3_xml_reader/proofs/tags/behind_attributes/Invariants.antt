use Rattle.std.proofs.Common.{◌≡◌, suc, length}
use Rattle.s3_xml.specs.Grammar.{behind_attributes}
use Rattle.s3_xml_reader.proofs.tags.behind_attributes.Given as goal

-- behind what is left stands the same
abbrev pub invariant-loop-left : goal.invariant-loop-left
invariant-loop-left l = behind_attributes (suc (length l.left)) l.left ≡ behind_attributes (suc (length l.bytes)) l.bytes

abbrev pub decreases-loop-left : goal.decreases-loop-left
decreases-loop-left l = length l.left
