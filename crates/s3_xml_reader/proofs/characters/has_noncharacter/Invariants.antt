use Rattle.std.proofs.Common.{◌≡◌, drop}
use Rattle.s3_xml.specs.Characters.{has_noncharacter}
use Rattle.s3_xml_reader.proofs.characters.has_noncharacter.Given as goal

-- none of those that begin so far
abbrev pub invariant-loop-at : goal.invariant-loop-at
invariant-loop-at l = has_noncharacter (drop l.at l.bytes) ≡ has_noncharacter l.bytes
