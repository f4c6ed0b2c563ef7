use Rattle.std.proofs.Common.{◌≡◌, ◌<◌, drop}
use Rattle.s3_xml_reader.specs.References.{number_within}
use Rattle.s3_xml_reader.proofs.ReferenceLemmas.{spelled_behind}
use Rattle.s3_xml_reader.proofs.references.number_of.Given as goal

-- what is left of the digits spells the rest of the number
abbrev pub invariant-loop-byte : goal.invariant-loop-byte
invariant-loop-byte l =
    record { room : l.number < 1_114_112; spelled : spelled_behind l.radix l.number (drop l.byte-index l.digits) ≡ number_within l.radix l.digits }
