use Rattle.std.proofs.Common.{◌≡◌, ◌++◌, take, drop, option_map}
use Rattle.s3_xml.specs.Grammar.{cut_at}
use Rattle.s3_xml_reader.proofs.cut.cut_at.Given as goal

-- the mark begins at none of these places
abbrev pub invariant-loop-at : goal.invariant-loop-at
invariant-loop-at l =
    option_map (λ cut. (take l.at l.bytes ++ cut.0, cut.1)) (cut_at l.mark (drop l.at l.bytes)) ≡ cut_at l.mark l.bytes
