use Rattle.std.proofs.Common.{sym, ◌∙◌}
use Rattle.std.proofs.lemmas.List.{take_rest}
use Rattle.s3_xml_reader.proofs.CharacterLemmas.{noncharacter_later}
use Rattle.s3_xml_reader.proofs.characters.has_noncharacter.Goals as goal

pub loop-at-preserved : goal.loop-at-preserved
loop-at-preserved c =
    let none = rw take_rest at (sym c.begins_with_noncharacter.ensures ∙ c.if-begins_with_noncharacter.false) in
    noncharacter_later c.args.bytes.now c.loop-at.at c.loop-at-test.true none ∙ c.loop-at.invariant
