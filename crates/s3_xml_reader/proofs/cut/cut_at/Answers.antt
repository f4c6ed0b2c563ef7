use Rattle.std.proofs.Common.{sym, ◌∙◌}
use Rattle.std.proofs.lemmas.List.{take_rest}
use Rattle.s3_xml_reader.proofs.CutLemmas.{cut_here, cut_later, cut_end}
use Rattle.s3_xml_reader.proofs.cut.cut_at.Goals as goal

pub returns-in-Some : goal.returns-in-Some
returns-in-Some c =
    let is = rw take_rest at c.in-Some.ensures.value in
    sym (cut_here c.args.mark.now c.args.bytes.now c.loop-at.at _ c.loop-at-test.true is) ∙ c.loop-at.invariant

pub loop-at-preserved : goal.loop-at-preserved
loop-at-preserved c =
    let is = rw take_rest at c.in_default.ensures.value in
    cut_later c.args.mark.now c.args.bytes.now c.loop-at.at c.loop-at-test.true is ∙ c.loop-at.invariant

pub returns : goal.returns
returns c = sym (cut_end c.args.mark.now c.args.bytes.now c.loop-at.at c.loop-at-test.false) ∙ c.loop-at.invariant
