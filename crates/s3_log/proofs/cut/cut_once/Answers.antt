use Rattle.std.proofs.lemmas.List.{take_rest}
use Rattle.s3_text.proofs.CutLemmas.{cut_found, cut_nowhere}
use Rattle.s3_log.proofs.cut.cut_once.Goals as goal

pub returns-in-Some-clause-parts : goal.returns-in-Some-clause-parts
returns-in-Some-clause-parts c =
    rw take_rest (cut_found _ c.args.text.now _ c.in-Some.ensures).parts

pub returns-in-Some-clause-before : goal.returns-in-Some-clause-before
returns-in-Some-clause-before c = (cut_found _ c.args.text.now _ c.in-Some.ensures).before

pub returns-in-Some-clause-behind : goal.returns-in-Some-clause-behind
returns-in-Some-clause-behind c = rw take_rest (cut_found _ c.args.text.now _ c.in-Some.ensures).after

pub returns-in-None-clause-parts : goal.returns-in-None-clause-parts
returns-in-None-clause-parts c = (cut_nowhere _ c.args.text.now c.in-None.ensures).parts

pub returns-in-None-clause-before : goal.returns-in-None-clause-before
returns-in-None-clause-before c = (cut_nowhere _ c.args.text.now c.in-None.ensures).before

pub returns-in-None-clause-behind : goal.returns-in-None-clause-behind
returns-in-None-clause-behind c = (cut_nowhere _ c.args.text.now c.in-None.ensures).after
