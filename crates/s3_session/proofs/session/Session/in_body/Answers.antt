use Rattle.std.proofs.Common.{◌∙◌, sym}
use Rattle.s3_session.proofs.InBodyLemmas.{only_in_body, reads_body}
use Rattle.s3_session.proofs.session.Session.in_body.Goals as goal

pub returns-clause-reads : goal.returns-clause-reads
returns-clause-reads c settings past sent h is =
    reads_body settings c.args.self.now past sent h c.bodies_are_judged.ensures.verdict (sym c.is_in_body.ensures ∙ is)

pub returns-clause-only : goal.returns-clause-only
returns-clause-only c settings past sent h lives r =
    c.is_in_body.ensures ∙ only_in_body settings c.args.self.now past sent h c.sessions_write.ensures c.inputs_fix_outputs.ensures lives r
