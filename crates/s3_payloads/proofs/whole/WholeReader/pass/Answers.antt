use Rattle.s3_payloads.proofs.WholeLemmas.{pass_part}
use Rattle.s3_payloads.proofs.whole.WholeReader.pass.Goals as goal

pub returns : goal.returns
returns c = λ piece. pass_part c.args.self.now piece (rw (← c.self.view_is) (c.self.invariant.3)) c.requires
