use Rattle.s3_server.proofs.ToldLemmas.{uncounted}
use Rattle.s3_server.proofs.rounds.serve_again.Goals as goal

pub returns-in-Err-clause-begun : goal.returns-in-Err-clause-begun
returns-in-Err-clause-begun g c = uncounted c.args.first c.args.left.store.number (g.W.Write.contents c.args.output.now)
