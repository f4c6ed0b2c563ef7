use Rattle.std.proofs.lemmas.List.{map-set}
use Rattle.s3_events.proofs.script.Script.put_moments.Goals as goal

pub returns-clause-moments : goal.returns-clause-moments
returns-clause-moments c = map-set (λ list. list.items) c.args.self.now.moments.items c.args.connection c.args.moments
