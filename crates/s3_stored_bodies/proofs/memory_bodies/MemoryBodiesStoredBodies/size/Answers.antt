use Rattle.std.proofs.Common.{sym, ap, ◌∙◌, length}
use Rattle.s3_stored_bodies.proofs.HeldLemmas.{bytes_there}
use Rattle.s3_stored_bodies.proofs.memory_bodies.MemoryBodiesStoredBodies.size.Goals as goal

pub returns : goal.returns
returns c = c.size.ensures ∙ ap length (sym (bytes_there c.args.self.now c.args.number c.found.result.now c.found.ensures))
