use Rattle.std.proofs.Common.{◌≡◌, ◌<◌, sym, subst, IfOk, length}
use Rattle.s3_stored_bodies.proofs.HeldLemmas.{bytes_there, then_err}
use Rattle.s3_stored_bodies.proofs.memory_bodies.MemoryBodiesStoredBodies.body.Goals as goal

pub returns-clause-value : goal.returns-clause-value
returns-clause-value c =
    subst (λ bytes. IfOk c.copy.result (λ body. body ≡ bytes)) (sym (bytes_there c.args.self.now c.args.number c.found.result.now c.found.ensures)) c.copy.ensures.value

pub returns-clause-memory : goal.returns-clause-memory
returns-clause-memory c =
    then_err c.copy.result
    (λ some in_memory. subst (λ bytes. 0 < length bytes) (sym (bytes_there c.args.self.now c.args.number c.found.result.now c.found.ensures)) some)
    c.copy.ensures.memory
