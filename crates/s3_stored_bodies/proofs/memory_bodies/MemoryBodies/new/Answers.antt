use Rattle.std.proofs.Common.{ap, ◌∙◌, arith}
use Rattle.std.specs.FinMap as map
use Rattle.s3_stored_bodies.specs.Held.{contents_of, uses_of}
use Rattle.s3_stored_bodies.proofs.HeldLemmas.{below_none, contents_none, uses_none}
use Rattle.s3_stored_bodies.proofs.memory_bodies.MemoryBodies.new.Goals as goal

-- nothing is there
pub invariant_of-result : goal.invariant_of-result
invariant_of-result c = (below_none _ (ap map.from_entries c.new.ensures.empty), omega arith)

pub returns-clause-contents : goal.returns-clause-contents
returns-clause-contents c = ap (λ es. contents_of (map.from_entries es)) c.new.ensures.empty ∙ contents_none

pub returns-clause-uses : goal.returns-clause-uses
returns-clause-uses c = ap (λ es. uses_of (map.from_entries es)) c.new.ensures.empty ∙ uses_none
