use Rattle.s3_file_records.proofs.FoundLemmas.{still_found}
use Rattle.s3_file_records.proofs.opening.with_room.Goals as goal

pub returns-in-Ok-clause-found : goal.returns-in-Ok-clause-found
returns-in-Ok-clause-found g c = rw c.new.ensures.value (still_found c.args.found.now c.args.memory c.begin.new.memory _ c.in-Ok.ensures.rest c.requires.found)

pub returns-in-Ok-clause-says : goal.returns-in-Ok-clause-says
returns-in-Ok-clause-says g c = rw c.new.ensures.value c.in-Ok.ensures.says

pub returns-in-Ok-clause-left : goal.returns-in-Ok-clause-left
returns-in-Ok-clause-left g c = rw c.new.ensures.value c.new.ensures.durable

pub returns-in-Ok-clause-rest : goal.returns-in-Ok-clause-rest
returns-in-Ok-clause-rest g c = rw c.new.ensures.value c.in-Ok.ensures.rest

pub returns-in-Ok-clause-was : goal.returns-in-Ok-clause-was
returns-in-Ok-clause-was g c = rw c.new.ensures.value c.in-Ok.ensures.was
