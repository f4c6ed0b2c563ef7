use Rattle.std.proofs.Common.{refl}
use Rattle.s3_session.proofs.StandsLemmas.{stands_first}
use Rattle.s3_session.proofs.session.Session.new.Goals as goal

pub returns-clause-begins : goal.returns-clause-begins
returns-clause-begins c settings = stands_first settings _ refl c.new.ensures.begins (rw c.new-2.ensures.value refl) refl refl c.new-3.ensures
