use Rattle.std.proofs.Common.{subst}
use mathlib.Core.List.{IsPrefix}
use Rattle.s3_journal.specs.RecordedStore.{Journal}
use Rattle.s3_journal.specs.Noted.{front_of}
use Rattle.s3_journal.proofs.NoteLemmas.{front_in}
use Rattle.s3_journal.proofs.recorded_store.RecordedStore.store.Goals as goal

pub returns-clause-committed : goal.returns-clause-committed
returns-clause-committed g c = subst (λ (j : Journal). IsPrefix (front_of j.committed) j.entries) c.self.view_is (front_in c.self.inside.recorder.entries)
