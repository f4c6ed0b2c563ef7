use Rattle.std.proofs.Common.{subst}
use mathlib.Core.List.{IsPrefix}
use Rattle.s3_journal.specs.RecordedStore.{Journal}
use Rattle.s3_journal.specs.Noted.{Known, committed_in, entries_in, front_of}
use Rattle.s3_journal.proofs.NoteLemmas.{entries_begin, front_begins}
use Rattle.s3_journal.proofs.recorded_store.RecordedStore.check.Goals as goal

pub returns-clause-begins : goal.returns-clause-begins
returns-clause-begins g c =
    let all = c.self.inside.recorder.entries in
    let noted = c.notes.result.now.entries in
    subst (λ (j : Journal). IsPrefix c.args.known.now.entries j.entries) c.self.view_is
    (subst (λ (k : Known). IsPrefix k.entries (entries_in all)) c.notes.ensures (entries_begin noted all c.check.ensures.begins))

pub returns-clause-committed : goal.returns-clause-committed
returns-clause-committed g c =
    let all = c.self.inside.recorder.entries in
    let noted = c.notes.result.now.entries in
    subst (λ (j : Journal). IsPrefix c.args.known.now.committed (front_of j.committed)) c.self.view_is
    (subst (λ (k : Known). IsPrefix k.committed (front_of (committed_in all))) c.notes.ensures (front_begins noted all c.check.ensures.begins))
