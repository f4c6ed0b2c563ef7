use Rattle.std.proofs.Common.{◌≡◌, Some, subst}
use Rattle.std.specs.Prelude.{IfSome}
use Rattle.s3_journal.specs.RecordedStore.{HasEntries, Journal, LastsFrom, told_or}
use Rattle.s3_journal.specs.Noted.{committed_in, entries_in}
use Rattle.s3_journal.proofs.CrashLemmas.{has_entries}
use Rattle.s3_journal.proofs.recorded_store.RecordedStore.outlive_crashes.Goals as goal

pub returns-clause-lasts : goal.returns-clause-lasts
returns-clause-lasts g c = λ front left.
    let inside = c.self.inside in
    let was : Journal = record {
      origin = inside.recorder.origin;
      rules = inside.rules;
      opening = (told_or inside.opening.entries inside.store).standing;
      entries = entries_in inside.recorder.entries;
      store = inside.store.standing;
      committed = committed_in inside.recorder.entries;
    } in
    subst (λ (j : Journal). j.committed ≡ Some front → g.R.Records.leaves inside.store.records left → HasEntries j front left) c.self.view_is
    (λ is leaves. has_entries (g.R.Records.leaves_one_of inside.store.records) was front left c.self.invariant.3 is
    (λ known knows. c.outlive_crashes.ensures known left knows leaves))

pub returns-clause-known : goal.returns-clause-known
returns-clause-known g c =
    subst (λ (j : Journal). IfSome j.committed (LastsFrom (g.R.Records.leaves_one_of c.self.inside.store.records) j.rules j.opening.state j.entries)) c.self.view_is c.self.invariant.3
