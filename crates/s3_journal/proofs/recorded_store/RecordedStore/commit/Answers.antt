use Rattle.std.proofs.Common.{◌≡◌, Some, ap, subst, ◌∙◌}
use Rattle.s3_store.specs.Stored.{Stored}
use Rattle.s3_journal.specs.RecordedStore.{Journal, told_or}
use Rattle.s3_journal.specs.Noted.{committed_in, entries_in}
use Rattle.s3_journal.proofs.CrashLemmas.{all_still, committed_view, journal_of, kept_committed, kept_still}
use Rattle.s3_journal.proofs.HistoryLemmas.{told_stays}
use Rattle.s3_journal.proofs.NoteLemmas.{committed_push, entries_still}
use Rattle.s3_journal.proofs.recorded_store.RecordedStore.commit.Goals as goal

pub invariant_of-self : goal.invariant_of-self
invariant_of-self g c =
    let old = c.self.inside in
    let new = c.commit.new.self in
    kept_committed g.R.Records.leaves_one_of old.recorder.origin old.rules old.opening.entries old.recorder.entries old.first old.is_settled old.store new
    c.self.invariant c.record.new.self.entries c.record.new.self.origin c.record.ensures.entry c.commit.ensures.same c.in-Ok.ensures.settled

pub invariant_of-self-in-Err : goal.invariant_of-self-in-Err
invariant_of-self-in-Err g c =
    let old = c.self.inside in
    let new = c.commit.new.self in
    let opening = (told_or old.opening.entries old.store).standing.state in
    kept_still g.R.Records.leaves_one_of old.recorder.origin old.rules old.opening.entries old.recorder.entries old.first old.is_settled old.store new
    c.self.invariant c.commit.ensures.same
    (all_still g.R.Records.leaves_one_of g.R.Records.or_of_more old.store.records new.records old.rules opening (entries_in old.recorder.entries) (committed_in old.recorder.entries)
    old.store.standing.state c.self.invariant.1.leaves c.commit.ensures.in_doubt c.self.invariant.3)

pub returns-in-Ok-clause-ok : goal.returns-in-Ok-clause-ok
returns-in-Ok-clause-ok g c =
    let old = c.self.inside in
    let new = c.commit.new.self in
    let noted = old.recorder.entries in
    let all = c.record.new.self.entries in
    let opened = (told_or old.opening.entries old.store).standing in
    let opening = (told_or old.opening.entries new).standing in
    let origin = c.record.new.self.origin in
    subst (λ (j : Journal). journal_of origin old.rules opening (entries_in all) new.standing (committed_in all)
    ≡ record { origin = j.origin; rules = j.rules; opening = j.opening; entries = j.entries; store = j.store; committed = Some j.entries }) c.self.view_is
    (committed_view old.recorder.origin origin old.rules opened opening old.store.standing new.standing (entries_in noted) (entries_in all) (committed_in all)
    c.record.ensures.origin (ap (λ (s : Stored g.row.R.Denot). s.standing) (told_stays old.opening.entries old.store new c.self.invariant.0))
    (ap entries_in c.record.ensures.entry ∙ entries_still noted) c.commit.ensures.same (ap committed_in c.record.ensures.entry ∙ committed_push noted))
