use Rattle.std.proofs.Common.{◌≡◌, ◌≢◌, Some, subst, sym}
use Rattle.s3_journal.specs.RecordedStore.{Journal}
use Rattle.s3_journal.proofs.CrashLemmas.{folded_kept, folded_settled, folded_unsettled}
use Rattle.s3_journal.proofs.recorded_store.RecordedStore.fold.Goals as goal

pub invariant_of-self : goal.invariant_of-self
invariant_of-self g c =
    let old = c.self.inside in
    folded_kept g.R.Records.leaves_one_of old.recorder.origin c.in-Some.recorder.origin old.rules old.opening.entries c.in_ok-opening.opening.entries old.recorder.entries c.in-Some.recorder.entries
    old.first c.first_of-self-inside.result old.is_settled old.store c.self.invariant c.in_ok-opening.ensures c.in-Some.ensures c.first_of-self-inside.ensures

pub returns-clause-settled : goal.returns-clause-settled
returns-clause-settled g c is =
    let old = c.self.inside in
    folded_settled old.is_settled old.recorder.entries c.in-Some.recorder.entries c.self.invariant.4 c.in-Some.ensures
    (subst (λ (j : Journal). j.committed ≡ Some j.entries) (sym c.self.view_is) is)

pub returns-clause-unsettled : goal.returns-clause-unsettled
returns-clause-unsettled g c not =
    let old = c.self.inside in
    folded_unsettled old.is_settled old.recorder.entries c.in-Some.recorder.entries c.self.invariant.4 c.in-Some.ensures
    (subst (λ (j : Journal). j.committed ≢ Some j.entries) (sym c.self.view_is) not)
