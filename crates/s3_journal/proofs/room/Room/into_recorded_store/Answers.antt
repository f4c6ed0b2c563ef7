use Rattle.std.proofs.Common.{◌≡◌, length, ap, subst, sym, ◌∙◌}
use Rattle.s3_journal.specs.Noted.{front_of}
use Rattle.s3_journal.specs.RecordedStore.{Journal}
use Rattle.s3_journal.specs.SharedStore.{Continues}
use Rattle.s3_journal.specs.Roster.{HasGathered}
use Rattle.s3_journal.proofs.CountLemmas.{is_closed}
use Rattle.s3_journal.proofs.room.Room.into_recorded_store.Goals as goal

pub returns-clause-closed : goal.returns-clause-closed
returns-clause-closed g c =
    let room = c.self.inside in
    let rosters = c.args.rosters.items in
    let whole = c.requires.all in
    let same : c.gather.new.recorded_store ≡ room.recorded_store = c.gather.ensures.recorded_store in
    let gathered = c.gather.ensures.gathered c.if-not-gather.false in
    let shares = gathered.shares in
    let count = c.self.invariant.count in
    let all : c.gather.new.shares.parts ≡ g.J.Ledger.parts = shares ∙ whole in
    let total = c.audit.ensures.whole all in
    is_closed (g.P.Report.fits g.J.Ground.base) g.J.Ground.base c.gather.new.recorded_store rosters 0 c.gather.new.shares.parts c.gather.new.shares.amount room.calls.total
    (subst (λ (j : Journal). HasGathered (g.P.Report.fits g.J.Ground.base) j.entries (front_of j.committed) 0 rosters c.gather.new.shares.parts c.gather.new.shares.amount) (sym same) gathered)
    (subst (Continues g.J.Ground.base) (sym same) c.self.invariant.continues) c.store.ensures.history c.store.ensures.committed
    (ap (λ (j : Journal). length j.entries) same ∙ count) total

pub returns-clause-back : goal.returns-clause-back
returns-clause-back g c = (c.gather.ensures.gathered c.if-not-gather.false).all_back
