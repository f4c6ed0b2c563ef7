use Rattle.std.proofs.Common.{◌≡◌, ◌∷◌, ℕ, length, subst, sym, ◌∙◌, arith}
use Rattle.std.specs.BTreeSet.{btree_set_len}
use Rattle.s3_journal.specs.Noted.{front_of}
use Rattle.s3_journal.specs.RecordedStore.{Journal}
use Rattle.s3_journal.specs.Roster.{AreBack, HasGathered}
use Rattle.s3_journal.proofs.GatherLemmas.{back_at, both_hold, gathered_one, holds_none, holds_place, none_out, one_longer, split_at}
use Rattle.s3_journal.proofs.gather.gather.Goals as goal

pub returns-then-not-take_back-clause-back : goal.returns-then-not-take_back-clause-back
returns-then-not-take_back-clause-back g c back =
    let before = c.loop-roster.invariant in
    let roster = c.in-Some.roster in
    let rest = c.pop.new.self.items in
    let split = split_at c.args.rosters.items c.loop-roster.rosters.items rest roster before.1.0 before.1.1 c.in-Some.ensures.items in
    let at = back_at 0 rest roster before.1.0 (subst (AreBack 0) split back) in
    let place = at.0 in
    let len = c.len.ensures in
    sym c.if-not-take_back.true ∙ both_hold roster.index c.len.result (btree_set_len roster.numbers.out) c.take_back.result c.take_back.ensures.is
    (omega (arith, place, len)) (none_out roster.numbers at.1)

pub loop-roster-preserved : goal.loop-roster-preserved
loop-roster-preserved g c =
    let before = c.loop-roster.invariant in
    let roster = c.in-Some.roster in
    let rest = c.pop.new.self.items in
    let old = c.loop-roster.recorded_store in
    let recorded_store = c.take_back.new.recorded_store in
    let shares = c.loop-roster.shares in
    let items = c.in-Some.ensures.items in
    let taken = c.take_back.ensures.taken c.if-not-take_back.false in
    let same : recorded_store ≡ old = c.take_back.ensures.recorded_store in
    let len = c.len.ensures in
    let index = holds_place roster.index c.len.result (btree_set_len roster.numbers.out) c.take_back.result c.take_back.ensures.is c.if-not-take_back.false in
    let place : roster.index ≡ length rest = omega (arith, index, len) in
    let nobody = holds_none roster.index c.len.result (btree_set_len roster.numbers.out) c.take_back.result c.take_back.ensures.is c.if-not-take_back.false in
    let next = one_longer rest roster c.loop-roster.rosters.items items in
    let others = subst (λ (i : ℕ). HasGathered (g.P.Report.fits g.J.Ground.base) old.entries (front_of old.committed) i before.1.0 shares.parts shares.amount) next before.1.2 in (
      same ∙ before.0,
      (
        roster ∷ before.1.0,
        split_at c.args.rosters.items c.loop-roster.rosters.items rest roster before.1.0 before.1.1 items,
        subst (λ (j : Journal). HasGathered (g.P.Report.fits g.J.Ground.base) j.entries (front_of j.committed) (length rest) (roster ∷ before.1.0) c.take_back.new.shares.parts c.take_back.new.shares.amount) (sym same)
            (gathered_one (g.P.Report.fits g.J.Ground.base) old.entries (front_of old.committed) g.J.Ground.base (length rest) roster before.1.0 g.J.Ground.base.origin taken.own_front taken.own_shares taken.own_count
            shares.parts shares.amount c.take_back.new.shares.parts c.take_back.new.shares.amount taken.kept place nobody taken.begins taken.committed others taken.shares taken.given),
      ),
    )
