use Rattle.std.proofs.Common.{ap, subst, sym}
use Rattle.s3_session.specs.Output.{is_dead}
use Rattle.s3_simulation.specs.Trying.{HasTried, Trying}
use Rattle.s3_simulation.proofs.TrialLemmas.{none_before_last, tried_fed}
use Rattle.s3_simulation.proofs.trial.Trial.feed.Goals as goal

pub returns-clause-tries : goal.returns-clause-tries
returns-clause-tries c moments bytes h =
    let settings = c.args.config.now in
    let held = subst (λ (t : Trying). HasTried t settings moments bytes) (sym c.self.view_is) h in
    let f = c.feed-fed in
    tried_fed c.sessions_write.ensures c.outputs_stay.ensures _ f.new.self settings moments bytes _ _ f.result.has_moment c.next-now.result f.result.need c.asks.result
    held c.asks.ensures c.left-self-inside.ensures c.next-now.ensures f.ensures.needs (f.ensures.stands _ held.sent held.stands)

pub returns-clause-all : goal.returns-clause-all
returns-clause-all c moments bytes h is =
    let held = subst (λ (t : Trying). HasTried t c.args.config.now moments bytes) (sym c.self.view_is) h in
    c.feed-fed.ensures.all _ held.sent held.stands is

pub returns-clause-first : goal.returns-clause-first
returns-clause-first c moments bytes h clean over =
    let settings = c.args.config.now in
    let held = subst (λ (t : Trying). HasTried t settings moments bytes) (sym c.self.view_is) h in
    let f = c.feed-fed in
    none_before_last c.sessions_write.ensures c.inputs_fix_outputs.ensures c.faults_end.ensures.end c.faults_are_one.ensures.stay _ f.new.self settings moments bytes _
    f.result.has_moment c.next-now.result _ held c.next-now.ensures (f.ensures.stands _ held.sent held.stands)
    (f.ensures.at_once _ held.sent held.stands (ap is_dead over)) clean over
