use Rattle.std.proofs.Common.{◌≤◌, ℕ, length, subst}
use Rattle.s3_simulation.proofs.ChangeLemmas.{happened_at, happened_nowhere}
use Rattle.s3_simulation.proofs.connections.meet_one.Goals as goal

pub returns-then-number-connections-clause-happened : goal.returns-then-number-connections-clause-happened
returns-then-number-connections-clause-happened g c =
    happened_at c.args.config.now c.args.event.now c.args.connections.now c.args.recorded_store.now c.meet.new.recorded_store c.meet.ensures.rules c.meet.ensures.opens
    c.meet.result c.connection-number.result c.connection-number.ensures c.index-connections-number.result c.meet.new.self c.if-number-connections.true c.meet.ensures.goes_on

pub returns-else-number-connections-clause-happened : goal.returns-else-number-connections-clause-happened
returns-else-number-connections-clause-happened g c =
    happened_nowhere c.args.config.now c.args.event.now c.args.connections.now c.args.recorded_store.now
    (subst (λ (number : ℕ). length c.args.connections.now ≤ number) c.connection-number.ensures c.if-number-connections.false)
