use Rattle.std.proofs.Common.{[], Some, ap, ◌∙◌}
use Rattle.s3_journal.specs.RecordedStore.{Journal}
use Rattle.s3_store.specs.Steps.{Standing}
use Rattle.s3_simulation.proofs.RunLemmas.{begins}
use Rattle.s3_simulation.proofs.world.World.new.Goals as goal
use Rattle.s3_machine.specs.declared.rules.Rules.{Rules}

abbrev opened_recorded_store : Journal → Rules → Standing → Journal
opened_recorded_store recorded_store rules store = record { origin = recorded_store.origin; rules = rules; opening = store; entries = []; store = store; committed = Some [] }

pub returns-clause-begins : goal.returns-clause-begins
returns-clause-begins g c =
    begins c.args.config.now c.in_ok-connections.connections.items c.in_ok-recorded_store.recorded_store c.args.moments.now c.in_ok-connections.ensures c.args.store.standing
    (c.in_ok-recorded_store.ensures ∙ ap (λ (rules : Rules). opened_recorded_store c.in_ok-recorded_store.recorded_store rules c.args.store.standing) c.of-rules.ensures)
