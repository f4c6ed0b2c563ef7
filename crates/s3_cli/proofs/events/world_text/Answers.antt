use Rattle.std.proofs.lemmas.Result.{IfOk-weaker}
use Rattle.s3_simulation.specs.Run.{each_moments}
use Rattle.s3_cli.proofs.FaultsLemmas.{faults_told, outputs_told}
use Rattle.s3_cli.proofs.events.world_text.Goals as goal

pub returns-then-faults : goal.returns-then-faults
returns-then-faults g c script stands =
    rw c.if-faults.true
    (IfOk-weaker c.with_faults.result _ _
    (λ out told. faults_told c.args.world.now script c.in_ok-text.text.items out.items c.worlds_run.ensures stands c.in_ok-text.ensures told)
    (c.with_faults.ensures (each_moments script.moments.items) script.events.items stands))

pub returns-else-faults : goal.returns-else-faults
returns-else-faults g c script stands =
    rw c.if-faults.false
    (outputs_told c.args.world.now script c.in_ok-text.text.items c.worlds_run.ensures stands c.in_ok-text.ensures)
