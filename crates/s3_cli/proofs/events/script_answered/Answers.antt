use Rattle.std.proofs.Common.{subst}
use Rattle.std.specs.Prelude.{IfOk}
use Rattle.s3_config.specs.Settings.{Settings}
use Rattle.s3_store.specs.Steps.{Standing}
use Rattle.s3_cli.specs.Run.{IsScriptAnsweredAs}
use Rattle.s3_cli.proofs.events.script_answered.Goals as goal

pub returns : goal.returns
returns g c =
    let answered = c.world_text.ensures c.args.script.now c.in_ok-world.ensures.stands in
    subst (λ (base : Standing). IfOk c.world_text.result (λ out. IsScriptAnsweredAs c.args.faults base c.args.config.now c.args.script.now out.items)) c.in_ok-world.ensures.opens
    (subst (λ (settings : Settings). IfOk c.world_text.result (λ out. IsScriptAnsweredAs c.args.faults c.in_ok-world.world.recorded_store.opening settings c.args.script.now out.items)) c.in_ok-world.ensures.settings
    answered)
