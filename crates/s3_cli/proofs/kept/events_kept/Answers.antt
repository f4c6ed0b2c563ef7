use Rattle.std.proofs.Common.{inr}
use Rattle.s3_settings.specs.declared.mode.ReplayMode.TheVariants.{Events}
use Rattle.s3_cli.proofs.KeptLemmas.{keeping_refused}
use Rattle.s3_cli.proofs.ReadingLemmas.{script_answered}
use Rattle.s3_cli.proofs.kept.events_kept.Goals as goal

pub returns-in-Ok-clause-value : goal.returns-in-Ok-clause-value
returns-in-Ok-clause-value g c =
    script_answered c.args.faults c.args.store.standing c.args.config.now c.in-Ok.script _ _ c.script_kept.result c.in-Ok.ensures.value c.script_kept.ensures.value

pub returns-in-Ok-clause-refused : goal.returns-in-Ok-clause-refused
returns-in-Ok-clause-refused g c =
    keeping_refused c.args.path (Events c.args.faults) _ _ _ c.script_kept.result c.in-Ok.ensures.value c.script_kept.ensures.refused

pub returns-in-Err-clause-refused : goal.returns-in-Err-clause-refused
returns-in-Err-clause-refused g c = inr (c.in-Err.ensures.refused c.args.faults)
