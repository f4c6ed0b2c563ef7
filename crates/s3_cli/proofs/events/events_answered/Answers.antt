use Rattle.std.proofs.lemmas.Result.{err_from_is_err_and}
use Rattle.s3_cli.proofs.events.events_answered.Goals as goal

pub returns-clause-value : goal.returns-clause-value
returns-clause-value g c = record {
  bytes = c.in_ok-script.ensures.value.bytes;
  given = c.in_ok-script.ensures.value.given;
  is = record { script = c.in_ok-script.script; spells = c.in_ok-script.ensures.value.is; answered = c.in_ok-text.ensures };
}

pub returns-in_err-script-clause-refused : goal.returns-in_err-script-clause-refused
returns-in_err-script-clause-refused g c =
    let p = err_from_is_err_and c.from_residual.result c.from_residual.ensures.1 in
    rw (p.1, p.2) (c.in_err-script.ensures.refused c.args.faults)
