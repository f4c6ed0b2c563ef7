use Rattle.s3_cli.proofs.kept.connection_kept.Goals as goal

pub returns-clause-value : goal.returns-clause-value
returns-clause-value g c = c.kept_after-written.ensures.value c.args.store.standing c.args.config.now c.args.moment c.in_ok-replay.ensures
