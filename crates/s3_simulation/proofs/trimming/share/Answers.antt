use Rattle.s3_simulation.proofs.trimming.share.Goals as goal

pub returns : goal.returns
returns c = c.hear_all-kept.ensures c.args.moments.now (c.new-trial.ensures.begins c.args.config.now)
