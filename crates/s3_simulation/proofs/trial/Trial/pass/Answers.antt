use Rattle.std.proofs.Common.{ap}
use Rattle.s3_simulation.specs.Trying.{asks}
use Rattle.s3_simulation.proofs.trial.Trial.pass.Goals as goal

pub returns-in-More-clause-all : goal.returns-in-More-clause-all
returns-in-More-clause-all c moments bytes h is = c.feed-len.ensures.all moments bytes h c.in-More.is

pub returns-in-Turn-clause-tries : goal.returns-in-Turn-clause-tries
returns-in-Turn-clause-tries c moments bytes h =
    c.answer.ensures.tries c.args.config.now moments _ (c.feed-len.ensures.tries moments bytes h) (c.feed-len.ensures.sound (ap asks c.in-Turn.is))

pub returns-in-Close-clause-first : goal.returns-in-Close-clause-first
returns-in-Close-clause-first c moments bytes h clean stopped over = c.feed-len.ensures.first moments bytes h clean over
