use Rattle.std.proofs.Common.{◌≡◌, ◌+◌, ap, arith}
use Rattle.s3_simulation.specs.Moments.{handed}
use Rattle.s3_simulation.proofs.PlayedLemmas.{reads_next}
use Rattle.s3_simulation.proofs.played.Played.new.Goals as goal

pub returns-clause-begins : goal.returns-clause-begins
returns-clause-begins c settings = (
  record {
    count = 0;
    hands = λ n. (let same : 0 + n ≡ n = omega arith in ap (handed c.args.moments.now) same);
    holds = c.new.ensures.begins settings;
  },
  reads_next _ c.new.ensures.wants,
)
