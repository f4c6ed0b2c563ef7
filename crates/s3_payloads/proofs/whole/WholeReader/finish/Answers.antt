use Rattle.std.proofs.Common.{refl}
use Rattle.s3_payloads.proofs.StandsLemmas.{whole_finished}
use Rattle.s3_payloads.proofs.whole.WholeReader.finish.Goals as goal

pub returns-clause-says : goal.returns-clause-says
returns-clause-says c = λ hash digests size bytes ended stands.
    whole_finished c.args.self.stage c.args.self hash digests size bytes ended c.finish_at.result refl stands c.finish_at.ensures
