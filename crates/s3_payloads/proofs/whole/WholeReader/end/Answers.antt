use Rattle.std.proofs.Common.{refl}
use Rattle.s3_payloads.proofs.StandsLemmas.{whole_ended, whole_said}
use Rattle.s3_payloads.proofs.WholeLemmas.{ended_bytes, ended_err}
use Rattle.s3_payloads.proofs.whole.WholeReader.end.Goals as goal

pub returns-clause-stands : goal.returns-clause-stands
returns-clause-stands c = λ hash digests size bytes stands.
    whole_ended c.args.self.now.stage c.args.self.now c.end_at.new.self hash digests size bytes c.end_at.result refl stands c.end_at.ensures

pub returns-clause-err : goal.returns-clause-err
returns-clause-err c = ended_err c.args.self.now.stage c.args.self.now c.end_at.new.self c.end_at.result refl c.end_at.ensures

pub returns-clause-says : goal.returns-clause-says
returns-clause-says c = λ hash digests size bytes stands.
    whole_said c.args.self.now.stage c.args.self.now c.end_at.new.self hash digests size bytes c.end_at.result refl stands c.end_at.ensures

pub returns-clause-bytes : goal.returns-clause-bytes
returns-clause-bytes c = ended_bytes c.args.self.now.stage c.args.self.now c.end_at.new.self c.end_at.result c.end_at.ensures
