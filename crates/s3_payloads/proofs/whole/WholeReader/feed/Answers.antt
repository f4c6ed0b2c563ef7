use Rattle.std.proofs.Common.{refl}
use Rattle.s3_payloads.proofs.StandsLemmas.{whole_fed}
use Rattle.s3_payloads.proofs.WholeLemmas.{fed_count, fed_counts, fed_err}
use Rattle.s3_payloads.proofs.whole.WholeReader.feed.Goals as goal

pub returns-clause-stands : goal.returns-clause-stands
returns-clause-stands c = λ hash digests size bytes stands.
    whole_fed c.args.self.now.stage c.args.self.now c.feed_at.new.self hash digests size bytes c.args.piece.now c.feed_at.result refl stands c.feed_at.ensures

pub returns-clause-err : goal.returns-clause-err
returns-clause-err c = fed_err c.args.self.now.stage c.args.self.now c.feed_at.new.self c.args.piece.now c.feed_at.result refl c.feed_at.ensures

pub returns-clause-count : goal.returns-clause-count
returns-clause-count c = fed_count c.args.self.now.stage c.args.self.now c.feed_at.new.self c.args.piece.now c.feed_at.result c.feed_at.ensures

pub returns-clause-counts : goal.returns-clause-counts
returns-clause-counts c = fed_counts c.args.self.now.stage c.args.self.now c.feed_at.new.self c.args.piece.now c.feed_at.result c.feed_at.ensures
