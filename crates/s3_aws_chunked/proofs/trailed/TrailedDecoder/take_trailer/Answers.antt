use Rattle.std.proofs.Common.{◌≡◌, true, false, nat_lt, length, refl, rules}
use Rattle.s3_aws_chunked.proofs.TrailedStepLemmas.{trailer_fed, trailer_full}
use Rattle.s3_aws_chunked.proofs.trailed.TrailedDecoder.take_trailer.Goals as goal

pub returns-then-not-is_open-clause-shows : goal.returns-then-not-is_open-clause-shows
returns-then-not-is_open-clause-shows c = λ r s some.
    let full : nat_lt (length c.args.self.now.trailer.bytes) c.args.self.now.trailer.size ≡ false = search rules in
    trailer_full c.args.name.now c.args.self.now r c.args.bytes.now s some full

pub returns-clause-shows : goal.returns-clause-shows
returns-clause-shows c = λ r s some.
    let more : nat_lt (length c.args.self.now.trailer.bytes) c.args.self.now.trailer.size ≡ true = search rules in
    trailer_fed c.args.name.now c.args.self.now _ c.judge_trailer.new.self r c.args.bytes.now c.take-count.result s more c.take-count.ensures.count refl c.take-count.ensures.value c.judge_trailer.ensures.shows
