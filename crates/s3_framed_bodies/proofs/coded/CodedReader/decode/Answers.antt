use Rattle.std.proofs.Common.{arith}
use Rattle.s3_framed_bodies.proofs.CodedLemmas.{map_ok, stands_at, taken_exact}
use Rattle.s3_framed_bodies.proofs.coded.CodedReader.decode.Goals as goal

pub returns-clause-stands : goal.returns-clause-stands
returns-clause-stands c never limit bytes stands =
    let all = stands_at _ limit _ _ _ (c.feed-taken.ensures.stands never limit bytes _ stands) c.feed-taken.ensures.grows in
    (all, taken_exact _ limit _ _ all (omega (arith, c.if-taken.false, c.taken.ensures, c.taken.type_inv)))

pub returns-clause-size : goal.returns-clause-size
returns-clause-size c = map_ok c.feed-taken.result _ _ (λ n count limit bytes stands. count limit bytes _ stands) c.feed-taken.ensures.count
