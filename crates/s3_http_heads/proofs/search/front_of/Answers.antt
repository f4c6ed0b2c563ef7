use Rattle.std.proofs.Common.{◌-◌, length, drop, refl, sym, ◌∙◌, arith}
use Rattle.std.proofs.lemmas.List.{take_rest, length-take}
use Rattle.s3_http_heads.proofs.SearchLemmas.{open_none, front_empty, front_begun, front_all, pair_held, pair_apart}
use Rattle.s3_http_heads.proofs.search.front_of.Goals as goal

pub returns-then-position-eq0-clause-rest : goal.returns-then-position-eq0-clause-rest
returns-then-position-eq0-clause-rest c = λ text o n.
    front_empty text c.args.piece.now c.skipped.result n (omega (arith, c.if-position-eq0.true, o.count)) c.skipped.ensures.pairs c.skipped.ensures.within

pub returns-then-ends_pair-clause-rest : goal.returns-then-ends_pair-clause-rest
returns-then-ends_pair-clause-rest c = λ text o n.
    let piece = c.args.piece.now in
    let pairs = c.skipped-then-ends_pair.ensures.pairs in
    let pair = pair_held text piece c.args.position o (sym c.ends_pair.ensures ∙ c.if-ends_pair.true) in
    front_begun text piece (drop 1 piece) c.skipped-then-ends_pair.result n pair.0 pair.1
    (rw take_rest at pairs)
    (omega (arith, c.skipped-then-ends_pair.ensures.within, length-take (length piece - 1) (drop 1 piece)))

pub returns-clause-rest : goal.returns-clause-rest
returns-clause-rest c = λ text o n.
    front_all text c.args.piece.now n o.whole (omega (arith, c.if-position-eq0.false, o.count))
    (pair_apart text c.args.piece.now c.args.position o (sym c.ends_pair.ensures ∙ c.if-ends_pair.false))

pub returns-then-ends_pair-clause-open : goal.returns-then-ends_pair-clause-open
returns-then-ends_pair-clause-open c = λ text o. open_none _ refl refl
