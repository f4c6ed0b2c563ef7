use Rattle.std.proofs.Common.{◌<◌, ◌++◌, [], sym, ap, ◌∙◌, arith, ltb-true}
use Rattle.std.proofs.lemmas.List.{append-nil}
use Rattle.s3_aws_chunked.proofs.SinkLemmas.{got_by}
use Rattle.s3_aws_chunked.proofs.TrailedRunLemmas.{run_trailer_held}
use Rattle.s3_aws_chunked.proofs.TrailedStepLemmas.{both_held, both_shown}
use Rattle.s3_aws_chunked.proofs.trailed.TrailedDecoder.advance.Goals as goal

pub returns-then-has_begun-clause-held : goal.returns-then-has_begun-clause-held
returns-then-has_begun-clause-held g c = λ r s between.
    let had = g.S.Sink.taken c.args.sink.now in
    let some : 0 < c.args.self.now.trailer.size = ltb-true _ _ (sym c.has_begun.ensures ∙ c.if-has_begun.true) in
    run_trailer_held c.args.name.now r c.args.bytes.now (omega (arith, some, s.size))
    ∙ sym (ap (λ x. r.chunks.held ++ x) (got_by had had [] (sym (append-nil had))) ∙ append-nil r.chunks.held)

pub returns-clause-shows : goal.returns-clause-shows
returns-clause-shows g c = λ r s between.
    both_shown c.args.name.now r c.take_chunks.new.self c.take_trailer-2.new.self c.args.bytes.now c.in_ok-count.count
    (c.in_ok-count.ensures.shows r s between) (c.in_ok-count.ensures.between r s between) c.in_ok-count.ensures.all
    c.take_trailer-2.ensures.shows (λ none. (c.take_trailer-2.ensures.same none).1)

pub returns-clause-held : goal.returns-clause-held
returns-clause-held g c = λ r s between.
    both_held c.args.name.now r c.take_chunks.new.self c.args.bytes.now c.in_ok-count.count
    (c.in_ok-count.ensures.shows r s between) (c.in_ok-count.ensures.between r s between) c.in_ok-count.ensures.all
    ∙ c.in_ok-count.ensures.held r s between
