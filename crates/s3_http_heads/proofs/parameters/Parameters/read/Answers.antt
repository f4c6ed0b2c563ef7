use Rattle.std.proofs.Common.{◌==◌, refl, rules, tests}
use Rattle.std.proofs.lemmas.Iterator.Consumers.{YieldsList-end}
use Rattle.std.proofs.lemmas.Iterator.Splits.{YieldsList-from_slice_split}
use Rattle.s3_http_heads.specs.Target.{pair_of}
use Rattle.s3_http_heads.proofs.ParameterLemmas.{places_push, pieces_push}
use Rattle.s3_http_heads.proofs.parameters.Parameters.read.Goals as goal

pub loop-piece-preserved-in_ok-push : goal.loop-piece-preserved-in_ok-push
loop-piece-preserved-in_ok-push c =
    let pair = pair_of c.in-Some.piece.now in
    let more = places_push c.loop-piece.text.items pair.0 pair.1 c.loop-piece.places.items c.in_ok-append.field-0 c.loop-piece.invariant.within (search rules) (search rules) (search rules) in
    let pieces = pieces_push c.loop-piece.yielded c.in-Some.piece (search (rules, tests)) in
    record {
      read = rw (pieces, c.in_ok-append.ensures.text, c.in_ok-push.ensures.items, ← c.loop-piece.invariant.read) more.read;
      within = rw (c.in_ok-append.ensures.text, c.in_ok-push.ensures.items) more.within;
    }

pub returns : goal.returns
returns c =
    let ended = YieldsList-end (YieldsList-from_slice_split _ (λ b. b == 38) c.args.query.now (cc) (cc) (cc) (λ x r q k. search (rules, tests))) c.loop-piece.yielded _ c.loop-piece.yielded_by _ _ c.in-None.is c.next.ensures.steps in
    rw (c.loop-piece.invariant.read, ended.0) refl
