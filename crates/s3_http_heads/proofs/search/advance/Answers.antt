use Rattle.std.proofs.Common.{◌∙◌, ap, min, refl}
use Rattle.std.proofs.lemmas.List.{take_rest}
use Rattle.s3_http_heads.proofs.SearchLemmas.{step_from}
use Rattle.s3_http_heads.proofs.search.advance.Goals as goal

pub returns-clause-steps : goal.returns-clause-steps
returns-clause-steps c = λ text o.
    let piece = c.args.piece.now in
    let front = c.front_of-front in
    step_from text piece _ front.result.position _ c.min-room.result c.scan-reach.result.passed
    (front.ensures.open text o) (front.ensures.rest text o) (take_rest piece front.result.passed) front.ensures.within
    (c.min-room.ensures ∙ ap (min _) c.saturating_sub.ensures)
    c.scan-reach.ensures.within c.scan-reach.ensures.all
    (c.scan-reach.ensures.scanned _ (front.ensures.open text o).passed)
    refl refl
