use Rattle.std.proofs.Common.{◌≡◌, ◌++◌, ◌∙◌, ℕ, List, ap, sym}
use Rattle.s3_events.specs.declared.event.Event.{Event}
use Rattle.s3_simulation.specs.Events.{received}
use Rattle.s3_simulation.specs.StandsAfter.{heard}
use Rattle.s3_simulation.specs.Trying.{unended}
use Rattle.s3_simulation.proofs.EventLemmas.{received_others}
use Rattle.s3_simulation.proofs.TrimLemmas.{end_heard, nothing_heard, piece_heard, received_mine}
use Rattle.s3_simulation.proofs.trimming.hear.Goals as goal

pub returns-then-number-connection-clause-heard : goal.returns-then-number-connection-clause-heard
returns-then-number-connection-clause-heard c moments before on tries =
    nothing_heard _ c.args.config.now moments c.args.connection before c.args.event.now on
    (received_others c.args.connection before c.args.event.now (λ same. c.if-number-connection.true (c.connection-number.ensures ∙ same))) tries

pub returns-in-Piece-clause-heard : goal.returns-in-Piece-clause-heard
returns-in-Piece-clause-heard c moments before on tries =
    let bytes = (received c.args.connection before).bytes in
    let piece = c.as_slice.result.now in
    let e = c.args.event.now in
    let mine = sym c.connection-number.ensures ∙ c.if-number-connection.false in
    let is : heard e (unended bytes) ≡ unended (bytes ++ piece) =
    ap (λ (x : Event). heard x (unended bytes)) c.in-Piece.is ∙ ap (λ (b : List ℕ). unended (bytes ++ b)) (sym c.as_slice.ensures.value) in
    piece_heard _ c.args.config.now moments c.args.connection before e on c.take.result piece is mine (c.take.ensures.takes moments bytes tries)

pub returns-in-End-clause-heard : goal.returns-in-End-clause-heard
returns-in-End-clause-heard c moments before on tries =
    let e = c.args.event.now in
    let mine = sym c.connection-number.ensures ∙ c.if-number-connection.false in
    end_heard c.end.new.self c.args.config.now moments c.args.connection before e on c.end.result (ap (λ (x : Event). heard x (received c.args.connection before)) c.in-End.is) mine
    (c.end.ensures c.args.config.now moments (received c.args.connection before).bytes tries)

pub returns-in-Turn-clause-heard : goal.returns-in-Turn-clause-heard
returns-in-Turn-clause-heard c moments before on tries =
    let e = c.args.event.now in
    let mine = sym c.connection-number.ensures ∙ c.if-number-connection.false in
    nothing_heard _ c.args.config.now moments c.args.connection before e on
    (received_mine c.args.connection before e mine ∙ ap (λ (x : Event). heard x (received c.args.connection before)) c.in-Turn.is) tries
