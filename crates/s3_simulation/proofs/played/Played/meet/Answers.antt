use Rattle.std.proofs.Common.{ℕ, List, OnOk, refl, subst, sym}
use Rattle.s3_events.specs.declared.event.Event.{Event}
use Rattle.s3_events.specs.declared.event.Event.TheVariants as events
use Rattle.s3_connection.specs.Connection.{received}
use Rattle.s3_simulation.specs.Played.{Plays}
use Rattle.s3_simulation.specs.StandsAfter.{GoesOn}
use Rattle.s3_simulation.proofs.ChangeLemmas.{fed, fed_or_not}
use Rattle.s3_simulation.proofs.played.Played.meet.Goals as goal

pub returns-in-Piece-clause-goes_on : goal.returns-in-Piece-clause-goes_on
returns-in-Piece-clause-goes_on g c =
    let settings = c.args.config.now in
    let entries = c.args.recorded_store.now.entries in
    subst (λ (e : Event). OnOk c.feed.result (GoesOn settings e c.args.self.now c.feed.new.self entries entries)) (sym c.in-Piece.is)
    (fed_or_not settings (events.Piece c.in-Piece.connection c.in-Piece.bytes) c.args.self.now c.feed.new.self entries c.feed.result refl c.feed.ensures.closed
    (λ moments input es h.
    subst (λ (piece : List ℕ). OnOk c.feed.result (Plays c.feed.new.self settings moments (received input piece) es)) c.as_slice.ensures.value
    (c.feed.ensures.plays moments input es h)))

pub returns-in-End-clause-goes_on : goal.returns-in-End-clause-goes_on
returns-in-End-clause-goes_on g c =
    let settings = c.args.config.now in
    let entries = c.args.recorded_store.now.entries in
    subst (λ (e : Event). GoesOn settings e c.args.self.now c.end.new.self entries entries) (sym c.in-End.is)
    (fed settings (events.End c.in-End.connection) c.args.self.now c.end.new.self entries refl c.end.ensures.closed (c.end.ensures.plays settings))
