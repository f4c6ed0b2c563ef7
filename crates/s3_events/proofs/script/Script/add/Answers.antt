use Rattle.std.proofs.Common.{◌∙◌, ◌+◌, ℕ, ap, max, refl, sym, length}
use Rattle.std.specs.Prelude.{option_map}
use Rattle.s3_text.specs.Cut.{parts_at}
use Rattle.s3_events.specs.Lines.{MoreBytes}
use Rattle.s3_events.specs.Reading.{meaning, connection_checked}
use Rattle.s3_events.proofs.ScriptLemmas.{Roomy, event_added, moments_added}
use Rattle.s3_events.proofs.script.Script.add.Goals as goal

pub returns-in-End : goal.returns-in-End
returns-in-End c all said has is free =
    let made = c.in_ok-make_room.ensures in
    let at = c.connection.ensures ∙ ap connection_checked c.in-End.is in
    let room : Roomy c.args.self.now.moments c.make_room.new.moments c.in-End.connection = record { size = made.size ∙ ap (λ (n : ℕ). max (length c.args.self.now.moments.items) (n + 1)) at; same = made.same } in
    event_added c.push-in-End.result c.args.self.now c.push-in-End.new.self c.make_room.new.moments all c.args.line.now said _ is (ap meaning c.in-End.is) refl has room c.push-in-End.ensures.moments c.push-in-End.ensures.events

pub returns-in-Turn : goal.returns-in-Turn
returns-in-Turn c all said has is free =
    let made = c.in_ok-make_room.ensures in
    let at = c.connection.ensures ∙ ap connection_checked c.in-Turn.is in
    let room : Roomy c.args.self.now.moments c.make_room.new.moments c.in-Turn.connection = record { size = made.size ∙ ap (λ (n : ℕ). max (length c.args.self.now.moments.items) (n + 1)) at; same = made.same } in
    event_added c.push-in-Turn.result c.args.self.now c.push-in-Turn.new.self c.make_room.new.moments all c.args.line.now said _ is (ap meaning c.in-Turn.is) refl has room c.push-in-Turn.ensures.moments c.push-in-Turn.ensures.events

pub returns-in_ok-bytes-in-Piece : goal.returns-in_ok-bytes-in-Piece
returns-in_ok-bytes-in-Piece c all said has is free =
    let made = c.in_ok-make_room.ensures in
    let at = c.connection.ensures ∙ ap connection_checked c.in-Piece.is in
    let room : Roomy c.args.self.now.moments c.make_room.new.moments c.in-Piece.connection = record { size = made.size ∙ ap (λ (n : ℕ). max (length c.args.self.now.moments.items) (n + 1)) at; same = made.same } in
    event_added c.push.result c.args.self.now c.push.new.self c.make_room.new.moments all c.args.line.now said _ is (ap meaning c.in-Piece.is ∙ ap (option_map (MoreBytes c.in-Piece.connection)) c.in_ok-bytes-in-Piece.ensures) refl has room c.push.ensures.moments c.push.ensures.events

pub returns-in_ok-moments-in-Moments : goal.returns-in_ok-moments-in-Moments
returns-in_ok-moments-in-Moments c all said has is free =
    let made = c.in_ok-make_room.ensures in
    let at = c.connection.ensures ∙ ap connection_checked c.in-Moments.is in
    let room : Roomy c.args.self.now.moments c.make_room.new.moments c.in-Moments.connection = record { size = made.size ∙ ap (λ (n : ℕ). max (length c.args.self.now.moments.items) (n + 1)) at; same = made.same } in
    moments_added c.args.self.now c.put_moments.new.self c.make_room.new.moments all said c.in-Moments.connection (parts_at 32 c.in-Moments.fields.now) _ (sym (ap meaning c.in-Moments.is) ∙ is) c.in_ok-moments-in-Moments.ensures free has room c.put_moments.ensures.moments c.put_moments.ensures.events
