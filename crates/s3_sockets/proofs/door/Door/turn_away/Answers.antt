use Rattle.std.proofs.Common.{◌≡◌, ◌++◌, ◌∷◌, [], ℕ, true, ap, refl, sym, ◌∙◌}
use Rattle.s3_devices.specs.Device.{Traffic}
use Rattle.s3_devices.specs.Recorded.{untouched}
use Rattle.s3_journal.specs.SharedStore.{Seated}
use Rattle.s3_journal.specs.Gone.{Gone}
use Rattle.s3_journal.specs.Roster.{is_out}
use Rattle.s3_driver.specs.Account.{Account, turned_away}
use Rattle.s3_sockets.proofs.DoorLemmas.{door_left}
use Rattle.s3_sockets.proofs.door.Door.turn_away.Goals as goal

pub invariant_of-self : goal.invariant_of-self
invariant_of-self g c =
    let old = c.self.inside in
    let parts = c.into_parts-stream in
    let seat = parts.result.1 in
    let left = c.turn_away-stream in
    let gone : Gone Account = record { number = seat.number; calls = []; seen = seat.seen; committed = seat.committed; report = turned_away seat.number } in
    let number : c.number.result ≡ seat.number = c.number.ensures ∙ ap (λ (s : Seated). s.number) (sym parts.ensures.seat) in
    let was : is_out old.roster.numbers seat.number ≡ true =
    ap (λ (n : ℕ). is_out old.roster.numbers n) (sym number) ∙ sym c.has.ensures ∙ c.if-has.true in
    let fresh : left.result.traffic ≡ untouched seat.number =
    left.ensures.stream ∙ parts.ensures.stream ∙ ap (λ (s : Seated). untouched s.number) (sym parts.ensures.seat) in
    door_left old.handed.entries old.back.entries c.take_back.new.back.entries old.roster left.new.roster old.vacancy gone c.self.invariant was
    left.ensures.out left.ensures.gone (c.take_back.ensures ∙ ap (λ (t : Traffic). old.back.entries ++ t ∷ []) fresh) refl
