use Rattle.std.proofs.Common.{◌≡◌, ◌++◌, ◌∷◌, [], ℕ, true, ap, sym, ◌∙◌}
use Rattle.s3_devices.specs.Device.{Traffic}
use Rattle.s3_journal.specs.Gone.{Gone}
use Rattle.s3_journal.specs.Roster.{is_out}
use Rattle.s3_driver.specs.Account.{Account}
use Rattle.s3_driver.specs.ServedConnection.{account_of}
use Rattle.s3_sockets.proofs.DoorLemmas.{door_left}
use Rattle.s3_sockets.proofs.door.Door.leave.Goals as goal

pub invariant_of-self : goal.invariant_of-self
invariant_of-self g c =
    let old = c.self.inside in
    let connection = c.args.connection in
    let seat = connection.seat in
    let left = c.leave-stream in
    let gone : Gone Account = record { number = seat.number; calls = seat.mine; seen = seat.seen; committed = seat.committed; report = account_of connection } in
    let was : is_out old.roster.numbers seat.number ≡ true =
    ap (λ (n : ℕ). is_out old.roster.numbers n) (sym c.number.ensures) ∙ sym c.has.ensures ∙ c.if-has.true in
    door_left old.handed.entries old.back.entries c.take_back.new.back.entries old.roster left.new.roster old.vacancy gone c.self.invariant was
    left.ensures.out left.ensures.gone (c.take_back.ensures ∙ ap (λ (t : Traffic). old.back.entries ++ t ∷ []) left.ensures.stream) left.ensures.named
