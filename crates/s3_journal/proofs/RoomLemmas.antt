-- What lies under a shared store's lock, when a turn is answered.
use Rattle.std.proofs.Common.{◌≡◌, ◌+◌, ℕ, length, ap, ◌∙◌, arith}
use Rattle.std.proofs.lemmas.List.{length_push}
use Rattle.s3_journal.specs.RecordedStore.{Journal}
use Rattle.s3_journal.specs.Calls.{HasAnswered}
use Rattle.s3_journal.specs.SharedStore.{Base, IsRoom}
use Rattle.s3_journal.specs.Recorded.{recorded}
use Rattle.s3_machine.specs.declared.command.Answer.{Answer}
use Rattle.s3_machine.specs.declared.turn.Turn.{Turn}

pub room_answered : (base : Base) (all rosters : ℕ) (recorded_store : Journal) (counted parts amount : ℕ) → IsRoom base all rosters recorded_store counted parts amount
    → (new : Journal) (seat : ℕ) (turn : Turn) (answer : Answer) (counted' : ℕ) → HasAnswered recorded_store new seat turn answer → counted' ≡ counted + 1
    → IsRoom base all rosters new counted' parts amount
room_answered base all rosters recorded_store counted parts amount room new seat turn answer counted' answered more =
    let longer = ap length answered.entry ∙ length_push recorded_store.entries (recorded seat turn answer) in
    let count = room.count in record {
      whole = room.whole;
      continues = record {
        origin = answered.origin ∙ room.continues.origin;
        rules = answered.rules ∙ room.continues.rules;
        store = answered.opening ∙ room.continues.store;
      };
      count = omega (arith, longer, count, more);
      nothing_left = room.nothing_left;
      nothing_counted = room.nothing_counted;
    }
