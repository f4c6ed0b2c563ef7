-- How a connection stands in the hands of its worker after a step.
use mathlib.Core.List.{IsPrefix}
use Rattle.std.proofs.lemmas.Bool.Decides.{nat_tests}
use Rattle.std.proofs.lemmas.List.{length_push}
use Rattle.std.proofs.Common.{⊎_elim, ◌⊎◌, ◌∷◌, append-nil, IfOk, IfSome, ◌≡◌, ◌≤◌, ◌+◌, ◌||◌, inl, inr, nat_lt, length, arith, ℕ, suc, Bool, true, false, List, [], Option, None, Some, sym, ap, subst, ◌∙◌, ◌≢◌, refl, Result, Ok, Err}
use Rattle.s3_config.specs.Settings.{Settings}
use Rattle.s3_machine.specs.History.{Entry}
use Rattle.s3_connection.specs.Connection.{Connected}
use Rattle.s3_devices.specs.Device.{Traffic}
use Rattle.s3_devices.specs.Recorded.{no_traffic, untouched}
use Rattle.s3_driver.specs.declared.state.Departure.TheVariants as departures
use Rattle.s3_driver.specs.declared.state.Moved.{Moved}
use Rattle.s3_driver.specs.declared.state.Ending.{Ending}
use Rattle.s3_driver.specs.declared.state.Ending.TheVariants as endings
use Rattle.s3_driver.specs.declared.state.State.{State}
use Rattle.s3_driver.specs.declared.state.State.TheVariants as states
use Rattle.s3_driver.specs.Ended.{Fails, HasWritten}
use Rattle.s3_driver.specs.Ended.{input_of}
use Rattle.s3_driver.specs.Served.{ConnectionsAreServed, ConnectionsEnd, ConnectionsHaveWritten, GoesOn, HasMet, IsAsking, IsNew, IsServed, StandsAt, StopsAt, TellsMoves, departure_of, ending_of, moved_then, progress_of}
use Rattle.s3_driver.specs.Account.{DepartsSo, EndsSo, Fits, turned_away}
use Rattle.s3_driver.specs.ServedConnection.{HasGoneOn, HasMoved, HasSubmitted, HearsOf, IsAsked, IsEnding, IsLast, IsQuiet, MaySettle, Rests, Served, Stands, StandsBefore, account_of, moves_each}
use Rattle.s3_terms.specs.declared.memory.NoMemory.{NoMemory}
use Rattle.s3_machine.specs.declared.command.Answer.{Answer}
use Rattle.s3_machine.specs.declared.turn.Turn.{Turn}
use Rattle.s3_connection.specs.Connection.{entries_with, taken_of}
use Rattle.s3_devices.specs.Device.{with_shut}
use Rattle.s3_journal.specs.SharedStore.{Base, Seated}
use Rattle.s3_journal.specs.Calls.{IsAnswered}
use Rattle.s3_journal.specs.Recorded.{Recorded, recorded}

-- failures where there was none before
fails_first : (ending : Ending) (before after : Traffic) → before.failed_reads ≡ 0 → before.failed_writes ≡ 0 → Fails ending before after
    → Fails ending no_traffic after
fails_first endings.Closed before after no_reads no_writes f = (f.0 ∙ no_reads, f.1 ∙ no_writes)
fails_first endings.ReadFailed before after no_reads no_writes f = (f.0 ∙ ap (λ n. suc n) no_reads, f.1 ∙ no_writes)
fails_first endings.WriteFailed before after no_reads no_writes f = (f.0 ∙ no_reads, f.1 ∙ ap (λ n. suc n) no_writes)

-- where nothing was given, nothing is known to be committed
none_known : (committed mine : List Entry) → mine ≡ [] → IsPrefix committed mine → committed ≡ mine
none_known [] mine nothing own = sym nothing
none_known (e ∷ committed) mine nothing own = absurd (let is = own.1 in cc)

-- a new one stands so
pub new_stands : ConnectionsAreServed → (settings : Settings) (c : Connected) (traffic : Traffic) (moments : List ℕ) (seat : Seated) (state : State)
    → IsNew c → traffic ≡ untouched seat.number → moments ≡ [] → seat.mine ≡ [] → IsPrefix seat.committed seat.mine → state ≡ states.Message
    → Stands settings (record { connection = c; traffic = traffic; moments = moments; seat = seat; state = state })
new_stands serve settings c traffic moments seat state new named none nothing own is =
    subst (λ (t : Traffic). Stands settings (record { connection = c; traffic = t; moments = moments; seat = seat; state = state })) (sym named)
    (subst (λ (ms : List ℕ). Stands settings (record { connection = c; traffic = untouched seat.number; moments = ms; seat = seat; state = state })) (sym none)
    (subst (λ (s : State). Stands settings (record { connection = c; traffic = untouched seat.number; moments = []; seat = seat; state = s })) (sym is)
    (record {
      named = refl;
      served = subst (λ (es : List Entry). IsServed settings c (untouched seat.number) [] es) (sym nothing) (serve settings c seat.number new);
      ends = (refl, refl, refl);
      shut = λ closing. absurd (cc);
      committed = none_known seat.committed seat.mine nothing own;
    })))

-- what one did is as its departure says
departs_so : (settings : Settings) (traffic : Traffic) (moments : List ℕ) (entries : List Entry) (ending : Option Ending)
    → EndsSo settings traffic moments entries ending → DepartsSo settings traffic moments entries (departure_of ending)
departs_so settings traffic moments entries None ends = ends
departs_so settings traffic moments entries (Some ending) ends = ends

-- the account of one that was turned away fits no entries
pub turned_away_fits : ConnectionsAreServed → ConnectionsHaveWritten → (settings : Settings) (c : Connected) (traffic : Traffic) (name : ℕ)
    (entries committed : List Entry) → IsNew c → traffic ≡ untouched name → entries ≡ [] → IsPrefix committed entries
    → Fits settings (record { traffic = traffic; moments = []; departure = departures.TurnedAway }) entries committed
turned_away_fits serve write settings c traffic name entries committed new named none own =
    let written = write settings c (untouched name) [] [] (serve settings c name new).holds in
    subst (λ (t : Traffic). Fits settings (record { traffic = t; moments = []; departure = departures.TurnedAway }) entries committed) (sym named)
    (subst (λ (es : List Entry). Fits settings (turned_away name) entries es) (sym (none_known committed entries none own))
    (subst (λ (es : List Entry). Fits settings (turned_away name) es es) (sym none)
    (record { written = written; ends = (refl, refl, refl); told = written })))

-- the account of one that stands so fits its entries
pub fits_so : ConnectionsHaveWritten → (settings : Settings) (s : Served) → Stands settings s → Fits settings (account_of s) s.seat.mine s.seat.committed
fits_so write settings s stands =
    let written = write settings s.connection s.traffic s.moments s.seat.mine stands.served.holds in record {
      written = written;
      ends = departs_so settings s.traffic s.moments s.seat.mine (ending_of s.state) stands.ends;
      told = subst (λ (es : List Entry). HasWritten settings s.traffic s.moments es) (sym stands.committed) written;
    }

-- one that made its moves stands as its state says
ends_after : ConnectionsEnd → (settings : Settings) (c : Connected) (before after : Traffic) (moments : List ℕ) (entries : List Entry) (on : Bool) (state : State)
    → IsServed settings c after moments entries → StopsAt on state c → EndsSo settings before moments entries None → GoesOn before after
    → HasMet on state before after → EndsSo settings after moments entries (ending_of state)
ends_after end settings c before after moments entries true state s stops was on met =
    subst (λ (e : Option Ending). EndsSo settings after moments entries e) (sym stops) (met.0.0 ∙ was.0, met.0.1 ∙ was.1, on.shut ∙ was.2)
ends_after end settings c before after moments entries false (states.Ended ending) s stops was on met = (
  end settings c after moments entries ending s stops,
  fails_first ending before after was.0 was.1 met.0,
  λ shut. let same = on.shut in let none = was.2 in absurd (cc),
)
ends_after end settings c before after moments entries false states.Closing s stops was on met = absurd stops
ends_after end settings c before after moments entries false states.Message s stops was on met = (met.0.0 ∙ was.0, met.0.1 ∙ was.1, on.shut ∙ was.2)
ends_after end settings c before after moments entries false states.Head s stops was on met = (met.0.0 ∙ was.0, met.0.1 ∙ was.1, on.shut ∙ was.2)
ends_after end settings c before after moments entries false states.Body s stops was on met = (met.0.0 ∙ was.0, met.0.1 ∙ was.1, on.shut ∙ was.2)
ends_after end settings c before after moments entries false states.Turn s stops was on met = (met.0.0 ∙ was.0, met.0.1 ∙ was.1, on.shut ∙ was.2)
ends_after end settings c before after moments entries false states.Room s stops was on met = (met.0.0 ∙ was.0, met.0.1 ∙ was.1, on.shut ∙ was.2)

not_closing : (on : Bool) (state : State) (c : Connected) → StopsAt on state c → state ≡ states.Closing → ⊥
not_closing true state c stops is = cc
not_closing false state c stops is = subst (λ (s : State). StandsAt s c) is stops

pub step_stands : ConnectionsEnd → (settings config : Settings) (c d : Connected) (before after : Traffic) (earlier later : List ℕ) (seat : Seated)
    (old state new : State) (on : Bool) → config ≡ settings
    → Stands settings (record { connection = c; traffic = before; moments = earlier; seat = seat; state = old }) → ending_of old ≡ None
    → ((entries : List Entry) → IsServed config c before earlier entries → IsServed config d after later entries) → GoesOn before after
    → HasMet on state before after → StopsAt on state d → new ≡ state
    → Stands settings (record { connection = d; traffic = after; moments = later; seat = seat; state = new })
step_stands end settings config c d before after earlier later seat old state new on same stands goes serves on_goes met stops is =
    let served : IsServed settings d after later seat.mine =
    subst (λ (s : Settings). IsServed s d after later seat.mine) same (serves seat.mine (subst (λ (s : Settings). IsServed s c before earlier seat.mine) (sym same) stands.served)) in
    let was : EndsSo settings before later seat.mine None = subst (λ (e : Option Ending). EndsSo settings before earlier seat.mine e) goes stands.ends in
    subst (λ (s : State). Stands settings (record { connection = d; traffic = after; moments = later; seat = seat; state = s })) (sym is)
    (record { named = on_goes.named ∙ stands.named; served = served; ends = ends_after end settings d before after later seat.mine on state served stops was on_goes met; shut = λ closing. absurd (not_closing on state d stops closing); committed = stands.committed })

-- one that is closed stands as it did once its stream is told so
pub shut_stands : (settings : Settings) (c : Connected) (before after : Traffic) (moments : List ℕ) (seat : Seated) (old new : State)
    → Stands settings (record { connection = c; traffic = before; moments = moments; seat = seat; state = old })
    → ending_of old ≡ Some endings.Closed → ending_of new ≡ Some endings.Closed → after ≡ with_shut before
    → Stands settings (record { connection = c; traffic = after; moments = moments; seat = seat; state = new })
shut_stands settings c before after moments seat old new stands was is shut =
    let ends : EndsSo settings before moments seat.mine (Some endings.Closed) =
    subst (λ (e : Option Ending). EndsSo settings before moments seat.mine e) was stands.ends in
    let told : EndsSo settings (with_shut before) moments seat.mine (Some endings.Closed) = (
      record { standing = ends.0.standing; waiting = ends.0.waiting; output = ends.0.output; idle = ends.0.idle; over = ends.0.over },
      ends.1,
      λ shut. refl,
    ) in
    let served : IsServed settings c (with_shut before) moments seat.mine = record { holds = stands.served.holds; idle = stands.served.idle } in
    subst (λ (t : Traffic). Stands settings (record { connection = c; traffic = t; moments = moments; seat = seat; state = new })) (sym shut)
    (record { named = stands.named; served = served; ends = subst (λ (e : Option Ending). EndsSo settings (with_shut before) moments seat.mine e) (sym is) told; shut = λ closing. refl; committed = stands.committed })

-- what is left of a closed one stands as it did
pub closing_stands : (settings : Settings) (c : Connected) (before after : Traffic) (moments : List ℕ) (seat : Seated) (old new : State)
    → Stands settings (record { connection = c; traffic = before; moments = moments; seat = seat; state = old })
    → old ≡ states.Closing → ending_of new ≡ Some endings.Closed → after ≡ before
    → Stands settings (record { connection = c; traffic = after; moments = moments; seat = seat; state = new })
closing_stands settings c before after moments seat old new stands was is as_before =
    subst (λ (t : Traffic). Stands settings (record { connection = c; traffic = t; moments = moments; seat = seat; state = new })) (sym as_before)
    (record {
      named = stands.named;
      served = stands.served;
      ends = subst (λ (e : Option Ending). EndsSo settings before moments seat.mine e) (ap ending_of was ∙ sym is) stands.ends;
      shut = λ closing. stands.shut was;
      committed = stands.committed;
    })

-- its turn has come to the store
entered_so : (in_memory : Bool) (base : Base) (old new : Seated) (history grown : List Recorded) (turn : Turn) (answered : Result Answer NoMemory)
    → HasSubmitted in_memory base old new history grown turn answered
    → (new.mine ≡ entries_with old.mine turn answered) × (new.number ≡ old.number)
entered_so in_memory base old new history grown turn (Ok answer) has = (has.answer.mine, has.answer.number)
entered_so in_memory base old new history grown turn (Err e) has = (has.memory.mine, has.memory.number)

-- the answer of its turn is that of the last entry that it has seen
last_so : (base : Base) (old new : Seated) (turn : Turn) (answer : Answer) → IsAnswered base old new turn answer → IsLast base new answer
last_so base old new turn answer is =
    let longer = ap length is.seen ∙ length_push is.earlier (recorded old.number turn answer) in
    let place = is.place in
    omega (arith, longer, place)

answered_last : (in_memory : Bool) (base : Base) (old new : Seated) (history grown : List Recorded) (turn : Turn) (answered : Result Answer NoMemory)
    → HasSubmitted in_memory base old new history grown turn answered → IfOk answered (IsLast base new)
answered_last in_memory base old new history grown turn (Ok answer) has = last_so base old new turn answer has.answer
answered_last in_memory base old new history grown turn (Err e) has = tt

pub submit_stands : (c d : Connected) (traffic : Traffic) (moments : List ℕ) (old new : Seated) (state : State) (in_memory : Bool) (base : Base)
    (history grown : List Recorded) (answered : Result Answer NoMemory)
    → Stands base.settings (record { connection = c; traffic = traffic; moments = moments; seat = old; state = state }) → state ≡ states.Turn
    → IsAsked in_memory base c d old new history grown answered
    → StandsBefore base (record { connection = d; traffic = traffic; moments = moments; seat = new; state = state }) answered
submit_stands c d traffic moments old new state in_memory base history grown answered stands is has =
    let entered = entered_so in_memory base old new history grown has.turn answered has.submitted in record {
      turn = has.turn;
      before = old.mine;
      named = stands.named ∙ sym entered.1;
      asks = record { holds = has.asked.holds base.settings (input_of traffic) moments old.mine traffic.sent stands.served.holds; taken = has.asked.taken };
      mine = entered.0;
      ending = ap ending_of is;
      ends = λ entries. subst (λ (e : Option Ending). EndsSo base.settings traffic moments old.mine e) (ap ending_of is) stands.ends;
      committed = inl (has.submitted.committed ∙ stands.committed);
      last = answered_last in_memory base old new history grown has.turn answered has.submitted;
    }

-- its entry was committed, or memory was lacking
settled_stands : (base : Base) (c : Connected) (traffic : Traffic) (moments : List ℕ) (old new : Seated) (state : State) (answered : Result Answer NoMemory)
    → StandsBefore base (record { connection = c; traffic = traffic; moments = moments; seat = old; state = state }) answered
    → new ≡ record old { committed = old.mine }
    → StandsBefore base (record { connection = c; traffic = traffic; moments = moments; seat = new; state = state }) answered
settled_stands base c traffic moments old new state answered before settled =
    subst (λ (s : Seated). StandsBefore base (record { connection = c; traffic = traffic; moments = moments; seat = s; state = state }) answered) (sym settled)
    (record {
      turn = before.turn;
      before = before.before;
      named = before.named;
      asks = before.asks;
      mine = before.mine;
      ending = before.ending;
      ends = before.ends;
      committed = inr refl;
      last = before.last;
    })

-- where no entry was made, all its entries were committed before
none_committed : (base : Base) (s : Served) (e : NoMemory) → StandsBefore base s (Err e) → s.seat.committed ≡ s.seat.mine
none_committed base s e before = ⊎_elim (λ is. is ∙ sym before.mine) (λ is. is) before.committed

pub may_settle : (base : Base) (s : Served) (answered : Option (Result Answer NoMemory)) → HearsOf base s answered → MaySettle base s.seat answered
may_settle base s None hears = hears.committed
may_settle base s (Some (Err e)) hears = none_committed base s e hears
may_settle base s (Some (Ok answer)) hears = hears.last

settled_rests : (settings : Settings) (c : Connected) (traffic : Traffic) (moments : List ℕ) (old new : Seated) (state : State)
    → Stands settings (record { connection = c; traffic = traffic; moments = moments; seat = old; state = state })
    → new ≡ record old { committed = old.mine }
    → Stands settings (record { connection = c; traffic = traffic; moments = moments; seat = new; state = state })
settled_rests settings c traffic moments old new state stands settled =
    subst (λ (s : Seated). Stands settings (record { connection = c; traffic = traffic; moments = moments; seat = s; state = state })) (sym settled)
    (record { named = stands.named; served = stands.served; ends = stands.ends; shut = stands.shut; committed = refl })

pub settled_hears : (base : Base) (c : Connected) (traffic : Traffic) (moments : List ℕ) (old new : Seated) (state : State) (answered : Option (Result Answer NoMemory))
    → HearsOf base (record { connection = c; traffic = traffic; moments = moments; seat = old; state = state }) answered
    → (new ≡ old) ⊎ (new ≡ record old { committed = old.mine })
    → HearsOf base (record { connection = c; traffic = traffic; moments = moments; seat = new; state = state }) answered
settled_hears base c traffic moments old new state answered hears (inl same) =
    subst (λ (s : Seated). HearsOf base (record { connection = c; traffic = traffic; moments = moments; seat = s; state = state }) answered) (sym same) hears
settled_hears base c traffic moments old new state None hears (inr settled) = settled_rests base.settings c traffic moments old new state hears settled
settled_hears base c traffic moments old new state (Some answered) hears (inr settled) = settled_stands base c traffic moments old new state answered hears settled

-- and it has heard the answer
heard_so : (base : Base) (c d : Connected) (traffic : Traffic) (moments : List ℕ) (seat : Seated) (state : State) (answered : Result Answer NoMemory)
    → StandsBefore base (record { connection = c; traffic = traffic; moments = moments; seat = seat; state = state }) answered
    → ((s : Settings) (t : Traffic) (ms : List ℕ) (entries : List Entry) (turn : Turn) → IsAsking s c t ms entries turn
    → IsServed s d t ms (entries_with entries turn answered))
    → IsServed base.settings d traffic moments seat.mine
heard_so base c d traffic moments seat state answered before hears =
    subst (λ (entries : List Entry). IsServed base.settings d traffic moments entries) (sym before.mine)
    (hears base.settings traffic moments before.before before.turn before.asks)

pub hear_stands : (base : Base) (c d : Connected) (traffic : Traffic) (moments : List ℕ) (seat : Seated) (old new : State) (answered : Result Answer NoMemory)
    → StandsBefore base (record { connection = c; traffic = traffic; moments = moments; seat = seat; state = old }) answered
    → ((s : Settings) (t : Traffic) (ms : List ℕ) (entries : List Entry) (turn : Turn) → IsAsking s c t ms entries turn
    → IsServed s d t ms (entries_with entries turn answered))
    → seat.committed ≡ seat.mine
    → new ≡ states.Room → Stands base.settings (record { connection = d; traffic = traffic; moments = moments; seat = seat; state = new })
hear_stands base c d traffic moments seat old new answered before hears all is = record {
  named = before.named;
  served = heard_so base c d traffic moments seat old answered before hears;
  ends = subst (λ (e : Option Ending). EndsSo base.settings traffic moments seat.mine e) (sym (ap ending_of is)) (before.ends seat.mine);
  shut = λ closing. absurd (cc);
  committed = all;
}

-- what it wrote is as it has to be where it leaves with its answer untold
pub untold_fits : ConnectionsHaveWritten → (base : Base) (c d : Connected) (traffic : Traffic) (moments : List ℕ) (seat : Seated) (state : State) (answered : Result Answer NoMemory)
    → StandsBefore base (record { connection = c; traffic = traffic; moments = moments; seat = seat; state = state }) answered
    → ((s : Settings) (t : Traffic) (ms : List ℕ) (entries : List Entry) (turn : Turn) → IsAsking s c t ms entries turn
    → IsServed s d t ms (entries_with entries turn answered))
    → Fits base.settings (record { traffic = traffic; moments = moments; departure = departure_of (ending_of state) }) seat.mine seat.committed
untold_fits write base c d traffic moments seat state answered before hears =
    let served = heard_so base c d traffic moments seat state answered before hears in
    let written = write base.settings d traffic moments seat.mine served.holds in
    let sooner = write base.settings c traffic moments before.before before.asks.holds in
    record {
      written = written;
      ends = departs_so base.settings traffic moments seat.mine (ending_of state)
          (subst (λ (e : Option Ending). EndsSo base.settings traffic moments seat.mine e) (sym before.ending) (before.ends seat.mine));
      told = ⊎_elim
          (λ is. subst (λ (es : List Entry). HasWritten base.settings traffic moments es) (sym is) sooner)
          (λ is. subst (λ (es : List Entry). HasWritten base.settings traffic moments es) (sym is) written)
          before.committed;
    }

pub taken_before : (base : Base) (s : Served) (answered : Result Answer NoMemory) → StandsBefore base s answered → taken_of s.connection ≢ None
taken_before base s answered before none = let taken = before.asks.taken in absurd (cc)

-- one that rests goes on, and after it
begins_same : {A : Type 0} → (xs ys : List A) → ys ≡ xs → IsPrefix xs ys
begins_same xs ys same = ([], append-nil xs ∙ sym same)

pub rests_on : (now : ℕ) (old new : Served) → Rests old new → HasGoneOn now old new
rests_on now old new r = record {
  received = begins_same old.traffic.received new.traffic.received r.received;
  sent = begins_same old.traffic.sent new.traffic.sent r.sent;
  seat = r.seat;
  moments = record { more = []; added = r.moments ∙ sym (append-nil old.moments); all = tt };
}

pub rests_after : (now : ℕ) (old mid new : Served) → HasGoneOn now old mid → Rests mid new → HasGoneOn now old new
rests_after now old mid new on r = record {
  received = (on.received.0, on.received.1 ∙ sym r.received);
  sent = (on.sent.0, on.sent.1 ∙ sym r.sent);
  seat = r.seat ∙ on.seat;
  moments = record { more = on.moments.more; added = r.moments ∙ on.moments.added; all = on.moments.all };
}

-- how one has moved: what it told of bytes where nothing came or went, and where something did before
not_grown : (xs ys : List ℕ) → ys ≡ xs → nat_lt (length xs) (length ys) ≡ false
not_grown xs ys same = let is = ap length same in grind (arith, nat_tests, is)

pub tells_rest : (m : Moved) (old new : Served) → IsQuiet m → Rests old new → TellsMoves m old.traffic new.traffic
tells_rest m old new quiet r = record {
  read = quiet.read ∙ sym (not_grown old.traffic.received new.traffic.received r.received);
  written = quiet.written ∙ sym (not_grown old.traffic.sent new.traffic.sent r.sent);
}

or_false : (x y : Bool) → y ≡ false → (x || y) ≡ x
or_false true y is = refl
or_false false y is = is

pub tells_then : (m n : Moved) (old mid new : Served) → TellsMoves m old.traffic mid.traffic → IsQuiet n → Rests mid new
    → TellsMoves (moved_then m n) old.traffic new.traffic
tells_then m n old mid new told quiet r = record {
  read = or_false m.has_read n.has_read quiet.read ∙ told.read ∙ ap (λ (xs : List ℕ). nat_lt (length old.traffic.received) (length xs)) (sym r.received);
  written = or_false m.has_written n.has_written quiet.written ∙ told.written ∙ ap (λ (xs : List ℕ). nat_lt (length old.traffic.sent) (length xs)) (sym r.sent);
}

-- and how it stands then: behind its moves, and behind what was dropped where it was closed
pub stepped_moved : (on : Bool) (state : State) (old new : Served) → StopsAt on state new.connection → HasMet on state old.traffic new.traffic
    → (on ≡ true → progress_of old.connection old.traffic + moves_each ≤ progress_of new.connection new.traffic) → HasMoved on state old new
stepped_moved true states.Message old new stops met moves = (stops, moves refl)
stepped_moved true states.Head old new stops met moves = (stops, moves refl)
stepped_moved true states.Body old new stops met moves = (stops, moves refl)
stepped_moved true states.Turn old new stops met moves = (stops, moves refl)
stepped_moved true states.Room old new stops met moves = (stops, moves refl)
stepped_moved true states.Closing old new stops met moves = absurd (cc)
stepped_moved true (states.Ended ending) old new stops met moves = absurd (cc)
stepped_moved false states.Message old new stops met moves = (stops, met.1)
stepped_moved false states.Head old new stops met moves = (stops, met.1)
stepped_moved false states.Body old new stops met moves = (stops, met.1)
stepped_moved false states.Turn old new stops met moves = (stops, met.1)
stepped_moved false states.Room old new stops met moves = (stops, met.1)
stepped_moved false states.Closing old new stops met moves = absurd stops
stepped_moved false (states.Ended ending) old new stops met moves = (stops, met.1)

stood_closed : (on : Bool) (state : State) (c : Connected) → StopsAt on state c → state ≡ states.Ended endings.Closed
    → StandsAt (states.Ended endings.Closed) c
stood_closed true state c stops is = absurd (cc)
stood_closed false state c stops is = subst (λ (s : State). StandsAt s c) is stops

closing_moved : (on : Bool) (old new : Served) → StandsAt (states.Ended endings.Closed) new.connection → HasMoved on states.Closing old new
closing_moved true old new stands = stands
closing_moved false old new stands = stands

ending_moved : (n : Moved) (old new : Served) → IsEnding n → StandsAt (states.Ended endings.Closed) new.connection → HasMoved n.may_go_on n.state old new
ending_moved n old new (inl closing) stands =
    subst (λ (s : State). HasMoved n.may_go_on s old new) (sym closing) (closing_moved n.may_go_on old new stands)
ending_moved n old new (inr ended) stands =
    subst (λ (on : Bool). HasMoved on n.state old new) (sym ended.1)
    (subst (λ (s : State). HasMoved false s old new) (sym ended.0) (stands, tt))

pub closed_moved : (m n : Moved) (old mid new : Served) → StopsAt m.may_go_on m.state mid.connection → m.state ≡ states.Ended endings.Closed
    → IsEnding n → Rests mid new → HasMoved n.may_go_on n.state old new
closed_moved m n old mid new stops is ending r =
    ending_moved n old new ending
    (subst (λ (c : Connected). StandsAt (states.Ended endings.Closed) c) (sym r.connection) (stood_closed m.may_go_on m.state mid.connection stops is))

-- one that has submitted its turn, if it had one, hears of it
pub hears_so : (c d : Connected) (traffic : Traffic) (moments : List ℕ) (old new : Seated) (state : State) (in_memory : Bool) (base : Base)
    (history grown : List Recorded) (answered : Option (Result Answer NoMemory))
    → Stands base.settings (record { connection = c; traffic = traffic; moments = moments; seat = old; state = state })
    → IfSome answered (IsAsked in_memory base c d old new history grown) → IfSome answered (λ _. state ≡ states.Turn) → (answered ≡ None → (d ≡ c) × (new ≡ old))
    → HearsOf base (record { connection = d; traffic = traffic; moments = moments; seat = new; state = state }) answered
hears_so c d traffic moments old new state in_memory base history grown (Some answered) stands asked is none =
    submit_stands c d traffic moments old new state in_memory base history grown answered stands is asked
hears_so c d traffic moments old new state in_memory base history grown None stands asked is none =
    let same = none refl in
    subst (λ (e : Connected). Stands base.settings (record { connection = e; traffic = traffic; moments = moments; seat = new; state = state })) (sym same.0)
    (subst (λ (s : Seated). Stands base.settings (record { connection = c; traffic = traffic; moments = moments; seat = s; state = state })) (sym same.1) stands)
