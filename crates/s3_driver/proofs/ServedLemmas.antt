-- How a connection that is served stands after each move.
use Rattle.std.proofs.Common.{◌≡◌, ◌<◌, ℕ, suc, Bool, true, false, List, [], ◌∷◌, ◌++◌, length, refl, sym, ap, subst, ◌∙◌, append-nil, append_assoc, arith, Option, Some, None, ◌≢◌, Result, Ok, Err, IfOk, OnErr, ap₂, nat_lt, ◌||◌, ◌≤◌}
use Rattle.std.proofs.lemmas.List.{length-append}
use Rattle.std.proofs.lemmas.Bool.Decides.{nat_tests}
use Rattle.s3_terms.specs.declared.memory.NoMemory.{NoMemory}
use Rattle.s3_machine.specs.declared.command.Answer.{Answer}
use Rattle.s3_machine.specs.declared.turn.Turn.{Turn}
use Rattle.s3_connection.specs.declared.stage.Stage.{Stage}
use Rattle.s3_connection.specs.declared.stage.Stage.TheVariants as stages
use Rattle.s3_connection.specs.declared.stage.Wants.TheVariants as wanted
use Rattle.s3_driver.specs.declared.state.Ending.{Ending}
use Rattle.s3_driver.specs.declared.state.Ending.TheVariants as endings
use Rattle.s3_driver.specs.declared.state.Moved.{Moved}
use Rattle.s3_driver.specs.declared.state.State.{State}
use Rattle.s3_driver.specs.declared.state.State.TheVariants as states
use Rattle.s3_journal.specs.Recorded.{entry_of}
use mathlib.Core.List.{IsPrefix}
use Rattle.std.specs.List.{AllByRecursion}
use Rattle.s3_config.specs.Settings.{Settings}
use Rattle.s3_machine.specs.History.{Entry}
use Rattle.s3_session.specs.Session.{moment_if}
use Rattle.s3_connection.specs.Connection.{Connected, entries_with, is_answered_at, taken_of, wants_at}
use Rattle.s3_connection.specs.Holds.{Holds}
use Rattle.s3_connection.specs.Output.{Input}
use Rattle.s3_devices.specs.Device.{Traffic}
use Rattle.s3_driver.specs.Ended.{Fails, input_of}
use Rattle.s3_driver.specs.Served.{FailsSo, GoesOn, HasAsked, HasCalled, HasMet, HasRead, HasSent, HasTaken, HaveMore, IsAsking, IsLater, IsServed, TellsMoves, ending_of, moved_then, stage_weight}

-- no more moments, one more, and more behind more
pub more_none : (now : ℕ) (moments : List ℕ) → HaveMore now moments moments
more_none now moments = record { more = []; added = sym (append-nil moments); all = tt }

pub more_if : (now : ℕ) (is : Bool) (old new : List ℕ) → new ≡ old ++ moment_if is now → HaveMore now old new
more_if now true old new added = record { more = now ∷ []; added = added; all = (refl, tt) }
more_if now false old new added = record { more = []; added = added; all = tt }

all_behind : (now : ℕ) (first second : List ℕ) → AllByRecursion (λ (m : ℕ). m ≡ now) first → AllByRecursion (λ (m : ℕ). m ≡ now) second
    → AllByRecursion (λ (m : ℕ). m ≡ now) (first ++ second)
all_behind now [] second a b = b
all_behind now (m ∷ first) second a b = (a.0, all_behind now first second a.1 b)

pub more_behind : (now : ℕ) (old mid new : List ℕ) → HaveMore now old mid → HaveMore now mid new → HaveMore now old new
more_behind now old mid new a b = record {
  more = a.more ++ b.more;
  added = b.added ∙ ap (λ (ms : List ℕ). ms ++ b.more) a.added ∙ append_assoc old a.more b.more;
  all = all_behind now a.more b.more a.all b.all;
}

-- no less came, went, or was answered
begins_itself : {A : Type 0} → (xs : List A) → IsPrefix xs xs
begins_itself xs = ([], append-nil xs)

begins_on : {A : Type 0} → (xs ys zs : List A) → IsPrefix xs ys → IsPrefix ys zs → IsPrefix xs zs
begins_on {A = A} xs ys zs p q = (p.0 ++ q.0, sym (append_assoc xs p.0 q.0) ∙ ap (λ (begun : List A). begun ++ q.0) p.1 ∙ q.1)

pub goes_on_none : (traffic : Traffic) → GoesOn traffic traffic
goes_on_none traffic = record { named = refl; received = begins_itself traffic.received; sent = begins_itself traffic.sent; shut = refl }

pub goes_on_after : (a b d : Traffic) → GoesOn a b → GoesOn b d → GoesOn a d
goes_on_after a b d p q = record {
  named = q.named ∙ p.named;
  received = begins_on a.received b.received d.received p.received q.received;
  sent = begins_on a.sent b.sent d.sent p.sent q.sent;
  shut = q.shut ∙ p.shut;
}

-- where nothing went out
sends_nothing : (c : Connected) (before after : Traffic)
    → after ≡ record before { sent = before.sent ++ []; failed_writes = after.failed_writes; late_writes = after.late_writes } → HasSent c c before after
sends_nothing c before after same = record {
  bytes = [];
  traffic = same;
  holds = λ (settings : Settings) (input : Input) (moments : List ℕ) (entries : List Entry) (sent : List ℕ) (h : Holds c settings input moments entries sent).
      subst (λ (b : List ℕ). Holds c settings input moments entries b) (sym (append-nil sent)) h;
  stage = refl;
}

pub late_sends_nothing : (c : Connected) (before after : Traffic) → after ≡ record before { late_writes = suc before.late_writes } → HasSent c c before after
late_sends_nothing c before after late =
    sends_nothing c before after
    (subst (λ (t : Traffic). t ≡ record before { sent = before.sent ++ []; failed_writes = t.failed_writes; late_writes = t.late_writes }) (sym late)
    (ap (λ (b : List ℕ). record before { sent = b; late_writes = suc before.late_writes }) (sym (append-nil before.sent))))

pub failed_sends_nothing : (c : Connected) (before after : Traffic) → after ≡ record before { failed_writes = suc before.failed_writes } → HasSent c c before after
failed_sends_nothing c before after failed =
    sends_nothing c before after
    (subst (λ (t : Traffic). t ≡ record before { sent = before.sent ++ []; failed_writes = t.failed_writes; late_writes = t.late_writes }) (sym failed)
    (ap (λ (b : List ℕ). record before { sent = b; failed_writes = suc before.failed_writes }) (sym (append-nil before.sent))))

pub sent_goes_on : (c d : Connected) (before after : Traffic) → HasSent c d before after → GoesOn before after
sent_goes_on c d before after h = record {
  named = ap (λ (t : Traffic). t.name) h.traffic;
  received = ([], append-nil before.received ∙ sym (ap (λ (t : Traffic). t.received) h.traffic));
  sent = (h.bytes, sym (ap (λ (t : Traffic). t.sent) h.traffic));
  shut = ap (λ (t : Traffic). t.is_shut) h.traffic;
}

pub read_goes_on : (before after : Traffic) → after.name ≡ before.name → IsPrefix before.received after.received → after.sent ≡ before.sent
    → after.is_shut ≡ before.is_shut → GoesOn before after
read_goes_on before after named more same shut = record {
  named = named;
  received = more;
  sent = ([], append-nil before.sent ∙ sym same);
  shut = shut;
}

-- a turn that was answered is one entry more
pub entered : (before after : List Entry) (turn : Turn) (answered : Result Answer NoMemory)
    → IfOk answered (λ answer. after ≡ before ++ entry_of turn answer ∷ []) → OnErr answered (after ≡ before) → after ≡ entries_with before turn answered
entered before after turn (Ok answer) entry same = entry
entered before after turn (Err e) entry same = same

pub some_asked : (told asked : Option Turn) (turn : Turn) → told ≡ asked → told ≡ Some turn → asked ≢ None
some_asked told asked turn value is none = cc

-- and it moves
answer_weight : (stage : Stage) → wants_at stage ≡ wanted.Answer → stage_weight stage ≡ 1
answer_weight (stages.Waiting turn) is = refl
answer_weight (stages.HandedOut turn) is = refl
answer_weight _ is = absurd (cc)

nothing_weight : (stage : Stage) → wants_at stage ≡ wanted.Nothing → stage_weight stage ≡ 3
nothing_weight stages.Done is = refl
nothing_weight _ is = absurd (cc)

input_weight : (stage : Stage) → wants_at stage ≡ wanted.Input → stage_weight stage ≡ 2
input_weight stages.Reading is = refl
input_weight _ is = absurd (cc)

pub end_moves : (old new : Stage) → wants_at old ≡ wanted.Input → wants_at new ≡ wanted.Nothing → stage_weight old < stage_weight new
end_moves old new is over = let two = input_weight old is in let three = nothing_weight new over in omega (arith, two, three)

goes_weight : (stage : Stage) → wants_at stage ≡ wanted.ToGoOn → stage_weight stage ≡ 0
goes_weight stages.Answered is = refl
goes_weight _ is = absurd (cc)

next_weight : (stage : Stage) → is_answered_at stage ≡ false → 0 < stage_weight stage
next_weight stages.Answered is = absurd (cc)
next_weight _ is = omega arith

pub on_moves : (old new : Stage) → wants_at old ≡ wanted.ToGoOn → is_answered_at new ≡ false → stage_weight old < stage_weight new
on_moves old new is next = let none = goes_weight old is in let some = next_weight new next in omega (arith, none, some)

-- failures behind a time without any
fails_after : (ending : Ending) (a b d : Traffic) → Fails endings.Closed a b → Fails ending b d → Fails ending a d
fails_after endings.Closed a b d none f = (f.0 ∙ none.0, f.1 ∙ none.1)
fails_after endings.ReadFailed a b d none f = (f.0 ∙ ap (λ n. suc n) none.0, f.1 ∙ none.1)
fails_after endings.WriteFailed a b d none f = (f.0 ∙ none.0, f.1 ∙ ap (λ n. suc n) none.1)

fails_so : (ending : Option Ending) (a b d : Traffic) → Fails endings.Closed a b → FailsSo ending b d → FailsSo ending a d
fails_so None a b d none f = fails_after endings.Closed a b d none f
fails_so (Some ending) a b d none f = fails_after ending a b d none f

later_after : (state : State) (a b d : Traffic) → a.late_reads ≤ b.late_reads → a.late_writes ≤ b.late_writes → IsLater state b d → IsLater state a d
later_after states.Message a b d reads writes later = omega (arith, reads, later)
later_after states.Head a b d reads writes later = omega (arith, reads, later)
later_after states.Body a b d reads writes later = omega (arith, reads, later)
later_after states.Room a b d reads writes later = omega (arith, writes, later)
later_after states.Turn a b d reads writes later = tt
later_after states.Closing a b d reads writes later = tt
later_after (states.Ended ending) a b d reads writes later = tt

pub met_after : (on : Bool) (first state : State) (a b d : Traffic) → HasMet true first a b → HasMet on state b d → HasMet on state a d
met_after true first state a b d none f = (fails_after endings.Closed a b d none.0 f.0, omega (arith, none.1, f.1), omega (arith, none.2, f.2))
met_after false first state a b d none f = (fails_so (ending_of state) a b d none.0 f.0, later_after state a b d none.1 none.2 f.1)

-- what is told of bytes that came or went in two moves
begins_within : {A : Type 0} → (xs ys : List A) → IsPrefix xs ys → length xs ≤ length ys
begins_within xs ys p = let is = sym (ap length p.1) in let sum = length-append xs p.0 in omega (arith, is, sum)

either_grew : (a b d : ℕ) → a ≤ b → b ≤ d → (nat_lt a b || nat_lt b d) ≡ nat_lt a d
either_grew a b d p q = grind (arith, nat_tests, p, q)

pub tells_after : (m n : Moved) (a b d : Traffic) → GoesOn a b → GoesOn b d → TellsMoves m a b → TellsMoves n b d → TellsMoves (moved_then m n) a d
tells_after m n a b d p q s t = record {
  read = ap₂ (λ (x y : Bool). x || y) s.read t.read
      ∙ either_grew (length a.received) (length b.received) (length d.received) (begins_within a.received b.received p.received) (begins_within b.received d.received q.received);
  written = ap₂ (λ (x y : Bool). x || y) s.written t.written
      ∙ either_grew (length a.sent) (length b.sent) (length d.sent) (begins_within a.sent b.sent p.sent) (begins_within b.sent d.sent q.sent);
}

module _ (settings : Settings) (c d : Connected) (traffic after : Traffic) (moments : List ℕ) (entries : List Entry)
    (s : IsServed settings c traffic moments entries) where
  -- some of what was unsent went out
  pub served_sent : HasSent c d traffic after → taken_of d ≡ None → IsServed settings d after moments entries
  served_sent sent idle = record {
    holds = subst (λ (t : Traffic). Holds d settings (input_of t) moments entries t.sent) (sym sent.traffic)
        (sent.holds settings (input_of traffic) moments entries traffic.sent s.holds);
    idle = idle;
  }

  -- a piece, the end, or nothing came
  pub served_read : (now : ℕ) (later : List ℕ) → HasRead settings now c d traffic after moments later → IsServed settings d after later entries
  served_read now later read = record {
    holds = subst (λ (b : List ℕ). Holds d settings (input_of after) later entries b) (sym read.sent) (read.holds entries traffic.sent s.holds);
    idle = read.idle s.idle;
  }

  -- what was kept went on
  pub served_on : (now : ℕ) (later : List ℕ) → HasTaken settings now c d [] moments later → IsServed settings d traffic later entries
  served_on now later took = record {
    holds = subst (λ (b : List ℕ). Holds d settings (record { bytes = b; ended = traffic.is_ended }) later entries traffic.sent) (append-nil traffic.received)
        (took.holds (input_of traffic) entries traffic.sent s.holds.ended s.holds);
    idle = took.idle s.idle;
  }

-- a turn that was taken to the handle was answered
pub answered_turn : (settings : Settings) (c d e : Connected) (traffic : Traffic) (moments : List ℕ) (before after : List Entry) (turn : Turn) (answered : Result Answer NoMemory)
    → HasAsked c d turn → IfOk answered (λ answer. after ≡ before ++ entry_of turn answer ∷ []) → OnErr answered (after ≡ before)
    → ((s : Settings) (t : Traffic) (ms : List ℕ) (entries : List Entry) (asked : Turn) → IsAsking s d t ms entries asked
    → IsServed s e t ms (entries_with entries asked answered))
    → IsServed settings c traffic moments before → IsServed settings e traffic moments after
answered_turn settings c d e traffic moments before after turn answered asked entry same hears served =
    subst (λ (es : List Entry). IsServed settings e traffic moments es) (sym (entered before after turn answered entry same))
    (hears settings traffic moments before turn
    (record { holds = asked.holds settings (input_of traffic) moments before traffic.sent served.holds; taken = asked.taken }))

-- and its connection has heard of what the handle said
pub called_turn : (may_lack : Turn → Type 0) (c d e : Connected) (before after : List Entry) (turn : Turn) (answered : Result Answer NoMemory)
    → HasAsked c d turn → IfOk answered (λ answer. after ≡ before ++ entry_of turn answer ∷ []) → OnErr answered (after ≡ before) → OnErr answered (may_lack turn)
    → ((s : Settings) (t : Traffic) (ms : List ℕ) (entries : List Entry) (asked : Turn) → IsAsking s d t ms entries asked
    → IsServed s e t ms (entries_with entries asked answered))
    → HasCalled may_lack before after c e turn
called_turn may_lack c d e before after turn answered asked entry same memory hears = record {
  answered = answered;
  entry = entry;
  same = same;
  memory = memory;
  heard = λ settings traffic moments entries served.
      hears settings traffic moments entries turn
      (record { holds = asked.holds settings (input_of traffic) moments entries traffic.sent served.holds; taken = asked.taken });
}
