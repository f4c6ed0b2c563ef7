-- A world after one event more.
use Rattle.std.proofs.Common.{◌≡◌, ◌≢◌, ◌<◌, ◌⊎◌, ℕ, zero, suc, Bool, true, false, Option, Some, None, Result, Ok, Err, OnOk, List, [], ◌∷◌, ◌++◌, length, refl, sym, ap, subst, ◌∙◌, append-nil, arith, inl, inr}
use Rattle.std.specs.List.{slice_get}
use Rattle.std.proofs.lemmas.Bool.{cases_Bool, true≢false}
use Rattle.std.proofs.lemmas.Bool.Decides.{eqb_tells}
use Rattle.std.proofs.lemmas.Option.{slice_get_within}
use Rattle.s3_config.specs.Settings.{Settings}
use Rattle.s3_machine.specs.History.{Entry}
use Rattle.s3_machine.specs.declared.turn.Turn.{Turn}
use Rattle.s3_journal.specs.RecordedStore.{Journal, KeepsHistory}
use Rattle.s3_journal.specs.Recorded.{Recorded, entries_of_seat, history_of, recorded}
use Rattle.s3_session.specs.Output.{Standing, is_dead, is_waiting}
use Rattle.s3_session.specs.Output as standings
use Rattle.s3_events.specs.declared.event.Event.{Event}
use Rattle.s3_events.specs.declared.event.Event.TheVariants as events
use Rattle.s3_events.specs.Script.{connection_of_event}
use Rattle.s3_connection.specs.Output.{Input}
use Rattle.s3_connection.specs.Holds.{ConnectionsWrite}
use Rattle.s3_simulation.specs.Played.{Playing, Plays, standing_of, turn_of, written_by}
use Rattle.s3_simulation.specs.Timed.{TimedOutputs}
use Rattle.s3_simulation.specs.Events.{TurnAt, received, turn_given, turns_given}
use Rattle.s3_simulation.specs.Run.{AreTaken, WaitsAt, moments_of}
use Rattle.s3_simulation.specs.Shown.{standing_in}
use Rattle.s3_simulation.specs.StandsAfter.{AreMade, GoesOn, HasHappened, StandsAfter, WentOn, heard, is_lost_in}
use Rattle.s3_simulation.specs.World.{given_by}
use Rattle.s3_simulation.proofs.EntryLemmas.{seat_join, seat_others, seat_own}
use Rattle.s3_simulation.proofs.EventLemmas.{received_others, received_own, turns_more}
use Rattle.s3_simulation.proofs.PlayedLemmas.{OneTimedOutput, asks_one, is_standing, plays_write, waits_for}
use Rattle.s3_simulation.proofs.TakenLemmas.{taken_join}

-- two numbers are the same or not
same_or_not : (k c : ℕ) → (k ≡ c) ⊎ (k ≢ c)
same_or_not k c = elim (eqb_tells k c) [
  | inl same ↦ inl same.1
  | inr differ ↦ inr differ.1
]

-- a number below the length has an element
pub there : {X : Type 0} (xs : List X) (c : ℕ) → c < length xs → slice_get xs c ≡ None → ⊥
there [] c less none = omega arith
there (x ∷ xs) zero less none = cc
there (x ∷ xs) (suc c) less none = there xs c (omega arith) none

pub same_some : {X : Type 0} (x : Option X) (y z : X) → x ≡ Some y → x ≡ Some z → y ≡ z
same_some x y z p q = cc

none_some : {X : Type 0} (x : Option X) (y : X) → x ≡ None → x ≡ Some y → ⊥
none_some x y p q = cc

-- ---- the entries that were made

made_own : (seat : ℕ) (given : Option Turn) (d : Playing) (made : List Recorded) → AreMade seat given d made → entries_of_seat seat made ≡ history_of made
made_own seat None d made none = ap (entries_of_seat seat) none ∙ sym (ap history_of none)
made_own seat (Some turn) d made (inl one) = ap (entries_of_seat seat) one.1 ∙ seat_own seat (recorded seat turn one.0) refl ∙ sym (ap history_of one.1)
made_own seat (Some turn) d made (inr none) = ap (entries_of_seat seat) none.0 ∙ sym (ap history_of none.0)

made_others : (seat k : ℕ) (given : Option Turn) (d : Playing) (made : List Recorded) → k ≢ seat → AreMade seat given d made → entries_of_seat k made ≡ []
made_others seat k None d made differ none = ap (entries_of_seat k) none
made_others seat k (Some turn) d made differ (inl one) = ap (entries_of_seat k) one.1 ∙ seat_others k (recorded seat turn one.0) (λ same. differ (sym same))
made_others seat k (Some turn) d made differ (inr none) = ap (entries_of_seat k) none.0

-- none for a connection of which no command waits
made_waiting : (seat : ℕ) (given : Option Turn) (d : Playing) (made : List Recorded)
    → ((turn : Turn) → given ≡ Some turn → ⊥) → AreMade seat given d made → made ≡ []
made_waiting seat None d made none are = are
made_waiting seat (Some turn) d made none are = absurd (none turn refl)

-- a turn that is given waits
given_waits : (e : Event) (waits : Option Turn) (turn : Turn) → given_by e waits ≡ Some turn → waits ≡ Some turn
given_waits (events.Turn c) waits turn given = given
given_waits _ waits turn given = absurd (cc)

-- ---- the turn that an event takes, if it takes one

module _ (one : OneTimedOutput) (write : ConnectionsWrite) (settings : Settings) (moments : List (List ℕ)) (lost : ℕ → Bool)
    (done : List Recorded) (happened : List Event) where
  abbrev Taken : Event → List Recorded → Type 0
  Taken e made = AreTaken settings moments lost done (turn_given happened e) made

  -- where the connection isn't there
  taken_nowhere : (e : Event) → (connection_of_event e < length moments → ⊥) → Taken e []
  taken_nowhere (events.Turn c) none = inl (inl (λ turn waits. none waits.0), refl)
  taken_nowhere _ none = refl

  module _ (c : ℕ) (b d : Playing) (there : c < length moments)
      (plays : Plays b settings (moments_of c moments) (received c happened) (entries_of_seat c done))
      (stays : is_dead (standing_of b) ≡ true → lost c ≡ true) (dies : is_dead (standing_of d) ≡ true → lost c ≡ true) where
    abbrev turn_now : TurnAt
    turn_now = record { connection = c; input = received c happened }

    abbrev Turns : List Recorded → Type 0
    Turns made = AreTaken settings moments lost done (turn_now ∷ []) made

    none_waits : turn_of b ≡ None → (turn : Turn) → is_dead (standing_of b) ≡ false → ¬ (WaitsAt settings moments done turn_now turn)
    none_waits none turn lives waits =
        let wrote = plays_write write b settings (moments_of c moments) (received c happened) (entries_of_seat c done) plays in
        let stand = (one settings (moments_of c moments) (received c happened) (entries_of_seat c done) (standing_of b) standings.Waiting wrote.0 (turn ∷ [])
        (written_by b) waits.1.0 lives refl wrote.1 waits.1.1).2 in
        true≢false (sym (ap is_waiting stand) ∙ (waits_for b settings (moments_of c moments) (received c happened) (entries_of_seat c done) plays).1 none)

    waited : (turn : Turn) → turn_of b ≡ Some turn → WaitsAt settings moments done turn_now turn
    waited turn asks =
        let wrote = plays_write write b settings (moments_of c moments) (received c happened) (entries_of_seat c done) plays in (
          there,
          (
            written_by b,
            subst (λ (standing : Standing). TimedOutputs standing settings (moments_of c moments) (received c happened) (entries_of_seat c done) (turn ∷ []) (written_by b))
                (is_standing (standing_of b) ((waits_for b settings (moments_of c moments) (received c happened) (entries_of_seat c done) plays).0 turn asks))
                (subst (λ (ts : List Turn). TimedOutputs (standing_of b) settings (moments_of c moments) (received c happened) (entries_of_seat c done) ts (written_by b))
                (asks_one b.connection.stage turn wrote.0 asks wrote.2) wrote.1),
          ),
        )

    turn_taken : (given : Option Turn) (made : List Recorded) → turn_of b ≡ given → AreMade c given d made → Turns made
    turn_taken None made none are =
        inl (
          elim (cases_Bool (is_dead (standing_of b))) [
            | inl dead ↦ inr (stays dead, ap (entries_of_seat c) are)
            | inr lives ↦ inl (λ turn. none_waits none turn lives)
          ],
          are,
        )
    turn_taken (Some turn) made asks (inl answered) = inr (recorded c turn answered.0, [], answered.1, (refl, waited turn asks), refl)
    turn_taken (Some turn) made asks (inr died) = inl (inr (dies died.1, ap (entries_of_seat c) died.0), died.0)

  taken_there : (e : Event) (b d : Playing) (made : List Recorded) → connection_of_event e < length moments
      → Plays b settings (moments_of (connection_of_event e) moments) (received (connection_of_event e) happened) (entries_of_seat (connection_of_event e) done)
      → (is_dead (standing_of b) ≡ true → lost (connection_of_event e) ≡ true) → (is_dead (standing_of d) ≡ true → lost (connection_of_event e) ≡ true)
      → AreMade (connection_of_event e) (given_by e (turn_of b)) d made → Taken e made
  taken_there (events.Turn c) b d made there plays stays dies are = turn_taken c b d there plays stays dies (turn_of b) made refl are
  taken_there _ b d made there plays stays dies are = are

-- ---- the world

module _ (one : OneTimedOutput) (write : ConnectionsWrite) (settings : Settings) (e : Event) (old new : List Playing) (before after : Journal)
    (moments : List (List ℕ)) (happened : List Event)
    (s : StandsAfter (record { settings = settings; connections = old; recorded_store = before }) moments happened)
    (has : HasHappened settings e old new before after) (keeps : KeepsHistory after) where
  abbrev own : ℕ
  own = connection_of_event e

  -- what it makes of its connection, and of the turns
  record Makes : Type 0 where
    made : List Recorded
    added : after.entries ≡ before.entries ++ made
    mine : entries_of_seat own made ≡ history_of made
    others : (k : ℕ) → k ≢ own → entries_of_seat k made ≡ []
    plays : (d : Playing) → slice_get new own ≡ Some d
        → Plays d settings (moments_of own moments) (heard e (received own happened)) (entries_of_seat own before.entries ++ history_of made)
    lost : is_lost_in old own ≡ true → (is_lost_in new own ≡ true) × (made ≡ [])
    taken : AreTaken settings moments (is_lost_in new) before.entries (turn_given happened e) made

  stands_with : Makes → StandsAfter (record { settings = settings; connections = new; recorded_store = after }) moments (happened ++ e ∷ [])
  stands_with m = record {
    each = has.count ∙ s.each;
    plays = λ k d is.
        elim (same_or_not k own) as (λ _. Plays d settings (moments_of k moments) (received k (happened ++ e ∷ [])) (entries_of_seat k after.entries)) [
          | inl same ↦
              subst (λ (j : ℕ). Plays d settings (moments_of j moments) (received j (happened ++ e ∷ [])) (entries_of_seat j after.entries)) (sym same)
              (subst (λ (input : Input). Plays d settings (moments_of own moments) input (entries_of_seat own after.entries)) (sym (received_own happened e))
              (subst (λ (es : List Entry). Plays d settings (moments_of own moments) (heard e (received own happened)) es)
              (sym (ap (entries_of_seat own) m.added ∙ seat_join own before.entries m.made ∙ ap (λ (es : List Entry). entries_of_seat own before.entries ++ es) m.mine))
              (m.plays d (subst (λ (j : ℕ). slice_get new j ≡ Some d) same is))))
          | inr differ ↦
              subst (λ (input : Input). Plays d settings (moments_of k moments) input (entries_of_seat k after.entries)) (sym (received_others k happened e (λ same. differ (sym same))))
              (subst (λ (es : List Entry). Plays d settings (moments_of k moments) (received k happened) es)
              (sym (ap (entries_of_seat k) m.added ∙ seat_join k before.entries m.made
              ∙ ap (λ (es : List Entry). entries_of_seat k before.entries ++ es) (m.others k differ) ∙ append-nil (entries_of_seat k before.entries)))
              (s.plays k d (sym (has.others k differ) ∙ is)))
        ];
    rules = has.rules ∙ s.rules;
    keeps = keeps;
    taken = subst (λ (turns : List TurnAt). AreTaken settings moments (is_lost_in new) [] turns after.entries) (sym (turns_more happened e))
        (subst (λ (es : List Recorded). AreTaken settings moments (is_lost_in new) [] (turns_given happened ++ turn_given happened e) es) (sym m.added)
        (taken_join settings moments (is_lost_in old) (is_lost_in new)
        (λ k lost.
        elim (same_or_not k own) [
          | inl same ↦ subst (λ (j : ℕ). is_lost_in new j ≡ true) (sym same) (m.lost (subst (λ (j : ℕ). is_lost_in old j ≡ true) same lost)).0
          | inr differ ↦ ap (λ (x : Option Playing). is_dead (standing_in x)) (has.others k differ) ∙ lost
        ])
        m.made
        (λ k lost.
        elim (same_or_not k own) [
          | inl same ↦ ap (entries_of_seat k) (m.lost (subst (λ (j : ℕ). is_lost_in old j ≡ true) same lost)).1
          | inr differ ↦ m.others k differ
        ])
        [] (turns_given happened) (turn_given happened e) before.entries s.taken m.taken));
  }

  -- nothing, where it isn't there
  makes_nothing : slice_get old own ≡ None → slice_get new own ≡ None → after.entries ≡ before.entries → Makes
  makes_nothing was is same = record {
    made = [];
    added = same ∙ sym (append-nil before.entries);
    mine = refl;
    others = λ k differ. refl;
    plays = λ d at. absurd (none_some (slice_get new own) d is at);
    lost = λ lost. absurd (true≢false (sym lost ∙ ap (λ (x : Option Playing). is_dead (standing_in x)) was));
    taken = taken_nowhere one write settings moments (is_lost_in new) before.entries happened e
        (λ less. there old own (subst (λ (n : ℕ). own < n) (sym s.each) less) was);
  }

  makes_one : (b d : Playing) → slice_get old own ≡ Some b → slice_get new own ≡ Some d → GoesOn settings e b d before.entries after.entries → Makes
  makes_one b d was is on =
      let plays = s.plays own b was in
      let lost_then = ap (λ (x : Option Playing). is_dead (standing_in x)) was in
      let lost_now = ap (λ (x : Option Playing). is_dead (standing_in x)) is in
      record {
        made = on.made;
        added = on.added;
        mine = made_own own (given_by e (turn_of b)) d on.made on.are;
        others = λ k differ. made_others own k (given_by e (turn_of b)) d on.made differ on.are;
        plays = λ x at.
            subst (λ (y : Playing). Plays y settings (moments_of own moments) (heard e (received own happened)) (entries_of_seat own before.entries ++ history_of on.made))
            (same_some (slice_get new own) d x is at)
            (on.plays (moments_of own moments) (received own happened) (entries_of_seat own before.entries) plays);
        lost = λ lost.
            (let dead = sym lost_then ∙ lost in (
              lost_now ∙ on.dead dead,
              made_waiting own (given_by e (turn_of b)) d on.made
                  (λ turn given. true≢false (sym dead ∙ ap is_dead (is_standing (standing_of b)
                  ((waits_for b settings (moments_of own moments) (received own happened) (entries_of_seat own before.entries) plays).0 turn (given_waits e (turn_of b) turn given)))))
                  on.are,
            ));
        taken = taken_there one write settings moments (is_lost_in new) before.entries happened e b d on.made
            (subst (λ (n : ℕ). own < n) s.each (slice_get_within old own b was)) plays
            (λ dead. lost_now ∙ on.dead dead) (λ dead. lost_now ∙ dead) on.are;
      }

  makes_in : (x y : Option Playing) → slice_get old own ≡ x → slice_get new own ≡ y → WentOn settings e x y before.entries after.entries → Makes
  makes_in None None was is same = makes_nothing was is same
  makes_in None (Some d) was is on = absurd on
  makes_in (Some b) None was is on = absurd on
  makes_in (Some b) (Some d) was is on = makes_one b d was is on

  pub stands_on : StandsAfter (record { settings = settings; connections = new; recorded_store = after }) moments (happened ++ e ∷ [])
  stands_on = stands_with (makes_in (slice_get old own) (slice_get new own) refl refl has.own)

-- what follows from success follows where there is success
pub on_ok : {T E : Type 0} (result : Result T E) (P Q : Type 0) → (P → Q) → OnOk result P → OnOk result Q
on_ok (Ok x) P Q leads p = leads p
on_ok (Err e) P Q leads p = tt
