-- One connection of several went on with an event.
use Rattle.std.proofs.Common.{◌≡◌, ◌≢◌, ◌<◌, ◌≤◌, ℕ, zero, suc, Bool, true, Option, Some, None, Result, Ok, Err, IfOk, OnOk, OnErr, List, [], ◌∷◌, ◌++◌, length, get_or, set, refl, sym, ap, subst, ◌∙◌, append-nil, arith, inl, inr}
use Rattle.std.specs.Global.{Vec}
use Rattle.std.specs.List.{slice_get}
use Rattle.std.specs.Vec.{with_items}
use Rattle.std.proofs.lemmas.List.{length-set, length_push, with_items_is}
use Rattle.std.proofs.lemmas.Option.{slice_get-get_or, slice_get_past}
use Rattle.s3_config.specs.Settings.{Settings}
use Rattle.s3_terms.specs.declared.memory.NoMemory.{NoMemory}
use Rattle.s3_machine.specs.History.{Entry}
use Rattle.s3_machine.specs.declared.command.Answer.{Answer}
use Rattle.s3_machine.specs.declared.turn.Turn.{Turn}
use Rattle.s3_journal.specs.RecordedStore.{Journal, MayLack}
use Rattle.s3_journal.specs.Recorded.{Recorded, history_of, recorded}
use Rattle.s3_session.specs.Output.{Standing, is_dead, is_closed, is_waiting}
use Rattle.s3_session.specs.Output as standings
use Rattle.s3_events.specs.declared.event.Event.{Event}
use Rattle.s3_events.specs.declared.event.Event.TheVariants as events
use Rattle.s3_events.specs.Script.{connection_of_event}
use Rattle.s3_connection.specs.Connection.{entries_with}
use Rattle.s3_connection.specs.Output.{Input}
use Rattle.s3_simulation.specs.Played.{Playing, Plays, standing_of, turn_of}
use Rattle.s3_simulation.specs.StandsAfter.{AreMade, GoesOn, HasHappened, WentOn, heard}
use Rattle.s3_simulation.specs.World.{IsEntered, given_by}

-- ---- the list

get_set_other : {X : Type 0} (xs : List X) (c k : ℕ) (d : X) → k ≢ c → slice_get (set xs c d) k ≡ slice_get xs k
get_set_other [] c k d differ = refl
get_set_other (x ∷ xs) zero zero d differ = absurd (differ refl)
get_set_other (x ∷ xs) zero (suc k) d differ = refl
get_set_other (x ∷ xs) (suc c) zero d differ = refl
get_set_other (x ∷ xs) (suc c) (suc k) d differ = get_set_other xs c k d (λ same. differ (ap suc same))

get_set_same : {X : Type 0} (xs : List X) (c : ℕ) (d : X) → c < length xs → slice_get (set xs c d) c ≡ Some d
get_set_same [] c d less = absurd (omega arith)
get_set_same (x ∷ xs) zero d less = refl
get_set_same (x ∷ xs) (suc c) d less = get_set_same xs c d (omega arith)

module _ (settings : Settings) (e : Event) (old : List Playing) (before after : Journal) (rules : after.rules ≡ before.rules) (opens : after.opening ≡ before.opening) where
  abbrev own : ℕ
  own = connection_of_event e

  abbrev Went : Option Playing → Option Playing → Type 0
  Went x y = WentOn settings e x y before.entries after.entries

  happened_there : (b d : Playing) → own < length old → GoesOn settings e (get_or old own b) d before.entries after.entries
      → HasHappened settings e old (set old own d) before after
  happened_there b d less on = record {
    count = length-set old own d;
    others = λ k differ. get_set_other old own k d differ;
    own = subst (λ (x : Option Playing). Went x (slice_get (set old own d) own)) (sym (slice_get-get_or old own b less))
        (subst (λ (y : Option Playing). Went (Some (get_or old own b)) y) (sym (get_set_same old own d less)) on);
    rules = rules;
    opens = opens;
  }

  pub happened_at : {T E : Type 0} (result : Result T E) (k : ℕ) → k ≡ own → (b d : Playing) → k < length old
      → OnOk result (GoesOn settings e (get_or old k b) d before.entries after.entries) → OnOk result (HasHappened settings e old (set old k d) before after)
  happened_at (Ok x) k is b d less on =
      subst (λ (n : ℕ). HasHappened settings e old (set old n d) before after) (sym is)
      (happened_there b d (subst (λ (n : ℕ). n < length old) is less) (subst (λ (n : ℕ). GoesOn settings e (get_or old n b) d before.entries after.entries) is on))
  happened_at (Err x) k is b d less on = tt

pub happened_nowhere : (settings : Settings) (e : Event) (old : List Playing) (recorded_store : Journal) → length old ≤ connection_of_event e
    → HasHappened settings e old old recorded_store recorded_store
happened_nowhere settings e old recorded_store past = record {
  count = refl;
  others = λ k differ. refl;
  own = subst (λ (x : Option Playing). WentOn settings e x x recorded_store.entries recorded_store.entries) (sym (slice_get_past old (connection_of_event e) past)) refl;
  rules = refl;
  opens = refl;
}

-- a vector of connections, through a slice of it: it has the elements that the slice was left with
pub written_back : (v : Vec Playing) (now left : List Playing) → now ≡ v.items → length left ≡ length now → (with_items v left).items ≡ left
written_back v now left is count = with_items_is v left (count ∙ ap length is ∙ sym v.ok.0)

-- ---- one connection

dead_closed : (standing : Standing) → is_dead standing ≡ true → is_closed standing ≡ true
dead_closed standings.Dead dead = refl
dead_closed _ dead = absurd (cc)

-- an event without a turn
pub fed : (settings : Settings) (e : Event) (b d : Playing) (entries : List Recorded) → given_by e (turn_of b) ≡ None
    → (is_closed (standing_of b) ≡ true → standing_of d ≡ standing_of b)
    → ((moments : List ℕ) (input : Input) (es : List Entry) → Plays b settings moments input es → Plays d settings moments (heard e input) es)
    → GoesOn settings e b d entries entries
fed settings e b d entries none closed plays = record {
  made = [];
  added = sym (append-nil entries);
  are = subst (λ (given : Option Turn). AreMade (connection_of_event e) given d []) (sym none) refl;
  plays = λ moments input es h. subst (λ (more : List Entry). Plays d settings moments (heard e input) more) (sym (append-nil es)) (plays moments input es h);
  dead = λ dead. ap is_dead (closed (dead_closed (standing_of b) dead)) ∙ dead;
}

-- a piece, which there may be no memory for
pub fed_or_not : {T E : Type 0} (settings : Settings) (e : Event) (b d : Playing) (entries : List Recorded) (result : Result T E) → given_by e (turn_of b) ≡ None
    → (is_closed (standing_of b) ≡ true → standing_of d ≡ standing_of b)
    → ((moments : List ℕ) (input : Input) (es : List Entry) → Plays b settings moments input es → OnOk result (Plays d settings moments (heard e input) es))
    → OnOk result (GoesOn settings e b d entries entries)
fed_or_not settings e b d entries (Ok x) none closed plays = fed settings e b d entries none closed plays
fed_or_not settings e b d entries (Err x) none closed plays = tt

-- ---- a turn

pub none_told : {A : Type 0} (told : Option A) → ((x : A) → told ≢ Some x) → told ≡ None
none_told None none = refl
none_told (Some x) none = absurd (none x refl)

-- none waited
pub no_turn : (settings : Settings) (seat : ℕ) (b d : Playing) (entries : List Recorded) → turn_of b ≡ None → d ≡ b → GoesOn settings (events.Turn seat) b d entries entries
no_turn settings seat b d entries none same =
    subst (λ (p : Playing). GoesOn settings (events.Turn seat) b p entries entries) (sym same)
    (fed settings (events.Turn seat) b b entries none (λ closed. refl) (λ moments input es h. h))

waiting_lives : (standing : Standing) → is_waiting standing ≡ true → is_dead standing ≡ true → ⊥
waiting_lives standings.Dead waits dead = cc
waiting_lives _ waits dead = cc

abbrev made_by : ℕ → Turn → Result Answer NoMemory → List Recorded
made_by seat turn (Ok answer) = recorded seat turn answer ∷ []
made_by seat turn (Err e) = []

entries_made : (seat : ℕ) (turn : Turn) (answered : Result Answer NoMemory) (entries : List Entry)
    → entries_with entries turn answered ≡ entries ++ history_of (made_by seat turn answered)
entries_made seat turn (Ok answer) entries = refl
entries_made seat turn (Err e) entries = sym (append-nil entries)

added_by : (seat : ℕ) (turn : Turn) (answered : Result Answer NoMemory) (old new : Journal)
    → IfOk answered (λ answer. new.entries ≡ old.entries ++ recorded seat turn answer ∷ []) → OnErr answered (new ≡ old)
    → new.entries ≡ old.entries ++ made_by seat turn answered
added_by seat turn (Ok answer) old new entry same = entry
added_by seat turn (Err e) old new entry same = ap (λ (j : Journal). j.entries) same ∙ sym (append-nil old.entries)

are_made : (seat : ℕ) (turn : Turn) (answered : Result Answer NoMemory) (mid : Standing) (d : Playing) → OnErr answered (mid ≡ standings.Dead)
    → (is_closed mid ≡ true → standing_of d ≡ mid) → AreMade seat (Some turn) d (made_by seat turn answered)
are_made seat turn (Ok answer) mid d dies stays = inl (answer, refl)
are_made seat turn (Err e) mid d dies stays = inr (refl, ap is_dead (stays (ap is_closed dies) ∙ dies))

pub had_turn : (settings : Settings) (seat : ℕ) (b d : Playing) (mid : Standing) (old new : Journal) (turn : Turn) (told : Option Turn) (answered : Result Answer NoMemory)
    → told ≡ turn_of b → told ≡ Some turn → is_waiting (standing_of b) ≡ true
    → IfOk answered (λ answer. new.entries ≡ old.entries ++ recorded seat turn answer ∷ [])
    → OnErr answered (new ≡ old) → OnErr answered (mid ≡ standings.Dead) → (is_closed mid ≡ true → standing_of d ≡ mid)
    → ((moments : List ℕ) (input : Input) (entries : List Entry)
    → Plays b settings moments input entries → Plays d settings moments input (entries_with entries turn answered))
    → GoesOn settings (events.Turn seat) b d old.entries new.entries
had_turn settings seat b d mid old new turn told answered value is waits entry same dies stays plays = record {
  made = made_by seat turn answered;
  added = added_by seat turn answered old new entry same;
  are = subst (λ (given : Option Turn). AreMade seat given d (made_by seat turn answered)) (sym is ∙ value) (are_made seat turn answered mid d dies stays);
  plays = λ moments input entries h. subst (λ (es : List Entry). Plays d settings moments input es) (entries_made seat turn answered entries) (plays moments input entries h);
  dead = λ dead. absurd (waiting_lives (standing_of b) waits dead);
}

pub entered_by : (in_memory : Bool) (old new : Journal) (seat : ℕ) (turn : Turn) (told waits : Option Turn) (answered : Result Answer NoMemory)
    → told ≡ waits → told ≡ Some turn
    → IfOk answered (λ answer. new.entries ≡ old.entries ++ recorded seat turn answer ∷ [])
    → OnErr answered (MayLack in_memory old.rules old.store turn)
    → IsEntered in_memory old new waits
entered_by in_memory old new seat turn told waits (Ok answer) value is entry lacks =
    subst (IsEntered in_memory old new) (sym is ∙ value)
    (inl (ap length entry ∙ length_push old.entries (recorded seat turn answer)))
entered_by in_memory old new seat turn told waits (Err e) value is entry lacks =
    subst (IsEntered in_memory old new) (sym is ∙ value) (inr lacks)
