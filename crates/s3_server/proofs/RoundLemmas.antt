-- Rounds that follow one another have one history, and tell how many entries there are so far.
use Rattle.std.proofs.Common.{◌≡◌, ◌+◌, ◌-◌, ◌≤◌, ℕ, List, [], ◌∷◌, ◌++◌, map, append_assoc, Option, Result, Ok, Err, length, ap, ◌∙◌, refl, sym, subst, arith, append-nil}
use Rattle.std.proofs.KnownBytes.{Appends-trans}
use Rattle.std.proofs.lemmas.Grind.{flat_map-append}
use Rattle.std.proofs.lemmas.List.{length-append, length-map, map-append}
use Rattle.std.specs.Prelude.{IfOk, OnErr, flat_map}
use Rattle.std.specs.Io.{StartsWith}
use Rattle.std.specs.Io.KnownBytes.{Appends}
use Rattle.std.specs.List.{AllByRecursion}
use Rattle.s3_config.specs.Settings.{Settings}
use Rattle.s3_machine.specs.History.{Entry, Legal, after}
use Rattle.s3_machine.specs.Rules.{rules_of}
use Rattle.s3_machine.specs.Step.{State}
use Rattle.s3_machine.specs.declared.rules.Rules.{Rules}
use Rattle.s3_store.specs.Steps.{Standing}
use Rattle.s3_journal.specs.RecordedStore.{Journal}
use Rattle.s3_journal.specs.Recorded.{Recorded, history_of}
use Rattle.s3_sockets.specs.Door.{Passed}
use Rattle.s3_sockets.specs.Network.{AllAreClosed, NetworkState}
use Rattle.s3_server.specs.Served.{AreCountedInPart, HasWorked, HaveWorked, IsCountedInPart, IsRound, Round, ServerRun, SoManyHaveWorked, counts_of, doors_of, entries_line, entries_lines, entries_of, runs_of}
use Rattle.s3_server.proofs.ToldLemmas.{starts_further, untold}

-- histories that follow each other are one, which leaves what the second one does
abbrev pub Joined : Type 0
Joined = (rules : Rules) (s : State) (n : ℕ) (es fs : List Entry) → Legal rules s n es → Legal rules (after rules s es) (n + length es) fs
    → Legal rules s n (es ++ fs)

abbrev pub Leaves : Type 0
Leaves = (rules : Rules) (s : State) (es fs : List Entry) → after rules s (es ++ fs) ≡ after rules (after rules s es) fs

-- ---- one round more

flat_more : {X A : Type 0} (f : X → List A) (xs : List X) (x : X) → flat_map f (xs ++ x ∷ []) ≡ flat_map f xs ++ f x
flat_more f xs x = flat_map-append f xs (x ∷ []) ∙ ap (λ l. flat_map f xs ++ l) (append-nil (f x))

each_more : {X : Type 0} (P : X → Type 0) (xs : List X) (x : X) → AllByRecursion P xs → P x → AllByRecursion P (xs ++ x ∷ [])
each_more P [] x all is = (is, tt)
each_more P (first ∷ xs) x all is = (all.0, each_more P xs x all.1 is)

-- the line of the entries so far stands behind those of the rounds before
lines_more : (earlier : ℕ) (rounds : List Round) (count : ℕ)
    → entries_lines earlier (counts_of rounds ++ count ∷ []) ≡ entries_lines earlier (counts_of rounds) ++ entries_line (earlier + (length (entries_of rounds) + count))
lines_more earlier [] count = append-nil (entries_line (earlier + count)) ∙ ap entries_line (omega arith)
lines_more earlier (round ∷ rounds) count =
    let so_far = earlier + length round.run.history in
    let len = length-append round.run.history (entries_of rounds) in
    let same : so_far + (length (entries_of rounds) + count) ≡ earlier + (length (round.run.history ++ entries_of rounds) + count) = omega (arith, len) in
    ap (λ (lines : List ℕ). entries_line so_far ++ lines) (lines_more so_far rounds count)
    ∙ ap (λ (n : ℕ). entries_line so_far ++ (entries_lines so_far (counts_of rounds) ++ entries_line n)) same
    ∙ sym (append_assoc (entries_line so_far) (entries_lines so_far (counts_of rounds)) (entries_line (earlier + (length (round.run.history ++ entries_of rounds) + count))))

-- no round has
pub have_none : (settings : Settings) (base : Standing) (workers : ℕ) (network : NetworkState) (earlier : List ServerRun) (held : Option (List ℕ))
    → HaveWorked settings base workers network network earlier earlier held held [] base
have_none settings base workers network earlier held = record {
  passed = sym (append-nil network.closed);
  asked = refl;
  reported = sym (append-nil earlier);
  each = tt;
  legal = tt;
  leaves = refl;
  counts = omega arith;
  told = untold held;
}

-- the history of the rounds and that of one more
joined_more : Joined → (rules : Rules) (base store : Standing) (entries : List Recorded) (left : Journal) → Legal rules base.state base.number (history_of entries)
    → after rules base.state (history_of entries) ≡ store.state → store.number ≡ base.number + length entries → left.rules ≡ rules → left.opening ≡ store
    → Legal left.rules left.opening.state left.opening.number (history_of left.entries)
    → Legal rules base.state base.number (history_of (entries ++ left.entries))
joined_more joined rules base store entries left legal leaves counts same from next =
    let under : Legal rules left.opening.state left.opening.number (history_of left.entries) =
    subst (λ (r : Rules). Legal r left.opening.state left.opening.number (history_of left.entries)) same next in
    let here : Legal rules store.state store.number (history_of left.entries) =
    subst (λ (s : Standing). Legal rules s.state s.number (history_of left.entries)) from under in
    let len : length (history_of entries) ≡ length entries = length-map entries (λ (r : Recorded). r.entry) in
    let number : store.number ≡ base.number + length (history_of entries) = omega (arith, counts, len) in
    let after_all : Legal rules (after rules base.state (history_of entries)) store.number (history_of left.entries) =
    subst (λ (s : State). Legal rules s store.number (history_of left.entries)) (sym leaves) here in
    subst (Legal rules base.state base.number) (sym (map-append (λ (r : Recorded). r.entry) entries left.entries))
    (joined rules base.state base.number (history_of entries) (history_of left.entries) legal
    (subst (λ (n : ℕ). Legal rules (after rules base.state (history_of entries)) n (history_of left.entries)) number after_all))

leaves_more : Leaves → (rules : Rules) (base store : Standing) (entries : List Recorded) (left : Journal)
    → after rules base.state (history_of entries) ≡ store.state → left.rules ≡ rules → left.opening ≡ store
    → after left.rules left.opening.state (history_of left.entries) ≡ left.store.state
    → after rules base.state (history_of (entries ++ left.entries)) ≡ left.store.state
leaves_more leave rules base store entries left leaves same from next =
    let here : after rules store.state (history_of left.entries) ≡ left.store.state =
    subst (λ (s : Standing). after rules s.state (history_of left.entries) ≡ left.store.state) from
    (subst (λ (r : Rules). after r left.opening.state (history_of left.entries) ≡ left.store.state) same next) in
    ap (after rules base.state) (map-append (λ (r : Recorded). r.entry) entries left.entries)
    ∙ leave rules base.state (history_of entries) (history_of left.entries)
    ∙ ap (λ (s : State). after rules s (history_of left.entries)) leaves ∙ here

-- one more has
pub have_more : Joined → Leaves → (settings : Settings) (base store : Standing) (workers first : ℕ) (old mid new : NetworkState) (earlier between later : List ServerRun)
    (held holding holds : Option (List ℕ)) (rounds : List Round) (left : Journal) → first ≡ base.number
    → HaveWorked settings base workers old mid earlier between held holding rounds store → (worked : HasWorked settings store workers mid new between later left)
    → Appends holding holds (entries_line (left.store.number - first))
    → HaveWorked settings base workers old new earlier later held holds (rounds ++ worked.round ∷ []) left.store
have_more joined leave settings base store workers first old mid new earlier between later held holding holds rounds left is have worked told =
    let round = worked.round in
    let rules = rules_of settings in
    let entries = entries_of rounds in
    let all : entries_of (rounds ++ round ∷ []) ≡ entries ++ left.entries =
    flat_more (λ (r : Round). r.run.history) rounds round ∙ ap (λ (es : List Recorded). entries ++ es) (sym worked.entries) in
    let start : left.opening.number ≡ store.number = ap (λ (s : Standing). s.number) worked.from in
    let number = worked.keeps.counts in
    let before = have.counts in
    let len = length-append entries left.entries in
    let count : length left.entries ≡ length round.run.history = ap length worked.entries in
    let total : left.store.number ≡ base.number + length (entries ++ left.entries) = omega (arith, start, number, before, len) in
    let since : left.store.number - first ≡ 0 + (length entries + length round.run.history) = omega (arith, start, number, before, count, is) in
    let lines : entries_lines 0 (counts_of rounds) ++ entries_line (left.store.number - first) ≡ entries_lines 0 (counts_of (rounds ++ round ∷ [])) =
    ap (λ (n : ℕ). entries_lines 0 (counts_of rounds) ++ entries_line n) since ∙ sym (lines_more 0 rounds (length round.run.history))
    ∙ ap (entries_lines 0) (sym (map-append (λ (r : Round). length r.run.history) rounds (round ∷ []))) in
    record {
      passed = worked.passed ∙ ap (λ (ps : List Passed). ps ++ round.doors) have.passed ∙ append_assoc old.closed (doors_of rounds) round.doors
          ∙ ap (λ (ps : List Passed). old.closed ++ ps) (sym (flat_more (λ (r : Round). r.doors) rounds round));
      asked = worked.asked ∙ have.asked;
      reported = worked.reported ∙ ap (λ (rs : List ServerRun). rs ++ round.run ∷ []) have.reported ∙ append_assoc earlier (runs_of rounds) (round.run ∷ [])
          ∙ ap (λ (rs : List ServerRun). earlier ++ rs) (sym (map-append (λ (r : Round). r.run) rounds (round ∷ [])));
      each = each_more (IsRound settings workers) rounds round have.each worked.is;
      legal = subst (λ (es : List Recorded). Legal rules base.state base.number (history_of es)) (sym all)
          (joined_more joined rules base store entries left have.legal have.leaves have.counts worked.rules worked.from worked.keeps.legal);
      leaves = ap (λ (es : List Recorded). after rules base.state (history_of es)) all
          ∙ leaves_more leave rules base store entries left have.leaves worked.rules worked.from worked.keeps.leaves;
      counts = total ∙ ap (λ (es : List Recorded). base.number + length es) (sym all);
      told = subst (Appends held holds) lines
          (Appends-trans held holding holds (entries_lines 0 (counts_of rounds)) (entries_line (left.store.number - first)) have.told told);
    }

-- the first has
pub first_has : Joined → Leaves → (settings : Settings) (base : Standing) (workers first : ℕ) (old new : NetworkState) (earlier later : List ServerRun) (held holds : Option (List ℕ))
    (left : Journal) → first ≡ base.number → HasWorked settings base workers old new earlier later left → Appends held holds (entries_line (left.store.number - first))
    → SoManyHaveWorked 1 settings base workers old new earlier later held holds left
first_has joined leave settings base workers first old new earlier later held holds left is worked told = (
  worked.round ∷ [],
  refl,
  have_more joined leave settings base base workers first old old new earlier earlier later held held holds [] left is
      (have_none settings base workers old earlier held) worked told,
  worked.closed,
  worked.rules,
)

-- one more has than so many
pub next_has : Joined → Leaves → (settings : Settings) (base : Standing) (workers first many : ℕ) (old mid new : NetworkState) (earlier between later : List ServerRun)
    (held holding holds : Option (List ℕ)) (before left : Journal) → first ≡ base.number
    → SoManyHaveWorked many settings base workers old mid earlier between held holding before → HasWorked settings before.store workers mid new between later left
    → Appends holding holds (entries_line (left.store.number - first))
    → SoManyHaveWorked (many + 1) settings base workers old new earlier later held holds left
next_has joined leave settings base workers first many old mid new earlier between later held holding holds before left is (rounds, len, have, closed, rules) worked told =
    let longer = length-append rounds (worked.round ∷ []) in (
      rounds ++ worked.round ∷ [],
      omega (arith, len, longer),
      have_more joined leave settings base before.store workers first old mid new earlier between later held holding holds rounds left is have worked told,
      worked.closed,
      worked.rules,
    )

-- ---- where a round fails

-- the first
pub first_begun : {T E : Type 0} (r : Result T E) (first least most : ℕ) (held holds : Option (List ℕ)) → 1 ≤ most → IsCountedInPart first least held holds
    → OnErr r (AreCountedInPart most held holds)
first_begun (Ok x) first least most held holds one part = tt
first_begun (Err e) first least most held holds one (number, low, part) =
    let count = number - first in
    let lines : entries_lines 0 (count ∷ []) ≡ entries_line count = append-nil (entries_line (0 + count)) ∙ ap entries_line (omega arith) in (
      count ∷ [],
      one,
      record { taken = part.taken; first = subst (λ (line : List ℕ). StartsWith line part.taken) (sym lines) part.first; gained = part.gained },
    )

-- one behind so many
pub next_begun : {T E : Type 0} (r : Result T E) (settings : Settings) (base : Standing) (workers first many most : ℕ) (old mid : NetworkState) (earlier between : List ServerRun)
    (held holding holds : Option (List ℕ)) (before : Journal) → first ≡ base.number → many + 1 ≤ most
    → SoManyHaveWorked many settings base workers old mid earlier between held holding before → IsCountedInPart first before.store.number holding holds
    → OnErr r (AreCountedInPart most held holds)
next_begun (Ok x) settings base workers first many most old mid earlier between held holding holds before is few have part = tt
next_begun (Err e) settings base workers first many most old mid earlier between held holding holds before is few (rounds, len, have, closed, rules) (number, low, part) =
    let so_far = length (entries_of rounds) in
    let count = number - first - so_far in
    let counts = have.counts in
    let told = entries_lines 0 (counts_of rounds) in
    let since : 0 + (so_far + count) ≡ number - first = omega (arith, counts, low, is) in
    let lines : entries_lines 0 (counts_of rounds ++ count ∷ []) ≡ told ++ entries_line (number - first) =
    lines_more 0 rounds count ∙ ap (λ (n : ℕ). told ++ entries_line n) since in
    let longer = length-append (counts_of rounds) (count ∷ []) in
    let each = length-map rounds (λ (r : Round). length r.run.history) in (
      counts_of rounds ++ count ∷ [],
      omega (arith, len, longer, each, few),
      record {
        taken = told ++ part.taken;
        first = subst (λ (line : List ℕ). StartsWith line (told ++ part.taken)) (sym lines) (starts_further told (entries_line (number - first)) part.taken part.first);
        gained = Appends-trans held holding holds told part.taken have.told part.gained;
      },
    )

-- ---- a round, by parts

-- what is left is handed on
pub worked_still : {E : Type 0} (r : Result Journal E) (settings : Settings) (base : Standing) (workers : ℕ) (before after : NetworkState) (earlier later : List ServerRun) (left : Journal)
    → IfOk r (λ store. store ≡ left) → HasWorked settings base workers before after earlier later left → IfOk r (HasWorked settings base workers before after earlier later)
worked_still (Ok store) settings base workers before after earlier later left same worked = subst (HasWorked settings base workers before after earlier later) (sym same) worked
worked_still (Err e) settings base workers before after earlier later left same worked = tt

-- with another reason why there is none
pub worked_or : {E F : Type 0} (before : Result Journal E) (r : Result Journal F) (settings : Settings) (base : Standing) (workers : ℕ) (old new : NetworkState) (earlier later : List ServerRun)
    → IfOk before (HasWorked settings base workers old new earlier later) → IfOk r (λ store. before ≡ Ok store) → IfOk r (HasWorked settings base workers old new earlier later)
worked_or {E = E} before (Ok store) settings base workers old new earlier later worked same =
    subst (λ (b : Result Journal E). IfOk b (HasWorked settings base workers old new earlier later)) same worked
worked_or before (Err e) settings base workers old new earlier later worked same = tt

-- doors were opened before it, over the store that was left
pub worked_from : {E : Type 0} (r : Result Journal E) (settings : Settings) (base store : Standing) (workers : ℕ) (old mid new : NetworkState) (earlier later : List ServerRun)
    → store ≡ base → mid.asked ≡ old.asked → mid.closed ≡ old.closed → IfOk r (HasWorked settings store workers mid new earlier later)
    → IfOk r (HasWorked settings base workers old new earlier later)
worked_from (Ok left) settings base store workers old mid new earlier later same asked closed worked = record {
  round = worked.round;
  is = worked.is;
  passed = worked.passed ∙ ap (λ (ps : List Passed). ps ++ worked.round.doors) closed;
  closed = worked.closed;
  asked = worked.asked ∙ asked;
  reported = worked.reported;
  rules = worked.rules;
  from = worked.from ∙ same;
  keeps = worked.keeps;
  entries = worked.entries;
}
worked_from (Err e) settings base store workers old mid new earlier later same asked closed worked = tt
