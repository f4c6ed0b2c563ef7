-- What one more event makes of what connections received, and of the turns that were given.
use Rattle.std.proofs.Common.{◌≡◌, ◌≢◌, ℕ, Bool, true, false, cond, eqb, not, ◌||◌, List, [], ◌∷◌, ◌++◌, refl, sym, ap, ◌∙◌, append-nil, append_assoc, eq-eqb, inl, inr}
use Rattle.std.specs.List.{flat_map, list_any, take_while}
use Rattle.std.proofs.lemmas.Bool.{cases_Bool, or_parts}
use Rattle.std.proofs.lemmas.Bool.Decides.{eqb_tells}
use Rattle.std.proofs.lemmas.List.Sums.{take_while-cons}
use Rattle.std.proofs.lemmas.List.Folds.{list_any-append}
use Rattle.s3_events.specs.declared.event.Event.{Event}
use Rattle.s3_events.specs.declared.event.Event.TheVariants as events
use Rattle.s3_events.specs.Script.{connection_of_event}
use Rattle.s3_connection.specs.Output.{Input}
use Rattle.s3_simulation.specs.Events.{TurnAt, brought, is_end, received, turn_given, turns_given, turns_given_after}
use Rattle.s3_simulation.specs.StandsAfter.{heard}

-- ---- lists: what stands before the first element that passes a test

module _ {X : Type 0} (p : X → Bool) (f : X → List ℕ) where
  abbrev pub gathered : List X → List ℕ
  gathered xs = flat_map f (take_while (λ x. not (p x)) xs)

  kept_first : (b : Bool) (x : X) (xs : List X) → flat_map f (cond (not b) (x ∷ xs) []) ≡ cond b [] (f x ++ flat_map f xs)
  kept_first true x xs = refl
  kept_first false x xs = refl

  gathered_first : (x : X) (xs : List X) → gathered (x ∷ xs) ≡ cond (p x) [] (f x ++ gathered xs)
  gathered_first x xs = ap (flat_map f) (take_while-cons (λ y. not (p y)) x xs) ∙ kept_first (p x) x (take_while (λ y. not (p y)) xs)

  -- one more, where none passed before
  pub gathered_more : (xs : List X) (x : X) → list_any p xs ≡ false → gathered (xs ++ x ∷ []) ≡ gathered xs ++ cond (p x) [] (f x)
  gathered_more [] x none = gathered_first x [] ∙ ap (cond (p x) []) (append-nil (f x))
  gathered_more (y ∷ xs) x none =
      let fails = or_parts (p y) (list_any p xs) none in
      gathered_first y (xs ++ x ∷ [])
      ∙ ap (λ (b : Bool). cond b [] (f y ++ gathered (xs ++ x ∷ []))) fails.0
      ∙ ap (λ (zs : List ℕ). f y ++ zs) (gathered_more xs x fails.1)
      ∙ sym (append_assoc (f y) (gathered xs) (cond (p x) [] (f x)))
      ∙ ap (λ (zs : List ℕ). zs ++ cond (p x) [] (f x)) (sym (gathered_first y xs ∙ ap (λ (b : Bool). cond b [] (f y ++ gathered xs)) fails.0))

  -- one more, where one passed before
  stay_after : (b : Bool) (y : X) (xs ys : List X) → (b || list_any p xs) ≡ true → (list_any p xs ≡ true → gathered ys ≡ gathered xs)
      → cond b [] (f y ++ gathered ys) ≡ cond b [] (f y ++ gathered xs)
  stay_after true y xs ys passed rest = refl
  stay_after false y xs ys passed rest = ap (λ (zs : List ℕ). f y ++ zs) (rest passed)

  pub gathered_stay : (xs ys : List X) → list_any p xs ≡ true → gathered (xs ++ ys) ≡ gathered xs
  gathered_stay [] ys passed = absurd (cc)
  gathered_stay (y ∷ xs) ys passed =
      gathered_first y (xs ++ ys) ∙ stay_after (p y) y xs (xs ++ ys) passed (gathered_stay xs ys) ∙ sym (gathered_first y xs)

-- ---- what a connection received

pub same_either : {A : Type 0} (b : Bool) (x : A) → cond b x x ≡ x
same_either true x = refl
same_either false x = refl

-- an event that ends a connection brings nothing
end_brings : (c : ℕ) (e : Event) → cond (is_end c e) [] (brought c e) ≡ brought c e
end_brings c (events.Piece k bytes) = refl
end_brings c (events.End k) = same_either (eqb k c) []
end_brings c (events.Turn k) = refl

abbrev pub input_of : List ℕ → Bool → Input
input_of bytes ended = record { bytes = bytes; ended = ended }

-- behind its end nothing is received
pub received_ended : (c : ℕ) (before : List Event) (e : Event) → (received c before).ended ≡ true → received c (before ++ e ∷ []) ≡ received c before
received_ended c before e ended =
    ap (λ (b : List ℕ). input_of b (list_any (is_end c) (before ++ e ∷ []))) (gathered_stay (is_end c) (brought c) before (e ∷ []) ended)
    ∙ ap (input_of (received c before).bytes) (list_any-append (is_end c) before (e ∷ []) ∙ ap (λ (b : Bool). b || list_any (is_end c) (e ∷ [])) ended ∙ sym ended)

or_nothing : (b : Bool) → (b || false) ≡ b
or_nothing true = refl
or_nothing false = refl

-- before its end, what an event brings and whether it ends it
pub received_on : (c : ℕ) (before : List Event) (e : Event) → (received c before).ended ≡ false
    → received c (before ++ e ∷ []) ≡ record { bytes = (received c before).bytes ++ brought c e; ended = is_end c e }
received_on c before e on =
    ap (λ (b : List ℕ). input_of b (list_any (is_end c) (before ++ e ∷ []))) (gathered_more (is_end c) (brought c) before e on ∙ ap (λ (b : List ℕ). (received c before).bytes ++ b) (end_brings c e))
    ∙ ap (input_of ((received c before).bytes ++ brought c e))
    (list_any-append (is_end c) before (e ∷ []) ∙ ap (λ (b : Bool). b || list_any (is_end c) (e ∷ [])) on ∙ or_nothing (is_end c e))

-- what a connection has received with an event, its own or another's
abbrev pub heard_by : ℕ → Event → Input → Input
heard_by c e input = cond (eqb (connection_of_event e) c) (heard e input) input

pub heard_ended : (c : ℕ) (e : Event) (bytes : List ℕ) → heard_by c e (input_of bytes true) ≡ input_of bytes true
heard_ended c (events.Piece k piece) bytes = same_either (eqb k c) (input_of bytes true)
heard_ended c (events.End k) bytes = same_either (eqb k c) (input_of bytes true)
heard_ended c (events.Turn k) bytes = same_either (eqb k c) (input_of bytes true)

piece_on : (mine : Bool) (bytes piece : List ℕ)
    → input_of (bytes ++ cond mine piece []) false ≡ cond mine (input_of (bytes ++ piece) false) (input_of bytes false)
piece_on true bytes piece = refl
piece_on false bytes piece = ap (λ (b : List ℕ). input_of b false) (append-nil bytes)

end_on : (mine : Bool) (bytes : List ℕ) → input_of (bytes ++ []) mine ≡ cond mine (input_of bytes true) (input_of bytes false)
end_on true bytes = ap (λ (b : List ℕ). input_of b true) (append-nil bytes)
end_on false bytes = ap (λ (b : List ℕ). input_of b false) (append-nil bytes)

pub heard_on : (c : ℕ) (e : Event) (bytes : List ℕ) → input_of (bytes ++ brought c e) (is_end c e) ≡ heard_by c e (input_of bytes false)
heard_on c (events.Piece k piece) bytes = piece_on (eqb k c) bytes piece.items
heard_on c (events.End k) bytes = end_on (eqb k c) bytes
heard_on c (events.Turn k) bytes = ap (λ (b : List ℕ). input_of b false) (append-nil bytes) ∙ sym (same_either (eqb k c) (input_of bytes false))

-- with one event more
pub received_more : (c : ℕ) (before : List Event) (e : Event) → received c (before ++ e ∷ []) ≡ heard_by c e (received c before)
received_more c before e =
    let so_far = received c before in
    elim (cases_Bool so_far.ended) [
      | inl ended ↦ received_ended c before e ended ∙ ap (input_of so_far.bytes) ended
          ∙ sym (heard_ended c e so_far.bytes) ∙ ap (λ (b : Bool). heard_by c e (input_of so_far.bytes b)) (sym ended)
      | inr on ↦ received_on c before e on ∙ heard_on c e so_far.bytes ∙ ap (λ (b : Bool). heard_by c e (input_of so_far.bytes b)) (sym on)
    ]

pub received_own : (before : List Event) (e : Event)
    → received (connection_of_event e) (before ++ e ∷ []) ≡ heard e (received (connection_of_event e) before)
received_own before e =
    let c = connection_of_event e in
    received_more c before e ∙ ap (λ (b : Bool). cond b (heard e (received c before)) (received c before)) (eq-eqb c c refl)

pub received_others : (c : ℕ) (before : List Event) (e : Event) → connection_of_event e ≢ c → received c (before ++ e ∷ []) ≡ received c before
received_others c before e differ =
    received_more c before e
    ∙ elim (eqb_tells (connection_of_event e) c) [
      | inl same ↦ absurd (differ same.1)
      | inr other ↦ ap (λ (b : Bool). cond b (heard e (received c before)) (received c before)) other.0
    ]

-- ---- turns

turns_after : (before happened : List Event) (e : Event)
    → turns_given_after before (happened ++ e ∷ []) ≡ turns_given_after before happened ++ turn_given (before ++ happened) e
turns_after before [] e = append-nil (turn_given before e) ∙ ap (λ (b : List Event). turn_given b e) (sym (append-nil before))
turns_after before (x ∷ happened) e =
    ap (λ (ts : List TurnAt). turn_given before x ++ ts)
    (turns_after (before ++ x ∷ []) happened e ∙ ap (λ (b : List Event). turns_given_after (before ++ x ∷ []) happened ++ turn_given b e) (append_assoc before (x ∷ []) happened))
    ∙ sym (append_assoc (turn_given before x) (turns_given_after (before ++ x ∷ []) happened) (turn_given (before ++ x ∷ happened) e))

-- the turns with one event more
pub turns_more : (happened : List Event) (e : Event) → turns_given (happened ++ e ∷ []) ≡ turns_given happened ++ turn_given happened e
turns_more happened e = turns_after [] happened e
