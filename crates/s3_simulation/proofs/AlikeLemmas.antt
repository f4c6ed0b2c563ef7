-- Events that are alike: a piece cut in two, and events of different connections that change places.
use Rattle.std.proofs.Common.{◌≡◌, ◌≢◌, ℕ, Bool, true, false, cond, eqb, ◌&&◌, List, [], ◌∷◌, ◌++◌, refl, sym, ap, ◌∙◌, append-nil, append_assoc, inl, inr}
use Rattle.std.specs.Global.{Vec}
use Rattle.std.proofs.lemmas.Bool.{cases_Bool}
use Rattle.std.proofs.lemmas.Bool.Decides.{eqb_tells}
use Rattle.s3_events.specs.declared.event.Event.{Event}
use Rattle.s3_events.specs.declared.event.Event.TheVariants as events
use Rattle.s3_events.specs.Script.{connection_of_event}
use Rattle.s3_connection.specs.Connection.{received as heard_piece}
use Rattle.s3_connection.specs.Output.{Input}
use Rattle.s3_simulation.specs.Events.{TurnAt, received, turn_given, turns_given, turns_given_after}
use Rattle.s3_simulation.specs.Laws.{AreAlike}
use Rattle.s3_simulation.specs.Alike.{CutsAreAlike, MovesAreAlike, is_turn}
use Rattle.s3_simulation.proofs.EventLemmas.{heard_by, received_more, received_others}

-- they bring the same to each connection
abbrev BringSame : List Event → List Event → Type 0
BringSame xs ys = (c : ℕ) → received c xs ≡ received c ys

same_more : (c : ℕ) (xs ys : List Event) (e : Event) → received c xs ≡ received c ys → received c (xs ++ e ∷ []) ≡ received c (ys ++ e ∷ [])
same_more c xs ys e same = received_more c xs e ∙ ap (heard_by c e) same ∙ sym (received_more c ys e)

same_on : (xs ys es : List Event) → BringSame xs ys → BringSame (xs ++ es) (ys ++ es)
same_on xs ys [] same = λ c. ap (received c) (append-nil xs) ∙ same c ∙ ap (received c) (sym (append-nil ys))
same_on xs ys (e ∷ es) same = λ c.
    ap (received c) (sym (append_assoc xs (e ∷ []) es))
    ∙ same_on (xs ++ e ∷ []) (ys ++ e ∷ []) es (λ d. same_more d xs ys e (same d)) c
    ∙ ap (received c) (append_assoc ys (e ∷ []) es)

turn_same : (xs ys : List Event) (e : Event) → BringSame xs ys → turn_given xs e ≡ turn_given ys e
turn_same xs ys (events.Turn c) same = ap (λ (i : Input). record { connection = c; input = i } ∷ []) (same c)
turn_same xs ys _ same = refl

turns_same : (xs ys es : List Event) → BringSame xs ys → turns_given_after xs es ≡ turns_given_after ys es
turns_same xs ys [] same = refl
turns_same xs ys (e ∷ es) same =
    ap (λ (ts : List TurnAt). ts ++ turns_given_after (xs ++ e ∷ []) es) (turn_same xs ys e same)
    ∙ ap (λ (ts : List TurnAt). turn_given ys e ++ ts) (turns_same (xs ++ e ∷ []) (ys ++ e ∷ []) es (λ c. same_more c xs ys e (same c)))

turns_parted : (before xs ys : List Event) → turns_given_after before (xs ++ ys) ≡ turns_given_after before xs ++ turns_given_after (before ++ xs) ys
turns_parted before [] ys = ap (λ (b : List Event). turns_given_after b ys) (sym (append-nil before))
turns_parted before (x ∷ xs) ys =
    ap (λ (ts : List TurnAt). turn_given before x ++ ts)
    (turns_parted (before ++ x ∷ []) xs ys ∙ ap (λ (b : List Event). turns_given_after (before ++ x ∷ []) xs ++ turns_given_after b ys) (append_assoc before (x ∷ []) xs))
    ∙ sym (append_assoc (turn_given before x) (turns_given_after (before ++ x ∷ []) xs) (turns_given_after (before ++ x ∷ xs) ys))

-- where some events in the middle give the same turns and bring the same, all is alike
alike_by : (before xs ys later : List Event) → turns_given_after before xs ≡ turns_given_after before ys → BringSame (before ++ xs) (before ++ ys)
    → AreAlike (before ++ (xs ++ later)) (before ++ (ys ++ later))
alike_by before xs ys later turns same = record {
  turns =
      turns_parted [] before (xs ++ later)
      ∙ ap (λ (ts : List TurnAt). turns_given before ++ ts)
      (turns_parted before xs later
      ∙ ap (λ (ts : List TurnAt). ts ++ turns_given_after (before ++ xs) later) turns
      ∙ ap (λ (ts : List TurnAt). turns_given_after before ys ++ ts) (turns_same (before ++ xs) (before ++ ys) later same)
      ∙ sym (turns_parted before ys later))
      ∙ sym (turns_parted [] before (ys ++ later));
  inputs = λ c.
      ap (received c) (sym (append_assoc before xs later))
      ∙ same_on (before ++ xs) (before ++ ys) later same c
      ∙ ap (received c) (append_assoc before ys later);
}

-- ---- a piece that is cut

cut_heard : (bytes : List ℕ) (ended : Bool) (whole first second : List ℕ) → whole ≡ first ++ second
    → heard_piece (record { bytes = bytes; ended = ended }) whole ≡ heard_piece (heard_piece (record { bytes = bytes; ended = ended }) first) second
cut_heard bytes true whole first second cut = refl
cut_heard bytes false whole first second cut =
    ap (λ (b : List ℕ). record { bytes = bytes ++ b; ended = false }) cut
    ∙ ap (λ (b : List ℕ). record { bytes = b; ended = false }) (sym (append_assoc bytes first second))

cut_for : (mine : Bool) (input : Input) (whole first second : List ℕ) → whole ≡ first ++ second
    → cond mine (heard_piece input whole) input
    ≡ cond mine (heard_piece (cond mine (heard_piece input first) input) second) (cond mine (heard_piece input first) input)
cut_for true input whole first second cut = cut_heard input.bytes input.ended whole first second cut
cut_for false input whole first second cut = refl

cut_same : (before : List Event) (k : ℕ) (whole first second : Vec ℕ) → whole.items ≡ first.items ++ second.items
    → BringSame (before ++ events.Piece k whole ∷ []) (before ++ events.Piece k first ∷ events.Piece k second ∷ [])
cut_same before k whole first second cut c =
    let one = events.Piece k first in
    let two = events.Piece k second in
    received_more c before (events.Piece k whole)
    ∙ cut_for (eqb k c) (received c before) whole.items first.items second.items cut
    ∙ sym (ap (received c) (sym (append_assoc before (one ∷ []) (two ∷ []))) ∙ received_more c (before ++ one ∷ []) two ∙ ap (heard_by c two) (received_more c before one))

pub cuts_are_alike : CutsAreAlike
cuts_are_alike before later k whole first second cut =
    alike_by before (events.Piece k whole ∷ []) (events.Piece k first ∷ events.Piece k second ∷ []) later refl (cut_same before k whole first second cut)

-- ---- events that change places

-- one of two different events is another's
moved_for : (c : ℕ) (before : List Event) (x y : Event) → connection_of_event x ≢ c → received c (before ++ x ∷ y ∷ []) ≡ received c (before ++ y ∷ x ∷ [])
moved_for c before x y other =
    ap (received c) (sym (append_assoc before (x ∷ []) (y ∷ [])))
    ∙ same_more c (before ++ x ∷ []) before y (received_others c before x other)
    ∙ sym (received_others c (before ++ y ∷ []) x other)
    ∙ ap (received c) (append_assoc before (y ∷ []) (x ∷ []))

moved_same : (before : List Event) (x y : Event) → connection_of_event x ≢ connection_of_event y → BringSame (before ++ x ∷ y ∷ []) (before ++ y ∷ x ∷ [])
moved_same before x y apart c = elim (eqb_tells (connection_of_event x) c) [
  | inl same ↦ sym (moved_for c before y x (λ here. apart (same.1 ∙ sym here)))
  | inr differs ↦ moved_for c before x y differs.1
]

turn_kept : (before : List Event) (x y : Event) → connection_of_event x ≢ connection_of_event y → turn_given (before ++ x ∷ []) y ≡ turn_given before y
turn_kept before x (events.Turn k) apart = ap (λ (i : Input). record { connection = k; input = i } ∷ []) (received_others k before x apart)
turn_kept before x _ apart = refl

no_turn : (before : List Event) (e : Event) → is_turn e ≡ false → turn_given before e ≡ []
no_turn before (events.Turn k) none = absurd cc
no_turn before _ none = refl

-- where the first is none, the turns are those of the second
turns_moved : (before : List Event) (x y : Event) → connection_of_event x ≢ connection_of_event y → is_turn x ≡ false
    → turns_given_after before (x ∷ y ∷ []) ≡ turns_given_after before (y ∷ x ∷ [])
turns_moved before x y apart none =
    ap (λ (ts : List TurnAt). ts ++ (turn_given (before ++ x ∷ []) y ++ [])) (no_turn before x none)
    ∙ ap (λ (ts : List TurnAt). ts ++ []) (turn_kept before x y apart)
    ∙ ap (λ (ts : List TurnAt). turn_given before y ++ (ts ++ [])) (sym (no_turn (before ++ y ∷ []) x none))

other_none : (a b : Bool) → (a && b) ≡ false → a ≡ true → b ≡ false
other_none true b none is = none
other_none false b none is = absurd cc

pub moves_are_alike : MovesAreAlike
moves_are_alike before later x y apart one =
    alike_by before (x ∷ y ∷ []) (y ∷ x ∷ []) later
    (elim (cases_Bool (is_turn x)) [
      | inl turn ↦ sym (turns_moved before y x (λ same. apart (sym same)) (other_none (is_turn x) (is_turn y) one turn))
      | inr none ↦ turns_moved before x y apart none
    ])
    (moved_same before x y apart)
