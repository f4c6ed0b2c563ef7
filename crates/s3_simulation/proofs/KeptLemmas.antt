-- What the events that are kept bring to each connection, and the turns that they give.
use Rattle.std.proofs.Common.{◌≡◌, ◌≤◌, ◌-◌, ℕ, zero, suc, Bool, true, false, cond, eqb, if◌then◌else◌, List, [], ◌∷◌, ◌++◌, length, map, take, refl, sym, ap, subst, ◌∙◌, append-nil, append_assoc, arith, inl, inr}
use Rattle.std.proofs.lemmas.Bool.Decides.{eqb_tells}
use Rattle.std.proofs.lemmas.List.{map-append}
use Rattle.s3_events.specs.declared.event.Event.{Event}
use Rattle.s3_events.specs.declared.event.Event.TheVariants as events
use Rattle.s3_events.specs.Lines.{ATurn, MoreBytes, Said, TheEnd, TheMoments}
use Rattle.s3_events.specs.Script.{said_of_event}
use Rattle.s3_connection.specs.Connection.{nothing_received}
use Rattle.s3_connection.specs.Connection as connections
use Rattle.s3_connection.specs.Output.{Input}
use Rattle.s3_simulation.specs.Events.{TurnAt, brought, received, turn_given, turns_given, turns_given_after}
use Rattle.s3_simulation.specs.Laws.{AreAlike}
use Rattle.s3_simulation.specs.Trimmed.{All, Nothing, Share, UpTo, keeps_end, keeps_turns, kept_after, kept_of, part_kept, piece_of}
use Rattle.s3_simulation.proofs.EventLemmas.{heard_by, heard_ended, heard_on, input_of, received_more, same_either}
use Rattle.s3_simulation.proofs.PartLemmas.{kept_input}

-- ---- what is said of events brings all that they do

-- what a connection has received with what is said
abbrev heard_said : ℕ → Said → Input → Input
heard_said c (MoreBytes k bytes) input = cond (eqb k c) (connections.received input bytes) input
heard_said c (TheEnd k) input = cond (eqb k c) (record { bytes = input.bytes; ended = true }) input
heard_said c (ATurn k) input = input
heard_said c (TheMoments k moments) input = input

abbrev pub hears : ℕ → List Said → Input → Input
hears c [] input = input
hears c (said ∷ more) input = hears c more (heard_said c said input)

-- what it has received then
abbrev pub got : ℕ → List Said → Input
got c said = hears c said nothing_received

hears_append : (c : ℕ) (xs ys : List Said) (input : Input) → hears c (xs ++ ys) input ≡ hears c ys (hears c xs input)
hears_append c [] ys input = refl
hears_append c (x ∷ xs) ys input = hears_append c xs ys (heard_said c x input)

heard_event : (c : ℕ) (e : Event) (input : Input) → heard_by c e input ≡ heard_said c (said_of_event e) input
heard_event c (events.Piece k bytes) input = refl
heard_event c (events.End k) input = refl
heard_event c (events.Turn k) input = same_either (eqb k c) input

hears_events : (c : ℕ) (before es : List Event) → hears c (map said_of_event es) (received c before) ≡ received c (before ++ es)
hears_events c before [] = ap (received c) (sym (append-nil before))
hears_events c before (e ∷ es) =
    ap (hears c (map said_of_event es)) (sym (heard_event c e (received c before)) ∙ sym (received_more c before e))
    ∙ hears_events c (before ++ e ∷ []) es
    ∙ ap (received c) (append_assoc before (e ∷ []) es)

pub received_said : (c : ℕ) (es : List Event) → received c es ≡ got c (map said_of_event es)
received_said c es = sym (hears_events c [] es)

-- the turns that what is said gives
abbrev turn_said : List Said → Said → List TurnAt
turn_said before (ATurn c) = record { connection = c; input = got c before } ∷ []
turn_said before _ = []

abbrev pub turns_said : List Said → List Said → List TurnAt
turns_said before [] = []
turns_said before (said ∷ more) = turn_said before said ++ turns_said (before ++ said ∷ []) more

turn_event : (before : List Event) (e : Event) → turn_given before e ≡ turn_said (map said_of_event before) (said_of_event e)
turn_event before (events.Piece k bytes) = refl
turn_event before (events.End k) = refl
turn_event before (events.Turn k) = ap (λ (i : Input). record { connection = k; input = i } ∷ []) (received_said k before)

turns_events : (before es : List Event) → turns_given_after before es ≡ turns_said (map said_of_event before) (map said_of_event es)
turns_events before [] = refl
turns_events before (e ∷ es) =
    ap (λ (ts : List TurnAt). ts ++ turns_given_after (before ++ e ∷ []) es) (turn_event before e)
    ∙ ap (λ (ts : List TurnAt). turn_said (map said_of_event before) (said_of_event e) ++ ts)
    (turns_events (before ++ e ∷ []) es ∙ ap (λ (b : List Said). turns_said b (map said_of_event es)) (map-append said_of_event before (e ∷ [])))

pub turns_of_said : (es : List Event) → turns_given es ≡ turns_said [] (map said_of_event es)
turns_of_said es = turns_events [] es

pub turns_said_parted : (before xs ys : List Said) → turns_said before (xs ++ ys) ≡ turns_said before xs ++ turns_said (before ++ xs) ys
turns_said_parted before [] ys = ap (λ (b : List Said). turns_said b ys) (sym (append-nil before))
turns_said_parted before (x ∷ xs) ys =
    ap (λ (ts : List TurnAt). turn_said before x ++ ts)
    (turns_said_parted (before ++ x ∷ []) xs ys ∙ ap (λ (b : List Said). turns_said (before ++ x ∷ []) xs ++ turns_said b ys) (append_assoc before (x ∷ []) xs))
    ∙ sym (append_assoc (turn_said before x) (turns_said (before ++ x ∷ []) xs) (turns_said (before ++ x ∷ xs) ys))

-- events of which the same is said are alike
pub said_alike : (xs ys : List Event) → map said_of_event xs ≡ map said_of_event ys → AreAlike xs ys
said_alike xs ys same = record {
  turns = turns_of_said xs ∙ ap (turns_said []) same ∙ sym (turns_of_said ys);
  inputs = λ c. received_said c xs ∙ ap (got c) same ∙ sym (received_said c ys);
}

-- ---- what is received grows

heard_grows : (c : ℕ) (e : Event) (bytes : List ℕ) (ended : Bool)
    → (more : List ℕ) × ((heard_by c e (input_of bytes ended)).bytes ≡ bytes ++ more) × (ended ≡ true → (more ≡ []) × ((heard_by c e (input_of bytes ended)).ended ≡ true))
heard_grows c e bytes true = (
  [],
  ap (λ (i : Input). i.bytes) (heard_ended c e bytes) ∙ sym (append-nil bytes),
  λ is. (refl, ap (λ (i : Input). i.ended) (heard_ended c e bytes)),
)
heard_grows c e bytes false = (brought c e, ap (λ (i : Input). i.bytes) (sym (heard_on c e bytes)), λ is. absurd (cc))

-- behind its end nothing comes
pub received_grows : (c : ℕ) (before es : List Event)
    → (more : List ℕ) × ((received c (before ++ es)).bytes ≡ (received c before).bytes ++ more) × ((received c before).ended ≡ true → (more ≡ []) × ((received c (before ++ es)).ended ≡ true))
received_grows c before [] = (
  [],
  ap (λ (b : List Event). (received c b).bytes) (append-nil before) ∙ sym (append-nil (received c before).bytes),
  λ is. (refl, ap (λ (b : List Event). (received c b).ended) (append-nil before) ∙ is),
)
received_grows c before (e ∷ es) =
    let b = received c before in
    let first = heard_grows c e b.bytes b.ended in
    let rest = received_grows c (before ++ e ∷ []) es in
    let next : (received c (before ++ e ∷ [])).bytes ≡ b.bytes ++ first.0 = ap (λ (i : Input). i.bytes) (received_more c before e) ∙ first.1 in (
      first.0 ++ rest.0,
      ap (λ (b : List Event). (received c b).bytes) (sym (append_assoc before (e ∷ []) es)) ∙ rest.1 ∙ ap (λ (bs : List ℕ). bs ++ rest.0) next ∙ append_assoc b.bytes first.0 rest.0,
      λ is.
          (let ended = first.2 is in
          let none = rest.2 (ap (λ (i : Input). i.ended) (received_more c before e) ∙ ended.1) in
          (ap (λ (ms : List ℕ). ms ++ rest.0) ended.0 ∙ none.0, ap (λ (b : List Event). (received c b).ended) (sym (append_assoc before (e ∷ []) es)) ∙ none.1)),
    )

-- ---- what is kept of one event

take_over : (place : ℕ) (bytes more : List ℕ) → take place (bytes ++ more) ≡ take place bytes ++ take (place - length bytes) more
take_over zero [] more = refl
take_over zero (x ∷ bytes) more = let none : 0 - length (x ∷ bytes) ≡ 0 = omega arith in sym (ap (λ (n : ℕ). take n more) none)
take_over (suc place) [] more = let all : suc place - 0 ≡ suc place = omega arith in sym (ap (λ (n : ℕ). take n more) all)
take_over (suc place) (x ∷ bytes) more =
    let same : suc place - length (x ∷ bytes) ≡ place - length bytes = omega arith in
    ap (λ (bs : List ℕ). x ∷ bs) (take_over place bytes more) ∙ sym (ap (λ (n : ℕ). (x ∷ take place bytes) ++ take n more) same)

nothing_more : (bytes : List ℕ) (ended : Bool) → connections.received (input_of bytes ended) [] ≡ input_of bytes ended
nothing_more bytes true = refl
nothing_more bytes false = ap (λ (b : List ℕ). input_of b false) (append-nil bytes)

hears_piece : (c k : ℕ) (part : List ℕ) (input : Input) → hears c (piece_of k part) input ≡ cond (eqb k c) (connections.received input part) input
hears_piece c k [] input = sym (ap (λ (i : Input). cond (eqb k c) i input) (nothing_more input.bytes input.ended) ∙ same_either (eqb k c) input)
hears_piece c k (byte ∷ part) input = refl

none_left : (place : ℕ) (bytes : List ℕ) → place ≤ length bytes → place - length bytes ≡ 0
none_left place bytes within = omega (arith, within)

kept_piece : (s : Share) (bytes : List ℕ) (ended : Bool) (piece : List ℕ) → ((place : ℕ) → s ≡ UpTo place → ended ≡ true → place ≤ length bytes)
    → connections.received (kept_input s (input_of bytes ended)) (part_kept s (length bytes) piece) ≡ kept_input s (connections.received (input_of bytes ended) piece)
kept_piece Nothing bytes ended piece full = refl
kept_piece All bytes ended piece full = refl
kept_piece (UpTo place) bytes true piece full =
    ap (λ (n : ℕ). input_of (take place bytes ++ take n piece) false) (none_left place bytes (full place refl refl)) ∙ ap (λ (b : List ℕ). input_of b false) (append-nil (take place bytes))
kept_piece (UpTo place) bytes false piece full = ap (λ (b : List ℕ). input_of b false) (sym (take_over place bytes piece))

hears_end : (c k : ℕ) (keeps : Bool) (input : Input)
    → hears c (if keeps then TheEnd k ∷ [] else []) input ≡ cond (eqb k c) (if keeps then (input_of input.bytes true) else input) input
hears_end c k true input = refl
hears_end c k false input = sym (same_either (eqb k c) input)

kept_end : (s : Share) (input : Input) → (if keeps_end s then (input_of (kept_input s input).bytes true) else (kept_input s input)) ≡ kept_input s (input_of input.bytes true)
kept_end Nothing input = refl
kept_end All input = refl
kept_end (UpTo place) input = refl

hears_turn : (c k : ℕ) (keeps : Bool) (input : Input) → hears c (if keeps then ATurn k ∷ [] else []) input ≡ input
hears_turn c k true input = refl
hears_turn c k false input = refl

module _ (share : ℕ → Share) (c : ℕ) (before : List Event)
    (full : (place : ℕ) → share c ≡ UpTo place → (received c before).ended ≡ true → place ≤ length (received c before).bytes) where
  abbrev So : Input
  So = received c before

  kept_own : (k : ℕ) (piece : List ℕ) → k ≡ c
      → connections.received (kept_input (share c) So) (part_kept (share k) (length (received k before).bytes) piece) ≡ kept_input (share c) (connections.received So piece)
  kept_own k piece same =
      ap (λ (j : ℕ). connections.received (kept_input (share c) So) (part_kept (share j) (length (received j before).bytes) piece)) same
      ∙ kept_piece (share c) So.bytes So.ended piece full

  pub kept_step : (e : Event) → hears c (kept_of share before e) (kept_input (share c) So) ≡ kept_input (share c) (heard_by c e So)
  kept_step (events.Piece k v) =
      let part = part_kept (share k) (length (received k before).bytes) v.items in
      hears_piece c k part (kept_input (share c) So)
      ∙ elim (eqb_tells k c) [
        | inl same ↦
            ap (λ (t : Bool). cond t (connections.received (kept_input (share c) So) part) (kept_input (share c) So)) same.0
            ∙ kept_own k v.items same.1
            ∙ sym (ap (λ (t : Bool). kept_input (share c) (cond t (connections.received So v.items) So)) same.0)
        | inr other ↦
            ap (λ (t : Bool). cond t (connections.received (kept_input (share c) So) part) (kept_input (share c) So)) other.0
            ∙ sym (ap (λ (t : Bool). kept_input (share c) (cond t (connections.received So v.items) So)) other.0)
      ]
  kept_step (events.End k) =
      hears_end c k (keeps_end (share k)) (kept_input (share c) So)
      ∙ elim (eqb_tells k c) [
        | inl same ↦
            ap (λ (t : Bool). cond t (if keeps_end (share k) then (input_of (kept_input (share c) So).bytes true) else (kept_input (share c) So)) (kept_input (share c) So)) same.0
            ∙ ap (λ (j : ℕ). if keeps_end (share j) then (input_of (kept_input (share c) So).bytes true) else (kept_input (share c) So)) same.1
            ∙ kept_end (share c) So
            ∙ sym (ap (λ (t : Bool). kept_input (share c) (cond t (input_of So.bytes true) So)) same.0)
        | inr other ↦
            ap (λ (t : Bool). cond t (if keeps_end (share k) then (input_of (kept_input (share c) So).bytes true) else (kept_input (share c) So)) (kept_input (share c) So)) other.0
            ∙ sym (ap (λ (t : Bool). kept_input (share c) (cond t (input_of So.bytes true) So)) other.0)
      ]
  kept_step (events.Turn k) =
      hears_turn c k (keeps_turns (share k)) (kept_input (share c) So) ∙ ap (kept_input (share c)) (sym (same_either (eqb k c) So))

-- ---- what is kept of all

module _ (share : ℕ → Share) (happened : List Event) (full : (c place : ℕ) → share c ≡ UpTo place → place ≤ length (received c happened).bytes) where
  -- what is kept so far has brought its part to each connection
  abbrev pub AreBeside : List Event → List Said → Type 0
  AreBeside before kept = (c : ℕ) → got c kept ≡ kept_input (share c) (received c before)

  full_before : (before es : List Event) → happened ≡ before ++ es → (c place : ℕ) → share c ≡ UpTo place → (received c before).ended ≡ true
      → place ≤ length (received c before).bytes
  full_before before es is c place at ended =
      let grows = received_grows c before es in
      let whole = ap (λ (b : List Event). (received c b).bytes) is ∙ grows.1 ∙ ap (λ (ms : List ℕ). (received c before).bytes ++ ms) (grows.2 ended).0 ∙ append-nil (received c before).bytes in
      subst (λ (b : List ℕ). place ≤ length b) whole (full c place at)

  pub beside_next : (before es : List Event) (e : Event) (kept : List Said) → happened ≡ before ++ e ∷ es → AreBeside before kept
      → AreBeside (before ++ e ∷ []) (kept ++ kept_of share before e)
  beside_next before es e kept is beside c =
      hears_append c kept (kept_of share before e) nothing_received
      ∙ ap (hears c (kept_of share before e)) (beside c)
      ∙ kept_step share c before (full_before before (e ∷ es) is c) e
      ∙ ap (kept_input (share c)) (sym (received_more c before e))

  pub beside_all : (before es : List Event) (kept : List Said) → happened ≡ before ++ es → AreBeside before kept
      → AreBeside happened (kept ++ kept_after share before es)
  beside_all before [] kept is beside c =
      ap (got c) (append-nil kept) ∙ beside c ∙ ap (λ (b : List Event). kept_input (share c) (received c b)) (sym (is ∙ append-nil before))
  beside_all before (e ∷ es) kept is beside c =
      ap (got c) (sym (append_assoc kept (kept_of share before e) (kept_after share (before ++ e ∷ []) es)))
      ∙ beside_all (before ++ e ∷ []) es (kept ++ kept_of share before e) (is ∙ sym (append_assoc before (e ∷ []) es)) (beside_next before es e kept is beside) c

nothing_kept : (s : Share) → nothing_received ≡ kept_input s nothing_received
nothing_kept Nothing = refl
nothing_kept All = refl
nothing_kept (UpTo zero) = refl
nothing_kept (UpTo (suc place)) = refl

pub beside_first : (share : ℕ → Share) (c : ℕ) → got c [] ≡ kept_input (share c) (received c [])
beside_first share c = nothing_kept (share c)
