-- Lines that are read one after another.
use Rattle.std.proofs.Common.{◌≡◌, ℕ, ◌+◌, ◌<◌, ◌≤◌, Bool, true, false, not, ◌&&◌, List, [], ◌∷◌, ◌++◌, length, get_or, take, drop, refl, sym, ◌∙◌, ap, ap₂, subst, arith, inl, inr, Option, Some, None, Result, Ok, Err}
use Rattle.std.specs.Prelude.{IfErr}
use Rattle.std.specs.Result.{IsErrAnd}
use Rattle.std.proofs.lemmas.Bool.{cases_eq}
use Rattle.std.proofs.lemmas.List.{take_more, drop_more, length-drop, append-nil, take-append-drop}
use Rattle.s3_text.specs.Lines.{IsFirstBadLine}
use Rattle.s3_events.specs.declared.script.Script.{Script}
use Rattle.s3_events.specs.declared.error.EventsError.{EventsError}
use Rattle.s3_events.specs.declared.error.EventsError.TheVariants.{OutOfMemory}
use Rattle.s3_events.specs.Lines.{Said, connection, are_moments, line_of, all_said, are_event_lines, AreEventLines}
use Rattle.s3_events.specs.Script.{connections, Has, IsScriptOf, AsksRoom, IsEventsFault}
use Rattle.s3_events.specs.Reading.{is_named, may_follow, Collects}
use Rattle.s3_events.proofs.SaidLemmas.{said_with, right_with_last}

-- the next line of those that are left
pub record IsNext (lines rest : List (List ℕ)) (line : List ℕ) (n : ℕ) : Type 0 where
  pub within : n < length lines
  pub taken : take (n + 1) lines ≡ take n lines ++ line ∷ []
  pub left : drop (n + 1) lines ≡ rest

pub next_line : (lines rest : List (List ℕ)) (line : List ℕ) (n : ℕ) → drop n lines ≡ line ∷ rest → IsNext lines rest line n
next_line lines rest line n is =
    let size : length (drop n lines) ≡ length (line ∷ rest) = ap length is in
    let within : n < length lines = omega (arith, length-drop n lines) in
    let more : get_or lines n [] ∷ drop (n + 1) lines ≡ line ∷ rest = sym (drop_more lines n [] within) ∙ is in
    let here : get_or lines n [] ≡ line = cc in
    record { within = within; taken = take_more lines n [] within ∙ ap (λ (l : List ℕ). take n lines ++ l ∷ []) here; left = cc }

-- lines are right up to it where it may follow
follows : (lines rest : List (List ℕ)) (line : List ℕ) (n : ℕ) (may : Bool) → IsNext lines rest line n → are_event_lines (take n lines) ≡ true → may_follow (all_said (take n lines)) (line_of line) ≡ may → are_event_lines (take (n + 1) lines) ≡ may
follows lines rest line n may next right may_is =
    ap are_event_lines next.taken ∙ right_with_last (take n lines) line ∙ ap₂ (λ (x y : Bool). x && y) right may_is

one_right_more : (lines : List (List ℕ)) (n : ℕ) → ((k : ℕ) → k ≤ n → are_event_lines (take k lines) ≡ true) → are_event_lines (take (n + 1) lines) ≡ true → (k : ℕ) → k ≤ n + 1 → are_event_lines (take k lines) ≡ true
one_right_more lines n right more k le = elim (cases_eq k (n + 1)) [
  | inl last ↦ subst (λ (m : ℕ). are_event_lines (take m lines) ≡ true) (sym last) more
  | inr earlier ↦ right k (omega arith)
]

pub right_more : (lines rest : List (List ℕ)) (line : List ℕ) (n : ℕ) → drop n lines ≡ line ∷ rest → ((k : ℕ) → k ≤ n → are_event_lines (take k lines) ≡ true) → may_follow (all_said (take n lines)) (line_of line) ≡ true → (k : ℕ) → k ≤ n + 1 → are_event_lines (take k lines) ≡ true
right_more lines rest line n is right may =
    one_right_more lines n right (follows lines rest line n true (next_line lines rest line n is) (right n (omega arith)) may)

-- it is the first bad one where it may not
pub first_bad : (lines rest : List (List ℕ)) (line : List ℕ) (n : ℕ) → drop n lines ≡ line ∷ rest → ((k : ℕ) → k ≤ n → are_event_lines (take k lines) ≡ true) → false ≡ may_follow (all_said (take n lines)) (line_of line) → IsFirstBadLine AreEventLines lines (n + 1)
first_bad lines rest line n is right may =
    let wrong = follows lines rest line n false (next_line lines rest line n is) (right n (omega arith)) (sym may) in record {
      bad = λ all. cc (sym wrong ∙ all);
      before = λ k less. right k (omega arith);
    }

-- what is collected with it
unless_named : (b : Bool) → not b ≡ true → b ≡ false
unless_named true h = absurd cc
unless_named false h = refl

pub collected_more : (lines rest : List (List ℕ)) (line : List ℕ) (n : ℕ) (script : Script) (found : Option Said) → drop n lines ≡ line ∷ rest → line_of line ≡ found → may_follow (all_said (take n lines)) (line_of line) ≡ true
    → ((said : Said) → found ≡ Some said → (are_moments said && is_named (connection said) (all_said (take n lines))) ≡ false → Collects (connections (all_said (take n lines) ++ said ∷ [])) script (all_said (take n lines) ++ said ∷ []))
    → Collects (connections (all_said (take (n + 1) lines))) script (all_said (take (n + 1) lines))
collected_more lines rest line n script None is says may collects =
    let never : may_follow (all_said (take n lines)) None ≡ true = subst (λ (o : Option Said). may_follow (all_said (take n lines)) o ≡ true) says may in
    let wrong : false ≡ true = never in absurd cc
collected_more lines rest line n script (Some said) is says may collects =
    let named : not (are_moments said && is_named (connection said) (all_said (take n lines))) ≡ true = subst (λ (o : Option Said). may_follow (all_said (take n lines)) o ≡ true) says may in
    let all : all_said (take (n + 1) lines) ≡ all_said (take n lines) ++ said ∷ [] = ap all_said (next_line lines rest line n is).taken ∙ said_with (take n lines) line said says in
    subst (λ (l : List Said). Collects (connections l) script l) (sym all) (collects said refl (unless_named (are_moments said && is_named (connection said) (all_said (take n lines))) named))

-- where none is left, all make the script
pub none_left : (lines left : List (List ℕ)) (n : ℕ) (script : Script) → drop n lines ≡ left → left ≡ [] → ((k : ℕ) → k ≤ n → are_event_lines (take k lines) ≡ true)
    → Collects (connections (all_said (take n lines))) script (all_said (take n lines)) → IsScriptOf lines script
none_left lines left n script is none right collects =
    let all : take n lines ≡ lines = sym (append-nil (take n lines)) ∙ ap (λ (l : List (List ℕ)). take n lines ++ l) (sym (is ∙ none)) ∙ take-append-drop n lines in
    let has : Has script (all_said (take n lines)) = record { connections = collects.connections; moments = collects.moments; events = collects.events } in
    record { right = subst AreEventLines all (right n (omega arith)); has = subst (λ (l : List (List ℕ)). Has script (all_said l)) all has }

-- where one may follow, the first one is right: memory may run out for it
pub asks_room : {T : Type 0} (r : Result T EventsError) (lines rest : List (List ℕ)) (line : List ℕ) (n : ℕ) → IsErrAnd r (λ error. error ≡ OutOfMemory)
    → drop n lines ≡ line ∷ rest → ((k : ℕ) → k ≤ n → are_event_lines (take k lines) ≡ true) → may_follow (all_said (take n lines)) (line_of line) ≡ true → IfErr r (IsEventsFault lines)
asks_room (Ok x) lines rest line n told is right may = tt
asks_room (Err e) lines rest line n told is right may =
    let next = next_line lines rest line n is in
    let asks : AsksRoom lines = record { some = omega (arith, next.within); right = right_more lines rest line n is right may 1 (omega arith) } in
    subst (IsEventsFault lines) (sym told) asks
