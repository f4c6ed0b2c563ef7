-- What is said by some lines and one more.
use Rattle.std.proofs.Common.{◌≡◌, ℕ, ◌+◌, Bool, true, false, not, ◌&&◌, ◌||◌, ◌==◌, List, [], ◌∷◌, ◌++◌, length, max, refl, sym, ◌∙◌, ap, ap₂, arith, Option, Some, None, is_some, if◌then◌else◌}
use Rattle.std.specs.List.{list_all, list_any}
use Rattle.std.proofs.lemmas.Bool.{and_parts}
use Rattle.std.proofs.lemmas.Bool.Decides.{nat_tests}
use Rattle.std.proofs.lemmas.List.Elements.{filter_map-append}
use Rattle.std.proofs.lemmas.List.Folds.{list_all-append, list_any-append}
use Rattle.s3_events.specs.Lines.{Said, TheMoments, MoreBytes, TheEnd, ATurn, connection, are_moments, is_of, are_moments_of, moments_first, line_of, all_said, are_event_lines}
use Rattle.s3_events.specs.Script.{connections, moments_said, happenings}
use Rattle.s3_events.specs.Reading.{is_full, is_named, may_follow}

or_parts : (p q : Bool) → (p || q) ≡ false → (p ≡ false) × (q ≡ false)
or_parts true q h = absurd cc
or_parts false q h = (refl, h)

-- moments come first where they do without the last and it may follow
shuffled : (before speaks same later named : Bool) → (not (before || ((speaks && same) || false)) && (later && not (speaks && named))) ≡ ((not before && later) && not (speaks && (same || named)))
shuffled true speaks same later named = refl
shuffled false false same true named = refl
shuffled false false same false named = refl
shuffled false true true true named = refl
shuffled false true true false named = refl
shuffled false true false later named = refl

alone_first : (speaks : Bool) → true ≡ (true && not (speaks && false))
alone_first true = refl
alone_first false = refl

first_with_last : (all : List Said) (said : Said) → moments_first (all ++ said ∷ []) ≡ (moments_first all && not (are_moments said && is_named (connection said) all))
first_with_last [] said = alone_first (are_moments said)
first_with_last (first ∷ all) said =
    let any = list_any-append (are_moments_of (connection first)) all (said ∷ []) in
    ap₂ (λ (x y : Bool). not x && y) any (first_with_last all said)
    ∙ shuffled (list_any (are_moments_of (connection first)) all) (are_moments said) (connection first == connection said) (moments_first all) (is_named (connection said) all)

-- all that is said
pub said_with : (lines : List (List ℕ)) (line : List ℕ) (said : Said) → line_of line ≡ Some said → all_said (lines ++ line ∷ []) ≡ all_said lines ++ said ∷ []
said_with lines line said is = rw is at (filter_map-append line_of lines (line ∷ []))

-- lines are right with one more that may follow them
spoiled : (each first rest : Bool) → ((each && false) && rest) ≡ ((each && first) && false)
spoiled true true rest = refl
spoiled true false rest = refl
spoiled false first rest = refl

joined : (each first follows : Bool) → ((each && true) && (first && follows)) ≡ ((each && first) && follows)
joined true first follows = refl
joined false first follows = refl

right_with : (lines : List (List ℕ)) (line : List ℕ) (said : Option Said) → line_of line ≡ said → are_event_lines (lines ++ line ∷ []) ≡ (are_event_lines lines && may_follow (all_said lines) said)
right_with lines line None is =
    let each : list_all (λ l. is_some (line_of l)) (lines ++ line ∷ []) ≡ (list_all (λ l. is_some (line_of l)) lines && false) = rw is at (list_all-append (λ l. is_some (line_of l)) lines (line ∷ [])) in
    ap (λ (b : Bool). b && moments_first (all_said (lines ++ line ∷ []))) each
    ∙ spoiled (list_all (λ l. is_some (line_of l)) lines) (moments_first (all_said lines)) (moments_first (all_said (lines ++ line ∷ [])))
right_with lines line (Some said) is =
    let each : list_all (λ l. is_some (line_of l)) (lines ++ line ∷ []) ≡ (list_all (λ l. is_some (line_of l)) lines && true) = rw is at (list_all-append (λ l. is_some (line_of l)) lines (line ∷ [])) in
    ap₂ (λ (x y : Bool). x && y) each (ap moments_first (said_with lines line said is) ∙ first_with_last (all_said lines) said)
    ∙ joined (list_all (λ l. is_some (line_of l)) lines) (moments_first (all_said lines)) (may_follow (all_said lines) (Some said))

pub right_with_last : (lines : List (List ℕ)) (line : List ℕ) → are_event_lines (lines ++ line ∷ []) ≡ (are_event_lines lines && may_follow (all_said lines) (line_of line))
right_with_last lines line = right_with lines line (line_of line) refl

-- one connection at most more
pub connections_with_last : (all : List Said) (said : Said) → connections (all ++ said ∷ []) ≡ max (connections all) (connection said + 1)
connections_with_last [] said = omega arith
connections_with_last (first ∷ all) said = omega (arith, connections_with_last all said)

-- who is named has moments or something that happens
by_moments : (same others events : Bool) (first : ℕ) (moments rest : List ℕ) → others ≡ (not (length rest == 0) || events) → (same || others) ≡ (not (length ((if same then first ∷ moments else []) ++ rest) == 0) || events)
by_moments true others events first moments rest h =
    let some : not (length (first ∷ moments ++ rest) == 0) ≡ true = grind (arith, nat_tests) in
    sym (ap (λ (b : Bool). b || events) some)
by_moments false others events first moments rest h = h

by_event : (same others some events : Bool) → others ≡ (some || events) → (same || others) ≡ (some || (same || events))
by_event true others true events h = refl
by_event true others false events h = refl
by_event false others some events h = h

pub named_by : (all : List Said) (c : ℕ) → list_all is_full all ≡ true → is_named c all ≡ (not (length (moments_said c all) == 0) || list_any (is_of c) (happenings all))
named_by [] c full = refl
named_by (TheMoments d [] ∷ all) c full =
    let wrong : false ≡ true = full in absurd cc
named_by (TheMoments d (first ∷ moments) ∷ all) c full =
    let others = (and_parts (is_full (TheMoments d (first ∷ moments))) (list_all is_full all) full).1 in
    by_moments (d == c) (is_named c all) (list_any (is_of c) (happenings all)) first moments (moments_said c all) (named_by all c others)
named_by (MoreBytes d bytes ∷ all) c full =
    by_event (d == c) (is_named c all) (not (length (moments_said c all) == 0)) (list_any (is_of c) (happenings all)) (named_by all c full)
named_by (TheEnd d ∷ all) c full =
    by_event (d == c) (is_named c all) (not (length (moments_said c all) == 0)) (list_any (is_of c) (happenings all)) (named_by all c full)
named_by (ATurn d ∷ all) c full =
    by_event (d == c) (is_named c all) (not (length (moments_said c all) == 0)) (list_any (is_of c) (happenings all)) (named_by all c full)

-- of whom nothing is said, no moments are said
pub unnamed : (all : List Said) (c : ℕ) → is_named c all ≡ false → moments_said c all ≡ []
unnamed [] c none = refl
unnamed (TheMoments d moments ∷ all) c none =
    let both = or_parts (d == c) (is_named c all) none in
    rw both.0 (unnamed all c both.1)
unnamed (MoreBytes d bytes ∷ all) c none = unnamed all c (or_parts (d == c) (is_named c all) none).1
unnamed (TheEnd d ∷ all) c none = unnamed all c (or_parts (d == c) (is_named c all) none).1
unnamed (ATurn d ∷ all) c none = unnamed all c (or_parts (d == c) (is_named c all) none).1
