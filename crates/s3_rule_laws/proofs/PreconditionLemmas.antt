-- The standard's order of preconditions, and their dates.
use Rattle.std.proofs.Common.{◌≡◌, ◌↔◌, refl, sym, ap, subst, ◌∙◌, ℕ, ◌≤◌, Bool, true, false, not, if◌then◌else◌, ⊎_elim, List, Option, Some, None, Result, Ok, Err, IsOk, arith, nat_lt}
use Rattle.std.specs.Prelude.{nat_le}
use Rattle.std.proofs.lemmas.Bool.{cases_lt, cond-true, false≢true, lt-ltb, le-ltb, lt-leb, le-leb, leb-true, ltb-false}
use Rattle.s3_terms.specs.Fault.{refuse, ◌>>◌}
use Rattle.s3_terms.specs.declared.code.Code.{Code}
use Rattle.s3_terms.specs.declared.code.Code.TheVariants.{PreconditionFailed}
use Rattle.s3_conditions.specs.Conditions.{judged, unmet, unchanged, selected, by_tags_or_date, is_later, is_not_later}
use Rattle.s3_conditions.specs.Tags.{matches}
use Rattle.s3_conditions.specs.declared.conditions.Conditions.{Conditions}
use Rattle.s3_conditions.specs.declared.conditions.Selection.{Selection}
use Rattle.s3_conditions.specs.declared.conditions.Selection.TheVariants.{Whole, Unchanged}
use Rattle.s3_rule_laws.specs.Preconditions.{without_first, IfMatchDecides, UnmodifiedSinceDecides, IfNoneMatchDecides, ModifiedSinceDecides, RangeDecides, SameSecondIsMet, SameSecondIsUnchanged, LaterDatesAreMet, LaterDatesAreUnchanged, DatesAreOpposite}

abbrev refused_or : Bool → Selection → Result Selection Code
refused_or fault shown = refuse fault PreconditionFailed >> Ok shown

abbrev unchanged_or : Bool → Selection → Result Selection Code
unchanged_or same shown = Ok (if same then Unchanged else shown)

later_is : (a b : ℕ) → nat_lt a b ≡ not (nat_le b a)
later_is a b =
    ⊎_elim
    (λ below. lt-ltb a b below ∙ sym (ap not (lt-leb b a below)))
    (λ above. le-ltb a b above ∙ sym (ap not (le-leb b a above)))
    (cases_lt a b)

-- ---- the order

refused_where : (met : Bool) (shown : Selection) → refused_or (not met) shown ≡ (if met then Ok shown else Err PreconditionFailed)
refused_where true shown = refl
refused_where false shown = refl

unchanged_where : (same : Bool) (shown : Selection) → unchanged_or same shown ≡ (if same then Ok Unchanged else Ok shown)
unchanged_where true shown = refl
unchanged_where false shown = refl

-- what is shown where no precondition refuses
abbrev shown_of : Conditions → ℕ → List ℕ → ℕ → Selection
shown_of asked moment tag size = if unchanged asked moment tag then Unchanged else selected asked.range size

pub if_match_decides : IfMatchDecides
unfolding judged unmet unchanged selected
if_match_decides asked tags moment tag size is =
    ap (λ o. refused_or (by_tags_or_date o (λ tags. not (matches tags tag)) (is_later moment asked.unmodified_since)) (shown_of asked moment tag size)) is
    ∙ refused_where (matches tags tag) (shown_of asked moment tag size)

pub unmodified_since_decides : UnmodifiedSinceDecides
unfolding judged unmet unchanged selected
unmodified_since_decides asked date moment tag size none is =
    ap (λ o. refused_or (by_tags_or_date o (λ tags. not (matches tags tag)) (is_later moment asked.unmodified_since)) (shown_of asked moment tag size)) none
    ∙ ap (λ o. refused_or (is_later moment o) (shown_of asked moment tag size)) is
    ∙ ap (λ b. refused_or b (shown_of asked moment tag size)) (later_is date moment)
    ∙ refused_where (nat_le moment date) (shown_of asked moment tag size)

pub if_none_match_decides : IfNoneMatchDecides
unfolding judged unmet unchanged selected
if_none_match_decides asked tags moment tag size is =
    ap (λ o. unchanged_or (by_tags_or_date o (λ tags. matches tags tag) (is_not_later moment asked.modified_since)) (selected asked.range size)) is
    ∙ unchanged_where (matches tags tag) (selected asked.range size)

pub modified_since_decides : ModifiedSinceDecides
unfolding judged unmet unchanged selected
modified_since_decides asked date moment tag size none is =
    ap (λ o. unchanged_or (by_tags_or_date o (λ tags. matches tags tag) (is_not_later moment asked.modified_since)) (selected asked.range size)) none
    ∙ ap (λ o. unchanged_or (is_not_later moment o) (selected asked.range size)) is
    ∙ unchanged_where (nat_le moment date) (selected asked.range size)

pub range_decides : RangeDecides
unfolding judged unmet unchanged selected
range_decides asked range moment tag size is = ap (λ o. unchanged_or false (selected o size)) is

-- ---- dates

goes_on_by : (fault : Bool) (shown : Selection) → IsOk (refused_or fault shown) → refused_or fault shown ≡ Ok shown
goes_on_by true shown passed = absurd (false≢true passed)
goes_on_by false shown passed = refl

-- what isn't refused goes on behind the first two steps
pub goes_on : (asked : Conditions) (moment : ℕ) (tag : List ℕ) (size : ℕ) → IsOk (judged asked moment tag size)
    → judged asked moment tag size ≡ judged (without_first asked) moment tag size
unfolding judged unmet unchanged selected
goes_on asked moment tag size passed = goes_on_by (unmet asked moment tag) (shown_of asked moment tag size) passed

pub first_passed : (asked : Conditions) (moment : ℕ) (tag : List ℕ) (size : ℕ) → IsOk (judged (without_first asked) moment tag size)
unfolding judged unmet unchanged selected
first_passed asked moment tag size = refl

itself : (n : ℕ) → nat_le n n ≡ true
itself n = le-leb n n (omega arith)

pub same_second_is_met : SameSecondIsMet
same_second_is_met asked moment tag size none is =
    subst IsOk (sym (unmodified_since_decides asked moment moment tag size none is ∙ cond-true _ _ _ (itself moment))) (first_passed asked moment tag size)

pub same_second_is_unchanged : SameSecondIsUnchanged
same_second_is_unchanged asked moment tag size none is passed =
    goes_on asked moment tag size passed ∙ modified_since_decides asked moment moment tag size none is ∙ cond-true _ _ _ (itself moment)

not_refused : (fault : Bool) (shown : Selection) → IsOk (refused_or fault shown) → fault ≡ false
not_refused true shown passed = absurd (false≢true passed)
not_refused false shown passed = refl

later_met : (tags : Option (List ℕ)) (test : List ℕ → Bool) (early late moment : ℕ) (shown : Selection) → early ≤ late
    → IsOk (refused_or (by_tags_or_date tags test (nat_lt early moment)) shown)
    → refused_or (by_tags_or_date tags test (nat_lt late moment)) shown ≡ refused_or (by_tags_or_date tags test (nat_lt early moment)) shown
later_met (Some tags) test early late moment shown order passed = refl
later_met None test early late moment shown order passed =
    let first : nat_lt early moment ≡ false = not_refused (nat_lt early moment) shown passed in
    let below : moment ≤ early = ltb-false early moment first in
    let second : nat_lt late moment ≡ false = le-ltb late moment (omega (arith, below, order)) in
    ap (λ b. refused_or b shown) (second ∙ sym first)

pub later_dates_are_met : LaterDatesAreMet
unfolding judged unmet unchanged selected
later_dates_are_met asked early late moment tag size order passed =
    later_met asked.if_match (λ tags. not (matches tags tag)) early late moment (shown_of asked moment tag size) order passed

either_way : (same : Bool) (shown : Selection) → unchanged_or false shown ≡ Ok Unchanged → unchanged_or same shown ≡ Ok Unchanged
either_way true shown is = refl
either_way false shown is = is

date_unchanged : (b : Bool) (early late moment : ℕ) (shown : Selection) → early ≤ late → nat_le moment early ≡ b
    → unchanged_or b shown ≡ Ok Unchanged → unchanged_or (nat_le moment late) shown ≡ Ok Unchanged
date_unchanged true early late moment shown order known is =
    let below : moment ≤ early = leb-true moment early known in
    ap (λ b. unchanged_or b shown) (le-leb moment late (omega (arith, below, order)))
date_unchanged false early late moment shown order known is = either_way (nat_le moment late) shown is

later_unchanged : (fault : Bool) (tags : Option (List ℕ)) (test : List ℕ → Bool) (early late moment : ℕ) (shown : Selection) → early ≤ late
    → refused_or fault (if by_tags_or_date tags test (nat_le moment early) then Unchanged else shown) ≡ Ok Unchanged
    → refused_or fault (if by_tags_or_date tags test (nat_le moment late) then Unchanged else shown) ≡ Ok Unchanged
later_unchanged true tags test early late moment shown order is = is
later_unchanged false (Some tags) test early late moment shown order is = is
later_unchanged false None test early late moment shown order is =
    date_unchanged (nat_le moment early) early late moment shown order refl is

pub later_dates_are_unchanged : LaterDatesAreUnchanged
unfolding judged unmet unchanged selected
later_dates_are_unchanged asked early late moment tag size order is =
    later_unchanged (unmet asked moment tag) asked.if_none_match (λ tags. matches tags tag) early late moment (selected asked.range size) order is

opposite : (known : Bool) → (refused_or (not known) Whole ≡ Err PreconditionFailed) ↔ (unchanged_or known Whole ≡ Ok Whole)
opposite true = (λ is. cc, λ is. cc)
opposite false = (λ is. refl, λ is. refl)

pub dates_are_opposite : DatesAreOpposite
unfolding judged unmet unchanged selected
dates_are_opposite date moment tag size =
    let of = opposite (nat_le moment date) in
    (λ is. of.0 (sym (ap (λ b. refused_or b Whole) (later_is date moment)) ∙ is), λ is. ap (λ b. refused_or b Whole) (later_is date moment) ∙ of.1 is)
