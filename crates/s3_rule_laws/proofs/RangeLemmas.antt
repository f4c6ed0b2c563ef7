-- What a range selects.
use Rattle.std.proofs.Common.{◌≡◌, ◌≢◌, ◌↔◌, ◌⊎◌, inl, inr, refl, sym, ap, subst, ◌∙◌, ℕ, ◌<◌, ◌^◌, Bool, true, false, ◌&&◌, ◌||◌, if◌then◌else◌, List, [], ◌∷◌, length, Option, Some, None, Result, Ok, option_map, arith, nat_lt}
use Rattle.std.specs.Prelude.{◌-◌, ◌==◌, nat_le, min, option_and_then}
use Rattle.std.specs.Char.{is_ascii_digit}
use Rattle.std.specs.List.{list_all}
use Rattle.std.specs.Str.Parse.{AllDigits, digits_value}
use Rattle.std.proofs.lemmas.Bool.{and_parts, cond-false, leb-true}
use Rattle.std.proofs.lemmas.Bool.Decides.{nat_tests}
use Rattle.std.proofs.lemmas.Option.{none-some, same_Some}
use Rattle.std.proofs.lemmas.Str.Parse.{digits_value_short, numerals_by_value, tells_digits}
use Rattle.s3_text.specs.Characters.{hyphen}
use Rattle.s3_text.specs.Cut.{parts_at}
use Rattle.s3_text.specs.Digits.{is_decimal}
use Rattle.s3_text.proofs.DigitLemmas.{decimal_digits}
use Rattle.s3_terms.specs.Fault.{refuse, ◌>>◌}
use Rattle.s3_terms.specs.declared.code.Code.{Code}
use Rattle.s3_terms.specs.declared.code.Code.TheVariants.{PreconditionFailed}
use Rattle.s3_conditions.specs.Conditions.{unmet, unchanged, selected, satisfied, judged}
use Rattle.s3_conditions.specs.Range.{behind_unit, position, in_order, between, range_of_parts, byte_range}
use Rattle.s3_conditions.specs.declared.conditions.Selection.{Selection}
use Rattle.s3_conditions.specs.declared.conditions.Selection.TheVariants.{Whole, Part, Unchanged, Outside}
use Rattle.s3_conditions.specs.declared.range.ByteRange.{ByteRange}
use Rattle.s3_conditions.specs.declared.range.ByteRange.TheVariants.{FromTo, From, Last}
use Rattle.s3_rule_laws.specs.Ranges.{IsRange, RangesAreRead, HasNoByte, OutsideHasNoByte, RangesSelectParts, RangesSelectNothingElse, LongSuffixesAreAll, LongRangesEnd, PreconditionsComeFirst, OutsideIsLast, PartsAreLast}

-- ---- ranges that are read

and_then_some : {A B : Type 0} (f : A → Option B) (o : Option A) (b : B) → option_and_then f o ≡ Some b → (a : A) × (o ≡ Some a) × (f a ≡ Some b)
and_then_some f None b is = absurd (none-some b is)
and_then_some f (Some a) b is = (a, refl, is)

mapped_some : {A B : Type 0} (f : A → B) (o : Option A) (b : B) → option_map f o ≡ Some b → (a : A) × (o ≡ Some a) × (f a ≡ b)
mapped_some f None b is = absurd (none-some b is)
mapped_some f (Some a) b is = (a, refl, same_Some (f a) b is)

chosen : (a b : Bool) (x y z : Option ByteRange) (range : ByteRange) (P : Type 0) → (x ≡ Some range → P) → (y ≡ Some range → P) → (z ≡ Some range → P)
    → (if a then x else (if b then y else z)) ≡ Some range → P
chosen true b x y z range P first second third is = first is
chosen false true x y z range P first second third is = second is
chosen false false x y z range P first second third is = third is

decimal_below : (b : Bool) (text : List ℕ) (n : ℕ) → is_decimal 18 text ≡ b → (if b then Some (digits_value 10 text) else None) ≡ Some n → n < 10 ^ 18
decimal_below true text n digits is =
    let parts = and_parts (nat_le 1 (length text) && nat_le (length text) 18) (list_all is_ascii_digit text) digits in
    let lengths = and_parts (nat_le 1 (length text)) (nat_le (length text) 18) parts.0 in
    let below : digits_value 10 text < 10 ^ 18 =
    digits_value_short (numerals_by_value (AllDigits 10) tells_digits) text 18 (decimal_digits text parts.1) (leb-true (length text) 18 lengths.1) in
    subst (λ m. m < 10 ^ 18) (same_Some (digits_value 10 text) n is) below
decimal_below false text n digits is = absurd (none-some n is)

position_below : (text : List ℕ) (n : ℕ) → position text ≡ Some n → n < 10 ^ 18
position_below text n is = decimal_below (is_decimal 18 text) text n refl is

ordered_range : (b : Bool) (first last : ℕ) (range : ByteRange) → nat_le first last ≡ b → last < 10 ^ 18
    → (if b then Some (FromTo first last) else None) ≡ Some range → IsRange range
ordered_range true first last range order below is = subst IsRange (same_Some (FromTo first last) range is) (leb-true first last order, below)
ordered_range false first last range order below is = absurd (none-some range is)

between_range : (before after : List ℕ) (range : ByteRange) → between before after ≡ Some range → IsRange range
unfolding between
between_range before after range is =
    chosen (length before == 0) (length after == 0) (option_map Last (position after)) (option_map From (position before))
    (option_and_then (λ first. option_and_then (in_order first) (position after)) (position before)) range (IsRange range)
    (λ suffix. let one = mapped_some Last (position after) range suffix in subst IsRange one.2 (position_below after one.0 one.1))
    (λ open_end. let one = mapped_some From (position before) range open_end in subst IsRange one.2 (position_below before one.0 one.1))
    (λ both.
    let first = and_then_some (λ first. option_and_then (in_order first) (position after)) (position before) range both in
    let last = and_then_some (in_order first.0) (position after) range first.2 in
    ordered_range (nat_le first.0 last.0) first.0 last.0 range refl (position_below after last.0 last.1) last.2)
    is

parts_range : (parts : List (List ℕ)) (range : ByteRange) → range_of_parts parts ≡ Some range → IsRange range
parts_range [] range is = absurd (none-some range is)
parts_range (a ∷ []) range is = absurd (none-some range is)
parts_range (before ∷ after ∷ []) range is = between_range before after range is
parts_range (a ∷ b ∷ c ∷ rest) range is = absurd (none-some range is)

pub ranges_are_read : RangesAreRead
unfolding byte_range
ranges_are_read value range is =
    let rest = and_then_some (λ text. range_of_parts (parts_at hyphen text)) (behind_unit value) range is in
    parts_range (parts_at hyphen rest.0) range rest.2

-- ---- what they select

outside_where : (b : Bool) (first last : ℕ) (P : Type 0) → (b ≡ true → P) → (b ≡ false → ¬ P)
    → ((if b then Outside else Part first last) ≡ Outside) ↔ P
outside_where true first last P none some = (λ is. none refl, λ p. refl)
outside_where false first last P none some = (λ is. cc, λ p. absurd (some refl p))

pub outside_has_no_byte : OutsideHasNoByte
outside_has_no_byte (FromTo first last) size =
    outside_where (nat_le size first || nat_lt last first) first (min last (size - 1)) (HasNoByte (FromTo first last) size)
    (λ is position within. grind (arith, nat_tests, within, is))
    (λ is none.
    let inside : first < size = grind (arith, nat_tests, is) in
    let missed = none first inside in
    grind (arith, nat_tests, is, missed))
outside_has_no_byte (From first) size =
    outside_where (nat_le size first) first (size - 1) (HasNoByte (From first) size)
    (λ is position within. grind (arith, nat_tests, within, is))
    (λ is none.
    let inside : first < size = grind (arith, nat_tests, is) in
    let missed = none first inside in
    grind (arith, nat_tests, is, missed))
outside_has_no_byte (Last count) size =
    outside_where (count == 0 || size == 0) (size - count) (size - 1) (HasNoByte (Last count) size)
    (λ is position within. grind (arith, nat_tests, within, is))
    (λ is none.
    let inside : size - 1 < size = grind (arith, nat_tests, is) in
    let missed = none (size - 1) inside in
    grind (arith, nat_tests, is, missed))

part_or_outside : (b : Bool) (first last : ℕ)
    → ((if b then Outside else Part first last) ≡ Outside) ⊎ ((f : ℕ) × (l : ℕ) × ((if b then Outside else Part first last) ≡ Part f l))
part_or_outside true first last = inl refl
part_or_outside false first last = inr (first, last, refl)

pub ranges_select_parts : RangesSelectParts
ranges_select_parts (FromTo first last) size = part_or_outside (nat_le size first || nat_lt last first) first (min last (size - 1))
ranges_select_parts (From first) size = part_or_outside (nat_le size first) first (size - 1)
ranges_select_parts (Last count) size = part_or_outside (count == 0 || size == 0) (size - count) (size - 1)

abbrev is_told : Selection → Bool
is_told Whole = false
is_told (Part first last) = true
is_told Unchanged = false
is_told Outside = true

told_by_range : (range : ByteRange) (size : ℕ) → is_told (satisfied range size) ≡ true
told_by_range range size =
    elim (ranges_select_parts range size) [ inl outside ↦ ap is_told outside | inr part ↦ ap is_told part.2 ]

pub ranges_select_nothing_else : RangesSelectNothingElse
ranges_select_nothing_else range size = (
  λ whole. let same : false ≡ true = sym (ap is_told whole) ∙ told_by_range range size in cc,
  λ unchanged. let same : false ≡ true = sym (ap is_told unchanged) ∙ told_by_range range size in cc,
)

pub long_suffixes_are_all : LongSuffixesAreAll
long_suffixes_are_all count size some long =
    let inside : (count == 0 || size == 0) ≡ false = grind (arith, nat_tests, some, long) in
    let start : size - count ≡ 0 = omega (arith, long) in
    cond-false _ _ _ inside ∙ ap (λ first. Part first (size - 1)) start

ends_alike : (a b : Bool) (first m n : ℕ) → b ≡ false → m ≡ n → (if a || b then Outside else Part first m) ≡ (if a then Outside else Part first n)
ends_alike true b first m n order same = refl
ends_alike false b first m n order same = cond-false _ _ _ order ∙ ap (Part first) same

pub long_ranges_end : LongRangesEnd
long_ranges_end first last size order long =
    let ordered : nat_lt last first ≡ false = grind (arith, nat_tests, order) in
    let end : min last (size - 1) ≡ size - 1 = omega (arith, long) in
    ends_alike (nat_le size first) (nat_lt last first) first (min last (size - 1)) (size - 1) ordered end

-- ---- that they come last

abbrev staged : Bool → Bool → Selection → Result Selection Code
staged fault same shown = refuse fault PreconditionFailed >> Ok (if same then Unchanged else shown)

first_decides : (fault same : Bool) (shown : Selection) → staged fault same Whole ≢ Ok Whole → staged fault same shown ≡ staged fault same Whole
first_decides true same shown decides = refl
first_decides false true shown decides = refl
first_decides false false shown decides = absurd (decides refl)

pub preconditions_come_first : PreconditionsComeFirst
unfolding judged unmet unchanged selected
preconditions_come_first asked moment tag size decides =
    first_decides (unmet asked moment tag) (unchanged asked moment tag) (selected asked.range size) decides

-- of the two that decide, neither did
both_passed : (fault same : Bool) (shown other : Selection) → other ≢ Unchanged → staged fault same shown ≡ Ok other
    → (staged fault same Whole ≡ Ok Whole) × (shown ≡ other)
both_passed true same shown other apart is = cc
both_passed false true shown other apart is = absurd (apart cc)
both_passed false false shown other apart is = (refl, cc)

passed_both : (fault same : Bool) (shown : Selection) → staged fault same Whole ≡ Ok Whole → staged fault same shown ≡ Ok shown
passed_both true same shown passed = cc
passed_both false true shown passed = cc
passed_both false false shown passed = refl

abbrev selects : Option ByteRange → ℕ → Selection → Type 0
selects asked size shown = (range : ByteRange) × (asked ≡ Some range) × (satisfied range size ≡ shown)

selected_by : (asked : Option ByteRange) (size : ℕ) (shown : Selection) → shown ≢ Whole → selected asked size ≡ shown → selects asked size shown
unfolding selected
selected_by None size shown apart is = absurd (apart (sym is))
selected_by (Some range) size shown apart is = (range, refl, is)

by_selected : (asked : Option ByteRange) (size : ℕ) (shown : Selection) → selects asked size shown → selected asked size ≡ shown
unfolding selected
by_selected asked size shown (range, is, shows) = ap (λ o. selected o size) is ∙ shows

last_of : (fault same : Bool) (asked : Option ByteRange) (size : ℕ) (shown : Selection) → shown ≢ Whole → shown ≢ Unchanged
    → (staged fault same (selected asked size) ≡ Ok shown) ↔ ((staged fault same Whole ≡ Ok Whole) × selects asked size shown)
last_of fault same asked size shown all known = (
  λ is. let both = both_passed fault same (selected asked size) shown known is in (both.0, selected_by asked size shown all both.1),
  λ both. passed_both fault same (selected asked size) both.0 ∙ ap Ok (by_selected asked size shown both.1),
)

pub parts_are_last : PartsAreLast
unfolding judged unmet unchanged selected
parts_are_last asked moment tag size first last =
    last_of (unmet asked moment tag) (unchanged asked moment tag) asked.range size (Part first last) (λ is. cc) (λ is. cc)

outside_last : OutsideIsLast
unfolding judged unmet unchanged selected
outside_last asked moment tag size =
    let of = last_of (unmet asked moment tag) (unchanged asked moment tag) asked.range size Outside (λ is. cc) (λ is. cc) in (
      λ is. let both = of.0 is in (both.0, (both.1.0, both.1.1, (outside_has_no_byte both.1.0 size).0 both.1.2)),
      λ both. of.1 (both.0, (both.1.0, both.1.1, (outside_has_no_byte both.1.0 size).1 both.1.2)),
    )

pub outside_is_last : OutsideIsLast
outside_is_last = outside_last
