-- Lists of entity tags, as readers spell them.
use Rattle.std.proofs.Common.{◌≡◌, ◌≢◌, inl, inr, refl, sym, ap, ap₂, subst, ◌∙◌, ℕ, zero, suc, Bool, true, false, ◌&&◌, ◌||◌, List, [], ◌∷◌, ◌++◌, map as each, reverse, Contains, Option, Some, None, Result, Ok, IsOk, ⊎_elim, arith}
use Rattle.std.specs.Prelude.{◌==◌, codes}
use Rattle.std.specs.Cmp.Lexicographic.{bytes_decides}
use Rattle.std.specs.List.{All, list_all, list_any, onto_first}
use Rattle.std.specs.Str.{bytes_eq}
use Rattle.std.proofs.lemmas.Bool.{and_parts, and_from, and_left, or_cases, or_left, or_right, cond-true, cond-false, false≢true, false_from_ne_true}
use Rattle.std.proofs.lemmas.Bool.Decides.{nat_tests}
use Rattle.std.proofs.lemmas.List.{reverse-append, reverse-reverse}
use Rattle.std.proofs.lemmas.List.Elements.{All-cons, All-head, All-tail, All-append}
use Rattle.std.proofs.lemmas.List.Folds.{list_all-append}
use Rattle.std.proofs.lemmas.List.Splits.{slice_split_none, slice_split_at}
use Rattle.httparse.specs.Grammar.{is_ows, skip_ows, trim_ows}
use Rattle.s3_text.specs.Characters.{comma, double_quote, space}
use Rattle.s3_text.specs.Cut.{parts_at}
use Rattle.s3_terms.specs.declared.code.Code.{Code}
use Rattle.s3_names.specs.Tags.{is_tag_character}
use Rattle.s3_conditions.specs.Conditions.{judged, unmet, unchanged, selected}
use Rattle.s3_conditions.specs.Tags.{skip_quotes, unquoted, without_weakness, tag_in, is_match, matches}
use Rattle.s3_conditions.specs.declared.conditions.Conditions.{Conditions}
use Rattle.s3_conditions.specs.declared.conditions.Selection.{Selection}
use Rattle.s3_conditions.specs.declared.conditions.Selection.TheVariants.{Unchanged}
use Rattle.s3_conditions.specs.declared.range.ByteRange.{ByteRange}
use Rattle.s3_rule_laws.specs.Preconditions.{without_both}
use Rattle.s3_rule_laws.specs.TagLists.{IsTag, Named, spelled, spelled_all, tags_of, ListsNameTags, AnyTagMatches, Names, OwnTagIsMet, OtherTagsAreRefused, OwnTagIsUnchanged, OtherTagsAreShown}
use Rattle.s3_rule_laws.proofs.OrderLemmas.{nothing_held, held_first, held_later}
use Rattle.s3_rule_laws.proofs.RangeLemmas.{ranges_select_nothing_else}
use Rattle.s3_rule_laws.proofs.PreconditionLemmas.{if_match_decides, if_none_match_decides, goes_on, first_passed}

-- ---- characters of tags

no_quote : (b : ℕ) → is_tag_character b ≡ true → (b == double_quote) ≡ false
no_quote b is = grind (arith, nat_tests, is)

no_comma : (b : ℕ) → is_tag_character b ≡ true → (b == comma) ≡ false
no_comma b is = grind (arith, nat_tests, is)

no_star : (b : ℕ) → is_tag_character b ≡ true → (b == 42) ≡ false
no_star b is = grind (arith, nat_tests, is)

not_any : (tag : List ℕ) → IsTag tag → bytes_eq tag (codes "*") ≡ false
not_any [] is = refl
not_any (b ∷ tag) is = and_left (b == 42) (bytes_eq tag []) (no_star b (and_parts (is_tag_character b) (list_all is_tag_character tag) is).0)

-- ---- one item

skip_ows_stays : (b : ℕ) (rest : List ℕ) → is_ows b ≡ false → skip_ows (b ∷ rest) ≡ b ∷ rest
skip_ows_stays b rest is = cond-false _ _ _ is

last_first : (xs : List ℕ) (y : ℕ) → reverse (xs ++ y ∷ []) ≡ y ∷ reverse xs
last_first xs y = reverse-append xs (y ∷ [])

trim_stays : (x : ℕ) (middle : List ℕ) (y : ℕ) → is_ows x ≡ false → is_ows y ≡ false → trim_ows (x ∷ (middle ++ y ∷ [])) ≡ x ∷ (middle ++ y ∷ [])
unfolding trim_ows
trim_stays x middle y start end =
    let whole : List ℕ = x ∷ (middle ++ y ∷ []) in
    let turned : reverse whole ≡ y ∷ reverse (x ∷ middle) = last_first (x ∷ middle) y in
    ap (λ l. reverse (skip_ows (reverse l))) (skip_ows_stays x (middle ++ y ∷ []) start)
    ∙ ap (λ l. reverse (skip_ows l)) turned
    ∙ ap reverse (skip_ows_stays y (reverse (x ∷ middle)) end)
    ∙ ap reverse (sym turned)
    ∙ reverse-reverse whole

all_reversed : (p : ℕ → Bool) (xs : List ℕ) → list_all p xs ≡ true → list_all p (reverse xs) ≡ true
all_reversed p [] all = refl
all_reversed p (x ∷ xs) all =
    let both = and_parts (p x) (list_all p xs) all in
    ap (list_all p) (reverse-append (x ∷ []) xs) ∙ list_all-append p (reverse xs) (x ∷ [])
    ∙ and_from (list_all p (reverse xs)) (p x && true) (all_reversed p xs both.1) (and_from (p x) true both.0 refl)

skip_none : (xs : List ℕ) → list_all is_tag_character xs ≡ true → skip_quotes xs ≡ xs
skip_none [] all = refl
skip_none (b ∷ xs) all = cond-false _ _ _ (no_quote b (and_parts (is_tag_character b) (list_all is_tag_character xs) all).0)

abbrev quoted : List ℕ → List ℕ
quoted tag = double_quote ∷ (tag ++ double_quote ∷ [])

unquoted_tag : (tag : List ℕ) → IsTag tag → unquoted (quoted tag) ≡ tag
unquoted_tag [] is = refl
unquoted_tag (b ∷ tag) is =
    let first = no_quote b (and_parts (is_tag_character b) (list_all is_tag_character tag) is).0 in
    let start : skip_quotes (b ∷ (tag ++ double_quote ∷ [])) ≡ b ∷ (tag ++ double_quote ∷ []) = cond-false _ _ _ first in
    ap (λ l. reverse (skip_quotes (reverse l))) start
    ∙ ap (λ l. reverse (skip_quotes l)) (last_first (b ∷ tag) double_quote)
    ∙ ap reverse (skip_none (reverse (b ∷ tag)) (all_reversed is_tag_character (b ∷ tag) is))
    ∙ reverse-reverse (b ∷ tag)

strong_in : (tag : List ℕ) → IsTag tag → tag_in (quoted tag) ≡ tag
strong_in tag is = ap (λ l. unquoted (without_weakness l)) (trim_stays double_quote tag double_quote refl refl) ∙ unquoted_tag tag is

weak_in : (tag : List ℕ) → IsTag tag → tag_in (87 ∷ 47 ∷ quoted tag) ≡ tag
weak_in tag is = ap (λ l. unquoted (without_weakness l)) (trim_stays 87 (47 ∷ double_quote ∷ tag) double_quote refl refl) ∙ unquoted_tag tag is

named_in : (weak : Bool) (tag : List ℕ) → IsTag tag → tag_in (spelled (record { weak = weak; tag = tag })) ≡ tag
named_in true tag is = weak_in tag is
named_in false tag is = strong_in tag is

match_by : (item named tag : List ℕ) → IsTag named → tag_in item ≡ named → is_match item tag ≡ bytes_eq named tag
match_by item named tag is shows =
    ap (λ t. bytes_eq t (codes "*") || bytes_eq t tag) shows ∙ ap (λ b. b || bytes_eq named tag) (not_any named is)

-- ---- the items of a list

none_held : (P : ℕ → Type 0) → All P []
none_held P k d within = absurd (omega arith)

abbrev NoComma : ℕ → Type 0
NoComma b = (b == comma) ≡ false

tag_without_comma : (tag : List ℕ) → IsTag tag → All NoComma tag
tag_without_comma [] is = none_held NoComma
tag_without_comma (b ∷ tag) is =
    let both = and_parts (is_tag_character b) (list_all is_tag_character tag) is in
    All-cons NoComma b tag (no_comma b both.0) (tag_without_comma tag both.1)

quoted_without_comma : (tag : List ℕ) → IsTag tag → All NoComma (quoted tag)
quoted_without_comma tag is =
    All-cons NoComma double_quote (tag ++ double_quote ∷ []) refl
    (All-append NoComma tag (double_quote ∷ []) (tag_without_comma tag is) (All-cons NoComma double_quote [] refl (none_held NoComma)))

without_comma : (weak : Bool) (tag : List ℕ) → IsTag tag → All NoComma (spelled (record { weak = weak; tag = tag }))
without_comma true tag is =
    All-cons NoComma 87 (47 ∷ quoted tag) refl (All-cons NoComma 47 (quoted tag) refl (quoted_without_comma tag is))
without_comma false tag is = quoted_without_comma tag is

items_of : (first : Named) (rest : List Named) → All IsTag (tags_of (first ∷ rest))
    → parts_at comma (spelled_all first rest) ≡ spelled first ∷ each (λ named. space ∷ spelled named) rest
items_of first [] all =
    slice_split_none (λ b. b == comma) (spelled first) (without_comma first.weak first.tag (All-head IsTag first.tag [] all))
items_of first (next ∷ rest) all =
    slice_split_at (λ b. b == comma) (spelled first) comma (space ∷ spelled_all next rest)
    (without_comma first.weak first.tag (All-head IsTag first.tag (tags_of (next ∷ rest)) all)) refl
    ∙ ap (λ parts. spelled first ∷ onto_first space parts) (items_of next rest (All-tail IsTag first.tag (tags_of (next ∷ rest)) all))

spaced_in : (item : List ℕ) → tag_in (space ∷ item) ≡ tag_in item
unfolding trim_ows
spaced_in item = refl

any_spaced : (rest : List Named) (tag : List ℕ) → All IsTag (tags_of rest)
    → list_any (λ item. is_match item tag) (each (λ named. space ∷ spelled named) rest) ≡ list_any (λ named. bytes_eq named tag) (tags_of rest)
any_spaced [] tag all = refl
any_spaced (next ∷ rest) tag all =
    let is = All-head IsTag next.tag (tags_of rest) all in
    ap₂ (λ a b. a || b)
    (match_by (space ∷ spelled next) next.tag tag is (spaced_in (spelled next) ∙ named_in next.weak next.tag is))
    (any_spaced rest tag (All-tail IsTag next.tag (tags_of rest) all))

any_named : (first : Named) (rest : List Named) (tag : List ℕ) → All IsTag (tags_of (first ∷ rest))
    → matches (spelled_all first rest) tag ≡ list_any (λ named. bytes_eq named tag) (tags_of (first ∷ rest))
unfolding matches
any_named first rest tag all =
    let is = All-head IsTag first.tag (tags_of rest) all in
    ap (list_any (λ item. is_match item tag)) (items_of first rest all)
    ∙ ap₂ (λ a b. a || b)
    (match_by (spelled first) first.tag tag is (named_in first.weak first.tag is))
    (any_spaced rest tag (All-tail IsTag first.tag (tags_of rest) all))

held_from_any : (named : List (List ℕ)) (tag : List ℕ) → list_any (λ t. bytes_eq t tag) named ≡ true → Contains named tag
held_from_any [] tag is = absurd (false≢true is)
held_from_any (t ∷ named) tag is =
    ⊎_elim
    (λ this. held_first tag t named ((bytes_decides t tag).0 this))
    (λ there. held_later tag t named (held_from_any named tag there))
    (or_cases (bytes_eq t tag) (list_any (λ t. bytes_eq t tag) named) is)

any_from_held : (named : List (List ℕ)) (tag : List ℕ) → Contains named tag → list_any (λ t. bytes_eq t tag) named ≡ true
any_from_held [] tag held = absurd (nothing_held tag held)
any_from_held (t ∷ named) tag (zero, within, is) = or_left (bytes_eq t tag) (list_any (λ t. bytes_eq t tag) named) ((bytes_decides t tag).1 is)
any_from_held (t ∷ named) tag (suc k, within, is) =
    or_right (bytes_eq t tag) (list_any (λ t. bytes_eq t tag) named) (any_from_held named tag (k, omega arith, is))

-- ---- the laws

pub lists_name_tags : ListsNameTags
lists_name_tags first rest tag all = (
  λ is. held_from_any (tags_of (first ∷ rest)) tag (sym (any_named first rest tag all) ∙ is),
  λ held. any_named first rest tag all ∙ any_from_held (tags_of (first ∷ rest)) tag held,
)

pub any_tag_matches : AnyTagMatches
unfolding matches trim_ows
any_tag_matches tag = refl

names_match : (line tag : List ℕ) → Names line tag → matches line tag ≡ true
names_match line tag (inl star) = ap (λ l. matches l tag) star ∙ any_tag_matches tag
names_match line tag (inr (first, rest, is, all, held)) = ap (λ l. matches l tag) is ∙ (lists_name_tags first rest tag all).1 held

others_dont : (first : Named) (rest : List Named) (tag : List ℕ) → All IsTag (tags_of (first ∷ rest)) → ¬ Contains (tags_of (first ∷ rest)) tag
    → matches (spelled_all first rest) tag ≡ false
others_dont first rest tag all none =
    false_from_ne_true (matches (spelled_all first rest) tag) (λ is. none ((lists_name_tags first rest tag all).0 is))

pub own_tag_is_met : OwnTagIsMet
own_tag_is_met asked line moment tag size is names =
    subst IsOk (sym (if_match_decides asked line moment tag size is ∙ cond-true _ _ _ (names_match line tag names))) (first_passed asked moment tag size)

pub other_tags_are_refused : OtherTagsAreRefused
other_tags_are_refused asked first rest moment tag size is all none =
    if_match_decides asked (spelled_all first rest) moment tag size is ∙ cond-false _ _ _ (others_dont first rest tag all none)

pub own_tag_is_unchanged : OwnTagIsUnchanged
own_tag_is_unchanged asked line moment tag size is names passed =
    goes_on asked moment tag size passed ∙ if_none_match_decides asked line moment tag size is ∙ cond-true _ _ _ (names_match line tag names)

abbrev answer : Selection → Result Selection Code
answer shown = Ok shown

same_answer : (a b : Selection) → answer a ≡ answer b → a ≡ b
same_answer a b is = cc

range_shows : (range : Option ByteRange) (size : ℕ) → selected range size ≢ Unchanged
unfolding selected
range_shows None size = λ is. cc
range_shows (Some range) size = (ranges_select_nothing_else range size).1

last_shows : (asked : Conditions) (moment : ℕ) (tag : List ℕ) (size : ℕ) → judged (without_both asked) moment tag size ≢ Ok Unchanged
unfolding judged unmet unchanged
last_shows asked moment tag size = λ is. range_shows asked.range size (same_answer (selected asked.range size) Unchanged is)

pub other_tags_are_shown : OtherTagsAreShown
other_tags_are_shown asked first rest moment tag size is all none = λ same.
    let passed : IsOk (judged asked moment tag size) = subst IsOk (sym same) refl in
    last_shows asked moment tag size
    (sym (goes_on asked moment tag size passed ∙ if_none_match_decides asked (spelled_all first rest) moment tag size is ∙ cond-false _ _ _ (others_dont first rest tag all none))
    ∙ same)
