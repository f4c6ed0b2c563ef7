-- The parts of a path, decoded one by one; places in a text that grows; and the test of the escapes.
use Rattle.std.proofs.Common.{◌≡◌, slice_get, Option, Some, None, option_map, ℕ, suc, ◌+◌, ◌*◌, ◌≤◌, ◌<◌, ◌⊎◌, inl, inr, Bool, true, false, not, ◌&&◌, ◌||◌, ◌==◌, nat_eq, List, [], ◌∷◌, ◌++◌, length, take, drop, get_or, refl, sym, ap, ◌∙◌, arith, cond, append-nil, take-append-drop, map, filter}
use Rattle.std.specs.List.{starts_with, before_first, after_first, position_or_len}
use Rattle.std.specs.Char.{digit_value}
use Rattle.std.proofs.lemmas.Bool.{cases_Bool, false≢true}
use Rattle.std.proofs.lemmas.Bool.Decides.{nat_tests}
use Rattle.std.specs.List.{find, list_any}
use Rattle.std.specs.Str.{bytes_eq}
use Rattle.std.proofs.lemmas.Option.{get_or_from_slice_get, slice_get_within}
use Rattle.std.proofs.lemmas.List.Folds.{length-prefix_len, list_any_at, list_any_more}
use Rattle.std.proofs.lemmas.List.{at_drop_more, drop-drop, drop_all, length-map, take_all}
use Rattle.s3_text.proofs.ListLemmas.{elements_from}
use Rattle.percent_encoding.specs.Percent.{is_escape, percent_decode}
use Rattle.percent_encoding.proofs.PercentLemmas.{percent_decode-nil, percent_decode_not_percent, KeepsFirst_from_no_escape}
use Rattle.s3_http_heads.specs.Head.{only}
use Rattle.s3_http_heads.specs.Target.{TargetParts, begins_with_digits, first_parameter, has_bad_escape, values_under}
use Rattle.s3_http_heads.proofs.NameLemmas.{count_passing, passing_more}

-- ---- escapes

-- the test of what is left of a text, one byte on, and at the end
pub has_bad_escape_more : (bytes : List ℕ) (i : ℕ) → i < length bytes → has_bad_escape (drop i bytes) ≡ ((get_or bytes i 0 == 37 && not (begins_with_digits (drop (i + 1) bytes))) || has_bad_escape (drop (i + 1) bytes))
unfolding has_bad_escape
has_bad_escape_more bytes i within = at_drop_more has_bad_escape bytes i 0 within

pub has_bad_escape-nil : has_bad_escape [] ≡ false
unfolding has_bad_escape
has_bad_escape-nil = refl

-- ---- decoding part by part

joined : (c : Bool) (a b more : List ℕ) → cond c (a ++ more) (b ++ more) ≡ cond c a b ++ more
joined true a b more = refl
joined false a b more = refl

step : (x high low : ℕ) (rest : List ℕ) → percent_decode (x ∷ high ∷ low ∷ rest) ≡ cond (is_escape x high low) ((16 * digit_value high + digit_value low) ∷ percent_decode rest) (x ∷ percent_decode (high ∷ low ∷ rest))
unfolding percent_decode
step x high low rest = refl

slash_after_one : (x : ℕ) (b : List ℕ) → percent_decode (x ∷ 47 ∷ b) ≡ x ∷ 47 ∷ percent_decode b
slash_after_one x b =
    KeepsFirst_from_no_escape (x ∷ 47 ∷ b) (λ _ _ high _. absurd (omega (arith, high)))
    ∙ ap (λ rest. x ∷ rest) (percent_decode_not_percent 47 b (omega arith))

slash_after_two : (x y : ℕ) (b : List ℕ) → percent_decode (x ∷ y ∷ 47 ∷ b) ≡ x ∷ y ∷ 47 ∷ percent_decode b
slash_after_two x y b =
    KeepsFirst_from_no_escape (x ∷ y ∷ 47 ∷ b) (λ _ _ _ low. absurd (omega (arith, low)))
    ∙ ap (λ rest. x ∷ rest) (slash_after_one y b)

-- no escape goes across a slash
percent_decode-slash : (a b : List ℕ) → percent_decode (a ++ 47 ∷ b) ≡ percent_decode a ++ 47 ∷ percent_decode b
unfolding percent_decode
percent_decode-slash [] b = percent_decode_not_percent 47 b (omega arith)
percent_decode-slash (x ∷ []) b = slash_after_one x b
percent_decode-slash (x ∷ y ∷ []) b = slash_after_two x y b
percent_decode-slash (x ∷ high ∷ low ∷ rest) b =
    let more = 47 ∷ percent_decode b in
    let byte = 16 * digit_value high + digit_value low in
    let joins = λ (after_escape after_byte : List ℕ). cond (is_escape x high low) (byte ∷ after_escape) (x ∷ after_byte) in
    step x high low (rest ++ 47 ∷ b)
    ∙ ap (λ after_escape. joins after_escape (percent_decode (high ∷ low ∷ rest ++ 47 ∷ b))) (percent_decode-slash rest b)
    ∙ ap (joins (percent_decode rest ++ more)) (percent_decode-slash (high ∷ low ∷ rest) b)
    ∙ joined (is_escape x high low) (byte ∷ percent_decode rest) (x ∷ percent_decode (high ∷ low ∷ rest)) more
    ∙ ap (λ front. front ++ more) (sym (step x high low rest))

-- the bytes up to the first slash
abbrev pub up_to_slash : List ℕ → ℕ
up_to_slash bytes = position_or_len (λ b. b == 47) bytes

suc_is : (n : ℕ) → 1 + n ≡ suc n
suc_is n = omega arith

-- nothing is behind them, or that slash and the rest
from_slash : (bytes : List ℕ) → (drop (up_to_slash bytes) bytes ≡ []) ⊎ (drop (up_to_slash bytes) bytes ≡ 47 ∷ after_first (λ b. b == 47) bytes)
from_slash [] = inl refl
from_slash (b ∷ rest) = elim (cases_Bool (b == 47)) [
  | inl here ↦ inr (rw here (ap (λ c. c ∷ rest) (grind (arith, nat_tests))))
  | inr other ↦
      let one : (1 + up_to_slash rest) + 1 ≡ suc (up_to_slash rest + 1) = omega arith in
      rw (other, one, suc_is (up_to_slash rest)) (from_slash rest)
]

-- so both parts may be decoded for themselves
percent_decode-parts : (bytes : List ℕ) → percent_decode (take (up_to_slash bytes) bytes) ++ percent_decode (drop (up_to_slash bytes) bytes) ≡ percent_decode bytes
percent_decode-parts bytes =
    let front = take (up_to_slash bytes) bytes in
    let whole = take-append-drop (up_to_slash bytes) bytes in
    elim (from_slash bytes) [
      | inl none ↦ rw (none, percent_decode-nil) (append-nil (percent_decode front) ∙ ap percent_decode (sym (append-nil front) ∙ rw none at whole))
      | inr slash ↦ ap (λ back. percent_decode front ++ back) (ap percent_decode slash ∙ percent_decode_not_percent 47 _ (omega arith)) ∙ sym (percent_decode-slash front _) ∙ ap percent_decode (rw slash at whole)
    ]

-- what is behind the slash
percent_decode-behind : (bytes : List ℕ) → drop 1 (percent_decode (drop (up_to_slash bytes) bytes)) ≡ percent_decode (after_first (λ b. b == 47) bytes)
percent_decode-behind bytes =
    elim (from_slash bytes) [
      | inl none ↦ rw (none, percent_decode-nil) (sym (ap percent_decode (sym (drop-drop 1 (up_to_slash bytes) bytes) ∙ ap (drop 1) none) ∙ percent_decode-nil))
      | inr slash ↦ ap (drop 1) (ap percent_decode slash ∙ percent_decode_not_percent 47 _ (omega arith))
    ]

-- the two parts of a path, which begins with a slash
pub path_parts : (path : List ℕ) (end : ℕ) → starts_with nat_eq path (47 ∷ []) ≡ true → end ≡ 1 + length (before_first (λ b. b == 47) (drop 1 path)) → record {
  whole : percent_decode (take end path) ++ percent_decode (drop end path) ≡ percent_decode path;
  bucket : drop 1 (percent_decode (take end path)) ≡ percent_decode (before_first (λ b. b == 47) (after_first (λ b. b == 47) path));
  key : drop 1 (percent_decode (drop end path)) ≡ percent_decode (after_first (λ b. b == 47) (after_first (λ b. b == 47) path));
}
path_parts [] end begins is = absurd (false≢true begins)
path_parts (b ∷ address) end begins is =
    let slash : b ≡ 47 = grind (arith, nat_tests) in
    let place : end ≡ suc (up_to_slash address) = omega (arith, is, length-prefix_len (λ b. not (b == 47)) address) in
    let front = percent_decode_not_percent 47 (take (up_to_slash address) address) (omega arith) in
    rw (slash, place) (record {
      whole = ap (λ f. f ++ percent_decode (drop (up_to_slash address) address)) front ∙ ap (λ rest. 47 ∷ rest) (percent_decode-parts address) ∙ sym (percent_decode_not_percent 47 address (omega arith));
      bucket = ap (drop 1) front;
      key = percent_decode-behind address;
    })

-- ---- parameters

-- the parameter has this name
abbrev pub is_called : List ℕ → List ℕ × List ℕ → Bool
is_called name parameter = bytes_eq parameter.0 name

pub called_here : (name : List ℕ) (all : List (List ℕ × List ℕ)) (i : ℕ) (sent value : List ℕ) → slice_get all i ≡ Some (sent, value) → bytes_eq sent name ≡ true → list_any (is_called name) all ≡ true
called_here name all i sent value is same =
    list_any_at (is_called name) all i (sent, value) (slice_get_within all i (sent, value) is) (ap (is_called name) (get_or_from_slice_get all i (sent, value) (sent, value) is) ∙ same)

pub called_not_yet : (name : List ℕ) (all : List (List ℕ × List ℕ)) (i : ℕ) (sent value : List ℕ) → slice_get all i ≡ Some (sent, value) → bytes_eq sent name ≡ false → list_any (is_called name) (take i all) ≡ false → list_any (is_called name) (take (i + 1) all) ≡ false
called_not_yet name all i sent value is other before =
    let here = ap (is_called name) (get_or_from_slice_get all i (sent, value) (sent, value) is) ∙ other in
    list_any_more (is_called name) all i (sent, value) (slice_get_within all i (sent, value) is) ∙ rw (before, here) refl

-- the first parameter of the name, of those from a place on
abbrev pub first_from : List ℕ → List (List ℕ × List ℕ) → ℕ → Option (List ℕ)
first_from name all i = option_map (λ (parameter : List ℕ × List ℕ). parameter.1) (find (is_called name) (drop i all))

pub first_at : (name : List ℕ) (all : List (List ℕ × List ℕ)) (i : ℕ) (sent value : List ℕ) → slice_get all i ≡ Some (sent, value) → bytes_eq sent name ≡ true → first_from name all i ≡ Some value
first_at name all i sent value is same = rw (elements_from all i (sent, value) is, same) refl

pub first_past : (name : List ℕ) (all : List (List ℕ × List ℕ)) (i : ℕ) (sent value : List ℕ) → slice_get all i ≡ Some (sent, value) → bytes_eq sent name ≡ false → first_from name all i ≡ first_from name all (i + 1)
first_past name all i sent value is other = rw (elements_from all i (sent, value) is, other) refl

pub first_none : (name : List ℕ) (all : List (List ℕ × List ℕ)) (i : ℕ) → length all ≤ i → first_from name all i ≡ None
first_none name all i past = rw (drop_all i all past) refl

-- how many of the first i parameters have the name
abbrev pub called_in : List ℕ → List (List ℕ × List ℕ) → ℕ → ℕ
called_in name all i = count_passing (is_called name) all i

pub called_yes : (name : List ℕ) (all : List (List ℕ × List ℕ)) (i : ℕ) (sent value : List ℕ) → slice_get all i ≡ Some (sent, value) → bytes_eq sent name ≡ true → called_in name all (i + 1) ≡ called_in name all i + 1
called_yes name all i sent value is same =
    passing_more (is_called name) all i (sent, value) is ∙ ap (λ b. called_in name all i + cond b 1 0) same

pub called_no : (name : List ℕ) (all : List (List ℕ × List ℕ)) (i : ℕ) (sent value : List ℕ) → slice_get all i ≡ Some (sent, value) → bytes_eq sent name ≡ false → called_in name all (i + 1) ≡ called_in name all i
called_no name all i sent value is other =
    passing_more (is_called name) all i (sent, value) is ∙ ap (λ b. called_in name all i + cond b 1 0) other ∙ omega arith

pub called_all : (name : List ℕ) (target : TargetParts) (i : ℕ) → length target.parameters ≤ i → called_in name target.parameters i ≡ length (values_under name target)
called_all name target i past =
    ap (λ all. length (filter (is_called name) all)) (take_all i target.parameters past)
    ∙ sym (length-map (filter (is_called name) target.parameters) (λ (parameter : List ℕ × List ℕ). parameter.1))

-- the first value of a name is the first of its values
first_called : (name : List ℕ) (all : List (List ℕ × List ℕ)) → option_map (λ (parameter : List ℕ × List ℕ). parameter.1) (find (is_called name) all) ≡ slice_get (map (λ (parameter : List ℕ × List ℕ). parameter.1) (filter (is_called name) all)) 0
first_called name [] = refl
first_called name (parameter ∷ all) = elim (cases_Bool (is_called name parameter)) [
  | inl same ↦ rw same refl
  | inr other ↦ rw other (first_called name all)
]

one_only : (values : List (List ℕ)) → length values ≡ 1 → slice_get values 0 ≡ only values
one_only [] one = absurd (omega arith)
one_only (value ∷ []) one = refl
one_only (value ∷ more ∷ values) one = absurd (omega arith)

none_only : (values : List (List ℕ)) → (length values ≡ 1 → ⊥) → None ≡ only values
none_only [] other = refl
none_only (value ∷ []) other = absurd (other refl)
none_only (value ∷ more ∷ values) other = refl

-- it is the only one where there is one, and none is where there are more, or none
pub only_first : (name : List ℕ) (target : TargetParts) → length (values_under name target) ≡ 1 → first_parameter name target ≡ only (values_under name target)
only_first name target one = first_called name target.parameters ∙ one_only (values_under name target) one

pub only_none : (name : List ℕ) (target : TargetParts) → (length (values_under name target) ≡ 1 → ⊥) → None ≡ only (values_under name target)
only_none name target other = none_only (values_under name target) other

pub ruleset only_one = (only_first, only_none)
