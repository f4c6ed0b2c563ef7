-- The names of header lines, and the lines of one name.
use Rattle.std.proofs.Common.{◌≡◌, ℕ, ◌+◌, ◌≤◌, Bool, true, false, ◌||◌, eqb, List, ◌∷◌, take, drop, length, map, filter, Option, Some, None, refl, sym, ap, ◌∙◌, arith, cond, slice_get}
use Rattle.std.specs.Prelude.{is_some, codes, ◌&&◌}
use Rattle.std.specs.Option.{option_copied}
use Rattle.std.specs.Borrow.{Bor}
use Rattle.std.specs.List.{list_any, flat_map}
use Rattle.std.specs.Str.{bytes_eq, str_to_ascii_lowercase}
use Rattle.std.proofs.lemmas.Bool.{or_left, or_right, or_from, eq-eqb, ne_eqb}
use Rattle.std.proofs.lemmas.List.Folds.{list_any-append}
use Rattle.std.proofs.lemmas.List.{drop_all, take_all, length-map}
use Rattle.std.proofs.lemmas.List.Filters.{length-filter_more}
use Rattle.std.proofs.lemmas.Option.{get_or_from_slice_get, slice_get_within}
use Rattle.s3_text.proofs.ListLemmas.{elements_from, is_some-first_kept}
use Rattle.s3_http_heads.specs.Head.{HeadParts, is_named, values_of, first_value, is_sent, words_of, closes, says_continue, expects_continue}

-- the rest of a name that was sent is the rest of the given one
abbrev pub same_rest : List ℕ → List ℕ → ℕ → Bool
same_rest sent name i = bytes_eq (str_to_ascii_lowercase (drop i sent)) (drop i name)

abbrev pub Lines : Type 0
Lines = List (List ℕ × List ℕ)

-- the values of the lines of a name
abbrev pub values_in : List ℕ → Lines → List (List ℕ)
values_in name lines = map (λ (line : List ℕ × List ℕ). line.1) (filter (is_named name) lines)

-- how many of the first i pass the test
abbrev pub count_passing : (List ℕ × List ℕ → Bool) → Lines → ℕ → ℕ
count_passing passes lines i = length (filter passes (take i lines))

pub passing_more : (passes : List ℕ × List ℕ → Bool) (lines : Lines) (i : ℕ) (line : List ℕ × List ℕ) → slice_get lines i ≡ Some line
    → count_passing passes lines (i + 1) ≡ count_passing passes lines i + cond (passes line) 1 0
passing_more passes lines i line is =
    length-filter_more passes lines i line (slice_get_within lines i line is)
    ∙ ap (λ x. count_passing passes lines i + cond (passes x) 1 0) (get_or_from_slice_get lines i line line is)

-- how many of the first i lines have the name
abbrev pub count_in : List ℕ → Lines → ℕ → ℕ
count_in name lines i = count_passing (is_named name) lines i

pub count_yes : (name : List ℕ) (lines : Lines) (i : ℕ) (sent value : List ℕ) → slice_get lines i ≡ Some (sent, value)
    → true ≡ bytes_eq (str_to_ascii_lowercase sent) name → count_in name lines (i + 1) ≡ count_in name lines i + 1
count_yes name lines i sent value is same =
    passing_more (is_named name) lines i (sent, value) is ∙ ap (λ b. count_in name lines i + cond b 1 0) (sym same)

pub count_no : (name : List ℕ) (lines : Lines) (i : ℕ) (sent value : List ℕ) → slice_get lines i ≡ Some (sent, value)
    → false ≡ bytes_eq (str_to_ascii_lowercase sent) name → count_in name lines (i + 1) ≡ count_in name lines i
count_no name lines i sent value is other =
    passing_more (is_named name) lines i (sent, value) is ∙ ap (λ b. count_in name lines i + cond b 1 0) (sym other) ∙ omega arith

pub count_all : (name : List ℕ) (parts : HeadParts) (i : ℕ) → length parts.headers ≤ i
    → count_in name parts.headers i ≡ length (values_of name parts)
unfolding values_of
count_all name parts i past =
    ap (λ lines. length (filter (is_named name) lines)) (take_all i parts.headers past)
    ∙ sym (length-map (filter (is_named name) parts.headers) (λ (line : List ℕ × List ℕ). line.1))

pub values_yes : (name : List ℕ) (lines : Lines) (i : ℕ) (sent value : List ℕ) → slice_get lines i ≡ Some (sent, value)
    → true ≡ bytes_eq (str_to_ascii_lowercase sent) name
    → values_in name (drop i lines) ≡ value ∷ values_in name (drop (i + 1) lines)
values_yes name lines i sent value is same =
    ap (values_in name) (elements_from lines i (sent, value) is) ∙ by (sym same)
  where
    by : bytes_eq (str_to_ascii_lowercase sent) name ≡ true
        → values_in name ((sent, value) ∷ drop (i + 1) lines) ≡ value ∷ values_in name (drop (i + 1) lines)
    by e = rw e refl

pub values_no : (name : List ℕ) (lines : Lines) (i : ℕ) (sent value : List ℕ) → slice_get lines i ≡ Some (sent, value)
    → false ≡ bytes_eq (str_to_ascii_lowercase sent) name
    → values_in name (drop (i + 1) lines) ≡ values_in name (drop i lines)
values_no name lines i sent value is other =
    sym (ap (values_in name) (elements_from lines i (sent, value) is) ∙ by (sym other))
  where
    by : bytes_eq (str_to_ascii_lowercase sent) name ≡ false
        → values_in name ((sent, value) ∷ drop (i + 1) lines) ≡ values_in name (drop (i + 1) lines)
    by e = rw e refl

pub first_here : (name : List ℕ) (parts : HeadParts) (i : ℕ) (sent value : List ℕ)
    → values_in name (drop i parts.headers) ≡ values_in name parts.headers
    → slice_get parts.headers i ≡ Some (sent, value) → true ≡ bytes_eq (str_to_ascii_lowercase sent) name
    → Some value ≡ first_value name parts
unfolding values_of
first_here name parts i sent value rest is same =
    ap (λ vs. slice_get vs 0) (sym (values_yes name parts.headers i sent value is same) ∙ rest)

pub first_nowhere : (name : List ℕ) (parts : HeadParts) (i : ℕ)
    → values_in name (drop i parts.headers) ≡ values_in name parts.headers → length parts.headers ≤ i
    → None ≡ first_value name parts
unfolding values_of
first_nowhere name parts i rest past =
    ap (λ lines. slice_get (values_in name lines) 0) (sym (drop_all i parts.headers past)) ∙ ap (λ vs. slice_get vs 0) rest

-- a line was sent exactly where there is a first one
sent_is : (name : List ℕ) (parts : HeadParts) → is_some (first_value name parts) ≡ is_sent name parts
unfolding values_of
sent_is name parts = is_some-first_kept (is_named name) (λ (line : List ℕ × List ℕ). line.1) parts.headers

pub is_some-found : (name : List ℕ) (parts : HeadParts) (o : Option (Bor (List ℕ))) → option_copied o ≡ first_value name parts
    → is_some o ≡ is_sent name parts
is_some-found name parts o is = sym (is_some-copied o) ∙ ap is_some is ∙ sent_is name parts
  where
    is_some-copied : (o : Option (Bor (List ℕ))) → is_some (option_copied o) ≡ is_some o
    is_some-copied None = refl
    is_some-copied (Some x) = refl

-- ---- the words of the Connection lines

abbrev pub is_close : List ℕ → Bool
is_close word = bytes_eq word (codes "close")

-- `close` is among the words of the Connection lines
abbrev pub close_in : Lines → Bool
close_in lines = list_any is_close (flat_map words_of (values_in (codes "connection") lines))

close_named : (lines : Lines) (i : ℕ) (sent value : List ℕ) → slice_get lines i ≡ Some (sent, value)
    → true ≡ bytes_eq (str_to_ascii_lowercase sent) (codes "connection")
    → close_in (drop i lines) ≡ (list_any is_close (words_of value) || close_in (drop (i + 1) lines))
close_named lines i sent value is same =
    ap (λ vs. list_any is_close (flat_map words_of vs)) (values_yes (codes "connection") lines i sent value is same)
    ∙ list_any-append is_close (words_of value) (flat_map words_of (values_in (codes "connection") (drop (i + 1) lines)))

pub close_unnamed : (lines : Lines) (i : ℕ) (sent value : List ℕ) → slice_get lines i ≡ Some (sent, value)
    → false ≡ bytes_eq (str_to_ascii_lowercase sent) (codes "connection")
    → close_in (drop (i + 1) lines) ≡ close_in (drop i lines)
close_unnamed lines i sent value is other =
    ap (λ vs. list_any is_close (flat_map words_of vs)) (values_no (codes "connection") lines i sent value is other)

pub close_other : (lines : Lines) (i : ℕ) (sent value : List ℕ) → slice_get lines i ≡ Some (sent, value)
    → true ≡ bytes_eq (str_to_ascii_lowercase sent) (codes "connection") → false ≡ list_any is_close (words_of value)
    → close_in (drop (i + 1) lines) ≡ close_in (drop i lines)
close_other lines i sent value is same other =
    sym (close_named lines i sent value is same ∙ ap (λ b. b || close_in (drop (i + 1) lines)) (sym other))

pub close_found : (parts : HeadParts) (i : ℕ) (sent value : List ℕ)
    → close_in (drop i parts.headers) ≡ close_in parts.headers → slice_get parts.headers i ≡ Some (sent, value)
    → true ≡ bytes_eq (str_to_ascii_lowercase sent) (codes "connection") → true ≡ list_any is_close (words_of value)
    → true ≡ closes parts
unfolding closes values_of
close_found parts i sent value rest is same word =
    sym (or_right (eqb parts.minor 0) (close_in parts.headers)
    (sym rest ∙ close_named parts.headers i sent value is same
    ∙ ap (λ b. b || close_in (drop (i + 1) parts.headers)) (sym word)))

pub close_old : (parts : HeadParts) → parts.minor ≡ 0 → true ≡ closes parts
unfolding closes
close_old parts old = sym (or_left (eqb parts.minor 0) _ (eq-eqb _ _ old))

pub close_nowhere : (parts : HeadParts) (i : ℕ) → (parts.minor ≡ 0 → ⊥)
    → close_in (drop i parts.headers) ≡ close_in parts.headers → length parts.headers ≤ i → false ≡ closes parts
unfolding closes values_of
close_nowhere parts i new rest past =
    sym (or_from (eqb parts.minor 0) (close_in parts.headers) (ne_eqb _ _ new)
    (sym rest ∙ ap close_in (drop_all i parts.headers past)))

-- ---- the first Expect line

pub expect_old : (parts : HeadParts) → (parts.minor ≡ 1 → ⊥) → false ≡ expects_continue parts
unfolding expects_continue
expect_old parts old = sym (ap (λ b. b && says_continue (first_value (codes "expect") parts)) (ne_eqb _ _ old))

pub expect_said : (parts : HeadParts) (o : Option (List ℕ)) → parts.minor ≡ 1 → o ≡ first_value (codes "expect") parts
    → says_continue o ≡ expects_continue parts
unfolding expects_continue
expect_said parts o new is =
    ap says_continue is ∙ sym (ap (λ b. b && says_continue (first_value (codes "expect") parts)) (eq-eqb _ _ new))
