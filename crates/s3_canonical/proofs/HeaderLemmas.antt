-- The values of the lines of a name, with single spaces, and the spaces that stay.
use Rattle.std.proofs.Common.{◌≡◌, ℕ, ◌+◌, ◌<◌, ◌≤◌, Bool, true, false, nat_eq, List, [], ◌∷◌, ◌++◌, map, filter, length, take, drop, get_or, refl, ap, ◌∙◌, arith, append-nil, cond, slice_get, Some, if◌then◌else◌}
use Rattle.std.specs.List.{join_with_byte, starts_with}
use Rattle.std.proofs.lemmas.Bool.{cond-true, cond-false}
use Rattle.std.proofs.lemmas.List.{take_all, map_push, drop_more}
use Rattle.std.proofs.lemmas.List.Elements.{filter_more}
use Rattle.std.proofs.lemmas.Option.{get_or_from_slice_get, slice_get_within}
use Rattle.s3_http_heads.specs.Head.{HeadParts, is_named, values_of}
use Rattle.s3_canonical.specs.Request.{single_spaced}
use Rattle.s3_text.proofs.JoinLemmas.{join_with_byte_push}

-- ---- single spaces

abbrev pub two_spaces : List ℕ
two_spaces = 32 ∷ 32 ∷ []

pub single_spaced-nil : single_spaced [] ≡ []
unfolding single_spaced
single_spaced-nil = refl

dropped : (b : ℕ) (rest : List ℕ) → starts_with nat_eq (b ∷ rest) two_spaces ≡ true → single_spaced (b ∷ rest) ≡ single_spaced rest
unfolding single_spaced
dropped b rest spaces = cond-true _ _ _ spaces

kept : (b : ℕ) (rest : List ℕ) → starts_with nat_eq (b ∷ rest) two_spaces ≡ false → single_spaced (b ∷ rest) ≡ b ∷ single_spaced rest
unfolding single_spaced
kept b rest other = cond-false _ _ _ other

-- a space goes where another one follows it
pub single_spaced_dropped : (bytes : List ℕ) (i : ℕ) → i < length bytes → starts_with nat_eq (drop i bytes) two_spaces ≡ true → single_spaced (drop i bytes) ≡ single_spaced (drop (i + 1) bytes)
single_spaced_dropped bytes i within = rw (drop_more bytes i 0 within) (dropped (get_or bytes i 0) (drop (i + 1) bytes))

-- any other byte stays
pub single_spaced_kept : (bytes : List ℕ) (i : ℕ) → i < length bytes → starts_with nat_eq (drop i bytes) two_spaces ≡ false → single_spaced (drop i bytes) ≡ get_or bytes i 0 ∷ single_spaced (drop (i + 1) bytes)
single_spaced_kept bytes i within = rw (drop_more bytes i 0 within) (kept (get_or bytes i 0) (drop (i + 1) bytes))

-- ---- the values of a name

abbrev Lines : Type 0
Lines = List (List ℕ × List ℕ)

-- the values of the lines of a name, with single spaces
abbrev pub spaced_in : List ℕ → Lines → List (List ℕ)
spaced_in name lines = map single_spaced (map (λ (line : List ℕ × List ℕ). line.1) (filter (is_named name) lines))

filter_at : (name : List ℕ) (lines : Lines) (i : ℕ) (line : List ℕ × List ℕ) → slice_get lines i ≡ Some line → filter (is_named name) (take (i + 1) lines) ≡ filter (is_named name) (take i lines) ++ cond (is_named name line) (line ∷ []) []
filter_at name lines i line is =
    filter_more (is_named name) lines i line (slice_get_within lines i line is)
    ∙ ap (λ x. filter (is_named name) (take i lines) ++ cond (is_named name x) (x ∷ []) []) (get_or_from_slice_get lines i line line is)

pub spaced_yes : (name : List ℕ) (lines : Lines) (i : ℕ) (sent value : List ℕ) → slice_get lines i ≡ Some (sent, value) → is_named name (sent, value) ≡ true → spaced_in name (take (i + 1) lines) ≡ spaced_in name (take i lines) ++ single_spaced value ∷ []
spaced_yes name lines i sent value is named =
    let values = λ (rest : Lines). map single_spaced (map (λ (line : List ℕ × List ℕ). line.1) rest) in
    let kept = filter (is_named name) (take i lines) in
    ap values (filter_at name lines i (sent, value) is ∙ ap (λ b. kept ++ cond b ((sent, value) ∷ []) []) named)
    ∙ ap (map single_spaced) (map_push (λ (line : List ℕ × List ℕ). line.1) kept (sent, value))
    ∙ map_push single_spaced (map (λ (line : List ℕ × List ℕ). line.1) kept) value

pub spaced_no : (name : List ℕ) (lines : Lines) (i : ℕ) (sent value : List ℕ) → slice_get lines i ≡ Some (sent, value) → is_named name (sent, value) ≡ false → spaced_in name (take (i + 1) lines) ≡ spaced_in name (take i lines)
spaced_no name lines i sent value is other =
    let values = λ (rest : Lines). map single_spaced (map (λ (line : List ℕ × List ℕ). line.1) rest) in
    let kept = filter (is_named name) (take i lines) in
    ap values (filter_at name lines i (sent, value) is ∙ ap (λ b. kept ++ cond b ((sent, value) ∷ []) []) other ∙ append-nil kept)

pub spaced_all : (name : List ℕ) (parts : HeadParts) (i : ℕ) → length parts.headers ≤ i → spaced_in name (take i parts.headers) ≡ map single_spaced (values_of name parts)
unfolding values_of
spaced_all name parts i past = ap (spaced_in name) (take_all i parts.headers past)

-- there is a value
abbrev pub is_found : List (List ℕ) → Bool
is_found [] = false
is_found (x ∷ xs) = true

-- one more value, after a comma where it is not the first
pub join_with_byte_next : (c : ℕ) (xs : List (List ℕ)) (x : List ℕ) → join_with_byte c (xs ++ x ∷ []) ≡ join_with_byte c xs ++ (if is_found xs then c ∷ x else x)
join_with_byte_next c [] x = refl
join_with_byte_next c (w ∷ ws) x = join_with_byte_push c (w ∷ ws) x (omega arith)

pub is_found_push : (xs : List (List ℕ)) (x : List ℕ) → is_found (xs ++ x ∷ []) ≡ true
is_found_push [] x = refl
is_found_push (w ∷ ws) x = refl
