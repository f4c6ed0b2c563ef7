-- Names of metadata, sorted and each once, and the values of the lines of a name.
use Rattle.std.proofs.Common.{◌≡◌, inl, inr, ℕ, suc, ◌+◌, ◌≤◌, ◌<◌, Bool, true, false, List, [], ◌∷◌, ◌++◌, map, filter, length, take, refl, sym, ap, subst, ◌∙◌, arith, append-nil, cond, slice_get, get_or, Bor, not, Option, Some, None, if◌then◌else◌, IsPermutation}
use Rattle.std.specs.List.{dedup, dedup_from, filter_map, cons_option, join_with_byte}
use Rattle.std.specs.List.Sorted.{IsSorted, IsStrictlySortedBy}
use Rattle.std.specs.Cmp.Lexicographic.{texts_ties}
use Rattle.std.proofs.lemmas.List.Kept.{IsStrictlySortedBy-dedup, IsStrictlySortedBy-filter}
use Rattle.std.specs.Option.{option_to_list}
use Rattle.std.specs.Str.{bytes_eq, str_to_ascii_lowercase}
use Rattle.std.proofs.lemmas.Bool.{cases_Bool}
use Rattle.std.proofs.lemmas.Cmp.{nat_list_cmp_total}
use Rattle.std.proofs.lemmas.List.{take_all, take_more, map_push, length-map}
use Rattle.std.proofs.lemmas.List.Filters.{dedup_is}
use Rattle.std.specs.List.Retain.{IsFiltered, DiffersFromLast}
use Rattle.std.proofs.lemmas.List.Elements.{filter-append, filter_more, filter_map-append}
use Rattle.std.proofs.lemmas.List.Sorted.{IsPermutation-map}
use Rattle.std.proofs.lemmas.Map.Lookups.{exact_bytes}
use Rattle.std.proofs.lemmas.Option.{get_or_from_slice_get, slice_get_within}
use Rattle.s3_text.specs.Order.{byte_order}
use Rattle.s3_text.specs.Sorting.{sorted_by}
use Rattle.s3_text.proofs.JoinLemmas.{join_with_byte_push}
use Rattle.s3_text.proofs.SortingLemmas.{sorted_by-unique, IsSorted-map}
use Rattle.s3_terms.specs.declared.dialect.Dialect.{Dialect}
use Rattle.s3_http_heads.specs.Head.{HeadParts, is_named, values_of}
use Rattle.s3_versions.specs.Metadata.{Entry, names_in as names_in_entries, AreInOrder}
use Rattle.s3_requests.specs.Description.{entry_of, is_kept, is_of_transfer, is_said, name_in}
use Rattle.s3_requests.specs.Name.{text_of, texts}
use Rattle.s3_requests.specs.declared.description.Name.{Name}

abbrev pub Lines : Type 0
Lines = List (List ℕ × List ℕ)

taken : {X : Type 0} (xs : List X) (i : ℕ) (x : X) → slice_get xs i ≡ Some x → take (i + 1) xs ≡ take i xs ++ x ∷ []
taken xs i x is =
    take_more xs i x (slice_get_within xs i x is) ∙ ap (λ y. take i xs ++ y ∷ []) (get_or_from_slice_get xs i x x is)

-- ---- names

-- the names under which lines are kept
abbrev pub names_in : Dialect → Lines → List (List ℕ)
names_in dialect lines = filter_map (λ (line : List ℕ × List ℕ). name_in dialect line.0) lines

one_name : (dialect : Dialect) (o : Option (List ℕ)) (line : List ℕ × List ℕ) → name_in dialect line.0 ≡ o → names_in dialect (line ∷ []) ≡ option_to_list o
one_name dialect None line is = rw is refl
one_name dialect (Some name) line is = rw is refl

-- one line more
pub names_more : (dialect : Dialect) (lines : Lines) (i : ℕ) (sent value : List ℕ) → slice_get lines i ≡ Some (sent, value)
    → names_in dialect (take (i + 1) lines) ≡ names_in dialect (take i lines) ++ option_to_list (name_in dialect sent)
names_more dialect lines i sent value is =
    ap (names_in dialect) (taken lines i (sent, value) is)
    ∙ filter_map-append (λ (line : List ℕ × List ℕ). name_in dialect line.0) (take i lines) ((sent, value) ∷ [])
    ∙ ap (λ more. names_in dialect (take i lines) ++ more) (one_name dialect (name_in dialect sent) (sent, value) refl)

one_more : {Y : Type 0} (o : Option Y) (ys : List Y) (n : ℕ) → length ys ≤ n → length (cons_option o ys) ≤ suc n
one_more None ys n fewer = omega (arith, fewer)
one_more (Some y) ys n fewer = omega (arith, fewer)

few : {X Y : Type 0} (h : X → Option Y) (xs : List X) → length (filter_map h xs) ≤ length xs
few h [] = omega arith
few h (x ∷ xs) = one_more (h x) (filter_map h xs) (length xs) (few h xs)

-- a line of another name is not kept
pub name_no : (dialect : Dialect) (names : List (List ℕ)) (sent : List ℕ) → is_kept dialect sent ≡ false → names ≡ names ++ option_to_list (name_in dialect sent)
name_no dialect names sent other = rw other (sym (append-nil names))

-- one that is kept has its name in lower case
pub name_yes : (dialect : Dialect) (sent text : List ℕ) → is_kept dialect sent ≡ true → text ≡ str_to_ascii_lowercase sent → text ∷ [] ≡ option_to_list (name_in dialect sent)
name_yes dialect sent text kept low = rw (kept, low) refl

-- there are no more of them than lines
pub names_few : (dialect : Dialect) (names : List Name) (lines : Lines) → texts names ≡ names_in dialect lines → length names ≤ length lines
names_few dialect names lines is =
    omega (arith, sym (length-map names text_of) ∙ ap length is, few (λ (line : List ℕ × List ℕ). name_in dialect line.0) lines)

-- what the sort of the code leaves
names_sorted : (xs ys : List Name) → IsPermutation xs ys → IsSorted (λ p q. byte_order (text_of p) (text_of q)) ys → texts ys ≡ sorted_by byte_order (texts xs)
names_sorted xs ys same up =
    sorted_by-unique byte_order nat_list_cmp_total exact_bytes (texts xs) (texts ys) (IsPermutation-map text_of xs ys same) (IsSorted-map text_of byte_order ys up)

-- names that are the same have the same text
abbrev same_name : Name → Name → Bool
same_name p q = bytes_eq (text_of p) (text_of q)

once_from : (k : Name) (xs : List Name) → texts (dedup_from same_name k xs) ≡ dedup_from bytes_eq (text_of k) (texts xs)
once_from k [] = refl
once_from k (x ∷ xs) = elim (cases_Bool (bytes_eq (text_of x) (text_of k))) [
  | inl same ↦ rw same (once_from k xs)
  | inr other ↦ rw other (ap (λ names. text_of k ∷ names) (once_from x xs))
]

-- what is left where each stands once
names_once : (xs : List Name) → texts (dedup same_name xs) ≡ dedup bytes_eq (texts xs)
names_once [] = refl
names_once (x ∷ xs) = once_from x xs

-- what the code leaves of names: sorted, and each once
pub names_listed : {xs ys zs : List Name} {sent : List (List ℕ)} → IsPermutation xs ys → IsSorted (λ p q. byte_order (text_of p) (text_of q)) ys
    → IsFiltered (DiffersFromLast same_name) [] ys zs → texts xs ≡ sent → texts zs ≡ dedup bytes_eq (sorted_by byte_order sent)
names_listed {xs} {ys} {zs} {sent} same up filtered is =
    ap texts (dedup_is same_name ys zs filtered) ∙ names_once ys ∙ ap (dedup bytes_eq) (names_sorted xs ys same up ∙ ap (sorted_by byte_order) is)

-- and each of them is below those after it
pub names_rise : {xs ys zs : List Name} → IsPermutation xs ys → IsSorted (λ p q. byte_order (text_of p) (text_of q)) ys
    → IsFiltered (DiffersFromLast same_name) [] ys zs → IsStrictlySortedBy byte_order (texts zs)
names_rise {xs} {ys} {zs} same up filtered =
    subst (IsStrictlySortedBy byte_order) (sym (ap texts (dedup_is same_name ys zs filtered) ∙ names_once ys))
    (IsStrictlySortedBy-dedup nat_list_cmp_total texts_ties (texts ys) (IsSorted-map text_of byte_order ys up))

pub ruleset names_in_order = (names_listed, names_rise)

-- ---- the entries of names

-- those of the names whose entries say something
abbrev names_said : HeadParts → List (List ℕ) → List (List ℕ)
names_said head names = filter (λ name. is_said (entry_of head name)) names

-- entries have the names that they were made of
names_kept : (head : HeadParts) (names : List (List ℕ)) → names_in_entries (filter is_said (map (entry_of head) names)) ≡ names_said head names
names_kept head [] = refl
names_kept head (name ∷ names) = elim (cases_Bool (is_said (entry_of head name))) [
  | inl said ↦ rw said (ap (λ ns. name ∷ ns) (names_kept head names))
  | inr empty ↦ rw empty (names_kept head names)
]

-- so they are in order
pub entries_rise : (head : HeadParts) (entries : List Entry) (names : List (List ℕ)) → entries ≡ filter is_said (map (entry_of head) names)
    → IsStrictlySortedBy byte_order names → AreInOrder entries
entries_rise head entries names is rise =
    subst (IsStrictlySortedBy byte_order) (sym (ap names_in_entries is ∙ names_kept head names))
    (IsStrictlySortedBy-filter byte_order (λ name. is_said (entry_of head name)) names rise)

fewer : {X : Type 0} (p : X → Bool) (xs : List X) → length (filter p xs) ≤ length xs
fewer p [] = omega arith
fewer p (x ∷ xs) = elim (cases_Bool (p x)) [
  | inl taken ↦ rw taken (omega (arith, fewer p xs))
  | inr left ↦ rw left (omega (arith, fewer p xs))
]

-- there are no more entries than names
pub entries_few : (head : HeadParts) (entries : List Entry) (names : List Name) → entries ≡ filter is_said (map (entry_of head) (texts names)) → length entries ≤ length names
entries_few head entries names is =
    omega (arith, ap length is, fewer is_said (map (entry_of head) (texts names)), length-map (texts names) (entry_of head), length-map names text_of)

-- one name more, and its entry, if that says something
pub entries_more : {Y : Type 0} (p : Y → Bool) (f : List ℕ → Y) (names : List Name) (i : ℕ) (name : Name) (rows new : List Y) (row : Y) → i < length names → name ≡ get_or names i name
    → rows ≡ filter p (map f (texts (take i names))) → row ≡ f (text_of name) → new ≡ rows ++ filter p (row ∷ []) → new ≡ filter p (map f (texts (take (i + 1) names)))
entries_more p f names i name rows new row within is before this added =
    let more = take_more names i name within ∙ ap (λ n. take i names ++ n ∷ []) (sym is) in
    let so_far = map f (texts (take i names)) in
    added
    ∙ ap (λ rs. rs ++ filter p (row ∷ [])) before
    ∙ ap (λ r. filter p so_far ++ filter p (r ∷ [])) this
    ∙ sym (ap (λ ns. filter p (map f (texts ns))) more
    ∙ ap (λ ns. filter p (map f ns)) (map_push text_of (take i names) name)
    ∙ ap (filter p) (map_push f (texts (take i names)) (text_of name))
    ∙ filter-append p so_far (f (text_of name) ∷ []))

-- ---- the values of a name

abbrev pub values_in : List ℕ → Lines → List (List ℕ)
values_in name lines = map (λ (line : List ℕ × List ℕ). line.1) (filter (is_named name) lines)

filter_at : (name : List ℕ) (lines : Lines) (i : ℕ) (line : List ℕ × List ℕ) → slice_get lines i ≡ Some line → filter (is_named name) (take (i + 1) lines) ≡ filter (is_named name) (take i lines) ++ cond (is_named name line) (line ∷ []) []
filter_at name lines i line is =
    filter_more (is_named name) lines i line (slice_get_within lines i line is)
    ∙ ap (λ x. filter (is_named name) (take i lines) ++ cond (is_named name x) (x ∷ []) []) (get_or_from_slice_get lines i line line is)

pub values_yes : (name : List ℕ) (lines : Lines) (i : ℕ) (sent value : List ℕ) → slice_get lines i ≡ Some (sent, value) → is_named name (sent, value) ≡ true → values_in name (take (i + 1) lines) ≡ values_in name (take i lines) ++ value ∷ []
values_yes name lines i sent value is named =
    let values = λ (rest : Lines). map (λ (line : List ℕ × List ℕ). line.1) rest in
    let kept = filter (is_named name) (take i lines) in
    ap values (filter_at name lines i (sent, value) is ∙ ap (λ b. kept ++ cond b ((sent, value) ∷ []) []) named)
    ∙ map_push (λ (line : List ℕ × List ℕ). line.1) kept (sent, value)

pub values_no : (name : List ℕ) (lines : Lines) (i : ℕ) (sent value : List ℕ) → slice_get lines i ≡ Some (sent, value) → is_named name (sent, value) ≡ false → values_in name (take (i + 1) lines) ≡ values_in name (take i lines)
values_no name lines i sent value is other =
    let values = λ (rest : Lines). map (λ (line : List ℕ × List ℕ). line.1) rest in
    let kept = filter (is_named name) (take i lines) in
    ap values (filter_at name lines i (sent, value) is ∙ ap (λ b. kept ++ cond b ((sent, value) ∷ []) []) other ∙ append-nil kept)

pub values_all : (name : List ℕ) (parts : HeadParts) (i : ℕ) → length parts.headers ≤ i → values_in name (take i parts.headers) ≡ values_of name parts
unfolding values_of
values_all name parts i past = ap (values_in name) (take_all i parts.headers past)

-- there is a value
abbrev pub is_found : List (List ℕ) → Bool
is_found [] = false
is_found (x ∷ xs) = true

-- one more value, after a comma where it is not the first
pub join_next : (c : ℕ) (xs : List (List ℕ)) (x : List ℕ) → join_with_byte c (xs ++ x ∷ []) ≡ join_with_byte c xs ++ (if is_found xs then c ∷ x else x)
join_next c [] x = refl
join_next c (w ∷ ws) x = join_with_byte_push c (w ∷ ws) x (omega arith)

pub is_found_push : (xs : List (List ℕ)) (x : List ℕ) → is_found (xs ++ x ∷ []) ≡ true
is_found_push [] x = refl
is_found_push (w ∷ ws) x = refl

-- ---- the codings between commas

-- those that are stored
abbrev pub codings_in : List (Bor (List ℕ)) → List (List ℕ)
codings_in pieces = filter (λ coding. not (is_of_transfer coding)) (map (λ (piece : Bor (List ℕ)). piece.now) pieces)

-- one piece more
codings_more : (pieces : List (Bor (List ℕ))) (piece : Bor (List ℕ)) (b : Bool) → is_of_transfer piece.now ≡ b → codings_in (pieces ++ piece ∷ []) ≡ codings_in pieces ++ cond (not b) (piece.now ∷ []) []
codings_more pieces piece b is =
    let texts = map (λ (s : Bor (List ℕ)). s.now) pieces in
    ap (filter (λ coding. not (is_of_transfer coding))) (map_push (λ (s : Bor (List ℕ)). s.now) pieces piece)
    ∙ filter-append (λ coding. not (is_of_transfer coding)) texts (piece.now ∷ [])
    ∙ ap (λ other. codings_in pieces ++ cond (not other) (piece.now ∷ []) []) is

pub codings_yes : (pieces : List (Bor (List ℕ))) (piece : Bor (List ℕ)) → is_of_transfer piece.now ≡ false → codings_in (pieces ++ piece ∷ []) ≡ codings_in pieces ++ piece.now ∷ []
codings_yes pieces piece is = codings_more pieces piece false is

pub codings_no : (pieces : List (Bor (List ℕ))) (piece : Bor (List ℕ)) → is_of_transfer piece.now ≡ true → codings_in (pieces ++ piece ∷ []) ≡ codings_in pieces
codings_no pieces piece is = codings_more pieces piece true is ∙ append-nil (codings_in pieces)
