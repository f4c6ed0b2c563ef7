-- The names that a signer covers: collected, put in order, joined.
use Rattle.std.proofs.Common.{◌≡◌, ℕ, ◌+◌, ◌<◌, Bool, true, false, List, [], ◌∷◌, ◌++◌, length, take, map, filter, get_or, Some, refl, sym, ap, ◌∙◌, append-nil, slice_get, IsPermutation}
use Rattle.std.specs.Prelude.{codes}
use Rattle.std.specs.List.{dedup, dedup_from}
use Rattle.std.specs.List.Sorted.{IsSorted}
use Rattle.std.specs.Str.{bytes_eq, str_to_ascii_lowercase}
use Rattle.std.proofs.lemmas.Cmp.{nat_list_cmp_total}
use Rattle.std.proofs.lemmas.List.{take_more, map-append, get_or-map, length-map}
use Rattle.std.proofs.lemmas.List.Elements.{filter-append}
use Rattle.std.proofs.lemmas.List.Sorted.{IsPermutation-map}
use Rattle.std.proofs.lemmas.Map.Lookups.{exact_bytes}
use Rattle.std.proofs.lemmas.Option.{get_or_from_slice_get, slice_get_within}
use Rattle.s3_text.specs.Order.{byte_order}
use Rattle.s3_text.specs.Sorting.{sorted_by}
use Rattle.s3_text.proofs.SortingLemmas.{sorted_by-unique, IsSorted-map}
use Rattle.s3_signing.specs.declared.names.Name.{Name}
use Rattle.s3_signing.specs.Cover.{lower_name}
use Rattle.s3_signing.specs.Names.{IsOrdered, is_other, name_text, texts}
use Rattle.s3_signing.proofs.OrderLemmas.{is_ordered}

-- the names of the lines but those of Authorization
abbrev pub others_in : List (List ℕ × List ℕ) → List (List ℕ)
others_in lines = filter is_other (map lower_name lines)

one_more : (lines : List (List ℕ × List ℕ)) (i : ℕ) (line : List ℕ × List ℕ) → slice_get lines i ≡ Some line → others_in (take (i + 1) lines) ≡ others_in (take i lines) ++ others_in (line ∷ [])
one_more lines i line is =
    ap others_in (take_more lines i line (slice_get_within lines i line is) ∙ ap (λ x. take i lines ++ x ∷ []) (get_or_from_slice_get lines i line line is))
    ∙ ap (filter is_other) (map-append lower_name (take i lines) (line ∷ []))
    ∙ filter-append is_other (map lower_name (take i lines)) (map lower_name (line ∷ []))

-- one more line, which is covered, or is not
pub covered_more : (lines : List (List ℕ × List ℕ)) (i : ℕ) (sent value : List ℕ) → slice_get lines i ≡ Some (sent, value) → bytes_eq (str_to_ascii_lowercase sent) (codes "authorization") ≡ false → others_in (take (i + 1) lines) ≡ others_in (take i lines) ++ str_to_ascii_lowercase sent ∷ []
covered_more lines i sent value is other =
    one_more lines i (sent, value) is ∙ ap (λ rest. others_in (take i lines) ++ rest) (rw other refl)

pub covered_same : (lines : List (List ℕ × List ℕ)) (i : ℕ) (sent value : List ℕ) → slice_get lines i ≡ Some (sent, value) → bytes_eq (str_to_ascii_lowercase sent) (codes "authorization") ≡ true → others_in (take (i + 1) lines) ≡ others_in (take i lines)
covered_same lines i sent value is same =
    one_more lines i (sent, value) is ∙ ap (λ rest. others_in (take i lines) ++ rest) (rw same refl) ∙ append-nil (others_in (take i lines))

pub texts_more : (names : List Name) (name : Name) → texts (names ++ name ∷ []) ≡ texts names ++ name_text name ∷ []
texts_more names name = map-append name_text names (name ∷ [])

-- the text of the name at a place
pub text_at : (names : List Name) (i : ℕ) (name : Name) → i < length names → name ≡ get_or names i name → get_or (texts names) i [] ≡ name_text name
text_at names i name within is = get_or-map name_text names i name [] within ∙ ap name_text (sym is)

pub length-texts : (names : List Name) → length (texts names) ≡ length names
length-texts names = length-map names name_text

-- what is left of equal neighbours, by the texts
dedup_from-texts : (same : Name → Name → Bool) → ((x y : Name) → same x y ≡ bytes_eq (name_text x) (name_text y)) → (k : Name) (names : List Name) → texts (dedup_from same k names) ≡ dedup_from bytes_eq (name_text k) (texts names)
dedup_from-texts same is k [] = refl
dedup_from-texts same is k (x ∷ names) = by (bytes_eq (name_text x) (name_text k)) refl (λ y. dedup_from-texts same is y names)
  where
    by : (b : Bool) → bytes_eq (name_text x) (name_text k) ≡ b → ((y : Name) → texts (dedup_from same y names) ≡ dedup_from bytes_eq (name_text y) (texts names)) → texts (dedup_from same k (x ∷ names)) ≡ dedup_from bytes_eq (name_text k) (texts (x ∷ names))
    by true h rest = rw (is x k, h) (rest k)
    by false h rest = rw (is x k, h) (ap (λ ns. name_text k ∷ ns) (rest x))

pub dedup-texts : (same : Name → Name → Bool) → ((x y : Name) → same x y ≡ bytes_eq (name_text x) (name_text y)) → (names : List Name) → texts (dedup same names) ≡ dedup bytes_eq (texts names)
dedup-texts same is [] = refl
dedup-texts same is (x ∷ names) = dedup_from-texts same is x names

-- names that were sorted are their texts in order
pub sorted-texts : (names sorted : List Name) → IsPermutation names sorted → IsSorted (λ x y. byte_order (name_text x) (name_text y)) sorted → texts sorted ≡ sorted_by byte_order (texts names)
sorted-texts names sorted same up =
    sorted_by-unique byte_order nat_list_cmp_total exact_bytes (texts names) (texts sorted) (IsPermutation-map name_text names sorted same) (IsSorted-map name_text byte_order sorted up)

-- and so they are ordered
pub ordered-texts : (names sorted : List Name) → IsPermutation names sorted → IsSorted (λ x y. byte_order (name_text x) (name_text y)) sorted → IsOrdered (texts names)
ordered-texts names sorted same up =
    is_ordered (texts names) (texts sorted) (IsPermutation-map name_text names sorted same) (sorted-texts names sorted same up) (IsSorted-map name_text byte_order sorted up)
