-- Parameters, sorted by the code, are the pairs in their order.
use Rattle.std.proofs.Common.{◌≡◌, ℕ, ◌+◌, true, false, List, [], ◌∷◌, ◌++◌, Some, IsPermutation, map, filter, take, slice_get, refl, ap, ◌∙◌, append-nil}
use Rattle.std.specs.Prelude.{codes}
use Rattle.std.specs.Str.{bytes_eq}
use Rattle.std.proofs.lemmas.List.{take_more, map-append}
use Rattle.std.proofs.lemmas.List.Elements.{filter-append}
use Rattle.std.proofs.lemmas.Option.{get_or_from_slice_get, slice_get_within}
use Rattle.std.specs.Cmp.{IsTotalOrder}
use Rattle.std.specs.List.Sorted.{IsSorted}
use Rattle.std.proofs.lemmas.Cmp.{nat_list_cmp_total, on_total, then_total}
use Rattle.std.proofs.lemmas.List.Sorted.{IsPermutation-map}
use Rattle.std.proofs.lemmas.Map.Lookups.{CmpEqualImpliesEq, exact_bytes, exact_pairs}
use Rattle.s3_text.specs.Order.{byte_order}
use Rattle.s3_canonical.specs.declared.parameter.Parameter.{Parameter}
use Rattle.s3_canonical.specs.Parameter.{pair, pairs}
use Rattle.s3_canonical.specs.CanonicalTarget.{encoded_pair, is_signed_parameter, pair_cmp, sorted_pairs}
use Rattle.s3_text.proofs.SortingLemmas.{sorted_by-unique, IsSorted-map}

-- the order of parameters is total, and tells any two apart
pair_cmp_total : IsTotalOrder pair_cmp
pair_cmp_total = then_total (on_total (λ (p : List ℕ × List ℕ). p.0) nat_list_cmp_total) (on_total (λ (p : List ℕ × List ℕ). p.1) nat_list_cmp_total)

pair_cmp_exact : CmpEqualImpliesEq pair_cmp
pair_cmp_exact = exact_pairs byte_order byte_order exact_bytes exact_bytes

-- what the sort of the code leaves
pub pairs-sorted : (xs ys : List Parameter) → IsPermutation xs ys → IsSorted (λ p q. pair_cmp (pair p) (pair q)) ys → pairs ys ≡ sorted_pairs (pairs xs)
pairs-sorted xs ys same up =
    sorted_by-unique pair_cmp pair_cmp_total pair_cmp_exact (pairs xs) (pairs ys) (IsPermutation-map pair xs ys same) (IsSorted-map pair pair_cmp ys up)

-- the parameters that are signed, encoded, of those of a list
abbrev pub signed_in : List (List ℕ × List ℕ) → List (List ℕ × List ℕ)
signed_in all = map encoded_pair (filter is_signed_parameter all)

one_more : (all : List (List ℕ × List ℕ)) (i : ℕ) (name value : List ℕ) → slice_get all i ≡ Some (name, value) → signed_in (take (i + 1) all) ≡ signed_in (take i all) ++ signed_in ((name, value) ∷ [])
one_more all i name value is =
    ap signed_in (take_more all i (name, value) (slice_get_within all i (name, value) is) ∙ ap (λ pair. take i all ++ pair ∷ []) (get_or_from_slice_get all i (name, value) (name, value) is))
    ∙ ap (map encoded_pair) (filter-append is_signed_parameter (take i all) ((name, value) ∷ []))
    ∙ map-append encoded_pair (filter is_signed_parameter (take i all)) (filter is_signed_parameter ((name, value) ∷ []))

-- one parameter more, which is signed, or is not
pub signed_more : (all : List (List ℕ × List ℕ)) (i : ℕ) (name value : List ℕ) → slice_get all i ≡ Some (name, value) → bytes_eq name (codes "X-Amz-Signature") ≡ false → signed_in (take (i + 1) all) ≡ signed_in (take i all) ++ encoded_pair (name, value) ∷ []
signed_more all i name value is other =
    one_more all i name value is ∙ ap (λ rest. signed_in (take i all) ++ rest) (rw other refl)

pub signed_same : (all : List (List ℕ × List ℕ)) (i : ℕ) (name value : List ℕ) → slice_get all i ≡ Some (name, value) → bytes_eq name (codes "X-Amz-Signature") ≡ true → signed_in (take (i + 1) all) ≡ signed_in (take i all)
signed_same all i name value is same =
    one_more all i name value is ∙ ap (λ rest. signed_in (take i all) ++ rest) (rw same refl) ∙ append-nil (signed_in (take i all))

pub ruleset sorting = (pairs-sorted)
