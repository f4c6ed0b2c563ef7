-- The order in which parameters are signed.
use Rattle.std.proofs.Common.{◌≡◌, refl, sym, ap, ap₂, subst, ◌∙◌, Bool, true, false, cond, ℕ, List, [], ◌∷◌, ◌++◌, map, filter, IsPermutation, ⊎_elim}
use Rattle.std.specs.Prelude.{codes}
use Rattle.std.proofs.lemmas.Bool.{cases_Bool, cond-true, cond-false, false≢true}
use Rattle.std.proofs.lemmas.Cmp.{on_total, then_total}
use Rattle.std.proofs.lemmas.List.Elements.{filter-append}
use Rattle.std.proofs.lemmas.List.Sorted.{IsPermutation-map, IsPermutation-trans, IsPermutation-sym}
use Rattle.std.specs.Cmp.{IsTotalOrder}
use Rattle.std.specs.Cmp.Lexicographic.{nat_list_cmp_total}
use Rattle.std.specs.List.{join_with_byte}
use Rattle.std.specs.Ordering.{is_gt, is_eq, ordering_then}
use Rattle.std.specs.declared.cmp.Ordering.{Ordering}
use Rattle.std.specs.declared.cmp.Ordering.TheVariants.{Less, Equal, Greater}
use Rattle.s3_text.specs.Order.{byte_order}
use Rattle.s3_text.specs.Sorting.{insert_by, sorted_by}
use Rattle.s3_text.proofs.MapLemmas.{tied_equal}
use Rattle.s3_canonical.specs.CanonicalTarget.{encoded_pair, pair_cmp, sorted_pairs, print_pair, is_signed_parameter, canonical_query}
use Rattle.s3_rule_laws.specs.Sorting.{IsInOrder, TellsApart}
use Rattle.s3_rule_laws.specs.SignedQueries.{ParametersAreOrdered, ParametersAreSorted, SentOrderIsNotSigned, SignatureIsNotSigned}
use Rattle.s3_rule_laws.proofs.OrderLemmas.{AllAtLeast, Ascends, at_least_below}
use Rattle.s3_rule_laws.proofs.SortingLemmas.{past, here, sorted_elements, sorted_ascends, sorting_makes_order, one_list_is_in_order, order_before_is_forgotten}

-- ---- the order of parameters

total : IsTotalOrder pair_cmp
total = then_total (on_total (λ (p : List ℕ × List ℕ). p.0) nat_list_cmp_total) (on_total (λ (p : List ℕ × List ℕ). p.1) nat_list_cmp_total)

both_equal : (o p : Ordering) → ordering_then o p ≡ Equal → (o ≡ Equal) × (p ≡ Equal)
both_equal Less p is = absurd (false≢true (ap is_eq is))
both_equal Equal p is = (refl, is)
both_equal Greater p is = absurd (false≢true (ap is_eq is))

apart : TellsApart pair_cmp
apart x y tie =
    let both = both_equal (byte_order x.0 y.0) (byte_order x.1 y.1) tie in
    ap₂ (λ n v. (n, v)) (tied_equal x.0 y.0 (ap is_eq both.0)) (tied_equal x.1 y.1 (ap is_eq both.1))

pub parameters_are_ordered : ParametersAreOrdered
parameters_are_ordered = record { total = total; apart = apart }

pub parameters_are_sorted : ParametersAreSorted
parameters_are_sorted sent sorted = (
  λ is. subst (λ zs. IsPermutation sent zs × IsInOrder pair_cmp zs) (sym is) (sorted_elements pair_cmp sent, sorting_makes_order pair_cmp total sent),
  λ both. one_list_is_in_order pair_cmp total apart sent sorted both.0 both.1,
)

-- ---- what is left of a list in order

module _ {X : Type 0} (cmp : X → X → Ordering) (p : X → Bool) where
  left_at_least : (x : X) (ys : List X) → AllAtLeast cmp x ys → AllAtLeast cmp x (filter p ys)
  left_at_least x [] all = tt
  left_at_least x (y ∷ ys) all =
      ⊎_elim
      (λ stays. subst (AllAtLeast cmp x) (sym (cond-true _ _ _ stays)) (all.0, left_at_least x ys all.1))
      (λ goes. subst (AllAtLeast cmp x) (sym (cond-false _ _ _ goes)) (left_at_least x ys all.1))
      (cases_Bool (p y))

  -- what is at most each is put in front
  put_first : (x : X) (ys : List X) → AllAtLeast cmp x ys → insert_by cmp x ys ≡ x ∷ ys
  put_first x [] all = refl
  put_first x (y ∷ ys) all = here cmp x y ys all.0

  left_put : (x : X) (ys : List X) → p x ≡ false → filter p (insert_by cmp x ys) ≡ filter p ys
  left_put x [] goes = cond-false _ _ _ goes
  left_put x (y ∷ ys) goes =
      ⊎_elim
      (λ gt. ap (filter p) (past cmp x y ys gt) ∙ ap (λ rest. cond (p y) (y ∷ rest) rest) (left_put x ys goes))
      (λ le. ap (filter p) (here cmp x y ys le) ∙ cond-false _ _ _ goes)
      (cases_Bool (is_gt (cmp x y)))

  put_behind : (x y : X) (rest : List X) (b : Bool) → is_gt (cmp x y) ≡ true → cond b (y ∷ insert_by cmp x rest) (insert_by cmp x rest) ≡ insert_by cmp x (cond b (y ∷ rest) rest)
  put_behind x y rest true gt = sym (past cmp x y rest gt)
  put_behind x y rest false gt = refl

  kept_put : (x : X) (ys : List X) → Ascends cmp ys → (below : (y : X) (zs : List X) → is_gt (cmp x y) ≡ false → AllAtLeast cmp y zs → AllAtLeast cmp x zs) → p x ≡ true
      → filter p (insert_by cmp x ys) ≡ insert_by cmp x (filter p ys)
  kept_put x [] up below stays = cond-true _ _ _ stays
  kept_put x (y ∷ ys) up below stays =
      ⊎_elim
      (λ gt. ap (filter p) (past cmp x y ys gt)
      ∙ ap (λ rest. cond (p y) (y ∷ rest) rest) (kept_put x ys up.1 below stays)
      ∙ put_behind x y (filter p ys) (p y) gt)
      (λ le. ap (filter p) (here cmp x y ys le)
      ∙ cond-true _ _ _ stays
      ∙ sym (put_first x (filter p (y ∷ ys)) (left_at_least x (y ∷ ys) (le, below y ys le up.0))))
      (cases_Bool (is_gt (cmp x y)))

  module _ (total : IsTotalOrder cmp) where
    -- what is left of the sorted list is what is left of the list, sorted
    left_sorted : (xs : List X) → filter p (sorted_by cmp xs) ≡ sorted_by cmp (filter p xs)
    unfolding sorted_by
    left_sorted [] = refl
    left_sorted (x ∷ xs) =
        ⊎_elim
        (λ stays. kept_put x (sorted_by cmp xs) (sorted_ascends cmp total xs) (λ y zs. at_least_below cmp total x y zs) stays
        ∙ ap (insert_by cmp x) (left_sorted xs)
        ∙ ap (sorted_by cmp) (sym (cond-true _ (x ∷ filter p xs) (filter p xs) stays)))
        (λ goes. left_put x (sorted_by cmp xs) goes ∙ left_sorted xs
        ∙ ap (sorted_by cmp) (sym (cond-false _ (x ∷ filter p xs) (filter p xs) goes)))
        (cases_Bool (p x))

    pub left_permuted : TellsApart cmp → (xs ys : List X) → IsPermutation xs ys → IsPermutation (filter p xs) (filter p ys)
    left_permuted apart xs ys same =
        let sorted : sorted_by cmp (filter p ys) ≡ sorted_by cmp (filter p xs) =
        sym (left_sorted ys) ∙ ap (filter p) (order_before_is_forgotten cmp total apart xs ys same) ∙ left_sorted xs in
        IsPermutation-trans (filter p xs) (sorted_by cmp (filter p xs)) (filter p ys)
        (sorted_elements cmp (filter p xs))
        (subst (λ zs. IsPermutation zs (filter p ys)) sorted
        (IsPermutation-sym (filter p ys) (sorted_by cmp (filter p ys)) (sorted_elements cmp (filter p ys))))

-- ---- canonical queries

abbrev pub signed_in : List (List ℕ × List ℕ) → List (List ℕ × List ℕ)
signed_in parameters = map encoded_pair (filter is_signed_parameter parameters)

abbrev pub query_of : List (List ℕ × List ℕ) → List ℕ
query_of pairs = join_with_byte 38 (map print_pair pairs)

pub sent_order_is_not_signed : SentOrderIsNotSigned
unfolding canonical_query
sent_order_is_not_signed target other same =
    ap query_of
    (sym (order_before_is_forgotten pair_cmp total apart (signed_in target.parameters) (signed_in other.parameters)
    (IsPermutation-map encoded_pair (filter is_signed_parameter target.parameters) (filter is_signed_parameter other.parameters)
    (left_permuted pair_cmp is_signed_parameter total apart target.parameters other.parameters same))))

left_out : (front rest : List (List ℕ × List ℕ)) (signature : List ℕ) → filter is_signed_parameter (front ++ (codes "X-Amz-Signature", signature) ∷ rest) ≡ filter is_signed_parameter (front ++ rest)
left_out front rest signature =
    filter-append is_signed_parameter front ((codes "X-Amz-Signature", signature) ∷ rest) ∙ sym (filter-append is_signed_parameter front rest)

pub signature_is_not_signed : SignatureIsNotSigned
unfolding canonical_query
signature_is_not_signed target front rest signature is =
    ap (λ parameters. query_of (sorted_pairs (map encoded_pair (filter is_signed_parameter parameters)))) is
    ∙ ap (λ parameters. query_of (sorted_pairs (map encoded_pair parameters))) (left_out front rest signature)
