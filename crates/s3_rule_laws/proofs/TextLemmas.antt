-- Texts in the order of bytes.
use Rattle.std.proofs.Common.{◌≡◌, ◌≢◌, refl, sym, ap, subst, ◌∙◌, true, ℕ, zero, suc, List, [], ◌∷◌, ◌++◌, Contains, IsPermutation, arith}
use Rattle.std.proofs.lemmas.Bool.{false≢true, and_parts, and_from}
use Rattle.std.proofs.lemmas.Cmp.{tied_itself}
use Rattle.std.specs.Cmp.Lexicographic.{nat_list_cmp_total}
use Rattle.std.specs.Ordering.{is_gt, is_lt, is_eq}
use Rattle.std.specs.declared.cmp.Ordering.{Ordering}
use Rattle.std.specs.declared.cmp.Ordering.TheVariants.{Less, Equal, Greater}
use Rattle.s3_text.specs.Order.{byte_order, rises}
use Rattle.s3_text.proofs.MapLemmas.{tied_equal}
use Rattle.s3_rule_laws.specs.Sorting.{IsInOrder, TellsApart, AreDistinct, BytesOrderTexts, TextsAreSorted, DistinctTextsRise}
use Rattle.s3_rule_laws.proofs.OrderLemmas.{nothing_held, held_first}
use Rattle.s3_rule_laws.proofs.SortingLemmas.{sorted_elements, sorting_makes_order, one_list_is_in_order}

texts_apart : TellsApart byte_order
texts_apart x y tie = tied_equal x y (ap is_eq tie)

pub bytes_order_texts : BytesOrderTexts
bytes_order_texts = record { total = nat_list_cmp_total; apart = texts_apart }

pub texts_are_sorted : TextsAreSorted
texts_are_sorted xs ys = (
  λ is. subst (λ zs. IsPermutation xs zs × IsInOrder byte_order zs) (sym is) (sorted_elements byte_order xs, sorting_makes_order byte_order nat_list_cmp_total xs),
  λ both. one_list_is_in_order byte_order nat_list_cmp_total texts_apart xs ys both.0 both.1,
)

-- ---- texts that rise

is_less : (o : Ordering) → is_lt o ≡ true → o ≡ Less
is_less Less is = refl
is_less Equal is = absurd (false≢true is)
is_less Greater is = absurd (false≢true is)

less_not_greater : (o : Ordering) → o ≡ Less → o ≢ Greater
less_not_greater o less same = false≢true (ap is_gt (sym less) ∙ ap is_gt same)

less_is : (o : Ordering) → o ≢ Greater → o ≢ Equal → is_lt o ≡ true
less_is Less above tie = refl
less_is Equal above tie = absurd (tie refl)
less_is Greater above tie = absurd (above refl)

rises_tail : (x : List ℕ) (rest : List (List ℕ)) → rises (x ∷ rest) ≡ true → rises rest ≡ true
rises_tail x [] is = refl
rises_tail x (y ∷ rest) is = (and_parts (is_lt (byte_order x y)) (rises (y ∷ rest)) is).1

rises_behind : (front : List (List ℕ)) (x : List ℕ) (rest : List (List ℕ)) → rises (front ++ x ∷ rest) ≡ true → rises (x ∷ rest) ≡ true
rises_behind [] x rest is = is
rises_behind (f ∷ front) x rest is = rises_behind front x rest (rises_tail f (front ++ x ∷ rest) is)

-- each behind the first is greater
below_all : (x : List ℕ) (rest : List (List ℕ)) → rises (x ∷ rest) ≡ true → (y : List ℕ) → Contains rest y → byte_order x y ≡ Less
below_all x [] is y held = absurd (nothing_held y held)
below_all x (z ∷ rest) is y (zero, within, same) =
    ap (byte_order x) (sym same) ∙ is_less (byte_order x z) (and_parts (is_lt (byte_order x z)) (rises (z ∷ rest)) is).0
below_all x (z ∷ rest) is y (suc k, within, same) =
    let both = and_parts (is_lt (byte_order x z)) (rises (z ∷ rest)) is in
    nat_list_cmp_total.trans x z y (is_less (byte_order x z) both.0) (below_all z rest both.1 y (k, omega arith, same))

below_at : (xs front rest : List (List ℕ)) (x y : List ℕ) → rises xs ≡ true → xs ≡ front ++ x ∷ rest → Contains rest y → byte_order x y ≡ Less
below_at xs front rest x y is split held =
    below_all x rest (rises_behind front x rest (subst (λ zs. rises zs ≡ true) split is)) y held

order_from_rise : (xs : List (List ℕ)) → rises xs ≡ true → IsInOrder byte_order xs
order_from_rise xs is front rest x y split held = less_not_greater (byte_order x y) (below_at xs front rest x y is split held)

distinct_from_rise : (xs : List (List ℕ)) → rises xs ≡ true → AreDistinct xs
distinct_from_rise xs is front rest x split held =
    false≢true (ap is_eq (sym (below_at xs front rest x x is split held)) ∙ ap is_eq (tied_itself nat_list_cmp_total x))

rise_from_both : (xs : List (List ℕ)) → IsInOrder byte_order xs → AreDistinct xs → rises xs ≡ true
rise_from_both [] order distinct = refl
rise_from_both (x ∷ []) order distinct = refl
rise_from_both (x ∷ y ∷ rest) order distinct =
    let first = held_first y y rest refl in
    let apart : byte_order x y ≢ Equal = λ tie.
    distinct [] (y ∷ rest) x refl (held_first x y rest (sym (texts_apart x y tie))) in
    and_from (is_lt (byte_order x y)) (rises (y ∷ rest))
    (less_is (byte_order x y) (order [] (y ∷ rest) x y refl first) apart)
    (rise_from_both (y ∷ rest)
    (λ front behind v w split held. order (x ∷ front) behind v w (ap (λ zs. x ∷ zs) split) held)
    (λ front behind v split held. distinct (x ∷ front) behind v (ap (λ zs. x ∷ zs) split) held))

pub distinct_texts_rise : DistinctTextsRise
distinct_texts_rise xs = (λ is. (order_from_rise xs is, distinct_from_rise xs is), λ both. rise_from_both xs both.0 both.1)
