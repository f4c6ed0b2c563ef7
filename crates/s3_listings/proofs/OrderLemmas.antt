-- The order of texts, and beginnings of them.
use Rattle.std.proofs.Common.{◌≡◌, ◌⊎◌, inl, inr, refl, sym, ap, subst, ◌∙◌, true, false, not, ℕ, List, [], ◌∷◌, ◌++◌}
use Rattle.std.specs.declared.cmp.Ordering.{Ordering}
use Rattle.std.specs.declared.cmp.Ordering.TheVariants.{Less, Equal, Greater}
use Rattle.std.specs.Ordering.{is_lt, is_le, ordering_then, ordering_reverse, nat_cmp}
use Rattle.std.specs.Cmp.Lexicographic.{nat_list_cmp_total}
use Rattle.std.specs.FinMap.{nat_cmp-IsAntisymmetric, slice_cmp-IsAntisymmetric}
use Rattle.std.proofs.lemmas.Bool.{false≢true, false_from_ne_true}
use Rattle.std.proofs.lemmas.Cmp.{tied_itself}
use Rattle.s3_text.specs.Order.{byte_order}
use Rattle.s3_prefixes.specs.Items.{is_before}

pub less : (o : Ordering) → is_lt o ≡ true → o ≡ Less
less Less h = refl
less Equal h = absurd (false≢true h)
less Greater h = absurd (false≢true h)

pub before_trans : (x y z : List ℕ) → is_before x y ≡ true → is_before y z ≡ true → is_before x z ≡ true
before_trans x y z a b = ap is_lt (nat_list_cmp_total.trans x y z (less _ a) (less _ b))

pub not_before_itself : (x : List ℕ) → is_before x x ≡ true → ⊥
not_before_itself x a = false≢true (sym (ap is_lt (tied_itself nat_list_cmp_total x)) ∙ a)

pub one_way : (x y : List ℕ) → is_before x y ≡ true → is_before y x ≡ true → ⊥
one_way x y a b = not_before_itself x (before_trans x y x a b)

-- of two texts one is before the other, or they are one
abbrev pub OrderOf : List ℕ → List ℕ → Type 0
OrderOf x y = (is_before x y ≡ true) ⊎ ((x ≡ y) ⊎ (is_before y x ≡ true))

pub order_of : (x y : List ℕ) → OrderOf x y
order_of x y = elim (byte_order x y) as (λ o. byte_order x y ≡ o → OrderOf x y) [
  | Less ↦ λ is. inl (ap is_lt is)
  | Equal ↦ λ is. inr (inl (slice_cmp-IsAntisymmetric nat_cmp-IsAntisymmetric x y is))
  | Greater ↦ λ is. inr (inr (ap is_lt (nat_list_cmp_total.antisymm y x ∙ ap ordering_reverse is)))
] refl

-- Of two texts of which one is before the other, a beginning of the first is before a beginning of the second, or begins with it.
abbrev pub CutOrder : List ℕ → List ℕ → Type 0
CutOrder p q = (is_before p q ≡ true) ⊎ ((u : List ℕ) × (p ≡ q ++ u))

behind_same : (x y : ℕ) (p q : List ℕ) → nat_cmp x y ≡ Equal → CutOrder p q → CutOrder (x ∷ p) (y ∷ q)
behind_same x y p q is (inl before) = inl (ap (λ o. is_lt (ordering_then o (byte_order p q))) is ∙ before)
behind_same x y p q is (inr (u, cut)) = inr (u, (ap (λ z. z ∷ p) (nat_cmp-IsAntisymmetric x y is) ∙ ap (λ l. y ∷ l) cut))

pub cut_order : (p q s t : List ℕ) → is_before (p ++ s) (q ++ t) ≡ true → CutOrder p q
cut_order [] [] s t h = inr ([], refl)
cut_order [] (y ∷ q) s t h = inl refl
cut_order (x ∷ p) [] s t h = inr ((x ∷ p), refl)
cut_order (x ∷ p) (y ∷ q) s t h = elim (nat_cmp x y) as (λ o. nat_cmp x y ≡ o → CutOrder (x ∷ p) (y ∷ q)) [
  | Less ↦ λ is. inl (ap (λ o. is_lt (ordering_then o (byte_order p q))) is)
  | Equal ↦ λ is. behind_same x y p q is (cut_order p q s t (sym (ap (λ o. is_lt (ordering_then o (byte_order (p ++ s) (q ++ t)))) is) ∙ h))
  | Greater ↦ λ is. absurd (false≢true (sym (ap (λ o. is_lt (ordering_then o (byte_order (p ++ s) (q ++ t)))) is) ∙ h))
] refl

-- a text that isn't before another is that one, or behind it
pub not_back : (x y : List ℕ) → is_before x y ≡ true → is_before y x ≡ false
not_back x y before = false_from_ne_true (is_before y x) (λ back. one_way x y before back)

pub same_not_before : (x y : List ℕ) → x ≡ y → is_before x y ≡ false
same_not_before x y same = false_from_ne_true (is_before x y) (λ before. not_before_itself x (subst (λ z. is_before x z ≡ true) (sym same) before))

pub up_to_before : (x y z : List ℕ) → is_before y x ≡ false → is_before y z ≡ true → is_before x z ≡ true
up_to_before x y z up_to before = elim (order_of x y) [
  | inl sooner ↦ before_trans x y z sooner before
  | inr other ↦ elim other [
    | inl same ↦ subst (λ w. is_before w z ≡ true) (sym same) before
    | inr later ↦ absurd (false≢true (sym up_to ∙ later))
  ]
]

pub before_up_to : (x y z : List ℕ) → is_before x y ≡ true → is_before z y ≡ false → is_before x z ≡ true
before_up_to x y z before up_to = elim (order_of y z) [
  | inl sooner ↦ before_trans x y z before sooner
  | inr other ↦ elim other [
    | inl same ↦ subst (λ w. is_before x w ≡ true) same before
    | inr later ↦ absurd (false≢true (sym up_to ∙ later))
  ]
]

pub up_to_up_to : (x y z : List ℕ) → is_before y x ≡ false → is_before z y ≡ false → is_before z x ≡ false
up_to_up_to x y z first second = false_from_ne_true (is_before z x) (λ back. false≢true (sym first ∙ up_to_before y z x second back))

le_or_gt : (o : Ordering) → is_le o ≡ not (is_lt (ordering_reverse o))
le_or_gt Less = refl
le_or_gt Equal = refl
le_or_gt Greater = refl

pub up_to_order : (x y : List ℕ) → is_le (byte_order x y) ≡ not (is_before y x)
up_to_order x y = le_or_gt (byte_order x y) ∙ ap (λ o. not (is_lt o)) (sym (nat_list_cmp_total.antisymm y x))
