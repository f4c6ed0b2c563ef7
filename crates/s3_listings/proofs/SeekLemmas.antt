-- Texts that begin alike stand together in the order of texts.
use Rattle.std.proofs.Common.{◌≡◌, ℕ, ◌+◌, ◌<◌, Bool, true, false, not, List, [], ◌∷◌, ◌++◌, length, drop, refl, sym, ap, ◌∙◌, arith, ⊎_elim}
use Rattle.std.specs.declared.cmp.Ordering.{Ordering}
use Rattle.std.specs.declared.cmp.Ordering.TheVariants.{Less, Equal, Greater}
use Rattle.std.specs.Ordering.{ordering_then, is_lt, nat_cmp}
use Rattle.std.proofs.lemmas.Cmp.{nat_list_cmp_total, tied_itself, nat_cmp_total}
use Rattle.std.proofs.lemmas.Bool.{cases_order, false≢true}
use Rattle.s3_text.specs.Order.{byte_order}
use Rattle.s3_prefixes.specs.Items.{is_before}

pub not_true : (b : Bool) → not b ≡ true → b ≡ false
not_true true h = absurd (cc)
not_true false h = refl

pub not_itself : (a : List ℕ) → is_before a a ≡ false
not_itself a = ap is_lt (tied_itself nat_list_cmp_total a)

-- what two texts have in front doesn't decide
pub same_front : (p a b : List ℕ) → byte_order (p ++ a) (p ++ b) ≡ byte_order a b
same_front [] a b = refl
same_front (c ∷ p) a b = ap (λ o. ordering_then o (byte_order (p ++ a) (p ++ b))) (tied_itself nat_cmp_total c) ∙ same_front p a b

not_before_nothing : (a : List ℕ) → is_before a [] ≡ false
not_before_nothing [] = refl
not_before_nothing (b ∷ a) = refl

-- a text isn't before its beginning
pub not_before_front : (p a : List ℕ) → is_before (p ++ a) p ≡ false
not_before_front [] a = not_before_nothing a
not_before_front (c ∷ p) a = ap (λ o. is_lt (ordering_then o (byte_order (p ++ a) p))) (tied_itself nat_cmp_total c) ∙ not_before_front p a

-- neither head is the lesser: they are one, and the tails decide
pub record SameHead (b c : ℕ) (o q : Ordering) : Type 0 where
  pub head : b ≡ c
  pub tail : is_lt o ≡ false
  pub back : is_lt q ≡ false

less_decides : (x o : Ordering) → x ≡ Less → is_lt (ordering_then x o) ≡ true
less_decides x o is = ap (λ y. is_lt (ordering_then y o)) is

equal_decides : (x o : Ordering) → x ≡ Equal → is_lt (ordering_then x o) ≡ is_lt o
equal_decides x o is = ap (λ y. is_lt (ordering_then y o)) is

lesser : (b c : ℕ) → b < c → nat_cmp b c ≡ Less
lesser b c h = grind arith

equals : (b c : ℕ) → b ≡ c → nat_cmp b c ≡ Equal
equals b c h = grind arith

greater : (b c : ℕ) → c < b → nat_cmp b c ≡ Greater
greater b c h = grind arith

greater_decides : (x o : Ordering) → x ≡ Greater → false ≡ is_lt (ordering_then x o)
greater_decides x o is = sym (ap (λ y. is_lt (ordering_then y o)) is)

-- a head that is neither lesser nor greater
raised_tail : (a c : ℕ) (o q : Ordering) → is_lt (ordering_then (nat_cmp c a) o) ≡ false → is_lt (ordering_then (nat_cmp c a) q) ≡ true → (c ≡ a) × (is_lt o ≡ false) × (is_lt q ≡ true)
raised_tail a c o q low high =
    ⊎_elim
    (λ (same : c ≡ a). (same, sym (equal_decides (nat_cmp c a) o (equals c a same)) ∙ low, sym (equal_decides (nat_cmp c a) q (equals c a same)) ∙ high))
    (λ apart. ⊎_elim
    (λ below. absurd (false≢true (sym low ∙ less_decides (nat_cmp c a) o (lesser c a below))))
    (λ above. absurd (false≢true (greater_decides (nat_cmp c a) q (greater c a above) ∙ high)))
    apart)
    (cases_order c a)

same_head : (b c : ℕ) (o q : Ordering) → is_lt (ordering_then (nat_cmp b c) o) ≡ false → is_lt (ordering_then (nat_cmp c b) q) ≡ false → SameHead b c o q
same_head b c o q h k =
    ⊎_elim
    (λ (same : b ≡ c). record {
      head = same;
      tail = sym (equal_decides (nat_cmp b c) o (equals b c same)) ∙ h;
      back = sym (equal_decides (nat_cmp c b) q (equals c b (sym same))) ∙ k;
    })
    (λ apart. ⊎_elim
    (λ below. absurd (false≢true (sym h ∙ less_decides (nat_cmp b c) o (lesser b c below))))
    (λ above. absurd (false≢true (sym k ∙ less_decides (nat_cmp c b) q (lesser c b above))))
    apart)
    (cases_order b c)

-- what stands between two texts that begin alike begins so too
pub between : (p s t k : List ℕ) → is_before k (p ++ s) ≡ false → is_before (p ++ t) k ≡ false → k ≡ p ++ drop (length p) k
between [] s t k low high = refl
between (c ∷ p) s t [] low high = absurd (false≢true (sym low))
between (c ∷ p) s t (b ∷ k) low high =
    let heads = same_head b c (byte_order k (p ++ s)) (byte_order (p ++ t) k) low high in
    rw heads.head (ap (λ r. c ∷ r) (between p s t k heads.tail heads.back))

-- the beginning of a text, with its last byte raised by one, is behind all that begin so
pub raised_behind : (p s : List ℕ) (b : ℕ) → is_before (p ++ b ∷ s) (p ++ (b + 1) ∷ []) ≡ true
raised_behind p s b =
    ap is_lt (same_front p (b ∷ s) ((b + 1) ∷ []))
    ∙ less_decides (nat_cmp b (b + 1)) (byte_order s []) (lesser b (b + 1) (omega arith))

-- a head that isn't lesser, and is not above
raised_head : (b c : ℕ) (k s : List ℕ) → is_lt (ordering_then (nat_cmp c b) (byte_order k s)) ≡ false → is_lt (ordering_then (nat_cmp c (b + 1)) (byte_order k [])) ≡ true → c ≡ b
raised_head b c k s low high =
    ⊎_elim
    (λ same. same)
    (λ apart. ⊎_elim
    (λ below. absurd (false≢true (sym low ∙ less_decides (nat_cmp c b) (byte_order k s) (lesser c b below))))
    (λ above. ⊎_elim
    (λ (at : c ≡ b + 1). absurd (false≢true (sym (not_before_nothing k) ∙ sym (equal_decides (nat_cmp c (b + 1)) (byte_order k []) (equals c (b + 1) at)) ∙ high)))
    (λ further. ⊎_elim
    (λ (below : c < b + 1). absurd (omega arith))
    (λ (over : b + 1 < c). absurd (false≢true (greater_decides (nat_cmp c (b + 1)) (byte_order k []) (greater c (b + 1) over) ∙ high)))
    further)
    (cases_order c (b + 1)))
    apart)
    (cases_order c b)

-- so what stands from one of them on, and before that, begins so too
pub below_raised : (p s k : List ℕ) (b : ℕ) → is_before k (p ++ b ∷ s) ≡ false → is_before k (p ++ (b + 1) ∷ []) ≡ true → k ≡ (p ++ b ∷ []) ++ drop (length (p ++ b ∷ [])) k
below_raised [] s [] b low high = absurd (false≢true (sym low))
below_raised [] s (c ∷ k) b low high = rw (raised_head b c k s low high) refl
below_raised (a ∷ p) s [] b low high = absurd (false≢true (sym low))
below_raised (a ∷ p) s (c ∷ k) b low high =
    let heads = raised_tail a c (byte_order k (p ++ b ∷ s)) (byte_order k (p ++ (b + 1) ∷ [])) low high in
    rw heads.0 (ap (λ r. a ∷ r) (below_raised p s k b heads.1 heads.2))
