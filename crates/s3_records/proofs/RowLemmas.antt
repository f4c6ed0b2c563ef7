-- What a bucket holds, of which lists are made: its keys rise, and what is found under one stands there.
use Rattle.std.proofs.Common.{◌≡◌, refl, sym, ap, ◌∙◌, Bool, true, false, cond, ◌&&◌, T, ℕ, zero, suc, ◌<◌, List, [], ◌∷◌, length, map, Option, Some, None, arith}
use Rattle.std.proofs.lemmas.Option.{none-some, same_Some}
use Rattle.std.specs.Cmp.{eq_by_cmp_equiv, IsTotalOrder}
use Rattle.std.specs.Cmp.Lexicographic.{nat_list_cmp_total}
use Rattle.std.specs.FinMap.{get, get-entries, entries_sorted, IsAntisymmetric}
use Rattle.std.specs.FinMap.Entries.{find, is_sorted, below_all}
use Rattle.std.specs.List.{Contains}
use Rattle.std.specs.Ordering.{is_lt, is_eq, eq_by_cmp}
use Rattle.std.specs.declared.cmp.Ordering.{Ordering}
use Rattle.std.specs.declared.cmp.Ordering.TheVariants.{Less, Equal, Greater}
use Rattle.s3_text.specs.Order.{byte_order, rises}
use Rattle.s3_records.proofs.OrderedLemmas.{keys_differ}
use Rattle.s3_records.specs.Catalogue.{Bucket}
use Rattle.s3_records.specs.Rows.{Held, held_in, key_row}
use Rattle.s3_records.specs.Laws.{KeysRise, HeldIsGot}

pub is_true : (b : Bool) → T b → b ≡ true
is_true true holds = refl
is_true false holds = absurd holds

pub first_of : (a b : Bool) → T (a && b) → T a
first_of true b holds = tt
first_of false b holds = holds

pub second_of : (a b : Bool) → T (a && b) → T b
second_of true b holds = holds
second_of false b holds = absurd holds

-- the keys of entries that are sorted rise
keys_of_sorted : {B : Type 0} (es : List (Held B)) → T (is_sorted byte_order es) → rises (map (λ row. row.key) (map key_row es)) ≡ true
keys_of_sorted [] sorted = refl
keys_of_sorted (e ∷ []) sorted = refl
keys_of_sorted (e ∷ f ∷ es) sorted =
    let below = is_true (is_lt (byte_order e.0 f.0)) (first_of _ (below_all byte_order e.0 es) (first_of (below_all byte_order e.0 (f ∷ es)) _ sorted)) in
    ap (λ b. b && rises (map (λ row. row.key) (map key_row (f ∷ es)))) below
    ∙ keys_of_sorted (f ∷ es) (second_of (below_all byte_order e.0 (f ∷ es)) _ sorted)

keys_rise_in : {B : Type 0} (found : Option (Bucket B)) → rises (map (λ row. row.key) (map key_row (held_in found))) ≡ true
keys_rise_in None = refl
keys_rise_in (Some b) = keys_of_sorted (held_in (Some b)) (entries_sorted b.keys)

pub keys_rise : {B : Type 0} → KeysRise B
keys_rise c name = keys_rise_in (get c name)

pub is_less : (r : Ordering) → is_lt r ≡ true → r ≡ Less
is_less Less is = refl
is_less Equal is = cc
is_less Greater is = cc

next_below : (k n : ℕ) → k < n → suc k < suc n
next_below k n below = omega arith

-- what is found stands in the list
pub found_held : {K X : Type 0} {R : K → K → Ordering} → IsAntisymmetric R → (key : K) (v : X) (es : List (K × X)) → find R key es ≡ Some v → Contains es (key, v)
found_held differ key v [] found = absurd (none-some v found)
found_held {R = R} differ key v (e ∷ es) found =
    elim (R key e.0) as (λ r. R key e.0 ≡ r → cond (is_eq r) (Some e.1) (find R key es) ≡ Some v → Contains (e ∷ es) (key, v)) [
      | Less ↦ λ other is. let rest = found_held differ key v es is in (suc rest.0, next_below rest.0 (length es) rest.1, rest.2)
      | Equal ↦ λ tied is. (zero, omega arith, λ i. (sym (differ key e.0 tied) i, same_Some e.1 v is i))
      | Greater ↦ λ other is. let rest = found_held differ key v es is in (suc rest.0, next_below rest.0 (length es) rest.1, rest.2)
    ] refl found

-- and what stands in it is found, since its keys rise
below_held : {K X : Type 0} (R : K → K → Ordering) (first key : K) (v : X) (es : List (K × X)) → T (below_all R first es) → Contains es (key, v) → R first key ≡ Less
below_held R first key v [] below (k, within, is) = absurd (omega arith)
below_held R first key v (e ∷ es) below (zero, within, is) =
    ap (R first) (sym (ap (λ e. e.0) is)) ∙ is_less (R first e.0) (is_true _ (first_of _ (below_all R first es) below))
below_held R first key v (e ∷ es) below (suc k, within, is) =
    below_held R first key v es (second_of (is_lt (R first e.0)) _ below) (k, omega arith, is)

pub held_found : {K X : Type 0} {R : K → K → Ordering} → IsTotalOrder R → (key : K) (v : X) (es : List (K × X)) → T (is_sorted R es) → Contains es (key, v) → find R key es ≡ Some v
held_found total key v [] sorted (k, within, is) = absurd (omega arith)
held_found {R = R} total key v (e ∷ es) sorted (zero, within, is) =
    ap (λ k. cond (eq_by_cmp R key k) (Some e.1) (find R key es)) (ap (λ e. e.0) is)
    ∙ ap (λ b. cond b (Some e.1) (find R key es)) ((eq_by_cmp_equiv total).refl key) ∙ ap (λ e. Some e.1) is
held_found {R = R} total key v (e ∷ es) sorted (suc k, within, is) =
    let held : Contains es (key, v) = (k, omega arith, is) in
    let less = below_held R e.0 key v es (first_of (below_all R e.0 es) _ sorted) held in
    let apart : eq_by_cmp R key e.0 ≡ false = (eq_by_cmp_equiv total).symm key e.0 ∙ ap is_eq less in
    ap (λ b. cond b (Some e.1) (find R key es)) apart ∙ held_found total key v es (second_of (below_all R e.0 es) _ sorted) held

pub held_is_got : {B : Type 0} → HeldIsGot B
held_is_got b key vs = (
  λ got. found_held keys_differ key vs (held_in (Some b)) (sym (get-entries b.keys key) ∙ got),
  λ held. get-entries b.keys key ∙ held_found nat_list_cmp_total key vs (held_in (Some b)) (entries_sorted b.keys) held,
)
