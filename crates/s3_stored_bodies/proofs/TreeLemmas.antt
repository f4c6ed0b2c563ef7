-- The finite map that the entries of a tree make, where the keys are numbers.
use Rattle.std.proofs.Common.{◌≡◌, ◌≢◌, ◌⊎◌, inl, inr, sym, ap, subst, refl, ◌∙◌, ℕ, true, false, cond, List, [], ◌∷◌, Option, Some, None, arith}
use Rattle.std.proofs.lemmas.Bool.{false_from_ne_true}
use Rattle.std.specs.BTreeMap.{BTreeMap, WritesThrough, is_at}
use Rattle.std.specs.Cmp.{nat_cmp_total, eq_by_cmp_equiv}
use Rattle.std.specs.FinMap.{FinMap, get, insert, remove, find, from_entries, get-from_entries, get-insert, get-remove, same_map, nat_cmp-IsAntisymmetric}
use Rattle.std.specs.Map.{lookup}
use Rattle.std.specs.Option.{IsSome}
use Rattle.std.specs.Ordering.{nat_cmp, eq_by_cmp}

-- what a tree with these entries has at a key
abbrev pub at : {X : Type 0} → List (ℕ × X) → ℕ → Option X
at es q = lookup (is_at (nat_cmp q)) es

find-at : {X : Type 0} (es : List (ℕ × X)) (q : ℕ) → find nat_cmp q es ≡ at es q
find-at [] q = refl
find-at (e ∷ es) q = ap (cond (is_at (nat_cmp q) e.0) (Some e.1)) (find-at es q)

get-made : {X : Type 0} (es : List (ℕ × X)) (q : ℕ) → get (from_entries {R = nat_cmp} es) q ≡ at es q
get-made es q = get-from_entries nat_cmp_total es q ∙ find-at es q

-- what the tree has at a key is what its map has there
pub got : {X : Type 0} (es : List (ℕ × X)) (m : FinMap nat_cmp X) (q : ℕ) (found : Option X) → from_entries es ≡ m → found ≡ at es q → get m q ≡ found
got es m q found view is = ap (λ n. get n q) (sym view) ∙ get-made es q ∙ sym is

-- maps that answer alike at each key are one
pub same_by_get : {X : Type 0} (m n : FinMap nat_cmp X) → ((q : ℕ) → get m q ≡ get n q) → m ≡ n
same_by_get m n is = same_map nat_cmp_total nat_cmp-IsAntisymmetric m n is

-- what a tree becomes where an entry is put in, or taken out
pub put_in : {X : Type 0} (es fs : List (ℕ × X)) (k : ℕ) (v : X) → ((q : ℕ) → at fs q ≡ cond (is_at (nat_cmp k) q) (Some v) (at es q)) → from_entries {R = nat_cmp} fs ≡ insert (from_entries es) k v
put_in es fs k v h = same_by_get _ _ (λ q.
    get-made fs q ∙ h q ∙ ap (λ b. cond b (Some v) (at es q)) ((eq_by_cmp_equiv nat_cmp_total).symm k q)
    ∙ sym (get-insert nat_cmp_total (from_entries es) k v q ∙ ap (cond (eq_by_cmp nat_cmp q k) (Some v)) (get-made es q)))

pub taken_out : {X : Type 0} (es fs : List (ℕ × X)) (k : ℕ) → ((q : ℕ) → at fs q ≡ cond (is_at (nat_cmp k) q) None (at es q)) → from_entries {R = nat_cmp} fs ≡ remove (from_entries es) k
taken_out es fs k h = same_by_get _ _ (λ q.
    get-made fs q ∙ h q ∙ ap (λ b. cond b None (at es q)) ((eq_by_cmp_equiv nat_cmp_total).symm k q)
    ∙ sym (get-remove nat_cmp_total (from_entries es) k q ∙ ap (cond (eq_by_cmp nat_cmp q k) None) (get-made es q)))

some_is : {X : Type 0} (found : Option X) (x : X) → Some x ≡ found → IsSome found
some_is found x is = subst IsSome is refl

-- or where a value is written
pub wrote : {X : Type 0} (before after : BTreeMap ℕ X) (m : FinMap nat_cmp X) (k : ℕ) (old new : X) → from_entries before.entries ≡ m → Some old ≡ at before.entries k → WritesThrough nat_cmp (nat_cmp k) before new after → from_entries after.entries ≡ insert m k new
wrote before after m k old new view found writes =
    put_in before.entries after.entries k new (writes.3 (some_is _ old found)).0 ∙ ap (λ n. insert n k new) view

-- numbers that tie are one
same_number : (q k : ℕ) → eq_by_cmp nat_cmp q k ≡ true → q ≡ k
same_number q k tied = grind arith

other_number : (q k : ℕ) → q ≢ k → eq_by_cmp nat_cmp q k ≡ false
other_number q k differ = false_from_ne_true (eq_by_cmp nat_cmp q k) (λ tied. differ (same_number q k tied))

pub same_or : (q k : ℕ) → (q ≡ k) ⊎ (q ≢ k)
same_or q k =
    elim (eq_by_cmp nat_cmp q k) as (λ b. eq_by_cmp nat_cmp q k ≡ b → (q ≡ k) ⊎ (q ≢ k)) [
      | true ↦ λ is. inl (same_number q k is)
      | false ↦ λ is. inr (λ same. cc (is, ap (λ x. eq_by_cmp nat_cmp x k) same, (eq_by_cmp_equiv nat_cmp_total).refl k))
    ] refl

-- a write at one key, there and elsewhere
pub get-insert_here : {X : Type 0} (m : FinMap nat_cmp X) (k : ℕ) (v : X) → get (insert m k v) k ≡ Some v
get-insert_here m k v = get-insert nat_cmp_total m k v k ∙ ap (λ b. cond b (Some v) (get m k)) ((eq_by_cmp_equiv nat_cmp_total).refl k)

pub get-insert_other : {X : Type 0} (m : FinMap nat_cmp X) (k : ℕ) (v : X) (q : ℕ) → q ≢ k → get (insert m k v) q ≡ get m q
get-insert_other m k v q differ = get-insert nat_cmp_total m k v q ∙ ap (λ b. cond b (Some v) (get m q)) (other_number q k differ)

pub get-remove_here : {X : Type 0} (m : FinMap nat_cmp X) (k : ℕ) → get (remove m k) k ≡ None
get-remove_here m k = get-remove nat_cmp_total m k k ∙ ap (λ b. cond b None (get m k)) ((eq_by_cmp_equiv nat_cmp_total).refl k)

pub get-remove_other : {X : Type 0} (m : FinMap nat_cmp X) (k q : ℕ) → q ≢ k → get (remove m k) q ≡ get m q
get-remove_other m k q differ = get-remove nat_cmp_total m k q ∙ ap (λ b. cond b None (get m q)) (other_number q k differ)
