-- The finite map that the entries of a tree make, where the keys are lists of bytes.
use Rattle.std.proofs.Common.{◌≡◌, ◌≢◌, ◌⊎◌, inl, inr, refl, sym, ap, subst, ◌∙◌, Bool, true, false, cond, ℕ, List, [], ◌∷◌, Option, Some}
use Rattle.std.proofs.lemmas.Bool.{false≢true}
use Rattle.std.specs.BTreeMap.{BTreeMap, WritesThrough, is_at}
use Rattle.std.specs.Cmp.{eq_by_cmp_equiv}
use Rattle.std.specs.Cmp.Lexicographic.{nat_list_cmp_total, bytes_decides, texts_ties}
use Rattle.std.specs.FinMap.{FinMap, get, insert, find, from_entries, get-from_entries, get-insert, same_map, slice_cmp-IsAntisymmetric, nat_cmp-IsAntisymmetric}
use Rattle.std.specs.Map.{lookup}
use Rattle.std.specs.Option.{IsSome}
use Rattle.std.specs.Ordering.{eq_by_cmp}
use Rattle.s3_text.specs.Order.{byte_order}

-- what a tree with these entries has at a key
abbrev pub value_at : {X : Type 0} → List (List ℕ × X) → List ℕ → Option X
value_at es q = lookup (is_at (byte_order q)) es

pub find-value_at : {X : Type 0} (es : List (List ℕ × X)) (q : List ℕ) → find byte_order q es ≡ value_at es q
find-value_at [] q = refl
find-value_at (e ∷ es) q = ap (cond (is_at (byte_order q) e.0) (Some e.1)) (find-value_at es q)

-- the map has at a key what the tree has
pub get-made : {X : Type 0} (es : List (List ℕ × X)) (q : List ℕ) → get (from_entries {R = byte_order} es) q ≡ value_at es q
get-made es q = get-from_entries nat_list_cmp_total es q ∙ find-value_at es q

-- the same, where the map and what the tree has go by other names
pub get_by_tree : {X : Type 0} (es : List (List ℕ × X)) (m : FinMap byte_order X) (q : List ℕ) (found : Option X) → from_entries es ≡ m → found ≡ value_at es q → get m q ≡ found
get_by_tree es m q found view is = ap (λ n. get n q) (sym view) ∙ get-made es q ∙ sym is

-- maps that answer alike at each key are one
pub same_by_get : {X : Type 0} (m n : FinMap byte_order X) → ((q : List ℕ) → get m q ≡ get n q) → m ≡ n
same_by_get m n is = same_map nat_list_cmp_total (slice_cmp-IsAntisymmetric nat_cmp-IsAntisymmetric) m n is

pub get-put : {X : Type 0} (m : FinMap byte_order X) (k : List ℕ) (v : X) (q : List ℕ) → get (insert m k v) q ≡ cond (eq_by_cmp byte_order q k) (Some v) (get m q)
get-put m k v q = get-insert nat_list_cmp_total m k v q

-- entries that differ at one key make maps that differ there
pub made_by_insert : {X : Type 0} (es fs : List (List ℕ × X)) (k : List ℕ) (v : X) → ((q : List ℕ) → value_at fs q ≡ cond (is_at (byte_order k) q) (Some v) (value_at es q)) → from_entries {R = byte_order} fs ≡ insert (from_entries es) k v
made_by_insert es fs k v h = same_by_get _ _ (λ q.
    get-made fs q ∙ h q ∙ ap (λ b. cond b (Some v) (value_at es q)) ((eq_by_cmp_equiv nat_list_cmp_total).symm k q)
    ∙ sym (get-put (from_entries es) k v q ∙ ap (cond (eq_by_cmp byte_order q k) (Some v)) (get-made es q)))

some_is : {X : Type 0} (found : Option X) (x : X) → Some x ≡ found → IsSome found
some_is found x is = subst IsSome is refl

-- what a tree becomes when a value is written where another was found
pub made_by_write : {X : Type 0} (before after : BTreeMap (List ℕ) X) (m : FinMap byte_order X) (k : List ℕ) (old new : X) → from_entries before.entries ≡ m → Some old ≡ value_at before.entries k
    → WritesThrough byte_order (byte_order k) before new after → from_entries after.entries ≡ insert m k new
made_by_write before after m k old new view found writes =
    made_by_insert before.entries after.entries k new (writes.3 (some_is _ old found)).0 ∙ ap (λ n. insert n k new) view

-- keys that compare alike are one
pub tied_equal : (q k : List ℕ) → eq_by_cmp byte_order q k ≡ true → q ≡ k
tied_equal q k tied = (bytes_decides q k).0 (texts_ties q k ∙ tied)

-- two keys are the same, or not
pub same_or : (q k : List ℕ) → (q ≡ k) ⊎ (q ≢ k)
same_or q k =
    elim (eq_by_cmp byte_order q k) as (λ b. eq_by_cmp byte_order q k ≡ b → (q ≡ k) ⊎ (q ≢ k)) [
      | true ↦ λ is. inl (tied_equal q k is)
      | false ↦ λ is. inr (λ same. false≢true (sym is ∙ ap (λ x. eq_by_cmp byte_order x k) same ∙ (eq_by_cmp_equiv nat_list_cmp_total).refl k))
    ] refl

same_at_key : {X : Type 0} (m : FinMap byte_order X) (k : List ℕ) (v : X) (q : List ℕ) (b : Bool) → get m k ≡ Some v → eq_by_cmp byte_order q k ≡ b → cond b (Some v) (get m q) ≡ get m q
same_at_key m k v q true is tied = sym is ∙ ap (get m) (sym (tied_equal q k tied))
same_at_key m k v q false is tied = refl

-- to put what is there leaves the map
pub put_again : {X : Type 0} (m : FinMap byte_order X) (k : List ℕ) (v : X) → get m k ≡ Some v → insert m k v ≡ m
put_again m k v is = same_by_get _ _ (λ q. get-put m k v q ∙ same_at_key m k v q _ is refl)

either_order : {X : Type 0} (v : X) (a b : Bool) (other : Option X) → cond a (Some v) (cond b (Some v) other) ≡ cond b (Some v) (cond a (Some v) other)
either_order v true true other = refl
either_order v true false other = refl
either_order v false true other = refl
either_order v false false other = refl

-- one value at two keys, in either order
pub put-put : {X : Type 0} (m : FinMap byte_order X) (j k : List ℕ) (v : X) → insert (insert m j v) k v ≡ insert (insert m k v) j v
put-put m j k v = same_by_get _ _ (λ q.
    get-put (insert m j v) k v q ∙ ap (cond (eq_by_cmp byte_order q k) (Some v)) (get-put m j v q)
    ∙ either_order v (eq_by_cmp byte_order q k) (eq_by_cmp byte_order q j) (get m q)
    ∙ sym (get-put (insert m k v) j v q ∙ ap (cond (eq_by_cmp byte_order q j) (Some v)) (get-put m k v q)))
