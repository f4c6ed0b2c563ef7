-- The finite map that the entries of a tree make, in any order of its keys.
use Rattle.std.proofs.Common.{◌≡◌, sym, ap, subst, refl, ◌∙◌, Bool, true, false, cond, ◌&&◌, T, IsTrue, List, [], ◌∷◌, length, Option, Some, None, is_some}
use Rattle.std.proofs.lemmas.Bool.{false≢true}
use Rattle.std.specs.BTreeMap.{BTreeMap, WritesThrough, is_at}
use Rattle.std.specs.Cmp.{IsTotalOrder, eq_by_cmp_equiv}
use Rattle.std.specs.FinMap.{FinMap, IsAntisymmetric, get, insert, from_entries, get-from_entries, entries, len, remove, from_sorted, get-insert, get-remove, get-from_sorted, entries-from_sorted, len-entries, same_map, slice_cmp-IsAntisymmetric, nat_cmp-IsAntisymmetric}
use Rattle.std.specs.FinMap.Entries.{find, is_sorted, below_all}
use Rattle.std.specs.List.{AllByRecursion}
use Rattle.std.specs.List.Sorted.{IsStrictlySortedBy}
use Rattle.std.specs.Map.{keys_of, lookup}
use Rattle.std.specs.Option.{IsSome}
use Rattle.std.specs.Ordering.{is_lt, is_eq, eq_by_cmp}
use Rattle.std.specs.declared.cmp.Ordering.{Ordering}
use Rattle.std.specs.declared.cmp.Ordering.TheVariants.{Less, Equal, Greater}
use Rattle.s3_text.specs.Order.{byte_order}

both_hold : (a b : Bool) → T a → T b → T (a && b)
both_hold true b p q = q
both_hold false b p q = p

both_true : (a b : Bool) → a ≡ true → T b → T (a && b)
both_true a b is q = both_hold a b (subst T (sym is) tt) q

some_is : {X : Type 0} (found : Option X) (x : X) → Some x ≡ found → IsSome found
some_is found x is = subst IsSome is refl

is_equal : (r : Ordering) → is_eq r ≡ true → r ≡ Equal
is_equal Less is = cc
is_equal Equal is = refl
is_equal Greater is = cc

module _ {K X : Type 0} (R : K → K → Ordering) where
  -- what a tree with these entries has at a key
  abbrev pub at : List (K × X) → K → Option X
  at es q = lookup (is_at (R q)) es

  find-at : (es : List (K × X)) (q : K) → find R q es ≡ at es q
  find-at [] q = refl
  find-at (e ∷ es) q = ap (cond (is_at (R q) e.0) (Some e.1)) (find-at es q)

  below_from : (k : K) (es : List (K × X)) → AllByRecursion (λ q. R k q ≡ Less) (keys_of es) → T (below_all R k es)
  below_from k [] all = tt
  below_from k (e ∷ es) all = both_true (is_lt (R k e.0)) _ (ap is_lt all.0) (below_from k es all.1)

  sorted_from : (es : List (K × X)) → IsStrictlySortedBy R (keys_of es) → T (is_sorted R es)
  unfolding IsStrictlySortedBy
  sorted_from [] sorted = tt
  sorted_from (e ∷ es) sorted = both_hold (below_all R e.0 es) _ (below_from e.0 es sorted.0) (sorted_from es sorted.1)

module _ {K X : Type 0} {R : K → K → Ordering} where
  at_key : IsAntisymmetric R → (m : FinMap R X) (k : K) (v : X) (q : K) (b : Bool) → get m k ≡ Some v → eq_by_cmp R q k ≡ b → cond b (Some v) (get m q) ≡ get m q
  at_key same m k v q true is tied = sym is ∙ ap (get m) (sym (same q k (is_equal (R q k) tied)))
  at_key same m k v q false is tied = refl

  module _ (total : IsTotalOrder R) where
    get-made : (es : List (K × X)) (q : K) → get (from_entries {R = R} es) q ≡ at R es q
    get-made es q = get-from_entries total es q ∙ find-at R es q

    -- what the tree has at a key is what its map has there
    pub got : (es : List (K × X)) (m : FinMap R X) (q : K) (found : Option X) → from_entries es ≡ m → found ≡ at R es q → get m q ≡ found
    got es m q found view is = ap (λ n. get n q) (sym view) ∙ get-made es q ∙ sym is

    -- what is in the map is in the tree
    pub not_none : (es : List (K × X)) (m : FinMap R X) (q : K) → from_entries es ≡ m → None ≡ at R es q → IsTrue (is_some (get m q)) → ⊥
    not_none es m q view none there = false≢true (sym (ap is_some (got es m q None view none)) ∙ there)

    module _ (same : IsAntisymmetric R) where
      same_by_get : (m n : FinMap R X) → ((q : K) → get m q ≡ get n q) → m ≡ n
      same_by_get m n is = same_map total same m n is

      -- the keys of a tree rise, so its map has its entries
      pub entries_are : (es : List (K × X)) → IsStrictlySortedBy R (keys_of es) → entries (from_entries {R = R} es) ≡ es
      entries_are es sorted =
          let rises = sorted_from R es sorted in
          let one : from_entries es ≡ from_sorted es =
          same_by_get _ _ (λ q. get-from_entries total es q ∙ sym (get-from_sorted R es q rises)) in
          ap entries one ∙ entries-from_sorted R es rises

      pub len_is : (es : List (K × X)) → IsStrictlySortedBy R (keys_of es) → len (from_entries {R = R} es) ≡ length es
      len_is es sorted = len-entries (from_entries es) ∙ ap length (entries_are es sorted)

      -- what a tree becomes where an entry is put in, or taken out
      pub put_in : (es fs : List (K × X)) (k : K) (v : X) → ((q : K) → at R fs q ≡ cond (is_at (R k) q) (Some v) (at R es q)) → from_entries {R = R} fs ≡ insert (from_entries es) k v
      put_in es fs k v h = same_by_get _ _ (λ q.
          get-made fs q ∙ h q ∙ ap (λ b. cond b (Some v) (at R es q)) ((eq_by_cmp_equiv total).symm k q)
          ∙ sym (get-insert total (from_entries es) k v q ∙ ap (cond (eq_by_cmp R q k) (Some v)) (get-made es q)))

      pub taken_out : (es fs : List (K × X)) (k : K) → ((q : K) → at R fs q ≡ cond (is_at (R k) q) None (at R es q)) → from_entries {R = R} fs ≡ remove (from_entries es) k
      taken_out es fs k h = same_by_get _ _ (λ q.
          get-made fs q ∙ h q ∙ ap (λ b. cond b None (at R es q)) ((eq_by_cmp_equiv total).symm k q)
          ∙ sym (get-remove total (from_entries es) k q ∙ ap (cond (eq_by_cmp R q k) None) (get-made es q)))

      -- or where a value is written
      pub wrote : (before after : BTreeMap K X) (m : FinMap R X) (k : K) (old new : X) → from_entries before.entries ≡ m → Some old ≡ at R before.entries k → WritesThrough R (R k) before new after → from_entries after.entries ≡ insert m k new
      wrote before after m k old new view found writes =
          put_in before.entries after.entries k new (writes.3 (some_is _ old found)).0 ∙ ap (λ n. insert n k new) view

      -- and where it is written again, the map is as it was
      put_back : (m : FinMap R X) (k : K) (v : X) → get m k ≡ Some v → insert m k v ≡ m
      put_back m k v is = same_by_get _ _ (λ q. get-insert total m k v q ∙ at_key same m k v q _ is refl)

      pub wrote_again : (before after : BTreeMap K X) (m : FinMap R X) (k : K) (old new : X) → from_entries before.entries ≡ m → Some old ≡ at R before.entries k → WritesThrough R (R k) before new after → new ≡ old → from_entries after.entries ≡ m
      wrote_again before after m k old new view found writes is =
          wrote before after m k old new view found writes ∙ ap (insert m k) is ∙ put_back m k old (got before.entries m k (Some old) view found)

-- keys that tie are one
pub keys_differ : IsAntisymmetric byte_order
keys_differ = slice_cmp-IsAntisymmetric nat_cmp-IsAntisymmetric
