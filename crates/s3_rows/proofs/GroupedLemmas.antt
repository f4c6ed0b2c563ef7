-- Rows that are sorted by a key and then by another order are the groups of each key, one after another.
use Rattle.std.proofs.Common.{◌≡◌, ◌≢◌, refl, sym, ap, ap₂, subst, ◌∙◌, Bool, true, false, cond, ◌||◌, List, [], ◌∷◌, ◌++◌, map, filter, flat_map, Ordering, Less, Equal, Greater, is_eq, is_gt, true≢false}
use Rattle.std.specs.Cmp.{IsTotalOrder, tied_itself, eq_by_cmp_equiv}
use Rattle.std.specs.FinMap.{IsAntisymmetric, entries, entries-insert}
use Rattle.std.specs.FinMap.Entries as Entries
use Rattle.std.specs.List.{AllByRecursion, list_any}
use Rattle.std.specs.Ordering.{ordering_then, ordering_reverse}
use Rattle.sqlite_trees.specs.Tree.{IsAscending}
use Rattle.sqlite_keyed.specs.Lists.{insert_sorted, sort_by}
use Rattle.sqlite_keyed.proofs.ListLemmas.{all_weaker, all_of}
use Rattle.sqlite_keyed.proofs.SliceLemmas.{list_any_same}
use Rattle.s3_rows.specs.Meaning.{collected}
use Rattle.s3_rows.proofs.CollectedLemmas.{tied_same, no_entries}
use Rattle.s3_rows.proofs.MeaningLemmas.{is_cons, is_cons-filter, is_cons-sort_by}
use Rattle.s3_rows.proofs.SortedLemmas.{all_passing, all-sort_by}

less_apart : Less ≢ Equal
less_apart is = cc

greater_apart : Greater ≢ Equal
greater_apart is = cc

append_nothing : {X : Type 0} (xs : List X) → xs ++ [] ≡ xs
append_nothing [] = refl
append_nothing (x ∷ xs) = ap (λ l. x ∷ l) (append_nothing xs)

all-append : {X : Type 0} (P : X → Type 0) (xs ys : List X) → AllByRecursion P xs → AllByRecursion P ys → AllByRecursion P (xs ++ ys)
all-append P [] ys one two = two
all-append P (x ∷ xs) ys one two = (one.0, all-append P xs ys one.1 two)

module _ {X : Type 0} (cmp : X → X → Ordering) (x : X) where
  -- a row goes behind those that it is above
  put_past : (ys zs : List X) → AllByRecursion (λ y. cmp x y ≡ Greater) ys → insert_sorted cmp x (ys ++ zs) ≡ ys ++ insert_sorted cmp x zs
  put_past [] zs above = refl
  put_past (y ∷ ys) zs above = ap (λ o. cond (is_gt o) (y ∷ insert_sorted cmp x (ys ++ zs)) (x ∷ y ∷ ys ++ zs)) above.0 ∙ ap (λ l. y ∷ l) (put_past ys zs above.1)

  -- and before those that it is below
  put_before : (zs : List X) → AllByRecursion (λ y. cmp x y ≡ Less) zs → insert_sorted cmp x zs ≡ x ∷ zs
  put_before [] below = refl
  put_before (z ∷ zs) below = ap (λ o. cond (is_gt o) (z ∷ insert_sorted cmp x zs) (x ∷ z ∷ zs)) below.0

  -- among the first rows it goes where another order that agrees there puts it
  put_among : (other : X → X → Ordering) (ys zs : List X) → AllByRecursion (λ y. cmp x y ≡ other x y) ys → AllByRecursion (λ y. cmp x y ≡ Less) zs → insert_sorted cmp x (ys ++ zs) ≡ insert_sorted other x ys ++ zs
  put_among other [] zs agree below = put_before zs below
  put_among other (y ∷ ys) zs agree below =
      ap (λ o. cond (is_gt o) (y ∷ insert_sorted cmp x (ys ++ zs)) (x ∷ y ∷ ys ++ zs)) agree.0
      ∙ elim (is_gt (other x y)) as (λ b. cond b (y ∷ insert_sorted cmp x (ys ++ zs)) (x ∷ y ∷ ys ++ zs) ≡ cond b (y ∷ insert_sorted other x ys) (x ∷ y ∷ ys) ++ zs) [
        | true ↦ ap (λ l. y ∷ l) (put_among other ys zs agree.1 below)
        | false ↦ refl
      ]

module _ {K : Type 0} (R : K → K → Ordering) (total : IsTotalOrder R) (same : IsAntisymmetric R) where
  -- a key in its place among others
  abbrev pub put_key : K → List K → List K
  put_key k [] = k ∷ []
  put_key k (q ∷ qs) = Entries.by_order (R k q) (k ∷ q ∷ qs) (q ∷ qs) (q ∷ put_key k qs)

  all-put_key : (P : K → Type 0) (k : K) (qs : List K) → P k → AllByRecursion P qs → AllByRecursion P (put_key k qs)
  all-put_key P k [] here all = (here, tt)
  all-put_key P k (q ∷ qs) here all =
      elim (R k q) as (λ o. AllByRecursion P (Entries.by_order o (k ∷ q ∷ qs) (q ∷ qs) (q ∷ put_key k qs))) [ Less ↦ (here, all) | Equal ↦ all | Greater ↦ (all.0, all-put_key P k qs here all.1) ]

  rises-put_key : (k : K) (qs : List K) → IsAscending (λ a b. R a b ≡ Less) qs → IsAscending (λ a b. R a b ≡ Less) (put_key k qs)
  rises-put_key k [] up = (tt, tt)
  rises-put_key k (q ∷ qs) up = go (R k q) refl (rises-put_key k qs up.1)
    where
      go : (o : Ordering) → R k q ≡ o → IsAscending (λ a b. R a b ≡ Less) (put_key k qs) → IsAscending (λ a b. R a b ≡ Less) (Entries.by_order o (k ∷ q ∷ qs) (q ∷ qs) (q ∷ put_key k qs))
      go Less is more = ((is, all_weaker (λ z. R q z ≡ Less) (λ z. R k z ≡ Less) (λ z. total.trans k q z is) qs up.0), up)
      go Equal is more = up
      go Greater is more = (all-put_key (λ z. R q z ≡ Less) k qs (total.antisymm q k ∙ ap ordering_reverse is) up.0, more)

  -- a test that no key passes
  none_put : (p : K → Bool) (k : K) (qs : List K) → list_any p (put_key k qs) ≡ false → (p k ≡ false) × (list_any p qs ≡ false)
  none_put p k [] none = (neither (p k) false none, refl)
    where
      neither : (a b : Bool) → (a || b) ≡ false → a ≡ false
      neither true b is = absurd (true≢false is)
      neither false b is = refl
  none_put p k (q ∷ qs) none = go (R k q) refl none (none_put p k qs)
    where
      both : (a b : Bool) → (a || b) ≡ false → (a ≡ false) × (b ≡ false)
      both true b is = absurd (true≢false is)
      both false b is = (refl, is)

      go : (o : Ordering) → R k q ≡ o → list_any p (Entries.by_order o (k ∷ q ∷ qs) (q ∷ qs) (q ∷ put_key k qs)) ≡ false → (list_any p (put_key k qs) ≡ false → (p k ≡ false) × (list_any p qs ≡ false))
          → (p k ≡ false) × ((p q || list_any p qs) ≡ false)
      go Less is e more = both (p k) (p q || list_any p qs) e
      go Equal is e more = (subst (λ z. p z ≡ false) (sym (same k q is)) (both (p q) (list_any p qs) e).0, e)
      go Greater is e more =
          let parts = both (p q) (list_any p (put_key k qs)) e in
          let rest = more parts.1 in
          (rest.0, ap₂ ◌||◌ parts.0 rest.1)

  module _ {X : Type 0} (key : X → K) (inner : X → X → Ordering) (inner_total : IsTotalOrder inner) where
    -- by key, and then by the other order
    abbrev pub grouped_cmp : X → X → Ordering
    grouped_cmp a b = ordering_then (R (key a) (key b)) (inner a b)

    abbrev has : K → X → Bool
    has q x = is_eq (R (key x) q)

    -- the keys of rows, each once
    abbrev pub keys_of : List X → List K
    keys_of [] = []
    keys_of (x ∷ xs) = put_key (key x) (keys_of xs)

    -- the rows of a key
    abbrev pub group : List X → K → List X
    group xs k = sort_by inner (filter (has k) xs)

    pub keys_rise : (xs : List X) → IsAscending (λ a b. R a b ≡ Less) (keys_of xs)
    keys_rise [] = tt
    keys_rise (x ∷ xs) = rises-put_key (key x) (keys_of xs) (keys_rise xs)

    -- a key that is not among those of rows has none
    none_of : (q : K) (xs : List X) → list_any (λ k. is_eq (R k q)) (keys_of xs) ≡ false → filter (has q) xs ≡ []
    none_of q [] none = refl
    none_of q (x ∷ xs) none =
        let parts = none_put (λ k. is_eq (R k q)) (key x) (keys_of xs) none in
        ap (λ b. cond b (x ∷ filter (has q) xs) (filter (has q) xs)) parts.0 ∙ none_of q xs parts.1

    all-groups : (P : X → Type 0) (G : K → List X) (ks : List K) → AllByRecursion (λ k. AllByRecursion P (G k)) ks → AllByRecursion P (flat_map G ks)
    all-groups P G [] all = tt
    all-groups P G (k ∷ ks) all = all-append P (G k) (flat_map G ks) all.0 (all-groups P G ks all.1)

    none_tied : (x : X) (qs : List K) → AllByRecursion (λ z. R (key x) z ≡ Less) qs → list_any (λ q. is_eq (R (key x) q)) qs ≡ false
    none_tied x [] all = refl
    none_tied x (q ∷ qs) all = ap₂ ◌||◌ (ap is_eq all.0) (none_tied x qs all.1)

    -- one row more goes to the group of its key
    module _ (x : X) (G H : K → List X) (its : (k : K) → AllByRecursion (λ y. key y ≡ k) (G k)) (here : H (key x) ≡ insert_sorted inner x (G (key x))) (there : (k : K) → R (key x) k ≢ Equal → H k ≡ G k) where
      below_groups : (ks : List K) → AllByRecursion (λ k. R (key x) k ≡ Less) ks → AllByRecursion (λ y. grouped_cmp x y ≡ Less) (flat_map G ks)
      below_groups ks below =
          all-groups (λ y. grouped_cmp x y ≡ Less) G ks (all_weaker (λ k. R (key x) k ≡ Less) (λ k. AllByRecursion (λ y. grouped_cmp x y ≡ Less) (G k))
          (λ k less. all_weaker (λ y. key y ≡ k) (λ y. grouped_cmp x y ≡ Less) (λ y is. ap (λ q. ordering_then (R (key x) q) (inner x y)) is ∙ ap (λ o. ordering_then o (inner x y)) less) (G k) (its k)) ks below)

      same_groups : (ks : List K) → AllByRecursion (λ k. R (key x) k ≡ Less) ks → flat_map H ks ≡ flat_map G ks
      same_groups [] below = refl
      same_groups (k ∷ ks) below = ap₂ ◌++◌ (there k (λ is. less_apart (sym below.0 ∙ is))) (same_groups ks below.1)

      put_group : (ks : List K) → IsAscending (λ a b. R a b ≡ Less) ks → (list_any (λ k. is_eq (R (key x) k)) ks ≡ false → G (key x) ≡ []) → insert_sorted grouped_cmp x (flat_map G ks) ≡ flat_map H (put_key (key x) ks)
      put_group [] up none = sym (append_nothing (H (key x)) ∙ here ∙ ap (insert_sorted inner x) (none refl))
      put_group (k ∷ ks) up none = go (R (key x) k) refl none (put_group ks up.1)
        where
          go : (o : Ordering) → R (key x) k ≡ o → ((is_eq o || list_any (λ q. is_eq (R (key x) q)) ks) ≡ false → G (key x) ≡ [])
              → ((list_any (λ q. is_eq (R (key x) q)) ks ≡ false → G (key x) ≡ []) → insert_sorted grouped_cmp x (flat_map G ks) ≡ flat_map H (put_key (key x) ks))
              → insert_sorted grouped_cmp x (G k ++ flat_map G ks) ≡ flat_map H (Entries.by_order o (key x ∷ k ∷ ks) (k ∷ ks) (k ∷ put_key (key x) ks))
          go Less is empty more =
              let below = all_weaker (λ z. R k z ≡ Less) (λ z. R (key x) z ≡ Less) (λ z. total.trans (key x) k z is) ks up.0 in
              put_before grouped_cmp x (flat_map G (k ∷ ks)) (below_groups (k ∷ ks) (is, below))
              ∙ sym (ap₂ ◌++◌ (here ∙ ap (insert_sorted inner x) (empty (none_tied x ks below))) (same_groups (k ∷ ks) (is, below)))
          go Equal is empty more =
              let one : key x ≡ k = same (key x) k is in
              let below : AllByRecursion (λ z. R (key x) z ≡ Less) ks = subst (λ q. AllByRecursion (λ z. R q z ≡ Less) ks) (sym one) up.0 in
              put_among grouped_cmp x inner (G k) (flat_map G ks)
              (all_weaker (λ y. key y ≡ k) (λ y. grouped_cmp x y ≡ inner x y) (λ y its_key. ap (λ q. ordering_then (R (key x) q) (inner x y)) its_key ∙ ap (λ o. ordering_then o (inner x y)) is) (G k) (its k))
              (below_groups ks below)
              ∙ ap₂ ◌++◌ (sym (subst (λ q. H q ≡ insert_sorted inner x (G q)) one here)) (sym (same_groups ks below))
          go Greater is empty more =
              put_past grouped_cmp x (G k) (flat_map G ks)
              (all_weaker (λ y. key y ≡ k) (λ y. grouped_cmp x y ≡ Greater) (λ y its_key. ap (λ q. ordering_then (R (key x) q) (inner x y)) its_key ∙ ap (λ o. ordering_then o (inner x y)) is) (G k) (its k))
              ∙ ap₂ ◌++◌ (sym (there k (λ tied. greater_apart (sym is ∙ tied)))) (more empty)

    pub group_keys : (xs : List X) (k : K) → AllByRecursion (λ y. key y ≡ k) (group xs k)
    group_keys xs k = all-sort_by inner inner_total (λ y. key y ≡ k) (filter (has k) xs) (all_passing (λ y. key y ≡ k) (has k) xs (all_of (λ y. has k y ≡ true → key y ≡ k) (λ y is. tied_same total same (key y) k is) xs))

    -- rows that are sorted by both are their groups in the order of the keys
    pub sort_by-groups : (xs : List X) → sort_by grouped_cmp xs ≡ flat_map (group xs) (keys_of xs)
    sort_by-groups [] = refl
    sort_by-groups (x ∷ xs) =
        ap (insert_sorted grouped_cmp x) (sort_by-groups xs)
        ∙ put_group x (group xs) (group (x ∷ xs)) (group_keys xs)
        (ap (λ o. sort_by inner (cond (is_eq o) (x ∷ filter (has (key x)) xs) (filter (has (key x)) xs))) (tied_itself total (key x)))
        (λ k other. ap (λ b. sort_by inner (cond b (x ∷ filter (has k) xs) (filter (has k) xs))) (untied (R (key x) k) other))
        (keys_of xs) (keys_rise xs)
        (λ none. ap (sort_by inner) (none_of (key x) xs (turned (keys_of xs) none)))
      where
        untied : (o : Ordering) → o ≢ Equal → is_eq o ≡ false
        untied Less other = refl
        untied Equal other = absurd (other refl)
        untied Greater other = refl

        turned : (ks : List K) → list_any (λ k. is_eq (R (key x) k)) ks ≡ false → list_any (λ k. is_eq (R k (key x))) ks ≡ false
        turned ks none = sym (list_any_same (λ k. is_eq (R (key x) k)) (λ k. is_eq (R k (key x))) ks (all_of (λ k. is_eq (R (key x) k) ≡ is_eq (R k (key x))) (λ k. (eq_by_cmp_equiv total).symm (key x) k) ks)) ∙ none

    -- the entries of a map that is collected from the rows, whose values depend on the keys alone
    pub entries-groups : {V : Type 0} (f : K → V) (xs : List X) → entries (collected R key (λ x. f (key x)) xs) ≡ map (λ k. (k, f k)) (keys_of xs)
    entries-groups f [] = no_entries R
    entries-groups {V} f (x ∷ xs) =
        entries-insert total (collected R key (λ y. f (key y)) xs) (key x) (f (key x))
        ∙ ap (Entries.put R (key x) (f (key x))) (entries-groups f xs)
        ∙ put_alike (key x) (keys_of xs)
      where
        put_alike : (k : K) (ks : List K) → Entries.put R k (f k) (map (λ q. (q, f q)) ks) ≡ map (λ q. (q, f q)) (put_key k ks)
        put_alike k [] = refl
        put_alike k (q ∷ qs) = go (R k q) refl (put_alike k qs)
          where
            go : (o : Ordering) → R k q ≡ o → Entries.put R k (f k) (map (λ z. (z, f z)) qs) ≡ map (λ z. (z, f z)) (put_key k qs)
                → Entries.by_order o ((k, f k) ∷ (q, f q) ∷ map (λ z. (z, f z)) qs) ((q, f k) ∷ map (λ z. (z, f z)) qs) ((q, f q) ∷ Entries.put R k (f k) (map (λ z. (z, f z)) qs))
                ≡ map (λ z. (z, f z)) (Entries.by_order o (k ∷ q ∷ qs) (q ∷ qs) (q ∷ put_key k qs))
            go Less is more = refl
            go Equal is more = ap (λ z. (q, f z) ∷ map (λ y. (y, f y)) qs) (same k q is)
            go Greater is more = ap (λ l. (q, f q) ∷ l) more

    -- no group of a key that a row has is empty
    pub groups_cons : (xs : List X) → AllByRecursion (λ k. is_cons (group xs k) ≡ true) (keys_of xs)
    groups_cons [] = tt
    groups_cons (x ∷ xs) =
        all-put_key (λ k. is_cons (group (x ∷ xs) k) ≡ true) (key x) (keys_of xs)
        (is_cons-sort_by inner (filter (has (key x)) (x ∷ xs)) ∙ is_cons-filter (has (key x)) (x ∷ xs) ∙ ap (λ o. is_eq o || list_any (has (key x)) xs) (tied_itself total (key x)))
        (all_weaker (λ k. is_cons (group xs k) ≡ true) (λ k. is_cons (group (x ∷ xs) k) ≡ true)
        (λ k some. is_cons-sort_by inner (filter (has k) (x ∷ xs)) ∙ is_cons-filter (has k) (x ∷ xs)
        ∙ right (has k x) (list_any (has k) xs) (sym (is_cons-filter (has k) xs) ∙ sym (is_cons-sort_by inner (filter (has k) xs)) ∙ some)) (keys_of xs) (groups_cons xs))
      where
        right : (a b : Bool) → b ≡ true → (a || b) ≡ true
        right true b is = refl
        right false b is = is
