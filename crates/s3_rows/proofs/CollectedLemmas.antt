-- What is found in a map that is collected from rows.
use Rattle.std.proofs.Common.{◌≡◌, ◌≢◌, refl, sym, ap, ◌∙◌, Bool, true, false, cond, ◌||◌, ◌==◌, List, [], ◌∷◌, map, find, length, Option, Some, None, option_map, Ordering, Less, Equal, Greater}
use Rattle.std.proofs.lemmas.Bool.{false≢true, false_from_ne_true, eqb-true, eq-eqb}
use Rattle.std.proofs.lemmas.Option.{none-some}
use Rattle.std.specs.Cmp.{IsTotalOrder, eq_by_cmp_equiv}
use Rattle.std.specs.FinMap.{FinMap, IsAntisymmetric, get, insert, remove, empty, len, get-from_entries, get-insert, get-remove, get-empty, same_map, empty_of_len, len-empty, entries, len-entries}
use Rattle.std.specs.FinMap.Entries as Entries
use Rattle.std.specs.List.{list_any}
use Rattle.std.specs.Ordering.{eq_by_cmp, is_eq}
use Rattle.s3_rows.specs.Meaning.{collected}

-- the values that are found are one where the functions agree at what is found
pub found_same : {X Y : Type 0} (f g : X → Y) (p : X → Bool) → ((x : X) → p x ≡ true → f x ≡ g x) → (xs : List X) → option_map f (find p xs) ≡ option_map g (find p xs)
found_same f g p same [] = refl
found_same {X} {Y} f g p same (x ∷ xs) = go (p x) refl (found_same f g p same xs)
  where
    go : (b : Bool) → p x ≡ b → option_map f (find p xs) ≡ option_map g (find p xs) → option_map f (cond b (Some x) (find p xs)) ≡ option_map g (cond b (Some x) (find p xs))
    go true is more = ap Some (same x is)
    go false is more = more

pub find_alike : {X : Type 0} (p q : X → Bool) → ((x : X) → p x ≡ q x) → (xs : List X) → find p xs ≡ find q xs
find_alike p q same [] = refl
find_alike p q same (x ∷ xs) = ap (λ b. cond b (Some x) (find p xs)) (same x) ∙ ap (cond (q x) (Some x)) (find_alike p q same xs)

is_equal : (r : Ordering) → is_eq r ≡ true → r ≡ Equal
is_equal Less is = cc
is_equal Equal is = refl
is_equal Greater is = cc

-- a map that has a value at a key, or none
abbrev pub write : {K V : Type 0} {R : K → K → Ordering} → FinMap R V → K → Option V → FinMap R V
write m k None = remove m k
write m k (Some v) = insert m k v

module _ {K : Type 0} {R : K → K → Ordering} (total : IsTotalOrder R) (same : IsAntisymmetric R) where
  pub tied_same : (q k : K) → eq_by_cmp R q k ≡ true → q ≡ k
  tied_same q k tied = same q k (is_equal (R q k) tied)

  pub not_tied : (q k : K) → q ≢ k → eq_by_cmp R q k ≡ false
  not_tied q k differ = false_from_ne_true (eq_by_cmp R q k) (λ tied. differ (tied_same q k tied))

  module _ {V : Type 0} where
    pub same_by_get : (m n : FinMap R V) → ((q : K) → get m q ≡ get n q) → m ≡ n
    same_by_get m n is = same_map total same m n is

    get-write : (m : FinMap R V) (k : K) (now : Option V) (q : K) → get (write m k now) q ≡ cond (eq_by_cmp R q k) now (get m q)
    get-write m k None q = get-remove total m k q
    get-write m k (Some v) q = get-insert total m k v q

    -- a map that has this at a key, and at every other what another map has, is that one with this at the key
    pub is_written : (m n : FinMap R V) (k : K) (now : Option V) → get n k ≡ now → ((q : K) → q ≢ k → get n q ≡ get m q) → n ≡ write m k now
    is_written m n k now here there = same_by_get n (write m k now) (λ q. go q (eq_by_cmp R q k) refl ∙ sym (get-write m k now q))
      where
        go : (q : K) (b : Bool) → eq_by_cmp R q k ≡ b → get n q ≡ cond b now (get m q)
        go q true tied = ap (get n) (tied_same q k tied) ∙ here
        go q false tied = there q (λ is. false≢true (sym tied ∙ ap (λ x. eq_by_cmp R x k) is ∙ (eq_by_cmp_equiv total).refl k))

  module _ {X : Type 0} (key : X → K) where
    -- a row has a key
    abbrev pub has : K → X → Bool
    has q x = is_eq (R (key x) q)

    module _ {V : Type 0} where
      find-each : (value : X → V) (xs : List X) (q : K) → Entries.find R q (map (λ x. (key x, value x)) xs) ≡ option_map value (find (has q) xs)
      find-each value [] q = refl
      find-each value (x ∷ xs) q =
          ap (λ b. cond b (Some (value x)) (Entries.find R q (map (λ y. (key y, value y)) xs))) ((eq_by_cmp_equiv total).symm q (key x))
          ∙ elim (has q x) as (λ b. cond b (Some (value x)) (Entries.find R q (map (λ y. (key y, value y)) xs)) ≡ option_map value (cond b (Some x) (find (has q) xs))) [
            | true ↦ refl
            | false ↦ find-each value xs q
          ]

      -- what is at a key is what the first row with that key has
      pub get-collected : (value : X → V) (xs : List X) (q : K) → get (collected R key value xs) q ≡ option_map value (find (has q) xs)
      get-collected value xs q = get-from_entries total _ q ∙ find-each value xs q

      grouped : (f : K → V) (xs : List X) (q : K) → option_map (λ x. f (key x)) (find (has q) xs) ≡ cond (list_any (has q) xs) (Some (f q)) None
      grouped f [] q = refl
      grouped f (x ∷ xs) q = go (has q x) refl (grouped f xs q)
        where
          go : (b : Bool) → has q x ≡ b → option_map (λ y. f (key y)) (find (has q) xs) ≡ cond (list_any (has q) xs) (Some (f q)) None
              → option_map (λ y. f (key y)) (cond b (Some x) (find (has q) xs)) ≡ cond (b || list_any (has q) xs) (Some (f q)) None
          go true is more = ap (λ k. Some (f k)) (tied_same (key x) q is)
          go false is more = more

      -- where that depends on the key alone, it is there if a row has the key
      pub get-grouped : (f : K → V) (xs : List X) (q : K) → get (collected R key (λ x. f (key x)) xs) q ≡ cond (list_any (has q) xs) (Some (f q)) None
      get-grouped f xs q = get-collected (λ x. f (key x)) xs q ∙ grouped f xs q

-- a map with something in it has a length
pub len_some : {K V : Type 0} {R : K → K → Ordering} (m : FinMap R V) (k : K) (v : V) → get m k ≡ Some v → (len m == 0) ≡ false
len_some {R = R} m k v is = false_from_ne_true (len m == 0) (λ none.
    none-some v (sym (get-empty R k) ∙ ap (λ n. get n k) (sym (empty_of_len m (eqb-true (len m) 0 none))) ∙ is))

pub len_none : {K V : Type 0} {R : K → K → Ordering} (m : FinMap R V) → m ≡ empty → (len m == 0) ≡ true
len_none {V = V} {R = R} m is = eq-eqb (len m) 0 (ap len is ∙ len-empty R V)

pub no_entries : {K V : Type 0} (R : K → K → Ordering) → entries (empty {X = V} {R = R}) ≡ []
no_entries {V = V} R = nothing (entries (empty {X = V} {R = R})) (sym (len-entries (empty {X = V} {R = R})) ∙ len-empty R V)
  where
    nothing : {Y : Type 0} (ys : List Y) → length ys ≡ 0 → ys ≡ []
    nothing [] is = refl
    nothing (y ∷ ys) is = cc
