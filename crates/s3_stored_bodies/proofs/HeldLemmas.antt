-- Bodies in memory, as one of them changes.
use Rattle.std.proofs.Common.{◌≡◌, inl, inr, sym, ap, subst, refl, ◌∙◌, ℕ, ◌+◌, ◌<◌, max, IsTrue, List, [], ◌∷◌, Option, Some, None, is_some, option_map, unwrap_or, Result, Ok, Err, IfOk, OnOk, OnErr, arith}
use Rattle.std.specs.FinMap as map
use Rattle.std.specs.Ordering.{nat_cmp}
use Rattle.s3_stored_bodies.specs.declared.held.HeldBody.{HeldBody}
use Rattle.s3_stored_bodies.specs.Numbers.{Contents, named_more, named_less, KeepsNamed, bytes_under}
use Rattle.s3_stored_bodies.specs.Held.{Held, contents_of, uses_of, uses_in, AreBelow, get-contents_of}
use Rattle.s3_stored_bodies.proofs.TreeLemmas.{same_or, same_by_get, get-insert_here, get-insert_other, get-remove_here, get-remove_other}
use Rattle.s3_stored_bodies.proofs.NumberLemmas.{more_at, less_at}

-- the bytes of a body
abbrev pub bytes_in : Option HeldBody → Option (List ℕ)
bytes_in found = option_map (λ held. held.body) found

-- bodies that have the same bytes at each number
same_bytes : (m : Held) (contents : Contents) → ((q : ℕ) → bytes_in (map.get m q) ≡ map.get contents q) → contents_of m ≡ contents
same_bytes m contents same = same_by_get (contents_of m) contents (λ q. get-contents_of m q ∙ same q)

-- a body that is put in
pub contents_put : (m : Held) (k : ℕ) (held : HeldBody) → contents_of (map.insert m k held) ≡ map.insert (contents_of m) k held.body
contents_put m k held = same_bytes (map.insert m k held) (map.insert (contents_of m) k held.body) (λ q.
    elim (same_or q k) [
      | inl same ↦ subst (λ q. bytes_in (map.get (map.insert m k held) q) ≡ map.get (map.insert (contents_of m) k held.body) q) (sym same)
          (ap bytes_in (get-insert_here m k held) ∙ sym (get-insert_here (contents_of m) k held.body))
      | inr differ ↦ ap bytes_in (get-insert_other m k held q differ) ∙ sym (get-contents_of m q) ∙ sym (get-insert_other (contents_of m) k held.body q differ)
    ])

-- a body that is there, with another count
pub contents_counted : (m : Held) (k : ℕ) (held : HeldBody) (more : ℕ) → map.get m k ≡ Some held → contents_of (map.insert m k (record { body = held.body; more = more })) ≡ contents_of m
contents_counted m k held more there = same_bytes (map.insert m k (record { body = held.body; more = more })) (contents_of m) (λ q.
    elim (same_or q k) [
      | inl same ↦ subst (λ q. bytes_in (map.get (map.insert m k (record { body = held.body; more = more })) q) ≡ map.get (contents_of m) q) (sym same)
          (ap bytes_in (get-insert_here m k (record { body = held.body; more = more })) ∙ sym (ap bytes_in there) ∙ sym (get-contents_of m k))
      | inr differ ↦ ap bytes_in (get-insert_other m k (record { body = held.body; more = more }) q differ) ∙ sym (get-contents_of m q)
    ])

-- how many rows name each number, after one body changed
pub uses_put_more : (m : Held) (k : ℕ) (held : HeldBody) → held.more ≡ uses_of m k → uses_of (map.insert m k held) ≡ named_more (k ∷ []) (uses_of m)
uses_put_more m k held count = more_at (uses_of m) (uses_of (map.insert m k held)) k
    (λ q differ. ap uses_in (get-insert_other m k held q differ))
    (ap uses_in (get-insert_here m k held) ∙ ap (λ n. n + 1) count)

pub uses_put_less : (m : Held) (k : ℕ) (held : HeldBody) → held.more + 2 ≡ uses_of m k → uses_of (map.insert m k held) ≡ named_less (k ∷ []) (uses_of m)
uses_put_less m k held count = less_at (uses_of m) (uses_of (map.insert m k held)) k
    (λ q differ. ap uses_in (get-insert_other m k held q differ))
    (ap uses_in (get-insert_here m k held) ∙ omega arith)

pub uses_dropped : (m : Held) (k : ℕ) → uses_of m k ≡ 1 → uses_of (map.remove m k) ≡ named_less (k ∷ []) (uses_of m)
uses_dropped m k last = less_at (uses_of m) (uses_of (map.remove m k)) k
    (λ q differ. ap uses_in (get-remove_other m k q differ))
    (ap uses_in (get-remove_here m k) ∙ omega arith)

-- a number that is named has a body
pub named_there : (found : Option HeldBody) → 0 < uses_in found → found ≡ None → ⊥
named_there found named none = let e = ap uses_in none in omega arith

-- the bytes under the other numbers stay
pub contents_dropped : (m : Held) (k : ℕ) → KeepsNamed (uses_of (map.remove m k)) (contents_of m) (contents_of (map.remove m k))
contents_dropped m k = λ q named.
    elim (same_or q k) [
      | inl same ↦ absurd (named_there _ named (ap (map.get (map.remove m k)) same ∙ get-remove_here m k))
      | inr differ ↦ get-contents_of (map.remove m k) q ∙ ap bytes_in (get-remove_other m k q differ) ∙ sym (get-contents_of m q)
    ]

-- the bytes under a number
pub bytes_there : (m : Held) (k : ℕ) (held : HeldBody) → map.get m k ≡ Some held → bytes_under (contents_of m) k ≡ held.body
bytes_there m k held there = ap (λ found. unwrap_or found []) (get-contents_of m k ∙ ap bytes_in there)

-- no number reaches the next one
pub below_none : {next : ℕ} (m : Held) → m ≡ map.empty → AreBelow next m
below_none m none = λ q there. absurd (cc (there, ap (λ n. is_some (map.get n q)) none, ap is_some (map.get-empty {X = HeldBody} nat_cmp q)))

pub below_more : (m : Held) (k next : ℕ) (held : HeldBody) → AreBelow next m → AreBelow (max next (k + 1)) (map.insert m k held)
below_more m k next held below = λ q there.
    elim (same_or q k) [
      | inl same ↦ subst (λ q. q < max next (k + 1)) (sym same) (omega arith)
      | inr differ ↦ let small = below q (ap is_some (sym (get-insert_other m k held q differ)) ∙ there) in omega arith
    ]

pub below_counted : (m : Held) (k next : ℕ) (old new : HeldBody) → AreBelow next m → map.get m k ≡ Some old → AreBelow next (map.insert m k new)
below_counted m k next old new below is = λ q there.
    elim (same_or q k) [
      | inl same ↦ subst (λ q. q < next) (sym same) (below k (ap is_some is))
      | inr differ ↦ below q (ap is_some (sym (get-insert_other m k new q differ)) ∙ there)
    ]

pub below_dropped : (m : Held) (k next : ℕ) → AreBelow next m → AreBelow next (map.remove m k)
below_dropped m k next below = λ q there.
    elim (same_or q k) [
      | inl same ↦ absurd (cc (there, ap (λ q. is_some (map.get (map.remove m k) q)) same, ap is_some (get-remove_here m k)))
      | inr differ ↦ below q (ap is_some (sym (get-remove_other m k q differ)) ∙ there)
    ]

-- so nothing stands under that
none_where : (found : Option HeldBody) → (IsTrue (is_some found) → ⊥) → found ≡ None
none_where None not_there = refl
none_where (Some held) not_there = absurd (not_there refl)

pub none_next : (m : Held) (next : ℕ) → AreBelow next m → map.get m next ≡ None
none_next m next below = none_where (map.get m next) (λ there. omega (arith, below next there))

-- nothing at all
pub contents_none : contents_of map.empty ≡ map.empty
contents_none = same_bytes map.empty map.empty (λ q. ap bytes_in (map.get-empty {X = HeldBody} nat_cmp q) ∙ sym (map.get-empty {X = List ℕ} nat_cmp q))

pub uses_none : uses_of map.empty ≡ (λ q. 0)
uses_none = λ i q. let is : uses_of map.empty q ≡ 0 = ap uses_in (map.get-empty {X = HeldBody} nat_cmp q) in is i

-- what holds of a value follows to another, whatever the call answered
pub if_ok : {T E : Type 0} {P Q : T → Type 0} (r : Result T E) → ((x : T) → P x → Q x) → IfOk r P → IfOk r Q
if_ok (Ok x) then p = then x p
if_ok (Err e) then p = tt

pub if_both : {T E : Type 0} {P Q S : T → Type 0} (r : Result T E) → ((x : T) → P x → Q x → S x) → IfOk r P → IfOk r Q → IfOk r S
if_both (Ok x) then p q = then x p q
if_both (Err e) then p q = tt

pub then_err : {T E P Q : Type 0} (r : Result T E) → (P → Q) → OnErr r P → OnErr r Q
then_err (Ok x) then p = tt
then_err (Err e) then p = then p

pub then_ok : {T E P Q : Type 0} (r : Result T E) → (P → Q) → OnOk r P → OnOk r Q
then_ok (Ok x) then p = then p
then_ok (Err e) then p = tt
