-- Items that are read one behind the other: what was spelled is read again, and what is read is spelled so.
use Rattle.std.proofs.Common.{◌≡◌, ◌⊎◌, ℕ, zero, suc, ◌+◌, ◌^◌, ◌<◌, ◌≤◌, Bool, true, false, cond, ltb, List, [], ◌∷◌, ◌++◌, length, take, drop, Option, Some, None, refl, sym, ap, ap₂, subst, ◌∙◌, append_assoc, arith, inl, inr}
use Rattle.std.specs.Int.{Width, w16, w32, w64, byte_len, from_be_bytes, to_be_bytes}
use Rattle.std.specs.List.{flat_map, AllByRecursion}
use Rattle.std.proofs.lemmas.Bool.{cases_lt, ltb-false, le-ltb}
use Rattle.std.proofs.lemmas.List.{append-nil, take_at, drop_at, take-append-drop, length-append, length-take-le, get_or_append_left, get_or-append-add, get_or_past, nil_from_length}
use Rattle.std.proofs.lemmas.List.Concat.{flat_map-cons}
use Rattle.std.proofs.lemmas.Nat.{be_bytes_2, be_bytes_4, be_bytes_8, from_be_bytes-to_be_bytes_2, from_be_bytes-to_be_bytes_4, from_be_bytes-to_be_bytes_8}
use Rattle.std.proofs.lemmas.Option.{same_Some}
use Rattle.hex.specs.Hex.{IsBytes}
use Rattle.s3_columns.specs.Items.{◌>>=◌, cut_at, text_spelled, text_at, items_within, items_read}

-- ---- parts

-- the value of a part that was read
pub bind_some : {A B : Type 0} (o : Option A) (f : A → Option B) (y : B) → (o >>= f) ≡ Some y → (x : A) × (o ≡ Some x) × (f x ≡ Some y)
bind_some None f y e = absurd cc
bind_some (Some x) f y e = (x, refl, e)

-- a test that did not fail
guard_some : {A : Type 0} (b : Bool) (x y : A) → cond b None (Some x) ≡ Some y → (b ≡ false) × (x ≡ y)
guard_some true x y e = absurd cc
guard_some false x y e = (refl, same_Some x y e)

pub cases_option : {A : Type 0} (o : Option A) → (o ≡ None) ⊎ ((x : A) × (o ≡ Some x))
cases_option None = inl refl
cases_option (Some x) = inr (x, refl)

-- ---- bytes

-- the front of bytes is bytes, and so is what stands behind it
pub front_bytes : (xs ys : List ℕ) → IsBytes (xs ++ ys) → IsBytes xs
front_bytes xs ys fits i =
    elim (cases_lt i (length xs)) [
      | inl lt ↦ rw (← get_or_append_left xs ys 0 i lt) (fits i)
      | inr le ↦ rw (get_or_past xs i 0 le) (omega arith)
    ]

pub back_bytes : (xs ys : List ℕ) → IsBytes (xs ++ ys) → IsBytes ys
back_bytes xs ys fits i = rw (← get_or-append-add xs ys i 0) (fits (length xs + i))

-- the two parts of bytes that were cut
pub cut_some : (n : ℕ) (bytes : List ℕ) (x : List ℕ × List ℕ) → cut_at n bytes ≡ Some x → (bytes ≡ x.0 ++ x.1) × (length x.0 ≡ n)
cut_some n bytes x e =
    let g = guard_some (ltb (length bytes) n) (take n bytes, drop n bytes) x e in
    let long : n ≤ length bytes = ltb-false _ _ g.0 in
    subst (λ (y : List ℕ × List ℕ). (bytes ≡ y.0 ++ y.1) × (length y.0 ≡ n)) g.1 (sym (take-append-drop n bytes), length-take-le n bytes long)

pub cut_again : (n : ℕ) (front rest : List ℕ) → length front ≡ n → cut_at n (front ++ rest) ≡ Some (front, rest)
cut_again n front rest len =
    let long : ltb (length (front ++ rest)) n ≡ false = le-ltb _ _ (omega (arith, length-append front rest)) in
    rw (long, take_at front rest n len, drop_at front rest n len) refl

-- ---- numbers

-- numbers below this limit have this width
pub record IsWide (w : Width) (limit : ℕ) : Type 0 where
  pub some : 0 < byte_len w
  pub len : (n : ℕ) → length (to_be_bytes w n) ≡ byte_len w
  pub back : (bytes : List ℕ) → length bytes ≡ byte_len w → IsBytes bytes → to_be_bytes w (from_be_bytes w bytes) ≡ bytes
  pub again : (n : ℕ) → n < limit → from_be_bytes w (to_be_bytes w n) ≡ n
  pub below : (bytes : List ℕ) → IsBytes bytes → from_be_bytes w bytes < limit

pub wide16 : IsWide w16 (2 ^ 16)
wide16 = record {
  some = omega arith;
  len = λ n. refl;
  back = λ bytes len fits. be_bytes_2 bytes _ len fits refl;
  again = λ n lt. from_be_bytes-to_be_bytes_2 n lt;
  below = λ bytes fits. omega (arith, fits 0, fits 1);
}

pub wide32 : IsWide w32 (2 ^ 32)
wide32 = record {
  some = omega arith;
  len = λ n. refl;
  back = λ bytes len fits. be_bytes_4 bytes _ len fits refl;
  again = λ n lt. from_be_bytes-to_be_bytes_4 n lt;
  below = λ bytes fits. omega (arith, fits 0, fits 1, fits 2, fits 3);
}

pub wide64 : IsWide w64 (2 ^ 64)
wide64 = record {
  some = omega arith;
  len = λ n. refl;
  back = λ bytes len fits. be_bytes_8 bytes _ len fits refl;
  again = λ n lt. from_be_bytes-to_be_bytes_8 n lt;
  below = λ bytes fits. omega (arith, fits 0, fits 1, fits 2, fits 3, fits 4, fits 5, fits 6, fits 7);
}

-- ---- texts

pub text_takes : (w : Width) (limit : ℕ) (wide : IsWide w limit) (bytes : List ℕ) (x : List ℕ × List ℕ) → IsBytes bytes → text_at w bytes ≡ Some x → (bytes ≡ text_spelled w x.0 ++ x.1) × (length x.0 < limit)
unfolding text_at
text_takes w limit wide bytes x fits e =
    let a = bind_some (cut_at (byte_len w) bytes) (λ len. cut_at (from_be_bytes w len.0) len.1) x e in
    let c = cut_some (byte_len w) bytes a.0 a.1 in
    let d = cut_some (from_be_bytes w a.0.0) a.0.1 x a.2 in
    let number : IsBytes a.0.0 = front_bytes a.0.0 a.0.1 (subst IsBytes c.0 fits) in
    let len : to_be_bytes w (length x.0) ≡ a.0.0 = ap (to_be_bytes w) d.1 ∙ wide.back a.0.0 c.1 number in
    let below : from_be_bytes w a.0.0 < limit = wide.below a.0.0 number in
    (c.0 ∙ ap₂ (λ (l t : List ℕ). l ++ t) (sym len) d.0 ∙ sym (append_assoc (to_be_bytes w (length x.0)) x.0 x.1), rw d.1 below)

pub text_again : (w : Width) (limit : ℕ) (wide : IsWide w limit) (text rest : List ℕ) → length text < limit → text_at w (text_spelled w text ++ rest) ≡ Some (text, rest)
unfolding text_at
text_again w limit wide text rest lt =
    let number = to_be_bytes w (length text) in
    let cut : cut_at (byte_len w) (text_spelled w text ++ rest) ≡ Some (number, text ++ rest) =
    ap (cut_at (byte_len w)) (append_assoc number text rest) ∙ cut_again (byte_len w) number (text ++ rest) (wide.len (length text)) in
    ap (λ o. o >>= λ len. cut_at (from_be_bytes w len.0) len.1) cut
    ∙ cut_again (from_be_bytes w number) text rest (sym (wide.again (length text) lt))

-- a text takes a byte or more
pub text_shorter : (w : Width) (limit : ℕ) (wide : IsWide w limit) (bytes : List ℕ) (x : List ℕ × List ℕ) → text_at w bytes ≡ Some x → length x.1 < length bytes
unfolding text_at
text_shorter w limit wide bytes x e =
    let a = bind_some (cut_at (byte_len w) bytes) (λ len. cut_at (from_be_bytes w len.0) len.1) x e in
    let c = cut_some (byte_len w) bytes a.0 a.1 in
    let d = cut_some (from_be_bytes w a.0.0) a.0.1 x a.2 in
    let some = wide.some in
    omega (arith, ap length c.0, ap length d.0, length-append a.0.0 a.0.1, length-append x.0 x.1)

-- ---- items

-- what the items that were read before and those that are still read give
abbrev pub with_front : {X : Type 0} → List X → Option (List X) → Option (List X)
with_front front read = read >>= λ more. Some (front ++ more)

-- an item takes a byte or more
abbrev pub Shortens : {X : Type 0} → (List ℕ → Option (X × List ℕ)) → Type 0
Shortens {X = X} item_at = (bytes : List ℕ) (x : X × List ℕ) → item_at bytes ≡ Some x → length x.1 < length bytes

-- an item is read as it is spelled
pub record Reads {X : Type 0} (item_at : List ℕ → Option (X × List ℕ)) (spelled : X → List ℕ) (IsFit : X → Type 0) : Type 0 where
  pub shorter : Shortens item_at
  pub again : (x : X) (rest : List ℕ) → IsFit x → item_at (spelled x ++ rest) ≡ Some (x, rest)
  pub back : (bytes : List ℕ) (x : X × List ℕ) → IsBytes bytes → item_at bytes ≡ Some x → (bytes ≡ spelled x.0 ++ x.1) × IsFit x.0

module _ {X : Type 0} (item_at : List ℕ → Option (X × List ℕ)) (shorter : Shortens item_at) where
  -- as many as there are bytes are enough
  enough : (n m : ℕ) (bytes : List ℕ) → length bytes ≤ n → length bytes ≤ m → items_within item_at n bytes ≡ items_within item_at m bytes
  unfolding items_within
  enough zero zero bytes p q = refl
  enough zero (suc m) [] p q = refl
  enough (suc n) zero [] p q = refl
  enough (suc n) (suc m) [] p q = refl
  enough zero (suc m) (b ∷ bs) p q = absurd (omega arith)
  enough (suc n) zero (b ∷ bs) p q = absurd (omega arith)
  enough (suc n) (suc m) (b ∷ bs) p q =
      elim (cases_option (item_at (b ∷ bs))) [
        | inl none ↦ rw none refl
        | inr some ↦
            let less = shorter (b ∷ bs) some.0 some.1 in
            rw some.1 (ap (λ read. read >>= λ others. Some (some.0.0 ∷ others)) (enough n m some.0.1 (omega arith) (omega arith)))
      ]

  -- where the first item is read, those behind it are left
  pub step : (bytes : List ℕ) (x : X × List ℕ) → item_at bytes ≡ Some x → items_read item_at bytes ≡ (items_read item_at x.1 >>= λ others. Some (x.0 ∷ others))
  unfolding items_within
  step [] x e = let less = shorter [] x e in absurd (omega arith)
  step (b ∷ bs) x e =
      let less = shorter (b ∷ bs) x e in
      rw e (ap (λ read. read >>= λ others. Some (x.0 ∷ others)) (enough (length bs) (length x.1) x.1 (omega arith) (omega arith)))

  pub stuck : (bytes : List ℕ) → 0 < length bytes → item_at bytes ≡ None → items_read item_at bytes ≡ None
  unfolding items_within
  stuck [] some e = absurd (omega arith)
  stuck (b ∷ bs) some e = rw e refl

  regroup : (front : List X) (x : X) (read : Option (List X)) → with_front front (read >>= λ others. Some (x ∷ others)) ≡ with_front (front ++ x ∷ []) read
  regroup front x None = refl
  regroup front x (Some others) = ap (λ (all : List X). Some all) (sym (append_assoc front (x ∷ []) others))

  -- a loop goes on behind an item, ends where none can be read, and is done where no byte is left
  pub goes_on : (front : List X) (bytes : List ℕ) (x : X) (behind : List ℕ) (total : Option (List X)) → item_at bytes ≡ Some (x, behind)
      → with_front front (items_read item_at bytes) ≡ total → with_front (front ++ x ∷ []) (items_read item_at behind) ≡ total
  goes_on front bytes x behind total e so_far =
      sym (regroup front x (items_read item_at behind)) ∙ ap (with_front front) (sym (step bytes (x, behind) e)) ∙ so_far

  pub ends : (front : List X) (bytes : List ℕ) (total : Option (List X)) → 0 < length bytes → item_at bytes ≡ None
      → with_front front (items_read item_at bytes) ≡ total → total ≡ None
  ends front bytes total some e so_far = sym so_far ∙ ap (with_front front) (stuck bytes some e)

pub is_done : {X : Type 0} (item_at : List ℕ → Option (X × List ℕ)) (front : List X) (bytes : List ℕ) (total : Option (List X)) → length bytes ≡ 0
    → with_front front (items_read item_at bytes) ≡ total → total ≡ Some front
unfolding items_within
is_done {X = X} item_at front bytes total none so_far =
    let nothing : bytes ≡ [] = nil_from_length bytes none in
    sym so_far ∙ ap (λ t. with_front front (items_read item_at t)) nothing ∙ ap (λ (all : List X). Some all) (append-nil front)

-- before the first item
pub begins : {X : Type 0} (read : Option (List X)) → with_front [] read ≡ read
begins None = refl
begins (Some all) = refl

module _ {X : Type 0} (item_at : List ℕ → Option (X × List ℕ)) (spelled : X → List ℕ) (IsFit : X → Type 0) (reads : Reads item_at spelled IsFit) where
  -- items that fit are read again
  pub all_again : (xs : List X) → AllByRecursion IsFit xs → items_read item_at (flat_map spelled xs) ≡ Some xs
  unfolding items_within
  all_again [] fit = refl
  all_again (x ∷ xs) fit =
      let first = reads.again x (flat_map spelled xs) fit.0 in
      ap (items_read item_at) (flat_map-cons spelled x xs)
      ∙ step item_at reads.shorter (spelled x ++ flat_map spelled xs) (x, flat_map spelled xs) first
      ∙ ap (λ read. read >>= λ others. Some (x ∷ others)) (all_again xs fit.1)

  within_back : (n : ℕ) (bytes : List ℕ) (xs : List X) → IsBytes bytes → items_within item_at n bytes ≡ Some xs → (flat_map spelled xs ≡ bytes) × AllByRecursion IsFit xs
  unfolding items_within
  within_back zero [] xs fits e = subst (λ (ys : List X). (flat_map spelled ys ≡ []) × AllByRecursion IsFit ys) (same_Some [] xs e) (refl, tt)
  within_back (suc n) [] xs fits e = subst (λ (ys : List X). (flat_map spelled ys ≡ []) × AllByRecursion IsFit ys) (same_Some [] xs e) (refl, tt)
  within_back zero (b ∷ bs) xs fits e = absurd cc
  within_back (suc n) (b ∷ bs) xs fits e =
      let a = bind_some (item_at (b ∷ bs)) (λ first. items_within item_at n first.1 >>= λ others. Some (first.0 ∷ others)) xs e in
      let c = bind_some (items_within item_at n a.0.1) (λ others. Some (a.0.0 ∷ others)) xs a.2 in
      let first = reads.back (b ∷ bs) a.0 fits a.1 in
      let rest = within_back n a.0.1 c.0 (back_bytes (spelled a.0.0) a.0.1 (subst IsBytes first.0 fits)) c.1 in
      subst (λ (ys : List X). (flat_map spelled ys ≡ b ∷ bs) × AllByRecursion IsFit ys) (same_Some (a.0.0 ∷ c.0) xs c.2)
      (flat_map-cons spelled a.0.0 c.0 ∙ ap (λ (t : List ℕ). spelled a.0.0 ++ t) rest.0 ∙ sym first.0, (first.1, rest.1))

  -- items that are read spell the bytes again
  pub all_back : (bytes : List ℕ) (xs : List X) → IsBytes bytes → items_read item_at bytes ≡ Some xs → (flat_map spelled xs ≡ bytes) × AllByRecursion IsFit xs
  all_back bytes xs fits e = within_back (length bytes) bytes xs fits e
