-- Parts that are put one after another, with numbers that rise.
use Rattle.std.proofs.Common.{◌≡◌, refl, sym, ap, ap₂, subst, unsigned_abs, ◌∙◌, ◌<◌, ◌+◌, ◌++◌, true, ℕ, suc, List, [], ◌∷◌, length, take, drop, drop-cons, get_or, nat_lt, arith}
use Rattle.std.proofs.Common.{map as each}
use Rattle.std.proofs.lemmas.Bool.{and_parts, ltb-true}
use Rattle.std.proofs.lemmas.Bool.Decides.{nat_tests}
use Rattle.std.proofs.lemmas.List.{take_more, take-append-drop, map-append}
use Rattle.std.specs.BTreeMap.{insert_entry}
use Rattle.std.specs.List.{AllByRecursion, list_all}
use Rattle.std.specs.Ordering.{nat_cmp}
use Rattle.std.specs.declared.cmp.Ordering.TheVariants.{Greater}
use Rattle.s3_uploads.specs.Parts.{rises}
use Rattle.s3_uploads.specs.Uploads.{with_part}
use Rattle.s3_uploads.specs.declared.part.Part.{Part}
use Rattle.s3_uploads.specs.declared.upload.Upload.{Upload}
use Rattle.s3_rows.specs.Meaning.{part_of}
use Rattle.s3_rows.specs.ReadingLaws.{numbered_part}
use Rattle.s3_stored_bodies.specs.Numbers.{Contents}
use Rattle.s3_stored_rows.specs.Bodies.{encoding}
use Rattle.s3_stored_rows.specs.Changes.{part_columns}
use Rattle.s3_stored_rows.specs.declared.rows.StoredPart.{StoredPart}

-- a greater number stands behind
behind : (n m : ℕ) → m < n → nat_cmp n m ≡ Greater
behind n m less = grind (arith, nat_tests)

-- an entry with a number above all others is the last
put_last : {X : Type 0} (es : List (ℕ × X)) (n : ℕ) (x : X) → AllByRecursion (λ e. e.0 < n) es → insert_entry nat_cmp es n x ≡ es ++ (n, x) ∷ []
put_last [] n x below = refl
put_last (e ∷ es) n x below = rw (behind n e.0 below.0) (ap (λ rest. e ∷ rest) (put_last es n x below.1))

module _ {X Y : Type 0} (number : X → ℕ) (what : X → Y) where
  -- an item with its number
  abbrev pub numbered : X → ℕ × Y
  numbered x = (number x, what x)

  -- a number that all are above
  one_above : (m : ℕ) (front : List X) (x : X) (rest : List X) → list_all (nat_lt m) (each number (front ++ x ∷ rest)) ≡ true → m < number x
  one_above m [] x rest above = ltb-true m (number x) (and_parts (nat_lt m (number x)) (list_all (nat_lt m) (each number rest)) above).0
  one_above m (y ∷ front) x rest above =
      one_above m front x rest (and_parts (nat_lt m (number y)) (list_all (nat_lt m) (each number (front ++ x ∷ rest))) above).1

  -- of numbers that rise, those in front of one are below it
  front_below : (front : List X) (x : X) (rest : List X) → rises (each number (front ++ x ∷ rest)) ≡ true
      → AllByRecursion (λ e. e.0 < number x) (each numbered front)
  unfolding rises
  front_below [] x rest rising = tt
  front_below (y ∷ front) x rest rising =
      let parts = and_parts (list_all (nat_lt (number y)) (each number (front ++ x ∷ rest))) (rises (each number (front ++ x ∷ rest))) rising in
      (one_above (number y) front x rest parts.0, front_below front x rest parts.1)

  -- the items around one
  around : (xs : List X) (i : ℕ) (x : X) → i < length xs → x ≡ get_or xs i x → take i xs ++ x ∷ drop (suc i) xs ≡ xs
  around xs i x within is =
      ap (λ y. take i xs ++ y ∷ drop (suc i) xs) is ∙ ap (λ t. take i xs ++ t) (sym (drop-cons xs i x within)) ∙ take-append-drop i xs

  -- the next item is put behind those before it
  next_put : (xs : List X) (i : ℕ) (x : X) → i < length xs → x ≡ get_or xs i x → rises (each number xs) ≡ true
      → insert_entry nat_cmp (each numbered (take i xs)) (number x) (what x) ≡ each numbered (take (i + 1) xs)
  next_put xs i x within is rising =
      put_last (each numbered (take i xs)) (number x) (what x)
      (front_below (take i xs) x (drop (suc i) xs) (subst (λ ys. rises (each number ys) ≡ true) (sym (around xs i x within is)) rising))
      ∙ sym (map-append numbered (take i xs) (x ∷ []))
      ∙ ap (λ y. each numbered (take i xs ++ y ∷ [])) is
      ∙ ap (each numbered) (sym (take_more xs i x within))

-- one part more is put to an upload that was begun
pub part_added : (contents now : Contents) (begun upload new : Upload (List ℕ)) (parts : List StoredPart) (i : ℕ) (part : StoredPart)
    → i < length parts → part ≡ get_or parts i part → rises (each (λ (p : StoredPart). unsigned_abs p.part) parts) ≡ true
    → now ≡ contents → upload ≡ record begun { parts = each (λ (p : StoredPart). numbered_part (encoding contents) (part_columns p)) (take i parts) }
    → new ≡ with_part (unsigned_abs part.part) (part_of (encoding now) (part_columns part)) upload
    → new ≡ record begun { parts = each (λ (p : StoredPart). numbered_part (encoding contents) (part_columns p)) (take (i + 1) parts) }
part_added contents now begun upload new parts i part within is rising same so_far put =
    put
    ∙ ap₂ (λ (c : Contents) (u : Upload (List ℕ)). with_part (unsigned_abs part.part) (part_of (encoding c) (part_columns part)) u) same so_far
    ∙ ap (λ (ps : List (ℕ × Part (List ℕ))). record begun { parts = ps })
    (next_put (λ (p : StoredPart). unsigned_abs p.part) (λ (p : StoredPart). part_of (encoding contents) (part_columns p)) parts i part within is rising)
