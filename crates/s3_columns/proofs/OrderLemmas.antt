-- Names that rise from each to the next are in order.
use Rattle.std.proofs.Common.{◌≡◌, ℕ, ◌<◌, true, ◌&&◌, List, [], ◌∷◌, length, get_or, refl, sym, ap, arith}
use Rattle.std.specs.List.{AllByRecursion}
use Rattle.std.specs.List.Sorted.{IsStrictlySortedBy}
use Rattle.std.specs.declared.cmp.Ordering.{Ordering}
use Rattle.std.specs.declared.cmp.Ordering.TheVariants.{Less, Equal, Greater}
use Rattle.std.specs.Ordering.{is_lt}
use Rattle.std.proofs.lemmas.Bool.{and_parts, and_from, false≢true}
use Rattle.std.proofs.lemmas.Cmp.{nat_list_cmp_total}
use Rattle.s3_text.specs.Order.{byte_order, rises}
use Rattle.s3_versions.specs.Metadata.{Entry, names_in}
use Rattle.s3_columns.specs.Reading.{comes_first}

less_from_is_lt : (o : Ordering) → is_lt o ≡ true → o ≡ Less
less_from_is_lt Less h = refl
less_from_is_lt Equal h = absurd (false≢true h)
less_from_is_lt Greater h = absurd (false≢true h)

-- a text below one that is below others is below these
below_all : (x y : List ℕ) (zs : List (List ℕ)) → byte_order x y ≡ Less → AllByRecursion (λ z. byte_order y z ≡ Less) zs → AllByRecursion (λ z. byte_order x z ≡ Less) zs
below_all x y [] below all = tt
below_all x y (z ∷ zs) below all = (nat_list_cmp_total.trans x y z below all.0, below_all x y zs below all.1)

pub sorted_from_rises : (names : List (List ℕ)) → rises names ≡ true → IsStrictlySortedBy byte_order names
unfolding IsStrictlySortedBy
sorted_from_rises [] up = tt
sorted_from_rises (x ∷ []) up = (tt, tt)
sorted_from_rises (x ∷ y ∷ rest) up =
    let both = and_parts (is_lt (byte_order x y)) (rises (y ∷ rest)) up in
    let below : byte_order x y ≡ Less = less_from_is_lt (byte_order x y) both.0 in
    let later = sorted_from_rises (y ∷ rest) both.1 in
    ((below, below_all x y rest below later.0), later)

pub rises_from_sorted : (names : List (List ℕ)) → IsStrictlySortedBy byte_order names → rises names ≡ true
unfolding IsStrictlySortedBy
rises_from_sorted [] up = refl
rises_from_sorted (x ∷ []) up = refl
rises_from_sorted (x ∷ y ∷ rest) up = and_from _ _ (ap is_lt up.0.0) (rises_from_sorted (y ∷ rest) up.1)

-- the first name of some entries comes before the rest, which rise
pub rises_more : (entry : Entry) (rest : List Entry) → rises (names_in (entry ∷ rest)) ≡ (comes_first entry.name (names_in rest) && rises (names_in rest))
rises_more entry [] = refl
rises_more entry (next ∷ rest) = refl

-- the first of some entries
pub first_name : (name : List ℕ) (entries : List Entry) (next : Entry) → 0 < length entries → next ≡ get_or entries 0 next
    → comes_first name (names_in entries) ≡ is_lt (byte_order name next.name)
first_name name [] next some is = absurd (omega arith)
first_name name (entry ∷ rest) next some is = ap (λ (e : Entry). is_lt (byte_order name e.name)) (sym is)
