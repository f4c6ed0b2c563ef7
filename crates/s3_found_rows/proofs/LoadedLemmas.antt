-- What is known when all rows are put.
use Rattle.std.proofs.Common.{◌≡◌, sym, ap, ◌∙◌, ℤ, pos, ◌+ℤ◌, ◌≤ℤ◌, ◌<ℤ◌, List, [], ◌∷◌, length, slice_index_or, refl, unsigned_abs, SFits, w64, arith}
use Rattle.std.proofs.lemmas.Int.{ints}
use Rattle.s3_rows.specs.Columns.{StoreColumns, Tables, no_rows}

-- a number of 64 bits
pub number_room : (number : ℤ) → SFits w64 number → number ≤ℤ pos 9_223_372_036_854_775_808
number_room number fits = grind (arith, ints)

pub next_above : (last next : ℤ) → next ≡ last +ℤ pos 1 → last <ℤ next
next_above last next is = grind (arith, ints)

pub count_is : (number : ℤ) → pos 0 ≤ℤ number → number ≡ pos (unsigned_abs number)
count_is number count = grind (arith, ints)

pub only_store : (t : Tables) (l : List StoreColumns) → t ≡ record no_rows { store = l } → t ≡ record no_rows { store = t.store }
only_store t l is = is ∙ ap (λ (s : List StoreColumns). record no_rows { store = s }) (sym (ap (λ (u : Tables). u.store) is))

pub store_stays : (t u : Tables) (l : List StoreColumns) → t ≡ record no_rows { store = l } → u.store ≡ t.store → u.store ≡ l
store_stays t u l is same = same ∙ ap (λ (v : Tables). v.store) is

pub whole_same : (t u w : Tables) (l : List StoreColumns) → t ≡ record no_rows { store = l } → w.store ≡ l → u ≡ record w { store = t.store } → u ≡ w
whole_same t u w l is found same = same ∙ ap (λ (s : List StoreColumns). record w { store = s }) (ap (λ (v : Tables). v.store) is ∙ sym found)

-- a slice of one item has that item alone
pub only_one : {X : Type 0} (all : List X) (d : X) → length all ≡ 1 → all ≡ slice_index_or all 0 d ∷ []
only_one [] d same = absurd (omega (arith, same))
only_one (y ∷ []) d same = refl
only_one (y ∷ z ∷ all) d same = absurd (omega (arith, same))
