-- What is kept, as rows change and numbers of bodies come and go.
use Rattle.std.proofs.Common.{◌≡◌, refl, sym, ap, subst, ◌∙◌, ℕ, ℤ, pos, ◌+◌, ◌<◌, ◌≤◌, cond, true, false, List, [], ◌∷◌, Option, Some, None, ◌↔◌, ◌+ℤ◌, arith}
use Rattle.std.specs.Prelude.{int_lt, IsTrue, unwrap_or, Result, Ok, Err, OnOk, OnErr}
use Rattle.std.proofs.lemmas.Int.{ints}
use Rattle.std.specs.Cmp.{nat_cmp_total, eq_by_cmp_equiv}
use Rattle.std.specs.FinMap.{get, insert, get-insert}
use Rattle.std.specs.List.{AllByRecursion}
use Rattle.std.specs.Ordering.{nat_cmp, eq_by_cmp}
use Rattle.sqlite_keyed.specs.Rules.{AllPass}
use Rattle.std.proofs.lemmas.List.Elements.{All-from_recursion, recursion_from_All}
use Rattle.s3_stored_bodies.specs.Numbers.{Contents, bytes_under, times, named_more, named_less, KeepsNamed}
use Rattle.s3_stored_bodies.proofs.NumberLemmas.{named_less-none}
use Rattle.s3_records.specs.Changes.{Change, changed}
use Rattle.s3_rows.specs.Columns.{Tables}
use Rattle.s3_rows.specs.Meaning.{catalogue_of}
use Rattle.s3_stored_rows.specs.Bodies.{encoding, numbers_named}
use Rattle.s3_row_changes.specs.Trading.{Trades}
use Rattle.s3_row_steps.specs.Steps.{AreKept, Steps}
use Rattle.s3_stored_rows.specs.Rowids.{AreRowsBelow}
use Rattle.s3_terms.specs.declared.memory.NoMemory.{NoMemory}
use Rattle.s3_table_records.specs.Kept.{Kept, kept, IsKept, Changes, catalogue}
use Rattle.s3_table_records.proofs.SameBytesLemmas.{same_catalogue}

-- each number is counted as often as rows name it
abbrev pub AreNamed : (ℕ → ℕ) → Tables → Type 0
AreNamed uses t = (n : ℕ) → uses n ≡ times n (numbers_named t)

-- the count after a change of rows, where numbers are named once less and once more
pub named_after : (old new : Tables) (uses : ℕ → ℕ) (less more : List ℕ) → AreNamed uses old → Trades old new less more → AreNamed (named_less less (named_more more uses)) new
named_after old new uses less more named trades n = omega (arith, named n, trades n)

-- what goes was counted
pub less_counted : (old new : Tables) (uses : ℕ → ℕ) (less more : List ℕ) → AreNamed uses old → Trades old new less more → (n : ℕ) → times n less ≤ named_more more uses n
less_counted old new uses less more named trades n = omega (arith, named n, trades n)

-- no more: the count is as it was
pub none_more : (uses : ℕ → ℕ) → named_more [] uses ≡ uses
none_more uses = λ i q. let is : uses q + 0 ≡ uses q = omega arith in is i

-- the catalogue is the same over bytes that stay where numbers are named
pub kept_catalogue : (c d : Contents) (uses : ℕ → ℕ) (t : Tables) → AreNamed uses t → KeepsNamed uses c d → catalogue_of (encoding d) t ≡ catalogue_of (encoding c) t
kept_catalogue c d uses t named keeps = same_catalogue c d t (λ n is. ap (λ bytes. unwrap_or bytes []) (keeps n (omega (arith, named n))))

-- and over bytes that come under a new number, or under one that has them
module _ (c : Contents) (uses : ℕ → ℕ) (number : ℕ) (body : List ℕ) where
  abbrev pub IsNewOrSame : Type 0
  IsNewOrSame = (bytes : List ℕ) → get c number ≡ Some bytes → bytes ≡ body

  same_at : (found : Option (List ℕ)) → ((bytes : List ℕ) → found ≡ Some bytes → bytes ≡ body) → (found ≡ None → ⊥) → body ≡ unwrap_or found []
  same_at None is there = absurd (there refl)
  same_at (Some bytes) is there = sym (is bytes refl)

  pub under_same : (n : ℕ) → IsNewOrSame → ((m : ℕ) → (uses m ≡ 0) ↔ (get c m ≡ None)) → 0 < uses n → bytes_under (insert c number body) n ≡ bytes_under c n
  under_same n is there counted =
      ap (λ found. unwrap_or found []) (get-insert nat_cmp_total c number body n)
      ∙ elim (eq_by_cmp nat_cmp n number) as (λ b. eq_by_cmp nat_cmp n number ≡ b → unwrap_or (cond b (Some body) (get c n)) [] ≡ bytes_under c n) [
        | true ↦ λ tied. let at : n ≡ number = grind (arith, tied) in
            rw at (same_at (get c number) is (λ none. let nothing = (there number).1 none in omega (arith, counted, ap uses at)))
        | false ↦ λ tied. refl
      ] refl

  pub kept_beside : (t : Tables) → AreNamed uses t → IsNewOrSame → ((m : ℕ) → (uses m ≡ 0) ↔ (get c m ≡ None)) → catalogue_of (encoding (insert c number body)) t ≡ catalogue_of (encoding c) t
  kept_beside t named is there = same_catalogue c (insert c number body) t (λ n at. under_same n is there (omega (arith, named n)))

  pub under_here : bytes_under (insert c number body) number ≡ body
  under_here = ap (λ found. unwrap_or found []) (get-insert nat_cmp_total c number body number ∙ ap (λ b. cond b (Some body) (get c number)) ((eq_by_cmp_equiv nat_cmp_total).refl number))

-- ---- the next rowid grows

above_too : {X : Type 0} (row : X → ℤ) (next : ℤ) (xs : List X) → AllPass (λ x. int_lt (row x) next) xs → AllPass (λ x. int_lt (row x) (next +ℤ pos 1)) xs
above_too row next xs below =
    All-from_recursion _ xs (go xs (recursion_from_All _ xs below))
  where
    go : (xs : List _) → AllByRecursion (λ x. IsTrue (int_lt (row x) next)) xs → AllByRecursion (λ x. IsTrue (int_lt (row x) (next +ℤ pos 1))) xs
    go [] all = cc
    go (x ∷ xs) all = (let h = all.0 in grind (arith, ints), go xs all.1)

pub rows_below : (next : ℤ) (t : Tables) → AreRowsBelow next t → AreRowsBelow (next +ℤ pos 1) t
rows_below next t below =
    record {
      buckets = above_too (λ b. b.row) next t.buckets below.buckets;
      versions = above_too (λ v. v.row) next t.versions below.versions;
      uploads = above_too (λ u. u.row) next t.uploads below.uploads;
      parts = above_too (λ p. p.row) next t.parts below.parts;
    }

pub rows_kept : (next : ℤ) (t : Tables) → AreKept next t → AreKept (next +ℤ pos 1) t
rows_kept next t rows = record { sound = rows.sound; rowids = rows_below next t rows.rowids; small = rows.small }

-- ---- what is kept after a change

module _ (t : Tables) (c : Contents) (u : ℕ → ℕ) (next : ℤ) (before : IsKept (kept t c u next)) where
  -- nothing changed but the next rowid
  pub kept_later : IsKept (kept t c u (next +ℤ pos 1))
  kept_later = record { rows = rows_kept next t before.rows; named = before.named }

  -- a body came and went again
  module _ (d : Contents) (v : ℕ → ℕ) (number : ℕ) (body : List ℕ) (there : (m : ℕ) → (u m ≡ 0) ↔ (get c m ≡ None)) (is_new : IsNewOrSame c u number body) where
    back : v ≡ named_less (number ∷ []) (named_more (number ∷ []) u) → (n : ℕ) → v n ≡ u n
    back is n = let at = ap (λ uses. uses n) is in omega arith

    pub kept_back : v ≡ named_less (number ∷ []) (named_more (number ∷ []) u) → IsKept (kept t d v (next +ℤ pos 1))
    kept_back is = record { rows = rows_kept next t before.rows; named = λ n. back is n ∙ before.named n }

    pub same_back : v ≡ named_less (number ∷ []) (named_more (number ∷ []) u) → KeepsNamed v (insert c number body) d → catalogue (kept t d v (next +ℤ pos 1)) ≡ catalogue (kept t c u next)
    same_back is keeps =
        kept_catalogue (insert c number body) d v t (λ n. back is n ∙ before.named n) keeps ∙ kept_beside c u number body t before.named is_new there

    -- a body came, rows changed, and what they no more name went
    module _ (new : Tables) (bucket : List ℕ) (change : Contents → Change (List ℕ)) (less : List ℕ) (steps : Steps t new (next +ℤ pos 1) bucket change less (number ∷ [])) where
      pub kept_changed : v ≡ named_less less (named_more (number ∷ []) u) → IsKept (kept new d v (next +ℤ pos 1))
      kept_changed is = record { rows = steps.kept; named = λ n. ap (λ uses. uses n) is ∙ named_after t new u less (number ∷ []) before.named steps.trades n }

      pub is_changed : v ≡ named_less less (named_more (number ∷ []) u) → KeepsNamed v (insert c number body) d
          → catalogue (kept new d v (next +ℤ pos 1)) ≡ changed (catalogue (kept t c u next)) bucket (change (insert c number body))
      is_changed is keeps =
          kept_catalogue (insert c number body) d v new (kept_changed is).named keeps ∙ steps.means (insert c number body)
          ∙ ap (λ before. changed before bucket (change (insert c number body))) (kept_beside c u number body t before.named is_new there)

  -- bodies that are there were named once more and once less again
  module _ (d : Contents) (v : ℕ → ℕ) (more : List ℕ) (is : v ≡ named_less more (named_more more u)) (keeps : KeepsNamed v c d) where
    as_before : (n : ℕ) → v n ≡ times n (numbers_named t)
    as_before n = let at = ap (λ uses. uses n) is in omega (arith, before.named n)

    pub kept_unshared : IsKept (kept t d v (next +ℤ pos 1))
    kept_unshared = record { rows = rows_kept next t before.rows; named = as_before }

    pub same_unshared : catalogue (kept t d v (next +ℤ pos 1)) ≡ catalogue (kept t c u next)
    same_unshared = kept_catalogue c d v t as_before keeps

  -- bodies that are there were named once more, rows changed, and what they no more name went
  module _ (d : Contents) (v : ℕ → ℕ) (new : Tables) (bucket : List ℕ) (change : Contents → Change (List ℕ)) (less more : List ℕ) (steps : Steps t new (next +ℤ pos 1) bucket change less more) (is : v ≡ named_less less (named_more more u)) (keeps : KeepsNamed v c d) where
    pub kept_shared : IsKept (kept new d v (next +ℤ pos 1))
    kept_shared = record { rows = steps.kept; named = λ n. ap (λ uses. uses n) is ∙ named_after t new u less more before.named steps.trades n }

    pub is_changed_shared : catalogue (kept new d v (next +ℤ pos 1)) ≡ changed (catalogue (kept t c u next)) bucket (change c)
    is_changed_shared = kept_catalogue c d v new kept_shared.named keeps ∙ steps.means c

  -- rows changed, and what they no more name went
  module _ (new : Tables) (d : Contents) (v : ℕ → ℕ) (later : ℤ) (bucket : List ℕ) (change : Contents → Change (List ℕ)) (less : List ℕ) (steps : Steps t new later bucket change less []) where
    pub kept_dropped : v ≡ named_less less u → IsKept (kept new d v later)
    kept_dropped is = record { rows = steps.kept; named = λ n. ap (λ uses. uses n) (is ∙ ap (named_less less) (sym (none_more u))) ∙ named_after t new u less [] before.named steps.trades n }

    pub is_dropped : v ≡ named_less less u → KeepsNamed v c d → catalogue (kept new d v later) ≡ changed (catalogue (kept t c u next)) bucket (change c)
    is_dropped is keeps = kept_catalogue c d v new (kept_dropped is).named keeps ∙ steps.means c

-- ---- the same as outcomes of a change

module _ {X : Type 0} (t : Tables) (c : Contents) (u : ℕ → ℕ) (next : ℤ) (before : IsKept (kept t c u next)) (bucket : List ℕ) (change : Change (List ℕ)) where
  -- nothing changed
  pub is_same : (error : NoMemory) → Changes {X = X} (kept t c u next) (kept t c u (next +ℤ pos 1)) bucket change (Err error)
  is_same error = record { kept = kept_later t c u next before; ok = cc; err = refl; store = refl }

  module _ (d : Contents) (v : ℕ → ℕ) (number : ℕ) (body : List ℕ) (there : (m : ℕ) → (u m ≡ 0) ↔ (get c m ≡ None)) (is_new : IsNewOrSame c u number body) where
    -- a body came and went again
    pub is_back : (error : NoMemory) → v ≡ named_less (number ∷ []) (named_more (number ∷ []) u) → KeepsNamed v (insert c number body) d
        → Changes {X = X} (kept t c u next) (kept t d v (next +ℤ pos 1)) bucket change (Err error)
    is_back error is keeps =
        record {
          kept = kept_back t c u next before d v number body there is_new is;
          ok = cc;
          err = same_back t c u next before d v number body there is_new is keeps;
          store = refl;
        }

    -- a body came, rows changed, and what they no more name went
    pub is_put : (x : X) (new : Tables) (stands : Contents → Change (List ℕ)) (less : List ℕ) → Steps t new (next +ℤ pos 1) bucket stands less (number ∷ [])
        → stands (insert c number body) ≡ change → v ≡ named_less less (named_more (number ∷ []) u) → KeepsNamed v (insert c number body) d
        → Changes (kept t c u next) (kept new d v (next +ℤ pos 1)) bucket change (Ok x)
    is_put x new stands less steps same is keeps =
        record {
          kept = kept_changed t c u next before d v number body there is_new new bucket stands less steps is;
          ok = is_changed t c u next before d v number body there is_new new bucket stands less steps is keeps ∙ ap (changed (catalogue (kept t c u next)) bucket) same;
          err = cc;
          store = steps.store;
        }

  -- bodies that are there were named once more and once less again
  pub is_unshared : (error : NoMemory) (d : Contents) (v : ℕ → ℕ) (more : List ℕ) → v ≡ named_less more (named_more more u) → KeepsNamed v c d
      → Changes {X = X} (kept t c u next) (kept t d v (next +ℤ pos 1)) bucket change (Err error)
  is_unshared error d v more is keeps =
      record { kept = kept_unshared t c u next before d v more is keeps; ok = cc; err = same_unshared t c u next before d v more is keeps; store = refl }

  -- bodies that are there were named once more, rows changed, and what they no more name went
  pub is_shared : (x : X) (new : Tables) (d : Contents) (v : ℕ → ℕ) (stands : Contents → Change (List ℕ)) (less more : List ℕ) → Steps t new (next +ℤ pos 1) bucket stands less more
      → stands c ≡ change → v ≡ named_less less (named_more more u) → KeepsNamed v c d
      → Changes (kept t c u next) (kept new d v (next +ℤ pos 1)) bucket change (Ok x)
  is_shared x new d v stands less more steps same is keeps =
      record {
        kept = kept_shared t c u next before d v new bucket stands less more steps is keeps;
        ok = is_changed_shared t c u next before d v new bucket stands less more steps is keeps ∙ ap (changed (catalogue (kept t c u next)) bucket) same;
        err = cc;
        store = steps.store;
      }

  -- rows changed, and what they no more name went
  pub is_gone : (x : X) (new : Tables) (d : Contents) (v : ℕ → ℕ) (later : ℤ) (stands : Contents → Change (List ℕ)) (less : List ℕ) → Steps t new later bucket stands less []
      → stands c ≡ change → v ≡ named_less less u → KeepsNamed v c d
      → Changes (kept t c u next) (kept new d v later) bucket change (Ok x)
  is_gone x new d v later stands less steps same is keeps =
      record {
        kept = kept_dropped t c u next before new d v later bucket stands less steps is;
        ok = is_dropped t c u next before new d v later bucket stands less steps is keeps ∙ ap (changed (catalogue (kept t c u next)) bucket) same;
        err = cc;
        store = steps.store;
      }

-- nothing changed, not even the next rowid
pub unchanged : {X : Type 0} (t s : Tables) (c : Contents) (u : ℕ → ℕ) (next : ℤ) → IsKept (kept t c u next) → s ≡ t → (bucket : List ℕ) (change : Change (List ℕ)) (error : NoMemory)
    → Changes {X = X} (kept t c u next) (kept s c u next) bucket change (Err error)
unchanged t s c u next before same bucket change error =
    record { kept = subst (λ now. IsKept (kept now c u next)) (sym same) before; ok = cc; err = ap (λ now. catalogue (kept now c u next)) same; store = ap (λ now. now.store) same }

-- a change says the same beside another answer
pub done_alike : {X Y : Type 0} {old new : Kept} {bucket : List ℕ} {change : Change (List ℕ)} {x : X} {y : Y} → Changes old new bucket change (Ok x) → Changes old new bucket change (Ok y)
done_alike is = record { kept = is.kept; ok = is.ok; err = cc; store = is.store }

pub failed_alike : {X Y : Type 0} {old new : Kept} {bucket : List ℕ} {change : Change (List ℕ)} {error failed : NoMemory} → Changes {X = X} old new bucket change (Err error) → Changes {X = Y} old new bucket change (Err failed)
failed_alike is = record { kept = is.kept; ok = cc; err = is.err; store = is.store }

-- ---- and of a change of rows that name no bodies, which may fail

pub passed : {X : Type 0} (t : Tables) (c : Contents) (u : ℕ → ℕ) (next later : ℤ) → IsKept (kept t c u next) → IsKept (kept t c u later) → (bucket : List ℕ) (change : Change (List ℕ)) (new : Tables) (result : Result X NoMemory)
    → OnOk result (Steps t new later bucket (λ _. change) [] []) → OnErr result (new ≡ t) → Changes (kept t c u next) (kept new c u later) bucket change result
passed t c u next later before grown bucket change new (Ok x) steps same =
    is_gone t c u next before bucket change x new c u later (λ _. change) [] steps refl (sym (named_less-none u)) (λ n is. refl)
passed t c u next later before grown bucket change new (Err error) steps same =
    record {
      kept = subst (λ now. IsKept (kept now c u later)) (sym same) grown;
      ok = cc;
      err = ap (λ now. catalogue (kept now c u later)) same;
      store = ap (λ now. now.store) same;
    }
