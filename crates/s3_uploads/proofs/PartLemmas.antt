-- The rows of parts.
use Rattle.std.proofs.Common.{◌≡◌, ◌≢◌, refl, sym, ap, subst, ◌∙◌, ◌<◌, ◌≤◌, ◌++◌, append_assoc, ℕ, zero, suc, true, false, cond, ◌&&◌, List, [], ◌∷◌, length, take, nat_lt, arith, Result, Ok, Err, OnErr, IsTrue}
use Rattle.std.specs.BTreeMap.Range.{entries_between}
use Rattle.std.specs.Ordering.{nat_cmp, is_lt}
use Rattle.std.specs.declared.ops.Bound.TheVariants.{Excluded, Unbounded}
use Rattle.std.specs.List.{AllByRecursion, list_all}
use Rattle.std.specs.List.Sorted.{IsStrictlySortedBy}
use Rattle.std.specs.declared.cmp.Ordering.TheVariants.{Less}
use Rattle.std.proofs.lemmas.Bool.{and_from}
use Rattle.std.proofs.lemmas.List.{length_push}
use Rattle.s3_uploads.specs.Parts.{PartList, rises, part_row, part_rows, rows_behind}
use Rattle.s3_uploads.specs.declared.part.Part.{Part}
use Rattle.s3_uploads.specs.declared.part.PartRow.{PartRow}

starts : (last n : ℕ) → is_lt (nat_cmp last n) ≡ nat_lt last n
starts last n = grind arith

-- the rows of the entries above a number are the rows above it
pub rows_from : {B : Type 0} (last : ℕ) (parts : PartList B) → part_rows (entries_between nat_cmp (Excluded last) Unbounded parts) ≡ rows_behind last parts
rows_from last [] = refl
rows_from last (e ∷ es) =
    let rest = rows_from last es in
    let all = entries_between nat_cmp (Excluded last) Unbounded es in
    elim (is_lt (nat_cmp last e.0)) as (λ b. part_rows (cond (b && true) (e ∷ all) all) ≡ cond b (part_row e ∷ rows_behind last es) (rows_behind last es)) [
      | true ↦ ap (λ rows. part_row e ∷ rows) rest
      | false ↦ rest
    ] ∙ ap (λ b. cond b (part_row e ∷ rows_behind last es) (rows_behind last es)) (starts last e.0)

-- where a row is left and there is room for it, there are rows to tell
some_taken : {X : Type 0} (most : ℕ) (rows rest : List X) (x : X) → length rows < most → take most (rows ++ (x ∷ rest)) ≢ []
some_taken zero rows rest x room none = absurd (omega arith)
some_taken (suc most) [] rest x room none = absurd (cc)
some_taken (suc most) (r ∷ rows) rest x room none = absurd (cc)

pub rows_left : {B : Type 0} (most : ℕ) (rows all : List PartRow) (left rest : PartList B) (e : ℕ × Part B) → length rows < most → rows ++ part_rows left ≡ all → left ≡ e ∷ rest → take most all ≢ []
rows_left most rows all left rest e room are is none =
    some_taken most rows (part_rows rest) (part_row e) room (ap (λ es. take most (rows ++ part_rows es)) (sym is) ∙ ap (take most) are ∙ none)

pub row_added : {B : Type 0} (rows now all : List PartRow) (left rest : PartList B) (e : ℕ × Part B) → rows ++ part_rows left ≡ all → left ≡ e ∷ rest → now ≡ rows ++ part_row e ∷ [] → now ++ part_rows rest ≡ all
row_added rows now all left rest e are is adds =
    ap (λ now. now ++ part_rows rest) adds ∙ append_assoc rows (part_row e ∷ []) (part_rows rest) ∙ ap (λ es. rows ++ part_rows es) (sym is) ∙ are

pub row_fits : {X : Type 0} (most : ℕ) (rows now : List X) (x : X) → length rows < most → now ≡ rows ++ x ∷ [] → length now ≤ most
row_fits most rows now x room adds = subst (λ n. n ≤ most) (sym (ap length adds ∙ length_push rows x)) (omega arith)

pub on_err : {T E P : Type 0} (r : Result T E) → P → OnErr r P
on_err (Ok x) p = tt
on_err (Err e) p = p

-- ---- the numbers rise

all_below : (k : ℕ) (ks : List ℕ) → AllByRecursion (λ q. nat_cmp k q ≡ Less) ks → list_all (nat_lt k) ks ≡ true
all_below k [] all = refl
all_below k (q ∷ ks) all = and_from (nat_lt k q) (list_all (nat_lt k) ks) (sym (starts k q) ∙ ap is_lt all.0) (all_below k ks all.1)

pub sorted_rise : (ks : List ℕ) → IsStrictlySortedBy nat_cmp ks → IsTrue (rises ks)
unfolding IsStrictlySortedBy rises
sorted_rise [] sorted = refl
sorted_rise (k ∷ ks) sorted = and_from (list_all (nat_lt k) ks) (rises ks) (all_below k ks sorted.0) (sorted_rise ks sorted.1)
