-- The parts of an upload: all are found by their numbers, of which there are 10,000.
use Rattle.std.proofs.Common.{◌≡◌, refl, sym, ap, ◌∙◌, ℕ, zero, suc, ℤ, pos, ◌≤◌, ◌≤ℤ◌, Bool, true, false, not, ◌&&◌, List, [], ◌∷◌, length, take, map, filter, find, Option, Some, None, int_eq, int_le, int_lt, arith}
use Rattle.std.proofs.lemmas.Bool.{and_parts}
use Rattle.std.proofs.lemmas.Int.{ints}
use Rattle.std.proofs.lemmas.List.{take_all}
use Rattle.std.proofs.lemmas.List.Elements.{recursion_from_All}
use Rattle.std.proofs.lemmas.List.Filters.{length-filter_both}
use Rattle.std.proofs.lemmas.List.Sorted.{length_permutation}
use Rattle.std.specs.Cmp.{IsTotalOrder, int_cmp_total, on_total}
use Rattle.std.specs.List.{AllByRecursion}
use Rattle.std.specs.Option.{option_to_list}
use Rattle.sqlite_keyed.specs.Lists.{delete_where, sort_by}
use Rattle.sqlite_keyed.specs.Rules.{AreApart}
use Rattle.sqlite_keyed.proofs.KeyedLemmas.{same_int}
use Rattle.sqlite_keyed.proofs.ListLemmas.{all_weaker, ascending-filter}
use Rattle.sqlite_keyed.proofs.SortLemmas.{IsPermutation-sort_by}
use Rattle.s3_rows.specs.Columns.{UploadColumns, PartColumns, Tables}
use Rattle.s3_rows.specs.Finding.{is_upload, is_sent_to, by_part}
use Rattle.s3_rows.specs.Soundness.{same_part, is_part_row, AreParts, AreSound}
use Rattle.s3_rows.proofs.EditLemmas.{same_key, find_passes, filter_agreeing}
use Rattle.s3_rows.proofs.ReadingLemmas.{ascending_among}
use Rattle.s3_rows.proofs.SortedLemmas.{all_passing}
use Rattle.s3_stored_rows.specs.Changes.{upload_columns, part_columns}
use Rattle.s3_stored_rows.specs.Queries.{upload_of_id, parts_above}
use Rattle.s3_row_changes.specs.declared.uploads.UploadRows.{UploadRows}
use Rattle.s3_row_changes.specs.Uploads.{parts_sent, AreRowsOf}
use Rattle.s3_row_changes.proofs.PlaceLemmas.{upload_place}
use Rattle.s3_row_changes.proofs.RowLemmas.{one_passes}

-- ---- rows whose numbers are apart

module _ {X : Type 0} (number : X → ℤ) where
  abbrev pub same_number : X → X → Bool
  same_number a b = int_eq (number a) (number b)

  abbrev pub IsUpTo : ℕ → X → Type 0
  IsUpTo n x = (pos 1 ≤ℤ number x) × (number x ≤ℤ pos n)

  both_at : (n : ℤ) (a b : X) → int_eq (number a) n ≡ true → int_eq (number b) n ≡ true → same_number a b ≡ true
  both_at n a b one two = same_key (number a) (number b) (same_int (number a) n one ∙ sym (same_int (number b) n two))

  at_most_one : (o : Option X) → length (option_to_list o) ≤ 1
  at_most_one None = omega arith
  at_most_one (Some x) = omega arith

  below : (n : ℕ) (x : X) → IsUpTo (suc n) x → not (int_eq (number x) (pos (suc n))) ≡ true → IsUpTo n x
  below n x within other = (within.0, grind (arith, ints))

  -- of as many numbers as there are from 1 on
  pub at_most_numbers : (n : ℕ) (xs : List X) → AreApart same_number xs → AllByRecursion (IsUpTo n) xs → length xs ≤ n
  at_most_numbers zero [] apart all = omega arith
  at_most_numbers zero (x ∷ xs) apart all = let within = all.0 in absurd (omega (arith, ints))
  at_most_numbers (suc n) xs apart all =
      let last = λ (x : X). int_eq (number x) (pos (suc n)) in
      let one : length (filter last xs) ≤ 1 = rw (one_passes same_number last (both_at (pos (suc n))) xs apart) (at_most_one (find last xs)) in
      let others : length (delete_where last xs) ≤ n =
      at_most_numbers n (delete_where last xs) (ascending-filter (λ a b. same_number a b ≡ false) (λ x. not (last x)) xs apart)
      (all_passing (IsUpTo n) (λ x. not (last x)) xs (all_weaker (IsUpTo (suc n)) (λ x. not (last x) ≡ true → IsUpTo n x) (below n) xs all)) in
      omega (arith, length-filter_both last (λ x. not (last x)) (λ x. refl) xs)

-- ---- parts

pub by_part_total : IsTotalOrder by_part
by_part_total = on_total (λ (p : PartColumns). p.part) int_cmp_total

sent_apart : (upload : ℤ) (a b : PartColumns) → is_sent_to upload a ≡ true → is_sent_to upload b ≡ true → same_part a b ≡ false → int_eq a.part b.part ≡ false
sent_apart upload a b one two apart =
    let sent : is_sent_to b.upload a ≡ true = same_key a.upload b.upload (same_int a.upload upload one ∙ sym (same_int b.upload upload two)) in
    ap (λ c. c && int_eq a.part b.part) (sym sent) ∙ apart

row_within : (p : PartColumns) → is_part_row p ≡ true → (pos 1 ≤ℤ p.part) × (p.part ≤ℤ pos 10000)
row_within p fits =
    let bounds = and_parts (int_le (pos 1) p.part) _ (and_parts (int_le (pos 1) p.part && int_le p.part (pos 10000)) _ fits).0 in
    (grind (arith, ints), grind (arith, ints))

module _ (ps : List PartColumns) (s : AreParts ps) (upload : ℤ) where
  fit : AllByRecursion (λ p. is_part_row p ≡ true) ps
  fit = recursion_from_All (λ p. is_part_row p ≡ true) ps s.fit

  sent_all : AllByRecursion (λ p. is_sent_to upload p ≡ true) (filter (is_sent_to upload) ps)
  sent_all = all_passing (λ p. is_sent_to upload p ≡ true) (is_sent_to upload) ps (all_weaker (λ p. is_part_row p ≡ true) (λ p. is_sent_to upload p ≡ true → is_sent_to upload p ≡ true) (λ p fits sent. sent) ps fit)

  within_all : AllByRecursion (λ p. (pos 1 ≤ℤ p.part) × (p.part ≤ℤ pos 10000)) (filter (is_sent_to upload) ps)
  within_all = all_passing (λ p. (pos 1 ≤ℤ p.part) × (p.part ≤ℤ pos 10000)) (is_sent_to upload) ps
      (all_weaker (λ p. is_part_row p ≡ true) (λ p. is_sent_to upload p ≡ true → (pos 1 ≤ℤ p.part) × (p.part ≤ℤ pos 10000)) (λ p fits sent. row_within p fits) ps fit)

  pub few_sent : length (filter (is_sent_to upload) ps) ≤ 10000
  few_sent = at_most_numbers (λ (p : PartColumns). p.part) 10000 (filter (is_sent_to upload) ps)
      (ascending_among (λ p. is_sent_to upload p ≡ true) (λ a b. same_part a b ≡ false) (λ a b. int_eq a.part b.part ≡ false) (sent_apart upload) (filter (is_sent_to upload) ps) sent_all
      (ascending-filter (λ a b. same_part a b ≡ false) (is_sent_to upload) ps s.numbers))
      within_all

  above_nothing : (p : PartColumns) → is_part_row p ≡ true → (is_sent_to upload p && int_lt (pos 0) p.part) ≡ is_sent_to upload p
  above_nothing p fits = go (is_sent_to upload p)
    where
      above : int_lt (pos 0) p.part ≡ true
      above = let within = row_within p fits in grind (arith, ints)

      go : (b : Bool) → (b && int_lt (pos 0) p.part) ≡ b
      go true = above
      go false = refl

  -- the first 10,000 above 0 are all
  pub all_sent : take 10000 (sort_by by_part (filter (λ p. is_sent_to upload p && int_lt (pos 0) p.part) ps)) ≡ sort_by by_part (filter (is_sent_to upload) ps)
  all_sent =
      let same = filter_agreeing (λ p. is_sent_to upload p && int_lt (pos 0) p.part) (is_sent_to upload) ps
      (all_weaker (λ p. is_part_row p ≡ true) (λ p. (is_sent_to upload p && int_lt (pos 0) p.part) ≡ is_sent_to upload p) above_nothing ps fit) in
      let sorted = length_permutation (sort_by by_part (filter (is_sent_to upload) ps)) (filter (is_sent_to upload) ps) (IsPermutation-sort_by by_part by_part_total (filter (is_sent_to upload) ps)) in
      ap (λ l. take 10000 (sort_by by_part l)) same ∙ take_all 10000 (sort_by by_part (filter (is_sent_to upload) ps)) (omega (arith, few_sent, sorted))

-- so are those of the upload in a row
pub all_parts_sent : (t : Tables) (u : UploadColumns) → AreSound t → take 10000 (parts_above u.row (pos 0) t) ≡ parts_sent t u
all_parts_sent t u sound = all_sent t.parts sound.parts u.row

-- the rows of an upload that is found, with all its parts
pub are_rows : (t : Tables) (bucket key : List ℕ) (id : ℤ) (u : UploadRows) → AreSound t → upload_of_id bucket key id t ≡ Some (upload_columns u.upload) → map part_columns u.parts.items ≡ take 10000 (parts_above u.upload.row (pos 0) t)
    → AreRowsOf t u
are_rows t bucket key id u sound found parts =
    let place = upload_place bucket key id (upload_columns u.upload) (find_passes (is_upload bucket key id) t.uploads (upload_columns u.upload) found) in
    record { found = (λ i. upload_of_id (place.0 i) (place.1 i) (place.2 i) t) ∙ found; parts = parts ∙ all_parts_sent t (upload_columns u.upload) sound }
