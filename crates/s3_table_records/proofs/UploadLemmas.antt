-- The rows of uploads and of their parts, and what they are to records.
use Rattle.std.proofs.Common.{◌≡◌, refl, sym, ap, ap₂, subst, ◌∙◌, ℕ, ℤ, pos, ◌<◌, ◌≤◌, ◌&&◌, ◌==◌, cond, Bool, true, List, [], ◌∷◌, map, filter, flat_map, Option, Some, None, option_map, unsigned_abs, is_eq, arith}
use Rattle.std.proofs.lemmas.Bool.{and_parts}
use Rattle.std.proofs.lemmas.Bool.Decides.{nat_tests}
use Rattle.std.proofs.lemmas.List.Elements.{recursion_from_All, All-from_recursion}
use Rattle.std.specs.Prelude.{IsTrue, nat_lt, All}
use Rattle.std.specs.Cmp.{nat_cmp_total}
use Rattle.std.specs.FinMap.{get-entries, entries, entries_sorted, is_sorted, nat_cmp-IsAntisymmetric}
use Rattle.std.specs.FinMap.Entries as Entries
use Rattle.std.specs.List.{AllByRecursion, list_all}
use Rattle.std.specs.Map.{lookup}
use Rattle.std.specs.Option.{IfSome}
use Rattle.std.specs.Ordering.{nat_cmp, eq_by_cmp, is_lt}
use Rattle.sqlite_keyed.proofs.ListLemmas.{all-filter, all_weaker}
use Rattle.s3_uploads.specs.Parts.{rises, part_at}
use Rattle.s3_uploads.specs.declared.part.Part.{Part}
use Rattle.s3_uploads.specs.declared.upload.Upload.{Upload}
use Rattle.s3_records.specs.OpenUploads as uploads
use Rattle.s3_records.specs.OpenUploads.{upload_at, parts_at}
use Rattle.s3_records.proofs.RowLemmas.{is_true}
use Rattle.s3_rows.specs.Columns.{UploadColumns, PartColumns, Tables}
use Rattle.s3_rows.specs.Encoding.{Encoding}
use Rattle.s3_rows.specs.Finding.{is_sent_to, is_part, by_part}
use Rattle.s3_rows.specs.Meaning.{collected, part_of, parts_of, upload_of, catalogue_of}
use Rattle.s3_rows.specs.ReadingLaws.{RowsTellUpload, RowsTellParts, numbered_part}
use Rattle.s3_rows.specs.Soundness.{is_part_row, AreSound}
use Rattle.s3_rows.specs.UploadLaws.{upload_begun}
use Rattle.s3_rows.proofs.CollectedLemmas.{get-collected}
use Rattle.s3_rows.proofs.EditLemmas.{find_has, find_both, find_agreeing}
use Rattle.s3_rows.proofs.SortedLemmas.{all-sort_by}
use Rattle.s3_rows.proofs.UploadLemmas.{count_is, part_counts}
use Rattle.s3_stored_bodies.specs.Numbers.{times}
use Rattle.s3_stored_rows.specs.Bodies.{version_numbers, part_numbers, numbers_named}
use Rattle.s3_stored_rows.specs.Changes.{upload_columns, part_columns}
use Rattle.s3_stored_rows.specs.Queries.{upload_of_id, part_of_number}
use Rattle.s3_stored_rows.specs.declared.rows.StoredPart.{StoredPart}
use Rattle.s3_row_changes.specs.Trading.{Trades, numbers_of, sent_numbers}
use Rattle.s3_row_changes.specs.Uploads.{AreRowsOf}
use Rattle.s3_row_changes.specs.declared.uploads.UploadRows.{UploadRows}
use Rattle.s3_row_changes.proofs.PartLemmas.{by_part_total}
use Rattle.s3_table_records.proofs.KeptLemmas.{AreNamed, less_counted}
use Rattle.s3_table_records.proofs.SameBytesLemmas.{all_standing, all_split, all_in_each}

map_twice : {X Y Z : Type 0} (f : X → Y) (g : Y → Z) (xs : List X) → map (λ x. g (f x)) xs ≡ map g (map f xs)
map_twice f g [] = refl
map_twice f g (x ∷ xs) = ap (λ ys. g (f x) ∷ ys) (map_twice f g xs)

-- what holds of what each row becomes
all_of_map : {X Y : Type 0} (P : Y → Type 0) (f : X → Y) (xs : List X) → AllByRecursion P (map f xs) → AllByRecursion (λ x. P (f x)) xs
all_of_map P f [] all = all
all_of_map P f (x ∷ xs) all = (all.0, all_of_map P f xs all.1)

-- ---- the numbers that a row of a part names are counted

-- all numbers of a part are named by a row
abbrev pub AllNamed : (ℕ → ℕ) → PartColumns → Type 0
AllNamed uses p = All (λ number. 0 < uses number) (part_numbers p)

module _ (t : Tables) (uses : ℕ → ℕ) (named : AreNamed uses t) where
  parts_named : AllByRecursion (AllNamed uses) t.parts
  unfolding numbers_named
  parts_named =
      let all = all_standing (λ n. 0 < uses n) (numbers_named t) (λ n is. omega (arith, named n)) in
      let split = all_split (λ n. 0 < uses n) (flat_map version_numbers t.versions) (flat_map part_numbers t.parts) all in
      all_weaker (λ p. AllByRecursion (λ n. 0 < uses n) (part_numbers p)) (AllNamed uses) (λ p each. All-from_recursion (λ n. 0 < uses n) (part_numbers p) each) t.parts
      (all_in_each (λ n. 0 < uses n) part_numbers t.parts split.1)

  pub part_named : (upload number : ℤ) (p : PartColumns) → part_of_number upload number t ≡ Some p → AllNamed uses p
  part_named upload number p found = find_has (AllNamed uses) (is_part upload number) t.parts p parts_named found

  pub upload_named : (u : UploadRows) → AreRowsOf t u → AllByRecursion (λ (p : StoredPart). AllNamed uses (part_columns p)) u.parts.items
  upload_named u are =
      all_of_map (AllNamed uses) part_columns u.parts.items
      (subst (AllByRecursion (AllNamed uses)) (sym are.parts)
      (all-sort_by by_part by_part_total (AllNamed uses) (filter (is_sent_to u.upload.row) t.parts) (all-filter (AllNamed uses) (is_sent_to u.upload.row) t.parts parts_named)))

-- ---- integers of the rows of parts are in range

pub parts_fit : (t : Tables) (u : UploadRows) → AreSound t → AreRowsOf t u → AllByRecursion (λ (p : StoredPart). IsTrue (is_part_row (part_columns p))) u.parts.items
parts_fit t u sound are =
    all_of_map (λ p. is_part_row p ≡ true) part_columns u.parts.items
    (subst (AllByRecursion (λ p. is_part_row p ≡ true)) (sym are.parts)
    (all-sort_by by_part by_part_total (λ p. is_part_row p ≡ true) (filter (is_sent_to u.upload.row) t.parts)
    (all-filter (λ p. is_part_row p ≡ true) (is_sent_to u.upload.row) t.parts (recursion_from_All (λ p. is_part_row p ≡ true) t.parts sound.parts.fit))))

-- ---- keys of a map rise

less : (n m : ℕ) → is_lt (nat_cmp n m) ≡ nat_lt n m
less n m = grind (arith, nat_tests)

module _ {X : Type 0} where
  all_above : (n : ℕ) (es : List (ℕ × X)) → Entries.below_all nat_cmp n es ≡ list_all (nat_lt n) (map (λ e. e.0) es)
  all_above n [] = refl
  all_above n (e ∷ es) = ap₂ (λ a b. a && b) (less n e.0) (all_above n es)

  sorted_rises : (es : List (ℕ × X)) → is_sorted nat_cmp es ≡ rises (map (λ e. e.0) es)
  unfolding rises
  sorted_rises [] = refl
  sorted_rises (e ∷ es) = ap₂ (λ a b. a && b) (all_above e.0 es) (sorted_rises es)

-- ---- the parts of the upload in a row

same_number : (n m : ℕ) → (m == n) ≡ eq_by_cmp nat_cmp n m
same_number n m = grind (arith, nat_tests)

lookup_found : {X : Type 0} (n : ℕ) (es : List (ℕ × X)) → lookup (λ m. m == n) es ≡ Entries.find nat_cmp n es
lookup_found n [] = refl
lookup_found {X} n (e ∷ es) = ap₂ (λ (b : Bool) (more : Option X). cond b (Some e.1) more) (same_number n e.0) (lookup_found n es)

module _ (e : Encoding) (t : Tables) (sound : AreSound t) where
  fit : AllByRecursion (λ p. is_part_row p ≡ true) t.parts
  fit = recursion_from_All (λ p. is_part_row p ≡ true) t.parts sound.parts.fit

  part_of_upload : (upload : ℤ) (n : ℕ) → part_at n (parts_of e t.parts upload) ≡ option_map (part_of e) (part_of_number upload (pos n) t)
  unfolding parts_of
  part_of_upload upload n =
      lookup_found n (entries (collected nat_cmp (λ p. unsigned_abs p.part) (part_of e) (filter (is_sent_to upload) t.parts)))
      ∙ sym (get-entries (collected nat_cmp (λ p. unsigned_abs p.part) (part_of e) (filter (is_sent_to upload) t.parts)) n)
      ∙ get-collected nat_cmp_total nat_cmp-IsAntisymmetric (λ p. unsigned_abs p.part) (part_of e) (filter (is_sent_to upload) t.parts) n
      ∙ ap (option_map (part_of e)) (find_both (is_sent_to upload) (λ p. is_eq (nat_cmp (unsigned_abs p.part) n)) t.parts
      ∙ find_agreeing (λ p. is_sent_to upload p && is_eq (nat_cmp (unsigned_abs p.part) n)) (is_part upload (pos n)) t.parts
      (all_weaker _ (λ p. (is_sent_to upload p && is_eq (nat_cmp (unsigned_abs p.part) n)) ≡ is_part upload (pos n) p)
      (λ p fits. ap (λ b. is_sent_to upload p && b) (count_is p.part n (part_counts p.part (and_parts _ _ fits).0))) t.parts fit))

  parts_rise : (upload : ℤ) → rises (map (λ e. e.0) (parts_of e t.parts upload)) ≡ true
  unfolding parts_of
  parts_rise upload =
      let m = collected nat_cmp (λ p. unsigned_abs p.part) (part_of e) (filter (is_sent_to upload) t.parts) in
      sym (sorted_rises (entries m)) ∙ is_true (is_sorted nat_cmp (entries m)) (entries_sorted m)

  -- ---- the upload at a place

  module _ (tells : RowsTellUpload) (bucket key : List ℕ) (id : ℕ) where
    pub none_told : None ≡ upload_of_id bucket key (pos id) t → None ≡ upload_at (catalogue_of e t) bucket key id
    none_told none = ap (option_map (upload_of e t.parts)) none ∙ sym (tells e t bucket key id sound)

    pub found_at : (u : UploadColumns) → upload_of_id bucket key (pos id) t ≡ Some u → upload_at (catalogue_of e t) bucket key id ≡ Some (upload_of e t.parts u)
    found_at u found = tells e t bucket key id sound ∙ ap (option_map (upload_of e t.parts)) found

    -- its part of a number
    pub part_told : (u : UploadColumns) (n : ℕ) → upload_of_id bucket key (pos id) t ≡ Some u → option_map (part_of e) (part_of_number u.row (pos n) t) ≡ part_at n (parts_at (catalogue_of e t) bucket key id)
    part_told u n found = sym (ap (λ o. part_at n (uploads.parts_sent o)) (found_at u found) ∙ part_of_upload u.row n)

    -- what its rows tell
    module _ (tells_parts : RowsTellParts) (u : UploadRows) (are : AreRowsOf t u) (found : upload_of_id bucket key (pos id) t ≡ Some (upload_columns u.upload)) where
      sent_as : map (λ (p : StoredPart). numbered_part e (part_columns p)) u.parts.items ≡ parts_of e t.parts u.upload.row
      sent_as =
          map_twice part_columns (numbered_part e) u.parts.items ∙ ap (map (numbered_part e)) are.parts
          ∙ sym (tells_parts e t bucket key id (upload_columns u.upload) sound found) ∙ ap uploads.parts_sent (found_at (upload_columns u.upload) found)

      pub numbers_rise : rises (map (λ (p : StoredPart). unsigned_abs p.part) u.parts.items) ≡ true
      numbers_rise =
          ap rises (map_twice (λ (p : StoredPart). numbered_part e (part_columns p)) (λ n. n.0) u.parts.items ∙ ap (map (λ n. n.0)) sent_as)
          ∙ parts_rise u.upload.row

      pub some_told : (upload : Upload (List ℕ)) → upload ≡ record (upload_begun e (upload_columns u.upload)) { parts = map (λ (p : StoredPart). numbered_part e (part_columns p)) u.parts.items }
          → Some upload ≡ upload_at (catalogue_of e t) bucket key id
      some_told upload is =
          ap Some (is ∙ ap (λ (ps : List (ℕ × Part (List ℕ))). record (upload_begun e (upload_columns u.upload)) { parts = ps }) sent_as) ∙ sym (found_at (upload_columns u.upload) found)

-- ---- the numbers that go

pub numbers_sent : (t : Tables) (o : Option UploadRows) (found : Option UploadColumns) → option_map (λ (u : UploadRows). upload_columns u.upload) o ≡ found
    → IfSome o (AreRowsOf t)
    → numbers_of (λ (u : UploadRows). flat_map part_numbers (map part_columns u.parts.items)) o ≡ sent_numbers t found
numbers_sent t None found is rows = ap (sent_numbers t) is
numbers_sent t (Some u) found is rows = ap (flat_map part_numbers) rows.parts ∙ ap (sent_numbers t) is

-- what rows no more name was counted
pub gone_counted : (old new : Tables) (uses : ℕ → ℕ) (less numbers : List ℕ) → AreNamed uses old → Trades old new less [] → numbers ≡ less → (n : ℕ) → times n numbers ≤ uses n
gone_counted old new uses less numbers named trades is n = omega (arith, less_counted old new uses less [] named trades n, ap (times n) is)
