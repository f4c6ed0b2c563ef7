-- The laws of what lists tell.
use Rattle.std.proofs.Common.{◌≡◌, refl, sym, ap, ap₂, subst, ◌∙◌, true, false, ◌&&◌, nat_lt, ℕ, ℤ, pos, negsuc, List, [], ◌∷◌, map, filter, find, flat_map, Option, Some, None, is_some, option_map, int_eq, int_lt, int_cmp, is_eq, unsigned_abs}
use Rattle.std.proofs.lemmas.Bool.{false≢true, and_parts}
use Rattle.std.proofs.lemmas.List.Elements.{recursion_from_All}
use Rattle.std.specs.Cmp.{IsTotalOrder, nat_cmp_total, int_cmp_total, on_total, then_total}
use Rattle.std.specs.Cmp.Lexicographic.{nat_list_cmp_total}
use Rattle.std.specs.FinMap.{entries}
use Rattle.std.specs.List.{AllByRecursion}
use Rattle.std.specs.Ordering.{nat_cmp}
use Rattle.sqlite_keyed.specs.Lists.{sort_by}
use Rattle.sqlite_keyed.proofs.ListLemmas.{all_weaker, map-map, map-flat_map, flat_map-map, flat_map_same_on, filter-map, ascending-filter}
use Rattle.sqlite_keyed.proofs.SliceLemmas.{any_is_found}
use Rattle.s3_text.specs.Order.{byte_order}
use Rattle.s3_uploads.specs.Parts.{part_row, rows_behind}
use Rattle.s3_uploads.specs.declared.part.PartRow.{PartRow}
use Rattle.s3_records.specs.OpenUploads.{upload_row, upload_rows_of, upload_rows_in, is_upload_from}
use Rattle.s3_rows.specs.Columns.{BucketColumns, UploadColumns, PartColumns, Tables}
use Rattle.s3_rows.specs.Encoding.{Encoding}
use Rattle.s3_rows.specs.Finding.{same_text, is_named, is_upload_in, is_upload_key, is_upload_to, is_sent_to, by_part}
use Rattle.s3_rows.specs.ListLaws.{part_told, upload_listed, is_part_above, by_id, by_key_and_id, RowsListParts, RowsListUploads}
use Rattle.s3_rows.specs.Meaning.{upload_of, uploads_to, uploads_in, bucket_of}
use Rattle.s3_rows.specs.ReadingLaws.{numbered_part}
use Rattle.s3_rows.specs.Soundness.{same_upload, is_count, is_upload_row, is_part_row, AreSound}
use Rattle.s3_rows.proofs.BucketLemmas.{none_kept, no_rows_in}
use Rattle.s3_rows.proofs.EditLemmas.{find_passes, filter_agreeing, filter_both}
use Rattle.s3_rows.proofs.GroupedLemmas.{keys_of, group, sort_by-groups, entries-groups}
use Rattle.s3_rows.proofs.MeaningLemmas.{texts_differ, same_text-true, get-catalogue}
use Rattle.s3_rows.proofs.ReadingLemmas.{entries-collected, sort_agreeing, ascending_among, cmp_pos, rows_tell_parts}
use Rattle.s3_rows.proofs.SortedLemmas.{all_passing, all-sort_by, sort_by-filter}
use Rattle.s3_rows.proofs.UploadLemmas.{count_pos_abs, part_counts}

by_part_total : IsTotalOrder by_part
by_part_total = on_total (λ (p : PartColumns). p.part) int_cmp_total

by_id_total : IsTotalOrder by_id
by_id_total = on_total (λ (u : UploadColumns). u.id) int_cmp_total

by_key_and_id_total : IsTotalOrder by_key_and_id
by_key_and_id_total = then_total (on_total (λ (u : UploadColumns). u.key) nat_list_cmp_total) by_id_total

-- a number above another, in either of its forms
above_is : (z : ℤ) (n : ℕ) → is_count z ≡ true → nat_lt n (unsigned_abs z) ≡ int_lt (pos n) z
above_is (pos m) n count = refl
above_is (negsuc m) n count = absurd (false≢true count)

pub rows_list_parts : RowsListParts
rows_list_parts e t bucket key id last u s found =
    ap (rows_behind last) (rows_tell_parts e t bucket key id u s found)
    ∙ ap (filter (λ (row : PartRow). nat_lt last row.number)) (map-map part_row (numbered_part e) (sort_by by_part (filter (is_sent_to u.row) t.parts)))
    ∙ filter-map (λ (row : PartRow). nat_lt last row.number) (part_told e) (sort_by by_part (filter (is_sent_to u.row) t.parts))
    ∙ ap (map (part_told e))
    (filter_agreeing (λ p. nat_lt last (unsigned_abs p.part)) (is_part_above last) (sort_by by_part (filter (is_sent_to u.row) t.parts))
    (all-sort_by by_part by_part_total (λ p. nat_lt last (unsigned_abs p.part) ≡ is_part_above last p) (filter (is_sent_to u.row) t.parts)
    (all_passing (λ p. nat_lt last (unsigned_abs p.part) ≡ is_part_above last p) (is_sent_to u.row) t.parts
    (all_weaker (λ p. is_part_row p ≡ true) (λ p. is_sent_to u.row p ≡ true → nat_lt last (unsigned_abs p.part) ≡ is_part_above last p)
    (λ p fits sent. above_is p.part last (part_counts p.part (and_parts _ _ fits).0)) t.parts (recursion_from_All _ t.parts s.parts.fit))))
    ∙ sym (sort_by-filter by_part by_part_total (is_part_above last) (filter (is_sent_to u.row) t.parts))
    ∙ ap (sort_by by_part) (sym (filter_both (is_sent_to u.row) (is_part_above last) t.parts)))

-- an upload to a key, with an id
abbrev IsUploadTo : List ℕ → List ℕ → UploadColumns → Type 0
IsUploadTo bucket key u = (is_upload_to bucket key u ≡ true) × (is_count u.id ≡ true)

ids_cmp : (bucket key : List ℕ) (a b : UploadColumns) → IsUploadTo bucket key a → IsUploadTo bucket key b → nat_cmp (unsigned_abs a.id) (unsigned_abs b.id) ≡ by_id a b
ids_cmp bucket key a b one two = cmp_pos (unsigned_abs a.id) (unsigned_abs b.id) ∙ ap₂ int_cmp (sym (count_pos_abs a.id one.1)) (sym (count_pos_abs b.id two.1))

ids_apart : (bucket key : List ℕ) (a b : UploadColumns) → IsUploadTo bucket key a → IsUploadTo bucket key b → same_upload a b ≡ false → is_eq (nat_cmp (unsigned_abs a.id) (unsigned_abs b.id)) ≡ false
ids_apart bucket key a b one two apart =
    let places = and_parts (same_text b.bucket bucket) _ two.0 in
    let to : is_upload_to b.bucket b.key a ≡ true =
    subst (λ k. is_upload_to b.bucket k a ≡ true) (sym (same_text-true b.key key places.1)) (subst (λ n. is_upload_to n key a ≡ true) (sym (same_text-true b.bucket bucket places.0)) one.0) in
    ap is_eq (ids_cmp bucket key a b one two) ∙ ap (λ c. c && int_eq a.id b.id) (sym to) ∙ apart

map_agreeing : {X Y : Type 0} (P : X → Type 0) (f g : X → Y) → ((x : X) → P x → f x ≡ g x) → (xs : List X) → AllByRecursion P xs → map f xs ≡ map g xs
map_agreeing P f g same [] all = refl
map_agreeing P f g same (x ∷ xs) all = ap₂ ◌∷◌ (same x all.0) (map_agreeing P f g same xs all.1)

module _ (e : Encoding) (t : Tables) (s : AreSound t) where
  abbrev of_bucket : List ℕ → List UploadColumns
  of_bucket bucket = filter (is_upload_in bucket) t.uploads

  all_to : (bucket key : List ℕ) → AllByRecursion (IsUploadTo bucket key) (filter (is_upload_to bucket key) t.uploads)
  all_to bucket key =
      all_passing (IsUploadTo bucket key) (is_upload_to bucket key) t.uploads
      (all_weaker (λ u. is_upload_row u ≡ true) (λ u. is_upload_to bucket key u ≡ true → IsUploadTo bucket key u) (λ u fits to. (to, (and_parts (is_count u.id) _ fits).0)) t.uploads (recursion_from_All _ t.uploads s.uploads.fit))

  -- the uploads to one key
  to_key : (bucket key : List ℕ) → upload_rows_of (key, uploads_to e t.uploads t.parts bucket key) ≡ map upload_listed (sort_by by_id (filter (is_upload_key key) (of_bucket bucket)))
  unfolding uploads_to
  to_key bucket key =
      let its = filter (is_upload_to bucket key) t.uploads in
      let sorted = sort_agreeing (IsUploadTo bucket key) (λ a b. nat_cmp (unsigned_abs a.id) (unsigned_abs b.id)) by_id (ids_cmp bucket key) its (all_to bucket key) in
      ap (map (upload_row key)) (entries-collected nat_cmp nat_cmp_total (λ u. unsigned_abs u.id) (upload_of e t.parts) its
      (ascending_among (IsUploadTo bucket key) (λ a b. same_upload a b ≡ false) (λ a b. is_eq (nat_cmp (unsigned_abs a.id) (unsigned_abs b.id)) ≡ false) (ids_apart bucket key) its (all_to bucket key)
      (ascending-filter (λ a b. same_upload a b ≡ false) (is_upload_to bucket key) t.uploads s.uploads.ids)))
      ∙ map-map (upload_row key) (λ u. (unsigned_abs u.id, upload_of e t.parts u)) (sort_by (λ a b. nat_cmp (unsigned_abs a.id) (unsigned_abs b.id)) its)
      ∙ ap (map (λ u. upload_row key (unsigned_abs u.id, upload_of e t.parts u))) sorted.0
      ∙ map_agreeing (IsUploadTo bucket key) (λ u. upload_row key (unsigned_abs u.id, upload_of e t.parts u)) upload_listed
      (λ u to i. record { key = sym (same_text-true u.key key (and_parts (same_text u.bucket bucket) _ to.0).1) i; id = unsigned_abs u.id; moment = unsigned_abs u.moment }) (sort_by by_id its) sorted.1
      ∙ ap (λ l. map upload_listed (sort_by by_id l)) (filter_both (is_upload_in bucket) (is_upload_key key) t.uploads)

  -- and to all keys
  of_keys : (bucket : List ℕ) → flat_map upload_rows_of (entries (uploads_in e t.uploads t.parts bucket)) ≡ map upload_listed (sort_by by_key_and_id (of_bucket bucket))
  unfolding uploads_in
  of_keys bucket =
      let ks = keys_of byte_order nat_list_cmp_total texts_differ (λ (u : UploadColumns). u.key) by_id by_id_total (of_bucket bucket) in
      let its = group byte_order nat_list_cmp_total texts_differ (λ (u : UploadColumns). u.key) by_id by_id_total (of_bucket bucket) in
      ap (flat_map upload_rows_of) (entries-groups byte_order nat_list_cmp_total texts_differ (λ (u : UploadColumns). u.key) by_id by_id_total (λ k. uploads_to e t.uploads t.parts bucket k) (of_bucket bucket))
      ∙ flat_map-map upload_rows_of (λ k. (k, uploads_to e t.uploads t.parts bucket k)) ks
      ∙ flat_map_same_on (λ k. upload_rows_of (k, uploads_to e t.uploads t.parts bucket k)) (λ k. map upload_listed (its k)) (to_key bucket) ks
      ∙ sym (map-flat_map upload_listed its ks)
      ∙ ap (map upload_listed) (sym (sort_by-groups byte_order nat_list_cmp_total texts_differ (λ (u : UploadColumns). u.key) by_id by_id_total (of_bucket bucket)))

  rows_of_bucket : (bucket : List ℕ) (o : Option BucketColumns) → find (is_named bucket) t.buckets ≡ o → upload_rows_in (option_map (bucket_of e t) o) ≡ map upload_listed (sort_by by_key_and_id (of_bucket bucket))
  rows_of_bucket bucket None none =
      ap (λ l. map upload_listed (sort_by by_key_and_id l))
      (sym (none_kept (is_upload_in bucket) t.uploads (no_rows_in (λ u. u.bucket) t.buckets t.uploads bucket s.upload_buckets (any_is_found (is_named bucket) t.buckets ∙ ap is_some none))))
  rows_of_bucket bucket (Some b) found =
      of_keys b.name ∙ ap (λ n. map upload_listed (sort_by by_key_and_id (of_bucket n))) (same_text-true b.name bucket (find_passes (is_named bucket) t.buckets b found))

pub rows_list_uploads : RowsListUploads
rows_list_uploads e t bucket start s =
    ap (filter (is_upload_from start)) (ap upload_rows_in (get-catalogue e t bucket) ∙ rows_of_bucket e t s bucket (find (is_named bucket) t.buckets) refl)
    ∙ filter-map (is_upload_from start) upload_listed (sort_by by_key_and_id (filter (is_upload_in bucket) t.uploads))
    ∙ ap (map upload_listed)
    (sym (sort_by-filter by_key_and_id by_key_and_id_total (λ u. is_upload_from start (upload_listed u)) (filter (is_upload_in bucket) t.uploads))
    ∙ ap (sort_by by_key_and_id) (sym (filter_both (is_upload_in bucket) (λ u. is_upload_from start (upload_listed u)) t.uploads)))
