-- What lists of changes make of tables.
use Rattle.std.proofs.Common.{◌≡◌, refl, sym, ap, ◌∙◌, ℕ, ℤ, Bool, true, false, not, ◌||◌, List, [], ◌∷◌, ◌++◌, map, filter, fold, Option, Some, None, option_map}
use Rattle.std.proofs.lemmas.List.Sums.{fold-append}
use Rattle.std.specs.Option.{IfSome, option_to_list}
use Rattle.sqlite_keyed.specs.Lists.{delete_where, without_key, sort_by}
use Rattle.sqlite_keyed.proofs.ListLemmas.{all_of, filter_all, filter_none}
use Rattle.sqlite_keyed.proofs.SortLemmas.{IsPermutation-sort_by}
use Rattle.s3_rows.specs.Columns.{UploadColumns, PartColumns, Tables}
use Rattle.s3_rows.specs.Finding.{is_named, is_version, is_upload, is_sent_to, is_part, by_part}
use Rattle.s3_rows.specs.Soundness.{bucket_row, version_row, upload_row, part_row, same_name, same_version, same_upload, same_part, AreSound}
use Rattle.s3_rows.specs.TableChanges.{bucket_dropped, bucket_replaced, version_put, version_dropped, is_sent_to_any, upload_dropped, upload_put, part_put}
use Rattle.s3_rows.proofs.EditLemmas.{find_passes, filter_alike}
use Rattle.s3_stored_rows.specs.declared.change.Change.{Change}
use Rattle.s3_stored_rows.specs.declared.change.Change.TheVariants.{AddBucket, AddVersion, AddUpload, AddPart, DropRow}
use Rattle.s3_stored_rows.specs.declared.rows.StoredBucket.{StoredBucket}
use Rattle.s3_stored_rows.specs.declared.rows.StoredPart.{StoredPart}
use Rattle.s3_stored_rows.specs.declared.rows.StoredUpload.{StoredUpload}
use Rattle.s3_stored_rows.specs.declared.rows.StoredVersion.{StoredVersion}
use Rattle.s3_stored_rows.specs.declared.rows.TableName.TheVariants.{Buckets, Versions, Uploads, Parts}
use Rattle.s3_stored_rows.specs.Changes.{bucket_columns, version_columns, upload_columns, part_columns, with_bucket, with_version, with_upload, with_part, changed_by, after_all}
use Rattle.s3_stored_rows.specs.Queries.{bucket_named, version_of_id, upload_of_id, part_of_number}
use Rattle.s3_row_changes.specs.declared.uploads.UploadRows.{UploadRows}
use Rattle.s3_row_changes.specs.Dropping.{drops_row, drops_parts, drops_upload, drops_any_upload}
use Rattle.s3_row_changes.specs.Uploads.{AreRowsOf}
use Rattle.s3_row_changes.proofs.PartLemmas.{by_part_total}
use Rattle.s3_row_changes.proofs.PlaceLemmas.{upload_place, buckets_alike, versions_alike, uploads_alike, parts_alike}
use Rattle.s3_row_changes.proofs.RowLemmas.{none_passes, none_dropped, taken_by_rows, one_passes, taken_by_row}

pub after_both : (first second : List Change) (t : Tables) → after_all (first ++ second) t ≡ after_all second (after_all first t)
after_both first second t = fold-append (λ now change. changed_by change now) t first second

-- ---- rows that are taken out by their rowids

after_drops_version : (t : Tables) (gone : Option ℤ) → after_all (drops_row Versions gone) t ≡ record t { versions = fold (without_key version_row) t.versions (option_to_list gone) }
after_drops_version t None = refl
after_drops_version t (Some row) = refl

after_drops_part : (t : Tables) (gone : Option ℤ) → after_all (drops_row Parts gone) t ≡ record t { parts = fold (without_key part_row) t.parts (option_to_list gone) }
after_drops_part t None = refl
after_drops_part t (Some row) = refl

after_drops_parts : (t : Tables) (ps : List StoredPart) → after_all (drops_parts ps) t ≡ record t { parts = fold (without_key part_row) t.parts (map part_row (map part_columns ps)) }
after_drops_parts t [] = refl
after_drops_parts t (p ∷ ps) = after_drops_parts (record t { parts = without_key part_row t.parts p.row }) ps

-- ---- what they make of sound tables

-- where no upload is found no part goes
none_sent : (ps : List PartColumns) → delete_where (is_sent_to_any []) ps ≡ ps
none_sent ps = filter_all (λ p. not (is_sent_to_any [] p)) ps (all_of (λ p. not (is_sent_to_any [] p) ≡ true) (λ p. refl) ps)

module _ (t : Tables) (s : AreSound t) where
  pub drops_bucket : (name : List ℕ) (gone : ℤ) → option_map bucket_row (bucket_named name t) ≡ Some gone → after_all (DropRow Buckets gone ∷ []) t ≡ bucket_dropped name t
  drops_bucket name gone its =
      ap (λ bs. record t { buckets = bs }) (taken_by_row same_name (is_named name) (buckets_alike name) bucket_row t.buckets (Some gone) s.buckets.rise s.buckets.names its)

  version_rows_left : (bucket key : List ℕ) (id : ℤ) (gone : Option ℤ) → option_map version_row (version_of_id bucket key id t) ≡ gone
      → fold (without_key version_row) t.versions (option_to_list gone) ≡ delete_where (is_version bucket key id) t.versions
  version_rows_left bucket key id gone = taken_by_row same_version (is_version bucket key id) (versions_alike bucket key id) version_row t.versions gone s.versions.rise s.versions.ids

  pub drops_version_of : (bucket key : List ℕ) (id : ℤ) (gone : Option ℤ) → option_map version_row (version_of_id bucket key id t) ≡ gone → after_all (drops_row Versions gone) t ≡ version_dropped bucket key id t
  drops_version_of bucket key id gone its =
      after_drops_version t gone
      ∙ ap (λ vs. record t { versions = vs }) (version_rows_left bucket key id gone its)

  pub drops_part_of : (upload part : ℤ) (gone : Option ℤ) → option_map part_row (part_of_number upload part t) ≡ gone → after_all (drops_row Parts gone) t ≡ record t { parts = delete_where (is_part upload part) t.parts }
  drops_part_of upload part gone its =
      after_drops_part t gone
      ∙ ap (λ ps. record t { parts = ps }) (taken_by_row same_part (is_part upload part) (parts_alike upload part) part_row t.parts gone s.parts.rise s.parts.numbers its)

  -- the parts of the one upload that is found, and of all that are
  sent_to_one : (u : UploadColumns) (us : List UploadColumns) → us ≡ u ∷ [] → delete_where (is_sent_to u.row) t.parts ≡ delete_where (is_sent_to_any us) t.parts
  sent_to_one u us one = filter_alike (λ p. not (is_sent_to u.row p)) (λ p. not (is_sent_to_any (u ∷ []) p)) (λ p. ap not (go (is_sent_to u.row p))) t.parts ∙ ap (λ l. delete_where (is_sent_to_any l) t.parts) (sym one)
    where
      go : (b : Bool) → b ≡ (b || false)
      go true = refl
      go false = refl

  pub drops_upload_of : (u : UploadRows) → AreRowsOf t u → after_all (drops_upload u) t ≡ upload_dropped u.upload.bucket.items u.upload.key.items u.upload.id t
  drops_upload_of u its =
      let columns = upload_columns u.upload in
      let test = is_upload columns.bucket columns.key columns.id in
      let alike = uploads_alike columns.bucket columns.key columns.id in
      let one : filter test t.uploads ≡ columns ∷ [] = one_passes same_upload test alike t.uploads s.uploads.ids ∙ ap option_to_list its.found in
      let parts : fold (without_key part_row) t.parts (map part_row (map part_columns u.parts.items)) ≡ delete_where (is_sent_to_any (filter test t.uploads)) t.parts =
      ap (λ l. fold (without_key part_row) t.parts (map part_row l)) its.parts
      ∙ taken_by_rows part_row (is_sent_to columns.row) t.parts (sort_by by_part (filter (is_sent_to columns.row) t.parts)) s.parts.rise (IsPermutation-sort_by by_part by_part_total (filter (is_sent_to columns.row) t.parts))
      ∙ sent_to_one columns (filter test t.uploads) one in
      let uploads : without_key upload_row t.uploads columns.row ≡ delete_where test t.uploads =
      taken_by_row same_upload test alike upload_row t.uploads (Some columns.row) s.uploads.rise s.uploads.ids (ap (option_map upload_row) its.found) in
      after_both (drops_parts u.parts.items) (DropRow Uploads u.upload.row ∷ []) t
      ∙ ap (after_all (DropRow Uploads u.upload.row ∷ [])) (after_drops_parts t u.parts.items)
      ∙ λ i. record t { uploads = uploads i; parts = parts i }

  -- ---- what each writing call makes

  pub puts_bucket : (bucket : StoredBucket) (gone : ℤ) → option_map bucket_row (bucket_named bucket.name.items t) ≡ Some gone → after_all (DropRow Buckets gone ∷ AddBucket bucket ∷ []) t ≡ bucket_replaced (bucket_columns bucket) t
  puts_bucket bucket gone its = ap (with_bucket (bucket_columns bucket)) (drops_bucket bucket.name.items gone its)

  pub puts_version : (version : StoredVersion) (gone : Option ℤ) → option_map version_row (version_of_id version.bucket.items version.key.items version.id t) ≡ gone
      → after_all (drops_row Versions gone ++ AddVersion version ∷ []) t ≡ version_put (version_columns version) t
  puts_version version gone its =
      after_both (drops_row Versions gone) (AddVersion version ∷ []) t
      ∙ ap (with_version (version_columns version)) (drops_version_of version.bucket.items version.key.items version.id gone its)

  pub puts_part : (part : StoredPart) (gone : Option ℤ) → option_map part_row (part_of_number part.upload part.part t) ≡ gone → after_all (drops_row Parts gone ++ AddPart part ∷ []) t ≡ part_put (part_columns part) t
  puts_part part gone its = after_both (drops_row Parts gone) (AddPart part ∷ []) t ∙ ap (with_part (part_columns part)) (drops_part_of part.upload part.part gone its)

  drops_any : (o : Option UploadRows) (bucket key : List ℕ) (id : ℤ) → option_map (λ (u : UploadRows). upload_columns u.upload) o ≡ upload_of_id bucket key id t → IfSome o (AreRowsOf t)
      → after_all (drops_any_upload o) t ≡ upload_dropped bucket key id t
  drops_any None bucket key id found its =
      let none : filter (is_upload bucket key id) t.uploads ≡ [] = filter_none (is_upload bucket key id) t.uploads (none_passes (is_upload bucket key id) t.uploads (sym found)) in
      λ i. record t { uploads = sym (none_dropped (is_upload bucket key id) t.uploads (sym found)) i; parts = (sym (none_sent t.parts) ∙ ap (λ us. delete_where (is_sent_to_any us) t.parts) (sym none)) i }
  drops_any (Some u) bucket key id found its =
      let place = upload_place bucket key id (upload_columns u.upload) (find_passes (is_upload bucket key id) t.uploads (upload_columns u.upload) (sym found)) in
      drops_upload_of u its ∙ λ i. upload_dropped (place.0 i) (place.1 i) (place.2 i) t

  pub puts_upload : (upload : StoredUpload) (o : Option UploadRows) → option_map (λ (u : UploadRows). upload_columns u.upload) o ≡ upload_of_id upload.bucket.items upload.key.items upload.id t → IfSome o (AreRowsOf t)
      → after_all (drops_any_upload o ++ AddUpload upload ∷ []) t ≡ upload_put (upload_columns upload) t
  puts_upload upload o found its =
      after_both (drops_any_upload o) (AddUpload upload ∷ []) t ∙ ap (with_upload (upload_columns upload)) (drops_any o upload.bucket.items upload.key.items upload.id found its)

-- the rows of versions and those of uploads and parts change beside each other
pub completes : (t : Tables) (s : AreSound t) (version : StoredVersion) (gone : Option ℤ) (u : UploadRows) → option_map version_row (version_of_id version.bucket.items version.key.items version.id t) ≡ gone → AreRowsOf t u
    → after_all ((drops_upload u ++ drops_row Versions gone) ++ AddVersion version ∷ []) t ≡ upload_dropped u.upload.bucket.items u.upload.key.items u.upload.id (version_put (version_columns version) t)
completes t s version gone u found its =
    let left = upload_dropped u.upload.bucket.items u.upload.key.items u.upload.id t in
    after_both (drops_upload u ++ drops_row Versions gone) (AddVersion version ∷ []) t
    ∙ ap (with_version (version_columns version))
    (after_both (drops_upload u) (drops_row Versions gone) t
    ∙ ap (after_all (drops_row Versions gone)) (drops_upload_of t s u its)
    ∙ after_drops_version left gone
    ∙ ap (λ vs. record left { versions = vs }) (version_rows_left t s version.bucket.items version.key.items version.id gone found))
