-- The laws of rows of uploads and of parts.
use Rattle.std.proofs.Common.{◌≡◌, sym, ap, ap₂, subst, ◌∙◌, true, false, not, ◌&&◌, ℕ, ℤ, pos, List, filter, find, Some, None, option_map, int_eq, unsigned_abs}
use Rattle.std.proofs.lemmas.Bool.{false≢true, false_from_ne_true}
use Rattle.std.proofs.lemmas.List.Elements.{recursion_from_All, All-from_recursion}
use Rattle.std.specs.List.{AllByRecursion}
use Rattle.sqlite_keyed.specs.Keyed.{has_key}
use Rattle.sqlite_keyed.specs.Lists.{delete_where}
use Rattle.sqlite_keyed.proofs.KeyedLemmas.{same_int, IsKeyedBy-delete_where, has_key-delete_where}
use Rattle.sqlite_keyed.proofs.ListLemmas.{all_weaker, all-filter, all_kept, any_from_none, none_from_any}
use Rattle.sqlite_keyed.proofs.RuleLemmas.{pass_delete, apart_delete}
use Rattle.s3_versions.specs.Rules.{VersionPut}
use Rattle.s3_records.specs.Changes.{UploadDropped, changed}
use Rattle.s3_records.specs.Laws.{CompletionsDoBoth}
use Rattle.s3_rows.specs.Columns.{UploadColumns, PartColumns, Tables}
use Rattle.s3_rows.specs.Encoding.{Encoding}
use Rattle.s3_rows.specs.Finding.{is_upload, is_sent_to}
use Rattle.s3_rows.specs.Meaning.{upload_of, catalogue_of}
use Rattle.s3_rows.specs.Soundness.{upload_row, part_row, same_upload, same_part, is_upload_row, is_part_row, has_bucket_row, AreSound}
use Rattle.s3_rows.specs.TableChanges.{version_put, is_sent_to_any, upload_dropped}
use Rattle.s3_rows.specs.UploadLaws.{RowsDropUploads, RowsCompleteUploads}
use Rattle.s3_rows.specs.VersionLaws.{Makes}
use Rattle.s3_rows.proofs.EditLemmas.{same_key, find_passes, find_elsewhere, find_gone, filter_elsewhere, found_as}
use Rattle.s3_rows.proofs.SortedLemmas.{all_passing}
use Rattle.s3_rows.proofs.UploadLemmas.{one_upload_place, one_row, upload_told, upload_changed, parts_same}
use Rattle.s3_rows.proofs.VersionLawLemmas.{int_eq-symm, both_symm, rows_put_versions}

pub same_upload-symm : (a b : UploadColumns) → same_upload a b ≡ same_upload b a
same_upload-symm a b = ap₂ ◌&&◌ (both_symm a.bucket b.bucket a.key b.key) (int_eq-symm a.id b.id)

pub same_part-symm : (a b : PartColumns) → same_part a b ≡ same_part b a
same_part-symm a b = ap₂ ◌&&◌ (int_eq-symm a.upload b.upload) (int_eq-symm a.part b.part)

module _ (e : Encoding) (t : Tables) (s : AreSound t) where
  abbrev pub gone : List ℕ → List ℕ → ℤ → List UploadColumns
  gone bucket key id = filter (is_upload bucket key id) t.uploads

  pub fit_uploads : AllByRecursion (λ u. is_upload_row u ≡ true) t.uploads
  fit_uploads = recursion_from_All _ t.uploads s.uploads.fit

  -- the rows that stay when an upload goes
  pub sound-upload_dropped : (bucket key : List ℕ) (id : ℤ) → AreSound (upload_dropped bucket key id t)
  sound-upload_dropped bucket key id = record {
    buckets = s.buckets;
    versions = s.versions;
    uploads = record {
      rise = IsKeyedBy-delete_where upload_row (is_upload bucket key id) t.uploads s.uploads.rise;
      ids = apart_delete same_upload (is_upload bucket key id) t.uploads s.uploads.ids;
      fit = pass_delete is_upload_row (is_upload bucket key id) t.uploads s.uploads.fit;
    };
    parts = record {
      rise = IsKeyedBy-delete_where part_row (is_sent_to_any (gone bucket key id)) t.parts s.parts.rise;
      numbers = apart_delete same_part (is_sent_to_any (gone bucket key id)) t.parts s.parts.numbers;
      fit = pass_delete is_part_row (is_sent_to_any (gone bucket key id)) t.parts s.parts.fit;
    };
    version_buckets = s.version_buckets;
    upload_buckets = pass_delete (λ u. has_bucket_row t.buckets u.bucket) (is_upload bucket key id) t.uploads s.upload_buckets;
    part_uploads = All-from_recursion _ _ (all_passing (λ p. has_key upload_row (delete_where (is_upload bucket key id) t.uploads) p.upload ≡ true) (λ p. not (is_sent_to_any (gone bucket key id) p)) t.parts
        (all_weaker _ (λ p. not (is_sent_to_any (gone bucket key id) p) ≡ true → has_key upload_row (delete_where (is_upload bucket key id) t.uploads) p.upload ≡ true)
        (λ p has stays. has_key-delete_where upload_row (is_upload bucket key id) t.uploads p.upload (not_its p stays) ∙ has) t.parts (recursion_from_All _ t.parts s.part_uploads)));
  }
    where
      not_its : (p : PartColumns) → not (is_sent_to_any (gone bucket key id) p) ≡ true → AllByRecursion (λ u. is_upload bucket key id u ≡ true → int_eq u.row p.upload ≡ false) t.uploads
      not_its p stays =
          all_kept (λ u. int_eq u.row p.upload ≡ false) (is_upload bucket key id) t.uploads
          (all_weaker _ (λ u. int_eq u.row p.upload ≡ false) (λ u h. int_eq-symm u.row p.upload ∙ h) (gone bucket key id)
          (none_from_any (λ u. is_sent_to u.row p) (gone bucket key id) (false_from_ne_true _ (λ any. false≢true (sym (ap not any) ∙ stays)))))

  -- an upload elsewhere keeps its parts
  others_parts : (bucket key : List ℕ) (id : ℕ) (b k : List ℕ) (i : ℕ) (w : UploadColumns) → ¬ ((b ≡ bucket) × (k ≡ key) × (i ≡ id)) → find (is_upload b k (pos i)) t.uploads ≡ Some w
      → filter (is_sent_to w.row) (delete_where (is_sent_to_any (gone bucket key (pos id))) t.parts) ≡ filter (is_sent_to w.row) t.parts
  others_parts bucket key id b k i w apart found =
      filter_elsewhere (is_sent_to w.row) (is_sent_to_any (gone bucket key (pos id))) (λ p sent.
      any_from_none (λ u. is_sent_to u.row p) (gone bucket key (pos id))
      (all_passing (λ u. is_sent_to u.row p ≡ false) (is_upload bucket key (pos id)) t.uploads
      (all_weaker _ (λ u. is_upload bucket key (pos id) u ≡ true → is_sent_to u.row p ≡ false) (λ u one is. false_from_ne_true (is_sent_to u.row p) (λ tied.
      let rows : u.row ≡ w.row = sym (same_int p.upload u.row tied) ∙ same_int p.upload w.row sent in
      let same : u ≡ w = one (same_key u.row w.row rows) in
      false≢true (sym (one_upload_place w bucket key id b k i apart (find_passes (is_upload b k (pos i)) t.uploads w found)) ∙ subst (λ x. is_upload bucket key (pos id) x ≡ true) same is)))
      t.uploads (one_row upload_row (is_upload b k (pos i)) t.uploads w s.uploads.rise found)))) t.parts

  pub told_elsewhere : (bucket key : List ℕ) (id : ℕ) (b k : List ℕ) (i : ℕ) → ¬ ((b ≡ bucket) × (k ≡ key) × (i ≡ id))
      → option_map (upload_of e (delete_where (is_sent_to_any (gone bucket key (pos id))) t.parts)) (find (is_upload b k (pos i)) t.uploads) ≡ upload_told e t.uploads t.parts b k i
  told_elsewhere bucket key id b k i apart =
      found_as (upload_of e (delete_where (is_sent_to_any (gone bucket key (pos id))) t.parts)) (upload_of e t.parts) (is_upload b k (pos i)) t.uploads
      (λ w found j. record {
        moment = unsigned_abs w.moment;
        content_type = e.content_type_in w.kept;
        metadata = e.metadata_in w.kept;
        parts = parts_same e t.parts (delete_where (is_sent_to_any (gone bucket key (pos id))) t.parts) w.row (others_parts bucket key id b k i w apart found) j;
      })

  pub drop_upload : (bucket key : List ℕ) (id : ℕ) → Makes e t (upload_dropped bucket key (pos id) t) bucket (UploadDropped key id)
  drop_upload bucket key id = record {
    sound = sound-upload_dropped bucket key (pos id);
    means = upload_changed e t (delete_where (is_upload bucket key (pos id)) t.uploads) (delete_where (is_sent_to_any (gone bucket key (pos id))) t.parts) bucket key id (λ old. None) fit_uploads
        (all-filter _ (λ u. not (is_upload bucket key (pos id) u)) t.uploads fit_uploads)
        (ap (option_map (upload_of e (delete_where (is_sent_to_any (gone bucket key (pos id))) t.parts))) (find_gone (is_upload bucket key (pos id)) (is_upload bucket key (pos id)) (λ u is. is) t.uploads))
        (λ b k i apart. ap (option_map (upload_of e (delete_where (is_sent_to_any (gone bucket key (pos id))) t.parts)))
        (find_elsewhere (is_upload b k (pos i)) (is_upload bucket key (pos id)) (λ u is. one_upload_place u bucket key id b k i apart is) t.uploads)
        ∙ told_elsewhere bucket key id b k i apart);
  }

pub rows_drop_uploads : RowsDropUploads
rows_drop_uploads e t bucket key id s = drop_upload e t s bucket key id

pub rows_complete_uploads : CompletionsDoBoth (List ℕ) → RowsCompleteUploads
rows_complete_uploads both e t row n m stored id s may is =
    let put = rows_put_versions e t row n m stored s may is in
    let dropped = drop_upload e (version_put row t) put.sound row.bucket row.key id in
    record {
      sound = dropped.sound;
      means = dropped.means ∙ ap (λ c. changed c row.bucket (UploadDropped row.key id)) put.means ∙ sym (both (catalogue_of e t) row.bucket row.key id (VersionPut n m stored));
    }
