-- The row of an upload that begins.
use Rattle.std.proofs.Common.{◌≡◌, sym, ap, subst, ◌∙◌, true, false, not, ℕ, pos, List, [], Some, option_map, int_eq, unsigned_abs}
use Rattle.std.proofs.lemmas.Bool.{false≢true, false_from_ne_true, and_parts, and_from}
use Rattle.std.proofs.lemmas.List.Elements.{recursion_from_All, All-weaker}
use Rattle.std.specs.FinMap.{entries}
use Rattle.std.specs.List.{list_any}
use Rattle.std.specs.Ordering.{nat_cmp}
use Rattle.sqlite_keyed.specs.Keyed.{insert_by, has_key}
use Rattle.sqlite_keyed.specs.Lists.{delete_where}
use Rattle.sqlite_keyed.proofs.KeyedLemmas.{same_int, all-insert_by, IsKeyedBy-insert_by, has_key-insert_by}
use Rattle.sqlite_keyed.proofs.ListLemmas.{all_weaker, all-filter, any_from_none}
use Rattle.sqlite_keyed.proofs.RuleLemmas.{pass_insert, apart_insert}
use Rattle.sqlite_keyed.proofs.SliceLemmas.{none_narrower}
use Rattle.s3_records.specs.Changes.{UploadAdded}
use Rattle.s3_rows.specs.Columns.{UploadColumns, PartColumns, Tables}
use Rattle.s3_rows.specs.Encoding.{Encoding}
use Rattle.s3_rows.specs.Finding.{is_upload_to, is_upload, is_sent_to}
use Rattle.s3_rows.specs.Meaning.{collected, part_of, parts_of, upload_of}
use Rattle.s3_rows.specs.Soundness.{upload_row, same_upload, is_count, is_upload_row, has_bucket_row, AreSound}
use Rattle.s3_rows.specs.TableChanges.{is_sent_to_any, upload_dropped, upload_added, upload_put}
use Rattle.s3_rows.specs.UploadLaws.{upload_begun, RowsBeginUploads}
use Rattle.s3_rows.specs.VersionLaws.{Makes}
use Rattle.s3_rows.proofs.BucketLemmas.{none_kept}
use Rattle.s3_rows.proofs.CollectedLemmas.{no_entries}
use Rattle.s3_rows.proofs.EditLemmas.{same_key, find_elsewhere, find_gone, find_put, find_put_elsewhere, none_gone, has_key_left}
use Rattle.s3_rows.proofs.MeaningLemmas.{same_text-itself}
use Rattle.s3_rows.proofs.UploadLemmas.{one_upload_place, count_pos_abs, upload_changed}
use Rattle.s3_rows.proofs.UploadLawLemmas.{same_upload-symm, fit_uploads, sound-upload_dropped, told_elsewhere, gone}
use Rattle.s3_rows.proofs.VersionLawLemmas.{has_bucket-row}

module _ (e : Encoding) (t : Tables) (s : AreSound t) (row : UploadColumns) (fits : is_upload_row row ≡ true) (free : has_key upload_row t.uploads row.row ≡ false) (there : has_bucket_row t.buckets row.bucket ≡ true) where
  abbrev id : ℕ
  id = unsigned_abs row.id

  id_is : row.id ≡ pos id
  id_is = count_pos_abs row.id (and_parts (is_count row.id) _ fits).0

  abbrev left : List UploadColumns
  left = delete_where (is_upload row.bucket row.key (pos id)) t.uploads

  abbrev rest : List PartColumns
  rest = delete_where (is_sent_to_any (gone e t s row.bucket row.key (pos id))) t.parts

  left_free : has_key upload_row left row.row ≡ false
  left_free = has_key_left upload_row (is_upload row.bucket row.key (pos id)) t.uploads row.row free

  at_place : is_upload row.bucket row.key (pos id) row ≡ true
  at_place = and_from (is_upload_to row.bucket row.key row) _ (and_from _ _ (same_text-itself row.bucket) (same_text-itself row.key)) (same_key row.id (pos id) id_is)

  -- no part has its rowid
  no_parts : parts_of e rest row.row ≡ []
  unfolding parts_of
  no_parts =
      ap (λ l. entries (collected nat_cmp (λ p. unsigned_abs p.part) (part_of e) l))
      (none_kept (is_sent_to row.row) rest (any_from_none (is_sent_to row.row) rest
      (all-filter (λ p. is_sent_to row.row p ≡ false) (λ p. not (is_sent_to_any (gone e t s row.bucket row.key (pos id)) p)) t.parts
      (all_weaker _ (λ p. is_sent_to row.row p ≡ false) (λ p has. false_from_ne_true (is_sent_to row.row p) (λ sent.
      false≢true (sym free ∙ subst (λ k. has_key upload_row t.uploads k ≡ true) (same_int p.upload row.row sent) has)))
      t.parts (recursion_from_All _ t.parts s.part_uploads)))))
      ∙ no_entries nat_cmp

  begun : Makes e t (upload_added row (upload_dropped row.bucket row.key (pos id) t)) row.bucket (UploadAdded row.key id (upload_begun e row))
  begun =
      let d = sound-upload_dropped e t s row.bucket row.key (pos id) in
      record {
        sound = record {
          buckets = d.buckets;
          versions = d.versions;
          uploads = record {
            rise = IsKeyedBy-insert_by upload_row left row d.uploads.rise;
            ids = apart_insert same_upload upload_row same_upload-symm left row d.uploads.rise
                (ap not (none_narrower (λ u. not (int_eq u.row row.row)) (λ u. same_upload u row) left
                (subst (λ z. list_any (is_upload row.bucket row.key row.id) (delete_where (is_upload row.bucket row.key z) t.uploads) ≡ false) id_is (none_gone (is_upload row.bucket row.key row.id) t.uploads)))) d.uploads.ids;
            fit = pass_insert upload_row is_upload_row left row fits d.uploads.fit;
          };
          parts = d.parts;
          version_buckets = d.version_buckets;
          upload_buckets = pass_insert upload_row (λ u. has_bucket_row t.buckets u.bucket) left row there d.upload_buckets;
          part_uploads = All-weaker _ _ (λ p. has_key-insert_by upload_row left row p.upload) rest d.part_uploads;
        };
        means = upload_changed e t (insert_by upload_row left row) rest row.bucket row.key id (λ old. Some (upload_begun e row)) (fit_uploads e t s)
            (all-insert_by upload_row (λ u. is_upload_row u ≡ true) left row fits (all-filter _ (λ u. not (is_upload row.bucket row.key (pos id) u)) t.uploads (fit_uploads e t s)))
            (ap (option_map (upload_of e rest)) (find_put upload_row (is_upload row.bucket row.key (pos id)) left row at_place (find_gone (is_upload row.bucket row.key (pos id)) (is_upload row.bucket row.key (pos id)) (λ u is. is) t.uploads))
            ∙ (λ j. Some (record { moment = unsigned_abs row.moment; content_type = e.content_type_in row.kept; metadata = e.metadata_in row.kept; parts = no_parts j })))
            (λ b k i apart. ap (option_map (upload_of e rest))
            (find_put_elsewhere upload_row (is_upload b k (pos i)) left row left_free (false_from_ne_true (is_upload b k (pos i) row) (λ is. false≢true (sym (one_upload_place row row.bucket row.key id b k i apart is) ∙ at_place)))
            ∙ find_elsewhere (is_upload b k (pos i)) (is_upload row.bucket row.key (pos id)) (λ u is. one_upload_place u row.bucket row.key id b k i apart is) t.uploads)
            ∙ told_elsewhere e t s row.bucket row.key id b k i apart);
      }

  pub is_begun : Makes e t (upload_put row t) row.bucket (UploadAdded row.key id (upload_begun e row))
  is_begun = subst (λ z. Makes e t (upload_added row (upload_dropped row.bucket row.key z t)) row.bucket (UploadAdded row.key id (upload_begun e row))) (sym id_is) begun

pub rows_begin_uploads : RowsBeginUploads
rows_begin_uploads e t row s fits free there = is_begun e t s row fits free (sym (has_bucket-row e t row.bucket) ∙ there)
