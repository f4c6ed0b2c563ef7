-- The row of a part that is put.
use Rattle.std.proofs.Common.{◌≡◌, ◌≢◌, refl, sym, ap, subst, ◌∙◌, true, false, not, ℕ, pos, List, filter, find, Some, option_map, int_eq, unsigned_abs}
use Rattle.std.proofs.lemmas.Bool.{false≢true, false_from_ne_true, and_parts, and_from, and_left}
use Rattle.std.proofs.lemmas.List.Elements.{recursion_from_All}
use Rattle.std.specs.List.{AllByRecursion}
use Rattle.sqlite_keyed.specs.Keyed.{insert_by, has_key}
use Rattle.sqlite_keyed.specs.Lists.{delete_where}
use Rattle.sqlite_keyed.proofs.KeyedLemmas.{same_int, all-insert_by, filter-insert_by, IsKeyedBy-insert_by, IsKeyedBy-delete_where}
use Rattle.sqlite_keyed.proofs.ListLemmas.{all-filter}
use Rattle.sqlite_keyed.proofs.RuleLemmas.{pass_insert, pass_delete, apart_insert, apart_delete}
use Rattle.sqlite_keyed.proofs.SliceLemmas.{none_narrower}
use Rattle.s3_uploads.specs.Parts as parts
use Rattle.s3_uploads.specs.Uploads.{with_part}
use Rattle.s3_records.specs.Changes.{PartPut}
use Rattle.s3_rows.specs.Columns.{UploadColumns, PartColumns, Tables}
use Rattle.s3_rows.specs.Encoding.{Encoding}
use Rattle.s3_rows.specs.Finding.{is_upload, is_sent_to, is_part}
use Rattle.s3_rows.specs.Meaning.{part_of, parts_of, upload_of}
use Rattle.s3_rows.specs.Soundness.{upload_row, part_row, same_part, is_part_row, AreSound}
use Rattle.s3_rows.specs.TableChanges.{parts_left, part_put}
use Rattle.s3_rows.specs.UploadLaws.{RowsPutParts}
use Rattle.s3_rows.specs.VersionLaws.{Makes}
use Rattle.s3_rows.proofs.EditLemmas.{same_key, find_passes, find_has, find_elsewhere, find_gone, find_put, find_put_elsewhere, filter_elsewhere, none_gone, found_as, found_key}
use Rattle.s3_rows.proofs.UploadLemmas.{one_upload_place, one_row, count_pos_abs, part_counts, upload_changed, parts_same, parts_put}
use Rattle.s3_rows.proofs.UploadLawLemmas.{same_part-symm, fit_uploads}

module _ (e : Encoding) (t : Tables) (s : AreSound t) (bucket key : List ℕ) (id : ℕ) (u : UploadColumns) (row : PartColumns)
    (found : find (is_upload bucket key (pos id)) t.uploads ≡ Some u) (its : row.upload ≡ u.row) (fits : is_part_row row ≡ true) (free : has_key part_row (parts_left row t) row.row ≡ false) where
  abbrev n : ℕ
  n = unsigned_abs row.part

  number : row.part ≡ pos n
  number = count_pos_abs row.part (part_counts row.part (and_parts _ _ fits).0)

  abbrev left : List PartColumns
  left = delete_where (is_part row.upload row.part) t.parts

  abbrev now : List PartColumns
  now = insert_by part_row left row

  fit : AllByRecursion (λ p. is_part_row p ≡ true) t.parts
  fit = recursion_from_All _ t.parts s.parts.fit

  -- another number is not that of the row, nor of what it replaces
  other_number : (m : ℕ) (p : PartColumns) → m ≢ n → is_part row.upload (pos m) p ≡ true → is_part row.upload row.part p ≡ false
  other_number m p other is = false_from_ne_true (is_part row.upload row.part p) (λ same.
      let numbers : pos m ≡ pos n = sym (same_int p.part (pos m) (and_parts (is_sent_to row.upload p) _ is).1) ∙ same_int p.part row.part (and_parts (is_sent_to row.upload p) _ same).1 ∙ number in
      let one : m ≡ n = cc in
      other one)

  its_own : is_part row.upload row.part row ≡ true
  its_own = and_from (is_sent_to row.upload row) _ (same_key row.upload row.upload refl) (same_key row.part row.part refl)

  put_here : parts_of e now row.upload ≡ parts.part_put n (part_of e row) (parts_of e t.parts row.upload)
  put_here =
      parts_put e t.parts now row.upload n (part_of e row) fit
      (all-insert_by part_row (λ p. is_part_row p ≡ true) left row fits (all-filter _ (λ p. not (is_part row.upload row.part p)) t.parts fit))
      (subst (λ z. option_map (part_of e) (find (is_part row.upload z) now) ≡ Some (part_of e row)) number
      (ap (option_map (part_of e)) (find_put part_row (is_part row.upload row.part) left row its_own (find_gone (is_part row.upload row.part) (is_part row.upload row.part) (λ p is. is) t.parts))))
      (λ m other. find_put_elsewhere part_row (is_part row.upload (pos m)) left row free
      (false_from_ne_true (is_part row.upload (pos m) row) (λ is. false≢true (sym (other_number m row other is) ∙ its_own)))
      ∙ find_elsewhere (is_part row.upload (pos m)) (is_part row.upload row.part) (λ p is. other_number m p other is) t.parts)

  put_to : parts_of e now u.row ≡ parts.part_put n (part_of e row) (parts_of e t.parts u.row)
  put_to = subst (λ r. parts_of e now r ≡ parts.part_put n (part_of e row) (parts_of e t.parts r)) its put_here

  -- an upload at another place has another row
  other_row : (b k : List ℕ) (i : ℕ) (w : UploadColumns) → ¬ ((b ≡ bucket) × (k ≡ key) × (i ≡ id)) → find (is_upload b k (pos i)) t.uploads ≡ Some w → w.row ≢ row.upload
  other_row b k i w apart is rows =
      let one = find_has (λ x. int_eq x.row u.row ≡ true → x ≡ u) (is_upload b k (pos i)) t.uploads w (one_row upload_row (is_upload bucket key (pos id)) t.uploads u s.uploads.rise found) is in
      let same : w ≡ u = one (same_key w.row u.row (rows ∙ its)) in
      false≢true (sym (one_upload_place w bucket key id b k i apart (find_passes (is_upload b k (pos i)) t.uploads w is))
      ∙ subst (λ x. is_upload bucket key (pos id) x ≡ true) (sym same) (find_passes (is_upload bucket key (pos id)) t.uploads u found))

  kept_to : (b k : List ℕ) (i : ℕ) (w : UploadColumns) → ¬ ((b ≡ bucket) × (k ≡ key) × (i ≡ id)) → find (is_upload b k (pos i)) t.uploads ≡ Some w → filter (is_sent_to w.row) now ≡ filter (is_sent_to w.row) t.parts
  kept_to b k i w apart is =
      let rows = other_row b k i w apart is in
      filter-insert_by part_row (is_sent_to w.row) left row free (false_from_ne_true (is_sent_to w.row row) (λ tied. rows (sym (same_int row.upload w.row tied))))
      ∙ filter_elsewhere (is_sent_to w.row) (is_part row.upload row.part)
      (λ p sent. and_left (is_sent_to row.upload p) _ (false_from_ne_true (is_sent_to row.upload p) (λ other. rows (sym (same_int p.upload w.row sent) ∙ same_int p.upload row.upload other)))) t.parts

  pub is_put : Makes e t (part_put row t) bucket (PartPut key id n (part_of e row))
  is_put = record {
    sound = record {
      buckets = s.buckets;
      versions = s.versions;
      uploads = s.uploads;
      parts = record {
        rise = IsKeyedBy-insert_by part_row left row (IsKeyedBy-delete_where part_row (is_part row.upload row.part) t.parts s.parts.rise);
        numbers = apart_insert same_part part_row same_part-symm left row (IsKeyedBy-delete_where part_row (is_part row.upload row.part) t.parts s.parts.rise)
            (ap not (none_narrower (λ p. not (int_eq p.row row.row)) (λ p. same_part p row) left (none_gone (is_part row.upload row.part) t.parts)))
            (apart_delete same_part (is_part row.upload row.part) t.parts s.parts.numbers);
        fit = pass_insert part_row is_part_row left row fits (pass_delete is_part_row (is_part row.upload row.part) t.parts s.parts.fit);
      };
      version_buckets = s.version_buckets;
      upload_buckets = s.upload_buckets;
      part_uploads = pass_insert part_row (λ p. has_key upload_row t.uploads p.upload) left row
          (subst (λ k. has_key upload_row t.uploads k ≡ true) (sym its) (found_key upload_row (is_upload bucket key (pos id)) t.uploads u found))
          (pass_delete (λ p. has_key upload_row t.uploads p.upload) (is_part row.upload row.part) t.parts s.part_uploads);
    };
    means = upload_changed e t t.uploads now bucket key id (option_map (with_part n (part_of e row))) (fit_uploads e t s) (fit_uploads e t s)
        (ap (option_map (upload_of e now)) found
        ∙ (λ j. Some (record { moment = unsigned_abs u.moment; content_type = e.content_type_in u.kept; metadata = e.metadata_in u.kept; parts = put_to j }))
        ∙ ap (λ o. option_map (with_part n (part_of e row)) (option_map (upload_of e t.parts) o)) (sym found))
        (λ b k i apart. found_as (upload_of e now) (upload_of e t.parts) (is_upload b k (pos i)) t.uploads
        (λ w is j. record { moment = unsigned_abs w.moment; content_type = e.content_type_in w.kept; metadata = e.metadata_in w.kept; parts = parts_same e t.parts now w.row (kept_to b k i w apart is) j }));
  }

pub rows_put_parts : RowsPutParts
rows_put_parts e t bucket key id u row s found its fits free = is_put e t s bucket key id u row found its fits free
