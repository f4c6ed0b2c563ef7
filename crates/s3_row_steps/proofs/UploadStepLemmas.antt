-- An upload that is begun or dropped is a step.
use Rattle.std.proofs.Common.{◌≡◌, refl, sym, ap, subst, ◌∙◌, ◌^◌, ℕ, ◌+◌, ℤ, pos, ◌+ℤ◌, true, not, List, [], map as map_list, filter, flat_map, Option, Some, None, option_map, IsTrue, unsigned_abs, int_lt, arith}
use Rattle.std.specs.FinMap as map
use Rattle.std.specs.Option.{IfSome}
use Rattle.sqlite_keyed.specs.Lists.{delete_where}
use Rattle.sqlite_keyed.proofs.ListLemmas.{all_of, filter_all, filter_none}
use Rattle.s3_uploads.specs.declared.upload.Upload.{Upload}
use Rattle.s3_records.specs.Catalogue.{has_bucket}
use Rattle.s3_records.specs.Changes.{UploadAdded, UploadDropped, changed}
use Rattle.s3_rows.specs.Columns.{UploadColumns, PartColumns, Tables}
use Rattle.s3_rows.specs.Finding.{is_upload}
use Rattle.s3_rows.specs.Meaning.{catalogue_of}
use Rattle.s3_rows.specs.Soundness.{upload_row, has_bucket_row}
use Rattle.s3_rows.specs.TableChanges.{is_sent_to_any, upload_dropped, upload_put}
use Rattle.s3_rows.specs.UploadLaws.{upload_begun}
use Rattle.s3_rows.specs.VersionLaws.{Makes}
use Rattle.s3_rows.proofs.BucketLemmas.{rows_tell_buckets}
use Rattle.s3_rows.proofs.EditLemmas.{find_passes}
use Rattle.s3_rows.proofs.UploadBegunLemmas.{rows_begin_uploads}
use Rattle.s3_rows.proofs.UploadLawLemmas.{rows_drop_uploads}
use Rattle.s3_stored_bodies.specs.Numbers.{Contents, times}
use Rattle.s3_stored_rows.specs.Bodies.{encoding, part_numbers, numbers_named}
use Rattle.s3_stored_rows.specs.Changes.{upload_columns, part_columns}
use Rattle.s3_stored_rows.specs.Queries.{upload_of_id}
use Rattle.s3_row_values.specs.Values.{IsUploadRow}
use Rattle.s3_row_changes.specs.declared.uploads.UploadRows.{UploadRows}
use Rattle.s3_row_changes.specs.Trading.{Trades, numbers_of, sent_numbers}
use Rattle.s3_row_changes.specs.Uploads.{AreRowsOf}
use Rattle.s3_row_changes.proofs.LawLemmas.{upload_adds, upload_drops}
use Rattle.s3_row_changes.proofs.PlaceLemmas.{upload_place}
use Rattle.s3_row_changes.proofs.RowLemmas.{none_passes, none_dropped}
use Rattle.s3_row_steps.specs.Steps.{AreKept, Steps}
use Rattle.s3_row_steps.proofs.KeepingLemmas.{below-upload_dropped, below-upload_added, small-upload_dropped, small-upload_added}
use Rattle.s3_row_steps.proofs.RowidLemmas.{less_next, next_free, rows_later}

-- ---- an upload that is dropped

none_sent : (ps : List PartColumns) → delete_where (is_sent_to_any []) ps ≡ ps
none_sent ps = filter_all (λ p. not (is_sent_to_any [] p)) ps (all_of (λ p. not (is_sent_to_any [] p) ≡ true) (λ p. refl) ps)

-- where there is none, nothing goes
pub none_to_drop : (t : Tables) (bucket key : List ℕ) (id : ℤ) → upload_of_id bucket key id t ≡ None → t ≡ upload_dropped bucket key id t
none_to_drop t bucket key id none =
    let gone : filter (is_upload bucket key id) t.uploads ≡ [] = filter_none (is_upload bucket key id) t.uploads (none_passes (is_upload bucket key id) t.uploads none) in
    λ i. record t { uploads = sym (none_dropped (is_upload bucket key id) t.uploads none) i; parts = (sym (none_sent t.parts) ∙ ap (λ us. delete_where (is_sent_to_any us) t.parts) (sym gone)) i }

-- of the upload that is found the place is known
pub dropped_at : (t s : Tables) (bucket key : List ℕ) (id : ℤ) (u : UploadColumns) → upload_of_id bucket key id t ≡ Some u → upload_dropped u.bucket u.key u.id s ≡ upload_dropped bucket key id s
dropped_at t s bucket key id u found =
    let place = upload_place bucket key id u (find_passes (is_upload bucket key id) t.uploads u found) in
    λ i. upload_dropped (place.0 i) (place.1 i) (place.2 i) s

-- the numbers that its rows name
pub sent_in_rows : (t : Tables) (o : Option UploadRows) (found : Option UploadColumns) → option_map (λ (u : UploadRows). upload_columns u.upload) o ≡ found → IfSome o (AreRowsOf t)
    → numbers_of (λ (u : UploadRows). flat_map part_numbers (map_list part_columns u.parts.items)) o ≡ sent_numbers t found
sent_in_rows t None found is rows = ap (sent_numbers t) is
sent_in_rows t (Some u) found is rows = ap (flat_map part_numbers) rows.parts ∙ ap (sent_numbers t) is

pub upload_drop_steps : (t : Tables) (next : ℤ) (bucket key : List ℕ) (id : ℕ) (new : Tables) → AreKept next t → new ≡ upload_dropped bucket key (pos id) t
    → Steps t new next bucket (λ _. UploadDropped key id) (sent_numbers t (upload_of_id bucket key (pos id) t)) []
upload_drop_steps t next bucket key id new kept made =
    subst (λ (x : Tables). Steps t x next bucket (λ _. UploadDropped key id) (sent_numbers t (upload_of_id bucket key (pos id) t)) []) (sym made)
    (record {
      kept = record {
        sound = (rows_drop_uploads (encoding map.empty) t bucket key id kept.sound).sound;
        rowids = below-upload_dropped t next kept.rowids bucket key (pos id);
        small = small-upload_dropped t kept.small bucket key (pos id);
      };
      means = λ contents. (rows_drop_uploads (encoding contents) t bucket key id kept.sound).means;
      trades = upload_drops t bucket key (pos id) kept.sound;
      store = refl;
    })

-- ---- an upload that is begun

module _ (t : Tables) (next : ℤ) (bucket key : List ℕ) (id : ℕ) (row : UploadColumns) (at : ℤ) (begun : Upload (List ℕ))
    (kept : AreKept next t) (there : IsTrue (has_bucket_row t.buckets bucket)) (begins : begun.parts ≡ []) (at_is : at ≡ next) (is : IsUploadRow row at bucket key id begun)
    (small : int_lt row.id (pos (2 ^ 63)) ≡ true) where
  in_bucket : (contents : Contents) → IsTrue (has_bucket (catalogue_of (encoding contents) t) row.bucket)
  in_bucket contents = rows_tell_buckets (encoding contents) t row.bucket ∙ ap (has_bucket_row t.buckets) is.bucket_is ∙ there

  makes : (contents : Contents) → Makes (encoding contents) t (upload_put row t) row.bucket (UploadAdded row.key (unsigned_abs row.id) (upload_begun (encoding contents) row))
  makes contents = rows_begin_uploads (encoding contents) t row kept.sound is.fits (next_free upload_row next t.uploads row.row (is.row_is ∙ at_is) kept.rowids.uploads) (in_bucket contents)

  -- it has no parts
  same_upload : record begun { parts = [] } ≡ begun
  same_upload = λ i. record begun { parts = sym begins i }

  are_kept : AreKept (next +ℤ pos 1) (upload_put row t)
  are_kept = record {
    sound = (makes map.empty).sound;
    rowids = below-upload_added (upload_dropped row.bucket row.key row.id t) (next +ℤ pos 1)
        (below-upload_dropped t (next +ℤ pos 1) (rows_later next t kept.rowids) row.bucket row.key row.id) row (less_next next row.row (is.row_is ∙ at_is));
    small = small-upload_added (upload_dropped row.bucket row.key row.id t) (small-upload_dropped t kept.small row.bucket row.key row.id) row small;
  }

  module _ (numbers : List ℕ) (sent : numbers ≡ sent_numbers t (upload_of_id row.bucket row.key row.id t)) (new : Tables) (made : new ≡ upload_put row t) where
    -- the upload of its id goes, and the row comes
    trade : Trades t new numbers []
    trade n =
        (λ i. times n (numbers_named (made i)) + times n (sent i))
        ∙ omega (arith, upload_drops t row.bucket row.key row.id kept.sound n, upload_adds (upload_dropped row.bucket row.key row.id t) row n)

    pub upload_add_steps : Steps t new (next +ℤ pos 1) bucket (λ _. UploadAdded key id begun) numbers []
    upload_add_steps = record {
      kept = subst (AreKept (next +ℤ pos 1)) (sym made) are_kept;
      means = λ contents. ap (catalogue_of (encoding contents)) made ∙ (makes contents).means
          ∙ (λ i. changed (catalogue_of (encoding contents) t) (is.bucket_is i) (UploadAdded (is.key_is i) (unsigned_abs (is.id_is i)) ((is.means contents ∙ same_upload) i)));
      trades = trade;
      store = ap (λ u. u.store) made;
    }
