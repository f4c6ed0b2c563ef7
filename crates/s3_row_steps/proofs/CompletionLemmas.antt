-- An upload that is completed is a step.
use Rattle.std.proofs.Common.{◌≡◌, sym, ap, subst, ◌∙◌, ◌^◌, ℕ, ◌+◌, ℤ, pos, ◌+ℤ◌, true, false, List, [], ◌++◌, IsTrue, int_lt, arith}
use Rattle.std.specs.FinMap as map
use Rattle.sqlite_keyed.specs.Keyed.{has_key}
use Rattle.sqlite_keyed.proofs.RuleLemmas.{pass_delete}
use Rattle.s3_versions.specs.declared.version.Content.TheVariants.{Stored}
use Rattle.s3_versions.specs.declared.version.Versioning.{Versioning}
use Rattle.s3_versions.specs.Rules.{made, is_new_number, VersionPut}
use Rattle.s3_records.specs.Catalogue.{has_bucket, versioning_of, versions_of}
use Rattle.s3_records.specs.Changes.{UploadCompleted, changed}
use Rattle.s3_records.proofs.LawLemmas.{completions_do_both}
use Rattle.s3_rows.specs.Columns.{VersionColumns, Tables}
use Rattle.s3_rows.specs.Finding.{is_version}
use Rattle.s3_rows.specs.Meaning.{version_of, catalogue_of}
use Rattle.s3_rows.specs.Soundness.{version_row, has_bucket_row, AreSound}
use Rattle.s3_rows.specs.TableChanges.{version_put, version_dropped, upload_dropped}
use Rattle.s3_rows.specs.VersionLaws.{Makes, MayStand}
use Rattle.s3_rows.proofs.BucketLemmas.{rows_tell_buckets}
use Rattle.s3_rows.proofs.UploadLawLemmas.{rows_complete_uploads}
use Rattle.s3_rows.proofs.VersionLawLemmas.{rows_put_versions}
use Rattle.s3_stored_bodies.specs.Numbers.{Contents, times}
use Rattle.s3_stored_bodies.proofs.NumberLemmas.{times-append}
use Rattle.s3_stored_rows.specs.Bodies.{encoding, version_numbers, numbers_named}
use Rattle.s3_stored_rows.specs.Queries.{version_of_id, upload_of_id}
use Rattle.s3_row_values.specs.declared.described.Described.{Described}
use Rattle.s3_row_values.specs.Values.{data_with, IsVersionRow}
use Rattle.s3_row_changes.specs.Trading.{Trades, numbers_of, sent_numbers}
use Rattle.s3_row_changes.proofs.LawLemmas.{version_puts, upload_drops}
use Rattle.s3_row_steps.specs.Steps.{AreKept, Steps}
use Rattle.s3_row_steps.proofs.KeepingLemmas.{below-version_put, below-upload_dropped, small-version_put, small-upload_dropped}
use Rattle.s3_row_steps.proofs.RowidLemmas.{less_next, next_free, rows_later}

module _ (t : Tables) (next : ℤ) (bucket key : List ℕ) (id n m : ℕ) (versioning : Versioning) (row : VersionColumns) (at : ℤ) (d : Described) (numbers : List ℕ)
    (kept : AreKept next t) (there : IsTrue (has_bucket_row t.buckets bucket))
    (newer : (contents : Contents) → IsTrue (is_new_number n (versions_of (catalogue_of (encoding contents) t) bucket key)))
    (told : (contents : Contents) → versioning_of (catalogue_of (encoding contents) t) bucket ≡ versioning)
    (at_is : at ≡ next) (is : IsVersionRow row at bucket key versioning n m d numbers) (small : int_lt row.id (pos (2 ^ 63)) ≡ true) where
  free : has_key version_row (version_dropped row.bucket row.key row.id t).versions row.row ≡ false
  free = next_free version_row next (version_dropped row.bucket row.key row.id t).versions row.row (is.placed.row_is ∙ at_is) (pass_delete (λ v. int_lt v.row next) (is_version row.bucket row.key row.id) t.versions kept.rowids.versions)

  in_bucket : (contents : Contents) → IsTrue (has_bucket (catalogue_of (encoding contents) t) row.bucket)
  in_bucket contents = rows_tell_buckets (encoding contents) t row.bucket ∙ ap (has_bucket_row t.buckets) is.placed.bucket_is ∙ there

  newer_there : (contents : Contents) → IsTrue (is_new_number n (versions_of (catalogue_of (encoding contents) t) row.bucket row.key))
  newer_there contents =
      (λ i. is_new_number n (versions_of (catalogue_of (encoding contents) t) (is.placed.bucket_is i) (is.placed.key_is i))) ∙ newer contents

  may_stand : (contents : Contents) → MayStand (encoding contents) t row n
  may_stand contents = record { fits = is.placed.fits; free = free; there = in_bucket contents; newer = newer_there contents }

  -- the row is what the bucket's versioning makes
  made_there : (contents : Contents) → version_of (encoding contents) row ≡ made (versioning_of (catalogue_of (encoding contents) t) row.bucket) n m (Stored (data_with contents numbers d))
  made_there contents =
      is.means contents
      ∙ ap (λ v. made v n m (Stored (data_with contents numbers d))) (sym (told contents) ∙ ap (versioning_of (catalogue_of (encoding contents) t)) (sym is.placed.bucket_is))

  makes : (contents : Contents) → Makes (encoding contents) t (upload_dropped row.bucket row.key (pos id) (version_put row t)) row.bucket (UploadCompleted row.key id (VersionPut n m (data_with contents numbers d)))
  makes contents = rows_complete_uploads completions_do_both (encoding contents) t row n m (data_with contents numbers d) id kept.sound (may_stand contents) (made_there contents)

  put_sound : AreSound (version_put row t)
  put_sound = (rows_put_versions (encoding map.empty) t row n m (data_with map.empty numbers d) kept.sound (may_stand map.empty) (made_there map.empty)).sound

  -- both at the place of the row
  same_place : upload_dropped row.bucket row.key (pos id) (version_put row t) ≡ upload_dropped bucket key (pos id) (version_put row t)
  same_place = λ i. upload_dropped (is.placed.bucket_is i) (is.placed.key_is i) (pos id) (version_put row t)

  are_kept : AreKept (next +ℤ pos 1) (upload_dropped bucket key (pos id) (version_put row t))
  are_kept = record {
    sound = subst AreSound same_place (makes map.empty).sound;
    rowids = below-upload_dropped (version_put row t) (next +ℤ pos 1)
        (below-version_put t (next +ℤ pos 1) (rows_later next t kept.rowids) row (less_next next row.row (is.placed.row_is ∙ at_is))) bucket key (pos id);
    small = small-upload_dropped (version_put row t) (small-version_put t kept.small row small) bucket key (pos id);
  }

  -- the version that the row replaces names its numbers no more, nor do the parts that go with the upload
  trade_dropped : Trades (version_put row t) (upload_dropped bucket key (pos id) (version_put row t)) (sent_numbers t (upload_of_id bucket key (pos id) t)) []
  trade_dropped = upload_drops (version_put row t) bucket key (pos id) put_sound

  trade_put : Trades t (version_put row t) (numbers_of version_numbers (version_of_id row.bucket row.key row.id t)) numbers
  trade_put q = version_puts t row kept.sound free q ∙ ap (λ more. times q (numbers_named t) + times q more) is.names

  module _ (gone : List ℕ) (gone_is : gone ≡ numbers_of version_numbers (version_of_id row.bucket row.key row.id t))
      (new : Tables) (done : new ≡ upload_dropped bucket key (pos id) (version_put row t)) where
    trade : Trades t new (gone ++ sent_numbers t (upload_of_id bucket key (pos id) t)) numbers
    trade q =
        (λ i. times q (numbers_named (done i)) + times q (gone_is i ++ sent_numbers t (upload_of_id bucket key (pos id) t)))
        ∙ omega (
          arith,
          trade_dropped q,
          trade_put q,
          times-append q (numbers_of version_numbers (version_of_id row.bucket row.key row.id t)) (sent_numbers t (upload_of_id bucket key (pos id) t)),
        )

    pub completion_steps : Steps t new (next +ℤ pos 1) bucket (λ contents. UploadCompleted key id (VersionPut n m (data_with contents numbers d)))
        (gone ++ sent_numbers t (upload_of_id bucket key (pos id) t)) numbers
    completion_steps = record {
      kept = subst (AreKept (next +ℤ pos 1)) (sym done) are_kept;
      means = λ contents. ap (catalogue_of (encoding contents)) (done ∙ sym same_place) ∙ (makes contents).means
          ∙ (λ i. changed (catalogue_of (encoding contents) t) (is.placed.bucket_is i) (UploadCompleted (is.placed.key_is i) id (VersionPut n m (data_with contents numbers d))));
      trades = trade;
      store = ap (λ u. u.store) done;
    }
