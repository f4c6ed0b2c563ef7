-- What is sound is so with one bucket more.
use Rattle.std.proofs.Common.{◌≡◌, refl, sym, ap, subst, ◌∙◌, ℕ, Bool, true, false, not, cond, List, [], Option, Some, is_some}
use Rattle.std.specs.Prelude.{IsTrue}
use Rattle.std.specs.Cmp.Lexicographic.{nat_list_cmp_total}
use Rattle.std.specs.FinMap.{get, insert, get-empty, get-insert}
use Rattle.std.specs.Ordering.{eq_by_cmp}
use Rattle.s3_text.specs.Order.{byte_order}
use Rattle.s3_names.specs.declared.ids.VersionId.TheVariants.{Null}
use Rattle.s3_versions.specs.declared.version.Version.{Version}
use Rattle.s3_versions.specs.declared.version.Versioning.TheVariants.{Unversioned}
use Rattle.s3_versions.specs.Rules.{without}
use Rattle.s3_uploads.specs.Parts.{rises, numbers_of}
use Rattle.s3_uploads.specs.declared.upload.Upload.{Upload}
use Rattle.s3_records.specs.Catalogue.{Bucket, Catalogue, new_bucket, found_versions, versioning_in, versions_in}
use Rattle.s3_records.specs.Changes.{BucketAdded, changed}
use Rattle.s3_records.specs.Laws.{VersionsStayInOrder, KeysStayFilled}
use Rattle.s3_records.specs.OpenUploads.{parts_sent}
use Rattle.s3_records.specs.Places.{NumbersStayBelow, ChangesAreByUpload}
use Rattle.s3_keepers.specs.Sound.{UnversionedAreNull, NewBucketsStaySound}

none_without : {B : Type 0} → without {B = B} Null [] ≡ []
unfolding without
none_without = refl

-- the new bucket has no versions, and every other has those that it had
null_stays : {B : Type 0} (c : Catalogue B) (name : List ℕ) (t : ℕ) → UnversionedAreNull c
    → UnversionedAreNull (changed c name (BucketAdded t))
null_stays {B} c name t null other key =
    go (eq_by_cmp byte_order other name) (get-insert nat_list_cmp_total c name (new_bucket t) other)
  where
    go : (b : Bool) → get (insert c name (new_bucket t)) other ≡ cond b (Some (new_bucket t)) (get c other)
        → versioning_in (get (insert c name (new_bucket t)) other) ≡ Unversioned
        → without Null (versions_in (get (insert c name (new_bucket t)) other) key) ≡ []
    go true found is =
        ap (λ (b : Option (Bucket B)). without Null (versions_in b key)) found
        ∙ ap (λ (vs : Option (List (Version B))). without Null (found_versions vs)) (get-empty byte_order key)
        ∙ none_without
    go false found is =
        ap (λ (b : Option (Bucket B)). without Null (versions_in b key)) found
        ∙ null other key (sym (ap (λ (b : Option (Bucket B)). versioning_in b) found) ∙ is)

pub new_buckets_stay_sound : {B : Type 0} → NumbersStayBelow B → VersionsStayInOrder B → ChangesAreByUpload B
    → KeysStayFilled B → NewBucketsStaySound B
new_buckets_stay_sound {B} numbers order uploads filled c name t n none sound =
    let same = uploads c name (BucketAdded t) (ap not none) in record {
      versions = numbers n c name (BucketAdded t) sound.versions tt;
      uploads = λ bucket key id there. sound.uploads bucket key id (sym (ap is_some (same bucket key id)) ∙ there);
      ordered = order c name (BucketAdded t) sound.ordered tt;
      null = null_stays c name t sound.null;
      parts = λ bucket key id.
          subst (λ (found : Option (Upload B)). IsTrue (rises (numbers_of (parts_sent found)))) (sym (same bucket key id))
          (sound.parts bucket key id);
      filled = filled.1 c name (BucketAdded t) sound.filled;
    }
