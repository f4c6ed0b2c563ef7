-- What stays of a bucket over a run of changes.
use Rattle.std.proofs.Common.{◌≡◌, inl, inr, refl, sym, ap, ◌∙◌, false, ℕ, List, [], ◌∷◌, Option, Some, None, is_some}
use Rattle.std.proofs.lemmas.Bool.{false≢true, false_from_ne_true}
use Rattle.std.proofs.lemmas.Option.{none-some}
use Rattle.std.proofs.lemmas.List.Elements.{All-head, All-tail}
use Rattle.std.specs.FinMap.{get}
use Rattle.std.specs.List.{All}
use Rattle.s3_text.proofs.MapLemmas.{same_or}
use Rattle.s3_records.specs.Catalogue.{Bucket, Catalogue, versioning_in, is_empty_bucket}
use Rattle.s3_records.specs.Changes.{Change, BucketAdded, BucketDropped, VersioningSet, KeyChanged, UploadAdded, PartPut, UploadDropped, UploadCompleted, bucket_after, changed}
use Rattle.s3_records.specs.Laws.{ChangesAreLocal, EmptyHasNothing}
use Rattle.s3_catalogue_laws.specs.Runs.{NumberedChange, after_run, makes_or_drops, sets_versioning, LeavesBucket, LeavesVersioning, MadeBucketsStay, DroppedBucketsStayGone, SetVersioningStays, FilledBucketsAreKept}
use Rattle.s3_catalogue_laws.proofs.BucketLemmas.{made_in, some_made, there_is_listed, listed_is_there, switched}
use Rattle.s3_catalogue_laws.proofs.OrderlyLemmas.{changed_here}

-- ---- when a bucket was made

made_after : {B : Type 0} (change : Change B) (found : Option (Bucket B)) → makes_or_drops change ≡ false → made_in (bucket_after change found) ≡ made_in found
made_after (BucketAdded t) found leaves = absurd (false≢true (sym leaves))
made_after BucketDropped found leaves = absurd (false≢true (sym leaves))
made_after (VersioningSet status) None leaves = refl
made_after (VersioningSet status) (Some b) leaves = refl
made_after (KeyChanged key what) None leaves = refl
made_after (KeyChanged key what) (Some b) leaves = refl
made_after (UploadAdded key id u) None leaves = refl
made_after (UploadAdded key id u) (Some b) leaves = refl
made_after (PartPut key id n part) None leaves = refl
made_after (PartPut key id n part) (Some b) leaves = refl
made_after (UploadDropped key id) None leaves = refl
made_after (UploadDropped key id) (Some b) leaves = refl
made_after (UploadCompleted key id what) None leaves = refl
made_after (UploadCompleted key id what) (Some b) leaves = refl

versioning_after : {B : Type 0} (change : Change B) (found : Option (Bucket B)) → makes_or_drops change ≡ false → sets_versioning change ≡ false → versioning_in (bucket_after change found) ≡ versioning_in found
versioning_after (BucketAdded t) found leaves stays = absurd (false≢true (sym leaves))
versioning_after BucketDropped found leaves stays = absurd (false≢true (sym leaves))
versioning_after (VersioningSet status) found leaves stays = absurd (false≢true (sym stays))
versioning_after (KeyChanged key what) None leaves stays = refl
versioning_after (KeyChanged key what) (Some b) leaves stays = refl
versioning_after (UploadAdded key id u) None leaves stays = refl
versioning_after (UploadAdded key id u) (Some b) leaves stays = refl
versioning_after (PartPut key id n part) None leaves stays = refl
versioning_after (PartPut key id n part) (Some b) leaves stays = refl
versioning_after (UploadDropped key id) None leaves stays = refl
versioning_after (UploadDropped key id) (Some b) leaves stays = refl
versioning_after (UploadCompleted key id what) None leaves stays = refl
versioning_after (UploadCompleted key id what) (Some b) leaves stays = refl

-- ---- over one change, and over a run

module _ {B : Type 0} (local : ChangesAreLocal B) {X : Type 0} (told : Option (Bucket B) → X) (Stays : Change B → Type 0) (same : (change : Change B) (found : Option (Bucket B)) → Stays change → told (bucket_after change found) ≡ told found) where
  told_after_one : (c : Catalogue B) (name : List ℕ) (step : NumberedChange B) → (step.bucket ≡ name → Stays step.change) → told (get (changed c step.bucket step.change) name) ≡ told (get c name)
  told_after_one c name step leaves =
      elim (same_or step.bucket name) [
        | inl here ↦
            ap (λ k. told (get (changed c step.bucket step.change) k)) (sym here)
            ∙ ap told (changed_here c step.bucket step.change)
            ∙ same step.change (get c step.bucket) (leaves here)
            ∙ ap (λ k. told (get c k)) here
        | inr apart ↦ ap told (local c step.bucket step.change name (λ is. apart (sym is)))
      ]

  abbrev Leaves : List ℕ → NumberedChange B → Type 0
  Leaves name step = step.bucket ≡ name → Stays step.change

  told_after_run : (c : Catalogue B) (name : List ℕ) (run : List (NumberedChange B)) → All (Leaves name) run → told (get (after_run c run) name) ≡ told (get c name)
  told_after_run c name [] all = refl
  told_after_run c name (step ∷ run) all =
      told_after_run (changed c step.bucket step.change) name run (All-tail (Leaves name) step run all)
      ∙ told_after_one c name step (All-head (Leaves name) step run all)

-- so it is made when it was
made_after_run : {B : Type 0} → ChangesAreLocal B → (c : Catalogue B) (name : List ℕ) (run : List (NumberedChange B)) → LeavesBucket name run → made_in (get (after_run c run) name) ≡ made_in (get c name)
made_after_run {B} local c name run leaves = told_after_run local made_in (λ (change : Change B). makes_or_drops change ≡ false) made_after c name run leaves

abbrev LeavesBoth : {B : Type 0} → Change B → Type 0
LeavesBoth change = (makes_or_drops change ≡ false) × (sets_versioning change ≡ false)

versioning_after_run : {B : Type 0} → ChangesAreLocal B → (c : Catalogue B) (name : List ℕ) (run : List (NumberedChange B)) → LeavesBucket name run → LeavesVersioning name run → versioning_in (get (after_run c run) name) ≡ versioning_in (get c name)
versioning_after_run {B} local c name run leaves stays =
    told_after_run local versioning_in (λ (change : Change B). LeavesBoth change) (λ change found both. versioning_after change found both.0 both.1) c name run
    (λ k d within here. (leaves k d within here, stays k d within here))

pub made_buckets_stay : {B : Type 0} → ChangesAreLocal B → MadeBucketsStay B
made_buckets_stay local c name t run leaves =
    let d = after_run (changed c name (BucketAdded t)) run in
    let made = made_after_run local (changed c name (BucketAdded t)) name run leaves ∙ ap made_in (changed_here c name (BucketAdded t)) in
    record { there = some_made (get d name) t made; listed = there_is_listed d name t made }

no_moment : {B : Type 0} (found : Option (Bucket B)) → made_in found ≡ None → is_some found ≡ false
no_moment None none = refl
no_moment (Some b) none = absurd (none-some b.made (sym none))

pub dropped_buckets_stay_gone : {B : Type 0} → ChangesAreLocal B → DroppedBucketsStayGone B
dropped_buckets_stay_gone local c name run leaves =
    let d = after_run (changed c name BucketDropped) run in
    let gone : made_in (get d name) ≡ None = made_after_run local (changed c name BucketDropped) name run leaves ∙ ap made_in (changed_here c name BucketDropped) in
    record {
      there = no_moment (get d name) gone;
      listed = λ t listed. none-some t (sym gone ∙ listed_is_there d name t listed);
    }

pub set_versioning_stays : {B : Type 0} → ChangesAreLocal B → SetVersioningStays B
set_versioning_stays local c name status run there leaves stays =
    versioning_after_run local (changed c name (VersioningSet status)) name run leaves stays
    ∙ ap versioning_in (changed_here c name (VersioningSet status))
    ∙ switched status (get c name) there

pub filled_buckets_are_kept : {B : Type 0} → EmptyHasNothing B → FilledBucketsAreKept B
filled_buckets_are_kept nothing c name = record {
  versions = λ key some. false_from_ne_true (is_empty_bucket c name) (λ empty. some ((nothing c name empty).no_versions key));
  uploads = λ key id some. false_from_ne_true (is_empty_bucket c name) (λ empty. some ((nothing c name empty).no_uploads key id));
}
