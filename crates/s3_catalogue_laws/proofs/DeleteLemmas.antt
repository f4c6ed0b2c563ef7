-- What deletes leave, and how they are undone.
use Rattle.std.proofs.Common.{◌≡◌, refl, sym, ap, subst, ◌∙◌, true, cond, IsTrue, ℕ, List, [], ◌∷◌, find, Option, Some, None, Ok, Err, is_some}
use Rattle.std.proofs.lemmas.Option.{none-some, same_Some}
use Rattle.std.specs.FinMap.{get}
use Rattle.s3_terms.specs.declared.code.Code.TheVariants.{NoSuchKey, MethodNotAllowed}
use Rattle.s3_names.specs.declared.ids.VersionId.{VersionId}
use Rattle.s3_names.specs.declared.ids.VersionId.TheVariants.{Null, Numbered}
use Rattle.s3_versions.specs.declared.picking.Refusal.{Refusal}
use Rattle.s3_versions.specs.declared.version.Content.{Content}
use Rattle.s3_versions.specs.declared.version.Content.TheVariants.{DeleteMarker, Stored}
use Rattle.s3_versions.specs.declared.version.Data.{Data}
use Rattle.s3_versions.specs.declared.version.Version.{Version}
use Rattle.s3_versions.specs.declared.version.Versioning.{Versioning}
use Rattle.s3_versions.specs.declared.version.Versioning.TheVariants.{Enabled, Suspended}
use Rattle.s3_versions.specs.Rules.{id_of, is_under, current, stored_in, read_as, judged, pick, without, made, KeyDeleted, VersionDropped, after_change, are_versions}
use Rattle.s3_records.specs.Catalogue.{Bucket, Catalogue, has_bucket, versions_in, versions_of, versioning_of}
use Rattle.s3_records.specs.Changes.{KeyChanged}
use Rattle.s3_records.specs.Laws.{ChangesAreLocal, ChangesFollowRules, VersionsStayInOrder}
use Rattle.s3_catalogue_laws.specs.Orderly.{IsOrderly}
use Rattle.s3_catalogue_laws.specs.Markers.{after_deletion, EnabledMarkersAreUndone, SuspendedMarkersAreUndone, IsMarked}
use Rattle.s3_catalogue_laws.specs.Undeletions.{after_drop, DropsUncover, OtherDropsKeepCurrent, LastDropsEmpty}
use Rattle.s3_catalogue_laws.proofs.KeyRowLemmas.{row_has_versions}
use Rattle.s3_catalogue_laws.proofs.OrderlyLemmas.{changes_keep_order}
use Rattle.s3_catalogue_laws.proofs.VersionLemmas.{own_id, without_first, first_left, put_and_dropped, without_new, without_null}
use Rattle.s3_catalogue_laws.proofs.VersionRowLemmas.{row_found}

-- a bucket with a version is there
there_of : {B : Type 0} (found : Option (Bucket B)) (key : List ℕ) (v : Version B) (vs : List (Version B)) → versions_in found key ≡ v ∷ vs → is_some found ≡ true
there_of None key v vs is = cc
there_of (Some b) key v vs is = refl

-- the versions that are left where one is deleted by its id
dropped : {B : Type 0} → ChangesFollowRules B → (c : Catalogue B) (name key : List ℕ) (id : VersionId) (v : Version B) (vs : List (Version B)) → versions_of c name key ≡ v ∷ vs → versions_of (after_drop c name key id) name key ≡ without id (v ∷ vs)
dropped rules c name key id v vs is =
    rules c name key (VersionDropped id) (there_of (get c name) key v vs is) ∙ ap (without id) is

first_dropped : {B : Type 0} → ChangesFollowRules B → (c : Catalogue B) (name key : List ℕ) (v : Version B) (vs : List (Version B)) → IsOrderly c → versions_of c name key ≡ v ∷ vs → versions_of (after_drop c name key (id_of v)) name key ≡ vs
first_dropped rules c name key v vs orderly is =
    dropped rules c name key (id_of v) v vs is ∙ without_first v vs (sym (ap are_versions is) ∙ orderly.versions name key)

read_first : {B : Type 0} (refusal : Refusal) (w : Version B) (content : Content B) (kept : Data B) → stored_in content ≡ Some kept → read_as refusal w content ≡ Ok (w, kept)
read_first refusal w DeleteMarker kept is = absurd (none-some kept is)
read_first refusal w (Stored stays) kept is = ap (λ d. Ok (w, d)) (same_Some stays kept is)

read_marker : {B : Type 0} (refusal : Refusal) (w : Version B) (content : Content B) → stored_in content ≡ None → read_as refusal w content ≡ Err refusal
read_marker refusal w DeleteMarker is = refl
read_marker refusal w (Stored stays) is = absurd (none-some stays (sym is))

pub drops_uncover : {B : Type 0} → ChangesFollowRules B → DropsUncover B
drops_uncover rules c name key v w others orderly is =
    let left = first_dropped rules c name key v (w ∷ others) orderly is in
    record {
      versions = left;
      current = ap current left;
      read = λ kept stores. ap (pick None) left ∙ read_first (record { code = NoSuchKey; is_delete_marker = true }) w w.content kept stores;
      hidden = λ none. ap (pick None) left ∙ read_marker (record { code = NoSuchKey; is_delete_marker = true }) w w.content none;
    }

pub other_drops_keep_current : {B : Type 0} → ChangesFollowRules B → OtherDropsKeepCurrent B
other_drops_keep_current rules c name key id v others is apart = ap current (dropped rules c name key id v others is) ∙ first_left id v others apart

pub last_drops_empty : {B : Type 0} → ChangesFollowRules B → VersionsStayInOrder B → ChangesAreLocal B → LastDropsEmpty B
last_drops_empty rules stay local c name key v orderly is =
    let d = after_drop c name key (id_of v) in
    let left : versions_of d name key ≡ [] = first_dropped rules c name key v [] orderly is in
    let kept = changes_keep_order stay local c name (KeyChanged key (VersionDropped (id_of v))) orderly tt in
    record {
      versions = left;
      read = ap (pick None) left;
      keys = λ row held same. row_has_versions d name row kept held (ap (versions_of d name) same ∙ left);
      rows = λ row held same. row_found d name row kept held (ap (versions_of d name) same ∙ left);
    }

-- ---- delete markers

-- the versions after a delete without an id
deleted_by : {B : Type 0} → ChangesFollowRules B → (c : Catalogue B) (name key : List ℕ) (n t : ℕ) (b : Versioning) → IsTrue (has_bucket c name) → versioning_of c name ≡ b → versions_of (after_deletion c name key n t) name key ≡ after_change b (KeyDeleted n t) (versions_of c name key)
deleted_by rules c name key n t b there is =
    rules c name key (KeyDeleted n t) there ∙ ap (λ b. after_change b (KeyDeleted n t) (versions_of c name key)) is

-- a delete marker in front of some versions
by_its_id : {B : Type 0} (id : VersionId) (b : Versioning) (n t : ℕ) (vs : List (Version B)) → is_under id (made {B = B} b n t DeleteMarker) ≡ true → pick (Some id) (made b n t DeleteMarker ∷ vs) ≡ Err (record { code = MethodNotAllowed; is_delete_marker = true })
by_its_id id b n t vs under = ap (λ same. judged (Some id) (cond same (Some (made b n t DeleteMarker)) (find (is_under id) vs))) under

marked : {B : Type 0} → ChangesFollowRules B → (d : Catalogue B) (name key : List ℕ) (id : VersionId) (b : Versioning) (n t : ℕ) (vs : List (Version B)) → is_under id (made {B = B} b n t DeleteMarker) ≡ true
    → versions_of d name key ≡ made b n t DeleteMarker ∷ without id vs → IsMarked d name key id (without id vs)
marked rules d name key id b n t vs under is = record {
  hidden = ap (pick None) is;
  by_id = ap (pick (Some id)) is ∙ by_its_id id b n t (without id vs) under;
  undone = dropped rules d name key id (made b n t DeleteMarker) (without id vs) is ∙ put_and_dropped id (made b n t DeleteMarker) vs under;
}

pub enabled_markers_are_undone : {B : Type 0} → ChangesFollowRules B → EnabledMarkersAreUndone B
enabled_markers_are_undone {B} rules c name key n t there enabled new =
    let vs = versions_of c name key in
    subst (IsMarked (after_deletion c name key n t) name key (Numbered n)) (without_new n vs new)
    (marked rules (after_deletion c name key n t) name key (Numbered n) Enabled n t vs (own_id (made {B = B} Enabled n t DeleteMarker)) (deleted_by rules c name key n t Enabled there enabled))

pub suspended_markers_are_undone : {B : Type 0} → ChangesFollowRules B → SuspendedMarkersAreUndone B
suspended_markers_are_undone rules c name key n t there suspended =
    let vs = versions_of c name key in
    subst (IsMarked (after_deletion c name key n t) name key Null) (without_null vs)
    (marked rules (after_deletion c name key n t) name key Null Suspended n t vs refl (deleted_by rules c name key n t Suspended there suspended))
