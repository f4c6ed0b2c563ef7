-- Ids, each of which is given once.
use Rattle.std.proofs.Common.{◌≡◌, ◌≢◌, inl, inr, refl, sym, ap, subst, ◌∙◌, Bool, true, false, not, cond, ◌⊎◌, ℕ, ◌<◌, ◌≤◌, IsTrue, List, [], ◌∷◌, find, Option, Some, None, Err, is_some, IfSome, option_map, arith, nat_lt}
use Rattle.std.specs.Prelude.{◌==◌}
use Rattle.std.proofs.lemmas.Bool.{false≢true, and_parts, and_right, cond-false}
use Rattle.std.proofs.lemmas.Bool.Decides.{nat_tests}
use Rattle.std.proofs.lemmas.Cmp.{tied_itself}
use Rattle.std.proofs.lemmas.List.Elements.{All-head, All-tail}
use Rattle.std.proofs.lemmas.Option.{none-some, same_Some}
use Rattle.std.specs.Cmp.Lexicographic.{nat_list_cmp_total}
use Rattle.std.specs.FinMap.{get}
use Rattle.std.specs.List.{list_all}
use Rattle.std.specs.Ordering.{is_eq}
use Rattle.std.specs.declared.cmp.Ordering.TheVariants.{Less}
use Rattle.s3_text.specs.Order.{byte_order}
use Rattle.s3_text.proofs.MapLemmas.{same_or}
use Rattle.s3_terms.specs.declared.code.Code.TheVariants.{MethodNotAllowed}
use Rattle.s3_names.specs.declared.ids.VersionId.{VersionId}
use Rattle.s3_names.specs.declared.ids.VersionId.TheVariants.{Null, Numbered}
use Rattle.s3_versions.specs.declared.version.Version.{Version}
use Rattle.s3_versions.specs.declared.version.Versioning.{Versioning}
use Rattle.s3_versions.specs.declared.version.Versioning.TheVariants.{Unversioned, Enabled, Suspended}
use Rattle.s3_versions.specs.Rules.{pick, KeyChange, VersionPut, KeyDeleted, VersionDropped, is_under, new_id, is_new_number}
use Rattle.s3_versions.specs.Laws.{number_of, id_changed, version_made}
use Rattle.s3_uploads.specs.declared.part.Part.{Part}
use Rattle.s3_uploads.specs.declared.upload.Upload.{Upload}
use Rattle.s3_uploads.specs.Uploads.{with_part}
use Rattle.s3_deletions.specs.Deletions.{has_made, marker_made_as}
use Rattle.s3_records.specs.Catalogue.{Bucket, Catalogue, has_bucket, versions_of, versioning_of}
use Rattle.s3_records.specs.Changes.{Change, BucketAdded, BucketDropped, VersioningSet, KeyChanged, UploadAdded, PartPut, UploadDropped, UploadCompleted, change_in, changed}
use Rattle.s3_records.specs.Laws.{ChangesFollowRules, UploadsFollow}
use Rattle.s3_records.specs.OpenUploads.{upload_at}
use Rattle.s3_records.specs.Places.{version_at, SameVersions, SameUploads, OnePlaceChanges, ChangesAreByPlace, ChangesAreByUpload, OneUploadChanges, UploadsAfter, PlacesAfter, number_in, NumbersStayBelow}
use Rattle.s3_catalogue_laws.specs.Ids.{VersionsAreToldOnce, UploadsAreToldOnce, upload_id_in, begun_of, begun_at, OldIdsNameOneVersion, NewIdsNameNone, RunsStayBelow, OldIdsNameOneUpload, UploadsAreBelow, NewIdsNameNoUpload, UploadsStayBelow, ToldIdsAreOfMarkers}
use Rattle.s3_catalogue_laws.specs.ListPlaces.{IsOlder}
use Rattle.s3_catalogue_laws.specs.Markers.{after_deletion}
use Rattle.s3_catalogue_laws.specs.Runs.{NumberedChange, after_run}
use Rattle.s3_catalogue_laws.proofs.DeleteLemmas.{enabled_markers_are_undone, suspended_markers_are_undone}
use Rattle.s3_catalogue_laws.proofs.OrderlyLemmas.{changed_here}
use Rattle.s3_catalogue_laws.proofs.PlaceLemmas.{uploads_are_ordered}
use Rattle.s3_catalogue_laws.proofs.VersionOrderLemmas.{versions_are_ordered}

-- ---- in one list

pub not_before_itself : (key other : List ℕ) → other ≡ key → byte_order key other ≡ Less → ⊥
not_before_itself key other same less =
    false≢true (ap is_eq (sym less ∙ ap (byte_order key) same) ∙ ap is_eq (tied_itself nat_list_cmp_total key))

not_older_itself : {B : Type 0} (v : Option (Version B)) → IsOlder v v → ⊥
not_older_itself None older = older
not_older_itself (Some v) older = absurd (omega arith)

pub versions_are_told_once : {B : Type 0} → VersionsAreToldOnce B
versions_are_told_once c name front rest row next orderly is held key id =
    elim (versions_are_ordered c name front rest row next orderly is held) [
      | inl less ↦ not_before_itself row.key next.key key less
      | inr older ↦ not_older_itself (version_at c name row.key row.id) (subst (λ i. IsOlder (version_at c name row.key row.id) (version_at c name row.key i)) id older.1)
    ]

pub uploads_are_told_once : {B : Type 0} → UploadsFollow B → UploadsAreToldOnce B
uploads_are_told_once follow c name front rest row next is held key id =
    elim (uploads_are_ordered follow c name front rest row next is held) [
      | inl less ↦ not_before_itself row.key next.key key less
      | inr above ↦ let low : row.id < next.id = above.1 in absurd (omega (arith, low, id))
    ]

-- ---- versions over a run

-- what stands at a place now stood there, or nothing does
abbrev IsLeft : {X : Type 0} → Option X → Option X → Type 0
IsLeft before now = (now ≡ before) ⊎ (now ≡ None)

left_again : {X : Type 0} (first second third : Option X) → IsLeft first second → IsLeft second third → IsLeft first third
left_again first second third one two =
    elim two [
      | inl same ↦ elim one [
        | inl stays ↦ inl (same ∙ stays)
        | inr goes ↦ inr (same ∙ goes)
      ]
      | inr goes ↦ inr goes
    ]

abbrev value_of : VersionId → ℕ
value_of Null = 0
value_of (Numbered n) = n

abbrev is_numbered : VersionId → Bool
is_numbered Null = false
is_numbered (Numbered n) = true

other_new : (b : Versioning) (k n : ℕ) → n < k → Numbered n ≢ new_id b k
other_new Unversioned k n below is = false≢true (ap is_numbered (sym is))
other_new Enabled k n below is = let same : n ≡ k = ap value_of is in absurd (omega (arith, below, same))
other_new Suspended k n below is = false≢true (ap is_numbered (sym is))

same_or_other : (id : VersionId) (n : ℕ) → (Numbered n ≡ id) ⊎ (Numbered n ≢ id)
same_or_other Null n = inr (λ is. false≢true (ap is_numbered (sym is)))
same_or_other (Numbered k) n =
    elim (n == k) as (λ b. (n == k) ≡ b → (Numbered n ≡ Numbered k) ⊎ (Numbered n ≢ Numbered k)) [
      | true ↦ λ is. let same : n ≡ k = grind (arith, nat_tests) in inl (ap Numbered same)
      | false ↦ λ is. inr (λ same. let equal : n ≡ k = ap value_of same in grind (arith, nat_tests))
    ] refl

-- an id of an earlier entry, at the place of a change
left_here : {B : Type 0} (c d : Catalogue B) (name key : List ℕ) (b : Versioning) (what : KeyChange B) (m n : ℕ) → IfSome (number_of what) (λ k. k ≡ m) → n < m
    → OnePlaceChanges c d name key (id_changed b what) (version_made b what) → IsLeft (version_at c name key (Numbered n)) (version_at d name key (Numbered n))
left_here c d name key b (VersionPut k t stored) m n is below one =
    inl (one.other_ids (Numbered n) (other_new b k n (omega (arith, below, is))))
left_here c d name key b (KeyDeleted k t) m n is below one =
    inl (one.other_ids (Numbered n) (other_new b k n (omega (arith, below, is))))
left_here c d name key b (VersionDropped id) m n is below one =
    elim (same_or_other id n) [
      | inl same ↦ inr (ap (version_at d name key) same ∙ one.here)
      | inr apart ↦ inl (one.other_ids (Numbered n) apart)
    ]

left_by_place : {B : Type 0} (c d : Catalogue B) (bucket key : List ℕ) (b : Versioning) (what : KeyChange B) (m n : ℕ) (name k : List ℕ) → IfSome (number_of what) (λ i. i ≡ m) → n < m
    → OnePlaceChanges c d bucket key (id_changed b what) (version_made b what) → IsLeft (version_at c name k (Numbered n)) (version_at d name k (Numbered n))
left_by_place c d bucket key b what m n name k is below one =
    elim (same_or name bucket) [
      | inl here ↦ elim (same_or k key) [
        | inl same ↦
            subst (λ x. IsLeft (version_at c x k (Numbered n)) (version_at d x k (Numbered n))) (sym here)
            (subst (λ y. IsLeft (version_at c bucket y (Numbered n)) (version_at d bucket y (Numbered n))) (sym same)
            (left_here c d bucket key b what m n is below one))
        | inr apart ↦ inl (ap (find (is_under (Numbered n))) (one.other_keys name k (λ both. apart both.1)))
      ]
      | inr apart ↦ inl (ap (find (is_under (Numbered n))) (one.other_keys name k (λ both. apart both.0)))
    ]

left_same : {B : Type 0} (c d : Catalogue B) (name k : List ℕ) (n : ℕ) → SameVersions c d → IsLeft (version_at c name k (Numbered n)) (version_at d name k (Numbered n))
left_same c d name k n same = inl (ap (find (is_under (Numbered n))) (same name k))

left_after : {B : Type 0} (c d : Catalogue B) (bucket : List ℕ) (change : Change B) (m n : ℕ) (name k : List ℕ) → IfSome (number_in change) (λ i. i ≡ m) → n < m → PlacesAfter c bucket change d → IsLeft (version_at c name k (Numbered n)) (version_at d name k (Numbered n))
left_after c d bucket (BucketAdded t) m n name k is below same = left_same c d name k n same
left_after c d bucket BucketDropped m n name k is below same = left_same c d name k n same
left_after c d bucket (VersioningSet status) m n name k is below same = left_same c d name k n same
left_after c d bucket (KeyChanged key what) m n name k is below one = left_by_place c d bucket key (versioning_of c bucket) what m n name k is below one
left_after c d bucket (UploadAdded key id u) m n name k is below same = left_same c d name k n same
left_after c d bucket (PartPut key id i part) m n name k is below same = left_same c d name k n same
left_after c d bucket (UploadDropped key id) m n name k is below same = left_same c d name k n same
left_after c d bucket (UploadCompleted key id what) m n name k is below one = left_by_place c d bucket key (versioning_of c bucket) what m n name k is below one

far_above : (n m k : ℕ) → n < m → m ≤ k → n < k
far_above n m k below up = omega (arith, below, up)

pub old_ids_name_one_version : {B : Type 0} → ChangesAreByPlace B → OldIdsNameOneVersion B
old_ids_name_one_version law c m [] comes name key n below = inl refl
old_ids_name_one_version law c m (step ∷ run) (may, numbered, up, rest) name key n below =
    let d = changed c step.bucket step.change in
    left_again (version_at c name key (Numbered n)) (version_at d name key (Numbered n)) (version_at (after_run d run) name key (Numbered n))
    (left_after c d step.bucket step.change step.number n name key numbered.version (far_above n m step.number below up) (law c step.bucket step.change may))
    (old_ids_name_one_version law d step.number run rest name key n (far_above n m step.number below up))

-- ---- new ids

none_under : {B : Type 0} (m n : ℕ) (vs : List (Version B)) → is_new_number m vs ≡ true → m ≤ n → find (is_under (Numbered n)) vs ≡ None
unfolding is_new_number
none_under m n [] new up = refl
none_under m n (v ∷ vs) new up =
    let both = and_parts (nat_lt v.number m) (list_all (λ w. nat_lt w.number m) vs) new in
    let apart : (v.number == n) ≡ false = grind (arith, nat_tests) in
    cond-false _ _ _ (and_right (not v.is_null) (v.number == n) apart) ∙ none_under m n vs both.1 up

pub new_ids_name_none : {B : Type 0} → NewIdsNameNone B
new_ids_name_none c m n name key below up = none_under m n (versions_of c name key) (below name key) up

below_next : (n : Option ℕ) (i k : ℕ) → IfSome n (λ j. j ≡ i) → i < k → IfSome n (λ j. j < k)
below_next None i k is below = tt
below_next (Some j) i k is below = omega (arith, is, below)

abbrev IsBelow : {B : Type 0} → ℕ → NumberedChange B → Type 0
IsBelow k step = step.number < k

pub runs_stay_below : {B : Type 0} → NumbersStayBelow B → RunsStayBelow B
runs_stay_below stay c m k [] below comes above = below
runs_stay_below stay c m k (step ∷ run) below (may, numbered, up, rest) above =
    runs_stay_below stay (changed c step.bucket step.change) step.number k run
    (stay k c step.bucket step.change below
    (below_next (number_in step.change) step.number k numbered.version (All-head (IsBelow k) step run above)))
    rest (All-tail (IsBelow k) step run above)

-- ---- uploads over a run

-- an upload stands there now as it was begun, or none does
abbrev IsKept : {B : Type 0} → Catalogue B → Catalogue B → List ℕ → List ℕ → ℕ → Type 0
IsKept c d name key id = (begun_at d name key id ≡ begun_at c name key id) ⊎ (upload_at d name key id ≡ None)

none_begun : {B : Type 0} (found : Option (Upload B)) → option_map begun_of found ≡ None → found ≡ None
none_begun None is = refl
none_begun (Some u) is = absurd (none-some (begun_of u) (sym is))

kept_again : {B : Type 0} (c d e : Catalogue B) (name key : List ℕ) (id : ℕ) → IsKept c d name key id → IsKept d e name key id → IsKept c e name key id
kept_again c d e name key id one two =
    elim two [
      | inl same ↦ elim one [
        | inl stays ↦ inl (same ∙ stays)
        | inr goes ↦ inr (none_begun (upload_at e name key id) (same ∙ ap (option_map begun_of) goes))
      ]
      | inr goes ↦ inr goes
    ]

part_begun : {B : Type 0} (n : ℕ) (part : Part B) (found : Option (Upload B)) → option_map begun_of (option_map (with_part n part) found) ≡ option_map begun_of found
part_begun n part None = refl
part_begun n part (Some u) = refl

same_number_or : (i j : ℕ) → (i ≡ j) ⊎ (i ≢ j)
same_number_or i j =
    elim (i == j) as (λ b. (i == j) ≡ b → (i ≡ j) ⊎ (i ≢ j)) [
      | true ↦ λ is. inl (grind (arith, nat_tests))
      | false ↦ λ is. inr (λ same. grind (arith, nat_tests))
    ] refl

abbrev IsPlace : List ℕ → List ℕ → ℕ → List ℕ → List ℕ → ℕ → Type 0
IsPlace name k i bucket key id = (name ≡ bucket) × ((k ≡ key) × (i ≡ id))

same_place_or : (name k : List ℕ) (i : ℕ) (bucket key : List ℕ) (id : ℕ) → IsPlace name k i bucket key id ⊎ (¬ IsPlace name k i bucket key id)
same_place_or name k i bucket key id =
    elim (same_or name bucket) [
      | inr apart ↦ inr (λ all. apart all.0)
      | inl same ↦ elim (same_or k key) [
        | inr apart ↦ inr (λ all. apart all.1.0)
        | inl equal ↦ elim (same_number_or i id) [
          | inr apart ↦ inr (λ all. apart all.1.1)
          | inl is ↦ inl (same, (equal, is))
        ]
      ]
    ]

-- what holds of the upload that changes, and of each that stays, holds of all
kept_by_place : {B : Type 0} (c d : Catalogue B) (bucket key : List ℕ) (id : ℕ) (now : Option (Upload B)) (name k : List ℕ) (i : ℕ) → OneUploadChanges c d bucket key id now
    → (i ≡ id → IsKept c d bucket key id) → IsKept c d name k i
kept_by_place c d bucket key id now name k i one here =
    elim (same_place_or name k i bucket key id) [
      | inr apart ↦ inl (ap (option_map begun_of) (one.others name k i apart))
      | inl same ↦
          subst (λ x. IsKept c d x k i) (sym same.0)
          (subst (λ y. IsKept c d bucket y i) (sym same.1.0)
          (subst (λ j. IsKept c d bucket key j) (sym same.1.1) (here same.1.1)))
    ]

kept_same : {B : Type 0} (c d : Catalogue B) (name k : List ℕ) (i : ℕ) → SameUploads c d → IsKept c d name k i
kept_same c d name k i same = inl (ap (option_map begun_of) (same name k i))

kept_after : {B : Type 0} (c d : Catalogue B) (bucket : List ℕ) (change : Change B) (m i : ℕ) (name k : List ℕ) → IfSome (upload_id_in change) (λ id. id ≡ m) → i < m → UploadsAfter c bucket change d → IsKept c d name k i
kept_after c d bucket (BucketAdded t) m i name k is below same = kept_same c d name k i same
kept_after c d bucket BucketDropped m i name k is below same = kept_same c d name k i same
kept_after c d bucket (VersioningSet status) m i name k is below same = kept_same c d name k i same
kept_after c d bucket (KeyChanged key what) m i name k is below same = kept_same c d name k i same
kept_after c d bucket (UploadAdded key id u) m i name k is below one =
    kept_by_place c d bucket key id (Some u) name k i one (λ same. absurd (omega (arith, below, is, same)))
kept_after c d bucket (PartPut key id n part) m i name k is below one =
    kept_by_place c d bucket key id (option_map (with_part n part) (upload_at c bucket key id)) name k i one
    (λ same. inl (ap (option_map begun_of) one.here ∙ part_begun n part (upload_at c bucket key id)))
kept_after c d bucket (UploadDropped key id) m i name k is below one = kept_by_place c d bucket key id None name k i one (λ same. inr one.here)
kept_after c d bucket (UploadCompleted key id what) m i name k is below one = kept_by_place c d bucket key id None name k i one (λ same. inr one.here)

pub old_ids_name_one_upload : {B : Type 0} → ChangesAreByUpload B → OldIdsNameOneUpload B
old_ids_name_one_upload law c m [] comes name key id below = inl refl
old_ids_name_one_upload law c m (step ∷ run) (may, numbered, up, rest) name key id below =
    let d = changed c step.bucket step.change in
    kept_again c d (after_run d run) name key id
    (kept_after c d step.bucket step.change step.number id name key numbered.upload (far_above id m step.number below up) (law c step.bucket step.change may))
    (old_ids_name_one_upload law d step.number run rest name key id (far_above id m step.number below up))

-- ---- new ids of uploads

none_there : {X : Type 0} (found : Option X) → (is_some found ≡ true → ⊥) → found ≡ None
none_there None never = refl
none_there (Some x) never = absurd (never refl)

pub new_ids_name_no_upload : {B : Type 0} → NewIdsNameNoUpload B
new_ids_name_no_upload c m id name key below up =
    none_there (upload_at c name key id) (λ there. let low : id < m = below name key id there in absurd (omega (arith, low, up)))

below_same : {B : Type 0} (c d : Catalogue B) (k : ℕ) → UploadsAreBelow k c → SameUploads c d → UploadsAreBelow k d
below_same c d k below same name key id there = below name key id (ap is_some (sym (same name key id)) ∙ there)

-- the upload that changes is below, and so is each that stays
below_by_place : {B : Type 0} (c d : Catalogue B) (bucket key : List ℕ) (id : ℕ) (now : Option (Upload B)) (k : ℕ) → UploadsAreBelow k c → OneUploadChanges c d bucket key id now
    → (is_some now ≡ true → id < k) → UploadsAreBelow k d
below_by_place c d bucket key id now k below one here name y i there =
    elim (same_place_or name y i bucket key id) [
      | inr apart ↦ below name y i (ap is_some (sym (one.others name y i apart)) ∙ there)
      | inl same ↦
          let is : i ≡ id = same.1.1 in
          let low : id < k =
          here (ap is_some (sym one.here)
          ∙ ap (λ j. is_some (upload_at d bucket key j)) (sym is)
          ∙ ap (λ z. is_some (upload_at d bucket z i)) (sym same.1.0)
          ∙ ap (λ x. is_some (upload_at d x y i)) (sym same.0)
          ∙ there) in
          omega (arith, low, is)
    ]

there_before : {X : Type 0} (f : X → X) (found : Option X) → is_some (option_map f found) ≡ true → is_some found ≡ true
there_before f None there = there
there_before f (Some x) there = refl

below_after : {B : Type 0} (c d : Catalogue B) (bucket : List ℕ) (change : Change B) (k : ℕ) → UploadsAreBelow k c → IfSome (upload_id_in change) (λ id. id < k) → UploadsAfter c bucket change d → UploadsAreBelow k d
below_after c d bucket (BucketAdded t) k below new same = below_same c d k below same
below_after c d bucket BucketDropped k below new same = below_same c d k below same
below_after c d bucket (VersioningSet status) k below new same = below_same c d k below same
below_after c d bucket (KeyChanged key what) k below new same = below_same c d k below same
below_after c d bucket (UploadAdded key id u) k below new one = below_by_place c d bucket key id (Some u) k below one (λ there. new)
below_after c d bucket (PartPut key id n part) k below new one =
    below_by_place c d bucket key id (option_map (with_part n part) (upload_at c bucket key id)) k below one
    (λ there. below bucket key id (there_before (with_part n part) (upload_at c bucket key id) there))
below_after c d bucket (UploadDropped key id) k below new one = below_by_place c d bucket key id None k below one (λ there. absurd (false≢true there))
below_after c d bucket (UploadCompleted key id what) k below new one = below_by_place c d bucket key id None k below one (λ there. absurd (false≢true there))

pub uploads_stay_below : {B : Type 0} → ChangesAreByUpload B → UploadsStayBelow B
uploads_stay_below law c m k [] below comes above = below
uploads_stay_below law c m k (step ∷ run) below (may, numbered, up, rest) above =
    let d = changed c step.bucket step.change in
    uploads_stay_below law d step.number k run
    (below_after c d step.bucket step.change k below
    (below_next (upload_id_in step.change) step.number k numbered.upload (All-head (IsBelow k) step run above))
    (law c step.bucket step.change may))
    rest (All-tail (IsBelow k) step run above)

-- ---- ids that are told of delete markers

told_made : (acts : Bool) (made : Option VersionId) (id : VersionId) → cond acts made None ≡ Some id → made ≡ Some id
told_made true made id is = is
told_made false made id is = absurd (none-some id is)

abbrev IsRefused : {B : Type 0} → Catalogue B → List ℕ → List ℕ → ℕ → ℕ → VersionId → Type 0
IsRefused c name key n t id = pick (Some id) (versions_of (after_deletion c name key n t) name key) ≡ Err (record { code = MethodNotAllowed; is_delete_marker = true })

marker_by_rules : {B : Type 0} → ChangesFollowRules B → (c : Catalogue B) (name key : List ℕ) (n t : ℕ) (b : Versioning) (id : VersionId) → IsTrue (has_bucket c name) → IsTrue (is_new_number n (versions_of c name key)) → versioning_of c name ≡ b → marker_made_as b n ≡ Some id
    → IsRefused c name key n t id
marker_by_rules rules c name key n t Unversioned id there new is told = absurd (none-some id told)
marker_by_rules rules c name key n t Enabled id there new is told =
    subst (IsRefused c name key n t) (same_Some (Numbered n) id told) (enabled_markers_are_undone rules c name key n t there is new).by_id
marker_by_rules rules c name key n t Suspended id there new is told =
    subst (IsRefused c name key n t) (same_Some Null id told) (suspended_markers_are_undone rules c name key n t there is).by_id

still : {B : Type 0} (what : KeyChange B) (key : List ℕ) (found : Option (Bucket B)) → is_some found ≡ true → is_some (option_map (change_in key what) found) ≡ true
still what key None there = there
still what key (Some b) there = refl

there_after : {B : Type 0} (c : Catalogue B) (name key : List ℕ) (n t : ℕ) → IsTrue (has_bucket c name) → IsTrue (has_bucket (after_deletion c name key n t) name)
there_after c name key n t there = ap is_some (changed_here c name (KeyChanged key (KeyDeleted n t))) ∙ still (KeyDeleted n t) key (get c name) there

pub told_ids_are_of_markers : {B : Type 0} → ChangesAreByPlace B → ChangesFollowRules B → ToldIdsAreOfMarkers B
told_ids_are_of_markers places rules c name key n t id there new told = record {
  refused = marker_by_rules rules c name key n t (versioning_of c name) id there new refl (told_made (not (has_made n (versions_of c name key))) (marker_made_as (versioning_of c name) n) id told);
  goes = (places (after_deletion c name key n t) name (KeyChanged key (VersionDropped id)) (there_after c name key n t there)).here;
}
