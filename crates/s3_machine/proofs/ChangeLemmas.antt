-- What holds of the states that changes lead to: numbers stay above those of all versions, and where versioning was never set all
-- versions are `null`.
use Rattle.std.proofs.Common.{◌≡◌, ◌≢◌, refl, sym, ap, subst, ◌∙◌, arith, true, false, not, cond, ℕ, ◌+◌, ◌<◌, IsTrue, inl, inr, List, [], ◌∷◌, filter, Option, Some, None, IfSome, option_map}
use Rattle.std.proofs.lemmas.Bool.{false_from_ne_true}
use Rattle.std.specs.Cmp.{eq_by_cmp_equiv}
use Rattle.std.specs.Cmp.Lexicographic.{nat_list_cmp_total}
use Rattle.std.specs.FinMap as map
use Rattle.std.specs.FinMap.{get-remove, get-empty}
use Rattle.std.specs.Ordering.{eq_by_cmp}
use Rattle.s3_text.specs.Order.{byte_order}
use Rattle.s3_text.proofs.MapLemmas.{get-put, tied_equal, same_or}
use Rattle.s3_names.specs.declared.ids.VersionId.{VersionId}
use Rattle.s3_names.specs.declared.ids.VersionId.TheVariants.{Null}
use Rattle.s3_versions.specs.declared.version.Version.{Version}
use Rattle.s3_versions.specs.declared.version.Versioning.{Versioning}
use Rattle.s3_versions.specs.declared.version.Versioning.TheVariants.{Unversioned}
use Rattle.s3_versions.specs.declared.version.VersioningStatus.{VersioningStatus}
use Rattle.s3_versions.specs.declared.version.VersioningStatus.TheVariants as status
use Rattle.s3_versions.specs.Laws.{number_of}
use Rattle.s3_versions.specs.Rules.{is_new_number, is_under, without, KeyChange, VersionPut, KeyDeleted, VersionDropped, after_change}
use Rattle.s3_uploads.specs.Uploads.{with_part}
use Rattle.s3_uploads.specs.declared.upload.Upload.{Upload}
use Rattle.s3_records.specs.Catalogue.{Keys, Bucket, opening, found_versions, versions_at, versions_in, versions_of, versioning_in}
use Rattle.s3_records.specs.Changes.{Change, BucketAdded, BucketDropped, VersioningSet, KeyChanged, UploadAdded, PartPut, UploadDropped, UploadCompleted, with_versions, set_in, change_in, upload_change_in, bucket_after, with_bucket, changed}
use Rattle.s3_records.specs.Laws.{AreCatalogued, IsNew, VersionsStayInOrder, OpeningIsEmpty}
use Rattle.s3_records.specs.Places.{number_in, AreBelow, NumbersStayBelow}
use Rattle.s3_machine.specs.Step.{State}

-- a state that comes of another by changes of an entry of this number, each new to its key where the number is above all before
pub data Comes (n : ℕ) (s : State) : State → Type 0 where
  Stays : Comes n s s
  Then : {c : State} → Comes n s c → (name : List ℕ) → (change : Change (List ℕ)) → IfSome (number_in change) (λ m. m ≡ n)
      → (AreBelow n s → AreBelow (n + 1) c → IsNew c name change) → Comes n s (changed c name change)

-- the first of them is new so
number_new : (n : ℕ) (vs : List (Version (List ℕ))) (number : Option ℕ) → IfSome number (λ m. m ≡ n) → IsTrue (is_new_number n vs)
    → IfSome number (λ m. IsTrue (is_new_number m vs))
number_new n vs None same new = tt
number_new n vs (Some m) same new = subst (λ (k : ℕ). IsTrue (is_new_number k vs)) (sym same) new

first_new : (n : ℕ) (s : State) (name : List ℕ) (change : Change (List ℕ)) → IfSome (number_in change) (λ m. m ≡ n) → AreBelow n s → IsNew s name change
first_new n s name (KeyChanged key what) same below = number_new n (versions_of s name key) (number_of what) same (below name key)
first_new n s name (UploadCompleted key id what) same below = number_new n (versions_of s name key) (number_of what) same (below name key)
first_new n s name (BucketAdded t) same below = tt
first_new n s name BucketDropped same below = tt
first_new n s name (VersioningSet to) same below = tt
first_new n s name (UploadAdded key id u) same below = tt
first_new n s name (PartPut key id number part) same below = tt
first_new n s name (UploadDropped key id) same below = tt

-- a state that comes of another by one change
pub one_change : (n : ℕ) (s : State) (name : List ℕ) (change : Change (List ℕ)) → IfSome (number_in change) (λ m. m ≡ n) → Comes n s (changed s name change)
one_change n s name change same = Then Stays name change same (λ below next. first_new n s name change same below)

-- ---- numbers

number_below : (n : ℕ) (number : Option ℕ) → IfSome number (λ m. m ≡ n) → IfSome number (λ m. m < n + 1)
number_below n None same = tt
number_below n (Some m) same = omega arith

pub comes_below : NumbersStayBelow (List ℕ) → (n : ℕ) (s c : State) → Comes n s c → AreBelow (n + 1) s → AreBelow (n + 1) c
comes_below stay n s _ Stays below = below
comes_below stay n s _ (Then {c} before name change numbered new) below =
    stay (n + 1) c name change (comes_below stay n s c before below) (number_below n (number_in change) numbered)

-- under each key stay versions of one key, in their order
pub comes_ordered : VersionsStayInOrder (List ℕ) → NumbersStayBelow (List ℕ) → (n : ℕ) (s c : State) → Comes n s c → AreBelow n s → AreBelow (n + 1) s
    → AreCatalogued s → AreCatalogued c
comes_ordered order stay n s _ Stays below next ordered = ordered
comes_ordered order stay n s _ (Then {c} before name change numbered new) below next ordered =
    order c name change (comes_ordered order stay n s c before below next ordered) (new below (comes_below stay n s c before next))

-- ---- maps by keys of bytes

not_tied : (q k : List ℕ) → q ≢ k → eq_by_cmp byte_order q k ≡ false
not_tied q k differ = false_from_ne_true (eq_by_cmp byte_order q k) (λ tied. differ (tied_equal q k tied))

tied : (k : List ℕ) → eq_by_cmp byte_order k k ≡ true
tied k = (eq_by_cmp_equiv nat_list_cmp_total).refl k

put_here : {X : Type 0} (m : map.FinMap byte_order X) (k : List ℕ) (v : X) → map.get (map.insert m k v) k ≡ Some v
put_here m k v = get-put m k v k ∙ ap (λ b. cond b (Some v) (map.get m k)) (tied k)

put_other : {X : Type 0} (m : map.FinMap byte_order X) (k : List ℕ) (v : X) (q : List ℕ) → q ≢ k → map.get (map.insert m k v) q ≡ map.get m q
put_other m k v q differ = get-put m k v q ∙ ap (λ b. cond b (Some v) (map.get m q)) (not_tied q k differ)

removed_here : {X : Type 0} (m : map.FinMap byte_order X) (k : List ℕ) → map.get (map.remove m k) k ≡ None
removed_here m k = get-remove nat_list_cmp_total m k k ∙ ap (λ b. cond b None (map.get m k)) (tied k)

removed_other : {X : Type 0} (m : map.FinMap byte_order X) (k q : List ℕ) → q ≢ k → map.get (map.remove m k) q ≡ map.get m q
removed_other m k q differ = get-remove nat_list_cmp_total m k q ∙ ap (λ b. cond b None (map.get m q)) (not_tied q k differ)

-- ---- versions without an id

-- no version is left but those named `null`
abbrev pub AllNull : List (Version (List ℕ)) → Type 0
AllNull vs = without Null vs ≡ []

-- what is taken out of some versions leaves no more of them than before
fewer_null : (id : VersionId) (vs : List (Version (List ℕ))) → AllNull vs → AllNull (without id vs)
unfolding without
fewer_null id [] all = refl
fewer_null id (v ∷ vs) all =
    elim (is_under Null v) as (λ b. cond (not b) (v ∷ filter (λ (w : Version (List ℕ)). not (is_under Null w)) vs) (filter (λ (w : Version (List ℕ)). not (is_under Null w)) vs) ≡ []
    → is_under Null v ≡ b → AllNull (without id (v ∷ vs))) [
      | true ↦ λ rest is.
          elim (is_under id v) as (λ b. AllNull (cond (not b) (v ∷ without id vs) (without id vs))) [
            | true ↦ fewer_null id vs rest
            | false ↦ ap (λ b. cond (not b) (v ∷ without Null (without id vs)) (without Null (without id vs))) is ∙ fewer_null id vs rest
          ]
      | false ↦ λ rest is. absurd (cc)
    ] all refl

changed_null : (what : KeyChange (List ℕ)) (vs : List (Version (List ℕ))) → AllNull vs → AllNull (after_change Unversioned what vs)
unfolding without
changed_null (VersionPut n t d) vs all = fewer_null Null vs all
changed_null (KeyDeleted n t) vs all = fewer_null Null vs all
changed_null (VersionDropped id) vs all = fewer_null id vs all

-- ---- buckets

-- where versioning was never set all versions are `null`
abbrev NullIn : Option (Bucket (List ℕ)) → Type 0
NullIn found = versioning_in found ≡ Unversioned → (key : List ℕ) → AllNull (versions_in found key)

abbrev pub AreNull : State → Type 0
AreNull s = (name : List ℕ) → NullIn (map.get s name)

-- the versions under a key where they changed, and under another
placed_here : (keys : Keys (List ℕ)) (key : List ℕ) (vs : List (Version (List ℕ))) → versions_at (with_versions keys key vs) key ≡ vs
placed_here keys key [] = ap found_versions (removed_here keys key)
placed_here keys key (v ∷ vs) = ap found_versions (put_here keys key (v ∷ vs))

placed_other : (keys : Keys (List ℕ)) (key : List ℕ) (vs : List (Version (List ℕ))) (other : List ℕ) → other ≢ key
    → versions_at (with_versions keys key vs) other ≡ versions_at keys other
placed_other keys key [] other differ = ap found_versions (removed_other keys key other differ)
placed_other keys key (v ∷ vs) other differ = ap found_versions (put_other keys key (v ∷ vs) other differ)

null_with : (keys : Keys (List ℕ)) (key : List ℕ) (what : KeyChange (List ℕ)) (b : Versioning) → b ≡ Unversioned
    → ((k : List ℕ) → AllNull (versions_at keys k)) → (k : List ℕ) → AllNull (versions_at (with_versions keys key (after_change b what (versions_at keys key))) k)
null_with keys key what b is all k =
    elim (same_or k key) [
      | inl same ↦
          subst (λ (q : List ℕ). AllNull (versions_at (with_versions keys key (after_change b what (versions_at keys key))) q)) (sym same)
          (subst AllNull (sym (placed_here keys key (after_change b what (versions_at keys key))))
          (subst (λ (x : Versioning). AllNull (after_change x what (versions_at keys key))) (sym is) (changed_null what (versions_at keys key) (all key))))
      | inr other ↦ subst AllNull (sym (placed_other keys key (after_change b what (versions_at keys key)) k other)) (all k)
    ]

null_changed : (key : List ℕ) (what : KeyChange (List ℕ)) (found : Option (Bucket (List ℕ))) → NullIn found → NullIn (option_map (change_in key what) found)
null_changed key what None nulls is = nulls is
null_changed key what (Some b) nulls is = null_with b.keys key what b.versioning is (nulls is)

null_uploads : (key : List ℕ) (id : ℕ) (next : Option (Upload (List ℕ)) → Option (Upload (List ℕ))) (found : Option (Bucket (List ℕ))) → NullIn found
    → NullIn (option_map (upload_change_in key id next) found)
null_uploads key id next None nulls is = nulls is
null_uploads key id next (Some b) nulls is = nulls is

null_set : (to : VersioningStatus) (found : Option (Bucket (List ℕ))) → NullIn found → NullIn (option_map (set_in to) found)
null_set to None nulls is = nulls is
null_set status.Enabled (Some b) nulls is = absurd (cc)
null_set status.Suspended (Some b) nulls is = absurd (cc)

-- nothing is in no versions
pub none_null : AllNull []
unfolding without
none_null = refl

null_after : (change : Change (List ℕ)) (found : Option (Bucket (List ℕ))) → NullIn found → NullIn (bucket_after change found)
null_after (BucketAdded t) found nulls = λ is key. subst AllNull (sym (ap found_versions (get-empty byte_order key))) none_null
null_after BucketDropped found nulls = λ is key. none_null
null_after (VersioningSet to) found nulls = null_set to found nulls
null_after (KeyChanged key what) found nulls = null_changed key what found nulls
null_after (UploadAdded key id u) found nulls = null_uploads key id (λ old. Some u) found nulls
null_after (PartPut key id number part) found nulls = null_uploads key id (option_map (with_part number part)) found nulls
null_after (UploadDropped key id) found nulls = null_uploads key id (λ old. None) found nulls
null_after (UploadCompleted key id what) found nulls =
    null_uploads key id (λ old. None) (option_map (change_in key what) found) (null_changed key what found nulls)

-- ---- catalogues

pub bucket_here : (c : State) (name : List ℕ) (found : Option (Bucket (List ℕ))) → map.get (with_bucket c name found) name ≡ found
bucket_here c name None = removed_here c name
bucket_here c name (Some b) = put_here c name b

pub bucket_other : (c : State) (name : List ℕ) (found : Option (Bucket (List ℕ))) (other : List ℕ) → other ≢ name
    → map.get (with_bucket c name found) other ≡ map.get c other
bucket_other c name None other differ = removed_other c name other differ
bucket_other c name (Some b) other differ = put_other c name b other differ

stay_null : (c : State) (name : List ℕ) (change : Change (List ℕ)) → AreNull c → AreNull (changed c name change)
stay_null c name change nulls other =
    let after = bucket_after change (map.get c name) in
    elim (same_or other name) [
      | inl same ↦
          subst (λ (q : List ℕ). NullIn (map.get (with_bucket c name after) q)) (sym same)
          (subst NullIn (sym (bucket_here c name after)) (null_after change (map.get c name) (nulls name)))
      | inr differ ↦ subst NullIn (sym (bucket_other c name after other differ)) (nulls other)
    ]

pub comes_null : (n : ℕ) (s c : State) → Comes n s c → AreNull s → AreNull c
comes_null n s _ Stays nulls = nulls
comes_null n s _ (Then {c} before name change numbered new) nulls = stay_null c name change (comes_null n s c before nulls)

-- at the opening nothing stands
pub opening_null : OpeningIsEmpty (List ℕ) → (names : List (List ℕ)) → AreNull (opening names)
opening_null empty names name is key = subst AllNull (sym ((empty names name).empty key)) none_null
