-- The list of all buckets, and what is told of one.
use Rattle.std.proofs.Common.{◌≡◌, refl, sym, ap, subst, ◌∙◌, true, false, cond, ◌&&◌, T, ℕ, List, [], ◌∷◌, map, Contains, Option, Some, None, is_some, option_map, ◌==◌}
use Rattle.std.proofs.lemmas.Bool.{false≢true, and_from}
use Rattle.std.proofs.lemmas.Option.{none-some, same_Some}
use Rattle.std.specs.Cmp.{eq_by_cmp_equiv}
use Rattle.std.specs.Cmp.Lexicographic.{nat_list_cmp_total}
use Rattle.std.specs.FinMap.{get, get-empty, len-empty, entries, entries_sorted}
use Rattle.std.specs.FinMap.Entries.{is_sorted, below_all}
use Rattle.std.specs.Ordering.{is_lt, eq_by_cmp}
use Rattle.s3_text.specs.Order.{byte_order, rises}
use Rattle.s3_text.proofs.MapLemmas.{get-put, tied_equal}
use Rattle.s3_versions.specs.declared.version.Version.{Version}
use Rattle.s3_versions.specs.declared.version.VersioningStatus.{VersioningStatus}
use Rattle.s3_versions.specs.declared.version.VersioningStatus.TheVariants as status
use Rattle.s3_versions.specs.Rules.{versioning_set}
use Rattle.s3_records.specs.Catalogue.{KeyUploads, Bucket, Catalogue, opening, new_bucket, facts_of, listed_bucket, versions_in, found_versions, versioning_in, is_empty_in}
use Rattle.s3_records.specs.Changes.{Change, BucketAdded, BucketDropped, VersioningSet, KeyChanged, UploadAdded, PartPut, UploadDropped, UploadCompleted, set_in, bucket_after, changed}
use Rattle.s3_records.specs.declared.records.BucketFacts.{BucketFacts}
use Rattle.s3_records.specs.Laws.{ChangesAreLocal}
use Rattle.s3_catalogue_laws.specs.Buckets.{IsListed, BucketsAreListed, ListedBucketsAreThere, NamesRise, OpeningIsListed, MadeBucketsAreNew, DroppedBucketsAreGone, OtherBucketsStay, facts_after, ChangesAreTold, SwitchesAreTold, VersioningIsTold}
use Rattle.s3_catalogue_laws.proofs.EntryLemmas.{nothing_held, held_first, held_later, held_among, map_holds, map_held, got_held, held_got, is_true, first_of, second_of}
use Rattle.s3_catalogue_laws.proofs.OrderlyLemmas.{changed_here}

-- when a bucket was made, that is there or not
abbrev pub made_in : {B : Type 0} → Option (Bucket B) → Option ℕ
made_in found = option_map (λ (facts : BucketFacts). facts.made) (option_map facts_of found)

pub listed_is_there : {B : Type 0} (c : Catalogue B) (name : List ℕ) (t : ℕ) → IsListed c name t → made_in (get c name) ≡ Some t
listed_is_there c name t listed =
    let one = map_held listed_bucket (entries c) (record { name = name; made = t }) listed in
    let got : get c one.0.0 ≡ Some one.0.1 = held_got c one.0.0 one.0.1 one.1 in
    ap (λ r. made_in (get c r.name)) (sym one.2) ∙ ap made_in got ∙ ap (λ r. Some r.made) one.2

pub there_is_listed : {B : Type 0} (c : Catalogue B) (name : List ℕ) (t : ℕ) → made_in (get c name) ≡ Some t → IsListed c name t
there_is_listed c name t there =
    elim (get c name) as (λ found. get c name ≡ found → made_in found ≡ Some t → IsListed c name t) [
      | None ↦ λ none is. absurd (none-some t is)
      | Some b ↦ λ got is.
          subst (λ made. Contains (map listed_bucket (entries c)) (record { name = name; made = made })) (same_Some b.made t is)
          (map_holds listed_bucket (entries c) (name, b) (got_held c name b got))
    ] refl there

pub buckets_are_listed : {B : Type 0} → BucketsAreListed B
buckets_are_listed c name t = (listed_is_there c name t, there_is_listed c name t)

-- a bucket that is there was made at a moment
made_some : {B : Type 0} (found : Option (Bucket B)) → is_some found ≡ true → (t : ℕ) × (made_in found ≡ Some t)
made_some None there = absurd (false≢true there)
made_some (Some b) there = (b.made, refl)

pub some_made : {B : Type 0} (found : Option (Bucket B)) (t : ℕ) → made_in found ≡ Some t → is_some found ≡ true
some_made None t is = absurd (none-some t is)
some_made (Some b) t is = refl

pub listed_buckets_are_there : {B : Type 0} → ListedBucketsAreThere B
listed_buckets_are_there c name = (
  λ there. let made = made_some (get c name) there in (made.0, there_is_listed c name made.0 made.1),
  λ listed. some_made (get c name) listed.0 (listed_is_there c name listed.0 listed.1),
)

names_of_sorted : {B : Type 0} (es : List (List ℕ × Bucket B)) → T (is_sorted byte_order es) → rises (map (λ row. row.name) (map listed_bucket es)) ≡ true
names_of_sorted [] sorted = refl
names_of_sorted (e ∷ []) sorted = refl
names_of_sorted (e ∷ f ∷ es) sorted =
    let below = is_true (is_lt (byte_order e.0 f.0)) (first_of _ (below_all byte_order e.0 es) (first_of (below_all byte_order e.0 (f ∷ es)) _ sorted)) in
    ap (λ b. b && rises (map (λ row. row.name) (map listed_bucket (f ∷ es)))) below
    ∙ names_of_sorted (f ∷ es) (second_of (below_all byte_order e.0 (f ∷ es)) _ sorted)

pub names_rise : {B : Type 0} → NamesRise B
names_rise c = names_of_sorted (entries c) (entries_sorted c)

told_versioning : {B : Type 0} (found : Option (Bucket B)) (facts : BucketFacts) → option_map facts_of found ≡ Some facts → versioning_in found ≡ facts.versioning
told_versioning None facts is = absurd (none-some facts is)
told_versioning (Some b) facts is = ap (λ told. told.versioning) (same_Some (facts_of b) facts is)

pub versioning_is_told : {B : Type 0} → VersioningIsTold B
versioning_is_told c name facts is = told_versioning (get c name) facts is

-- ---- at the opening

opening_made : (B : Type 0) (names : List (List ℕ)) (name : List ℕ) (t : ℕ) → made_in (get (opening {B = B} names) name) ≡ Some t → Contains names name × (t ≡ 0)
opening_made B [] name t is = absurd (none-some t (sym (ap made_in (get-empty byte_order name)) ∙ is))
opening_made B (first ∷ names) name t is =
    elim (eq_by_cmp byte_order name first) as (λ b. eq_by_cmp byte_order name first ≡ b → made_in (cond b (Some (new_bucket 0)) (get (opening {B = B} names) name)) ≡ Some t → Contains (first ∷ names) name × (t ≡ 0)) [
      | true ↦ λ tied made. (held_first name first names (sym (tied_equal name first tied)), sym (same_Some 0 t made))
      | false ↦ λ other made. let rest = opening_made B names name t made in (held_later name first names rest.0, rest.1)
    ] refl (sym (ap made_in (get-put (opening {B = B} names) first (new_bucket 0) name)) ∙ is)

made_opening : (B : Type 0) (names : List (List ℕ)) (name : List ℕ) → Contains names name → made_in (get (opening {B = B} names) name) ≡ Some 0
made_opening B [] name held = absurd (nothing_held name held)
made_opening B (first ∷ names) name held =
    ap made_in (get-put (opening {B = B} names) first (new_bucket 0) name)
    ∙ elim (eq_by_cmp byte_order name first) as (λ b. eq_by_cmp byte_order name first ≡ b → made_in (cond b (Some (new_bucket 0)) (get (opening {B = B} names) name)) ≡ Some 0) [
      | true ↦ λ tied. refl
      | false ↦ λ other. made_opening B names name (held_among name first names (λ same. false≢true (sym other ∙ ap (λ q. eq_by_cmp byte_order q first) (sym same) ∙ (eq_by_cmp_equiv nat_list_cmp_total).refl first)) held)
    ] refl

pub opening_is_listed : (B : Type 0) → OpeningIsListed B
opening_is_listed B names name t = (
  λ listed. opening_made B names name t (listed_is_there (opening names) name t listed),
  λ both. there_is_listed (opening names) name t (made_opening B names name both.0 ∙ ap Some (sym both.1)),
)

-- ---- after a change

new_is_empty : (B : Type 0) (t : ℕ) → is_empty_in {B = B} (Some (new_bucket t)) ≡ true
new_is_empty B t =
    and_from _ _ (ap (λ n. n == 0) (len-empty byte_order (List (Version B)))) (ap (λ n. n == 0) (len-empty byte_order (KeyUploads B)))

pub made_buckets_are_new : {B : Type 0} → MadeBucketsAreNew B
made_buckets_are_new {B} c name t =
    let here = changed_here c name (BucketAdded t) in
    record {
      there = ap is_some here;
      listed = there_is_listed (changed c name (BucketAdded t)) name t (ap made_in here);
      empty = ap is_empty_in here ∙ new_is_empty B t;
      no_versions = λ key. ap (λ found. versions_in found key) here ∙ ap found_versions (get-empty byte_order key);
      unversioned = ap versioning_in here;
    }

pub dropped_buckets_are_gone : {B : Type 0} → DroppedBucketsAreGone B
dropped_buckets_are_gone c name =
    let here = changed_here c name BucketDropped in
    record {
      there = ap is_some here;
      listed = λ t listed. none-some t (sym (ap made_in here) ∙ listed_is_there (changed c name BucketDropped) name t listed);
    }

pub other_buckets_stay : {B : Type 0} → ChangesAreLocal B → OtherBucketsStay B
other_buckets_stay local c name change other apart =
    let d = changed c name change in
    let same = local c name change other apart in
    record {
      there = ap is_some same;
      listed = λ t. (
        λ listed. there_is_listed c other t (sym (ap made_in same) ∙ listed_is_there d other t listed),
        λ listed. there_is_listed d other t (ap made_in same ∙ listed_is_there c other t listed),
      );
      versioning = ap versioning_in same;
    }

told_after : {B : Type 0} (change : Change B) (found : Option (Bucket B)) → option_map facts_of (bucket_after change found) ≡ facts_after change (option_map facts_of found)
told_after (BucketAdded t) found = refl
told_after BucketDropped found = refl
told_after (VersioningSet status) None = refl
told_after (VersioningSet status) (Some b) = refl
told_after (KeyChanged key what) None = refl
told_after (KeyChanged key what) (Some b) = refl
told_after (UploadAdded key id u) None = refl
told_after (UploadAdded key id u) (Some b) = refl
told_after (PartPut key id n part) None = refl
told_after (PartPut key id n part) (Some b) = refl
told_after (UploadDropped key id) None = refl
told_after (UploadDropped key id) (Some b) = refl
told_after (UploadCompleted key id what) None = refl
told_after (UploadCompleted key id what) (Some b) = refl

pub changes_are_told : {B : Type 0} → ChangesAreTold B
changes_are_told c name change = ap (option_map facts_of) (changed_here c name change) ∙ told_after change (get c name)

-- a bucket whose versioning was set
pub switched : {B : Type 0} (what : VersioningStatus) (found : Option (Bucket B)) → is_some found ≡ true → versioning_in (option_map (set_in what) found) ≡ versioning_set what
switched what None there = absurd (false≢true there)
switched what (Some b) there = refl

pub switches_are_told : {B : Type 0} → SwitchesAreTold B
switches_are_told c name there = record {
  enabled = ap versioning_in (changed_here c name (VersioningSet status.Enabled)) ∙ switched status.Enabled (get c name) there;
  suspended = ap versioning_in (changed_here c name (VersioningSet status.Suspended)) ∙ switched status.Suspended (get c name) there;
}
