-- What several deletions by one entry do to the versions under a bucket's keys, one after another.
use Rattle.std.proofs.Common.{◌≡◌, ◌≢◌, refl, sym, ap, ap₂, subst, ◌∙◌, arith, Bool, true, false, not, ◌&&◌, ◌||◌, cond, ℕ, ◌+◌, ◌<◌, nat_lt, ◌==◌, IsTrue, ◌⊎◌, inl, inr, List, [], ◌∷◌, find, Contains, Option, Some, None, IfSome, option_map, is_some}
use Rattle.std.proofs.lemmas.Bool.{false≢true, not-true, not-false, and_parts, or_parts, ltb-true}
use Rattle.std.proofs.lemmas.Bool.Decides.{eqb_tells, nat_tests}
use Rattle.std.specs.FinMap as map
use Rattle.std.specs.List.{list_all}
use Rattle.std.specs.Option.{unwrap_or}
use Rattle.s3_text.proofs.MapLemmas.{same_or}
use Rattle.s3_names.specs.declared.ids.VersionId.{VersionId}
use Rattle.s3_names.specs.declared.ids.VersionId.TheVariants.{Null, Numbered}
use Rattle.s3_versions.specs.declared.version.Version.{Version}
use Rattle.s3_versions.specs.declared.version.Versioning.{Versioning}
use Rattle.s3_versions.specs.declared.version.Versioning.TheVariants.{Unversioned, Enabled, Suspended}
use Rattle.s3_versions.specs.Rules.{is_under, new_id, stored, asked_for, without, is_new_number, KeyChange, after_change}
use Rattle.s3_versions.specs.Laws.{number_of, id_changed, marker_made, version_made}
use Rattle.s3_deletions.specs.Deletions.{is_own, has_made, acts, change_named, marker_made_as, marker_by, marker_told, rows_told}
use Rattle.s3_deletions.specs.declared.named.KeyDeletion.{KeyDeletion}
use Rattle.s3_deletions.specs.declared.named.NamedObject.{NamedObject}
use Rattle.s3_deletions.specs.declared.named.NamedObject.TheVariants.{Object, Fault}
use Rattle.s3_deletions.specs.declared.told.DeletionRow.{DeletionRow}
use Rattle.s3_deletions.specs.declared.told.DeletionRow.TheVariants as rows
use Rattle.s3_records.specs.Catalogue.{Bucket, has_bucket, versions_of, versioning_in, versioning_of}
use Rattle.s3_records.specs.Changes.{KeyChanged, change_in, bucket_after, changed}
use Rattle.s3_records.specs.Deletions.{key_deleted, deleted, all_deleted, marker_of, markers_of}
use Rattle.s3_records.specs.Laws.{ChangesFollowRules}
use Rattle.s3_records.specs.OpenUploads.{upload_at}
use Rattle.s3_records.specs.Places.{version_at, OnePlaceChanges, ChangesAreByPlace, SameUploads, ChangesAreByUpload, AreBelow}
use Rattle.s3_machine.specs.Effects.{Address}
use Rattle.s3_machine.specs.Step.{State}
use Rattle.s3_machine.proofs.ChangeLemmas.{Comes, Stays, Then, bucket_here}
use Rattle.s3_machine.proofs.ContainsLemmas.{nothing_in, first_or_later, contains_first, contains_later}

-- two ids are the same or not
pub id_or : (x y : VersionId) → (x ≡ y) ⊎ (x ≢ y)
id_or Null Null = inl refl
id_or Null (Numbered n) = inr (λ is. cc)
id_or (Numbered m) Null = inr (λ is. cc)
id_or (Numbered m) (Numbered n) =
    elim (eqb_tells m n) [
      | inl same ↦ inl (ap Numbered same.1)
      | inr differ ↦ inr (λ is. differ.1 (cc))
    ]

-- a delete marker stores nothing
pub nothing_stored : (b : Versioning) (n t : ℕ) (v : Version (List ℕ)) → marker_made b n t ≡ Some v → stored v ≡ None
nothing_stored Unversioned n t v is = absurd (cc)
nothing_stored Enabled n t v is = cc
nothing_stored Suspended n t v is = cc

-- two deletions of one key and one version are the same
pub same_deletion : (d e : KeyDeletion) → d.key ≡ e.key → d.version ≡ e.version → d ≡ e
same_deletion d e key version =
    let built : List ℕ → Option VersionId → KeyDeletion = λ k v. record { key = k; version = v } in
    ap₂ built key version

-- ---- one of them

-- it rests, or it changes the versions of its key
pub deed : (c : State) (name : List ℕ) (n t : ℕ) (d : KeyDeletion) (P : State → Option VersionId → Type 0)
    → (acts n d.version (versions_of c name d.key) ≡ false → P c None)
    → (acts n d.version (versions_of c name d.key) ≡ true
    → P (changed c name (KeyChanged d.key (change_named n t d.version))) (marker_by (versioning_of c name) n d.version (versions_of c name d.key)))
    → P (key_deleted c name n t d) (marker_told (versioning_of c name) n d.version (versions_of c name d.key))
deed c name n t d P rests does =
    let vs = versions_of c name d.key in
    elim (acts n d.version vs) as (λ b. acts n d.version vs ≡ b
    → P (cond b (changed c name (KeyChanged d.key (change_named n t d.version))) c) (cond b (marker_by (versioning_of c name) n d.version vs) None)) [
      | true ↦ does
      | false ↦ rests
    ] refl

-- the bucket is there, with this versioning
pub record IsIn (b : Versioning) (name : List ℕ) (c : State) : Type 0 where
  pub there : has_bucket c name ≡ true
  pub versioning : versioning_of c name ≡ b

facts_stay : (key : List ℕ) (what : KeyChange (List ℕ)) (found : Option (Bucket (List ℕ)))
    → (is_some (option_map (change_in key what) found) ≡ is_some found) × (versioning_in (option_map (change_in key what) found) ≡ versioning_in found)
facts_stay key what None = (refl, refl)
facts_stay key what (Some b) = (refl, refl)

in_changed : (b : Versioning) (name : List ℕ) (c : State) (key : List ℕ) (what : KeyChange (List ℕ)) → IsIn b name c
    → IsIn b name (changed c name (KeyChanged key what))
in_changed b name c key what is =
    let found = map.get c name in
    let here = bucket_here c name (bucket_after (KeyChanged key what) found) in
    let facts = facts_stay key what found in
    record { there = ap is_some here ∙ facts.0 ∙ is.there; versioning = ap versioning_in here ∙ facts.1 ∙ is.versioning }

-- a number is new to versions that are below the next one where none of them has it
less_or_other : (k n : ℕ) → nat_lt k (n + 1) ≡ true → (k == n) ≡ false → nat_lt k n ≡ true
less_or_other k n next other = grind (arith, nat_tests)

unmade_new : (n : ℕ) (vs : List (Version (List ℕ))) → is_new_number (n + 1) vs ≡ true → has_made n vs ≡ false → is_new_number n vs ≡ true
unfolding is_new_number
unmade_new n [] next unmade = refl
unmade_new n (v ∷ vs) next unmade =
    let both = and_parts (nat_lt v.number (n + 1)) (list_all (λ w. nat_lt w.number (n + 1)) vs) next in
    let others = or_parts (v.number == n) (has_made n vs) unmade in
    ap (λ x. x && list_all (λ w. nat_lt w.number n) vs) (less_or_other v.number n both.0 others.0) ∙ unmade_new n vs both.1 others.1

module _ (b : Versioning) (name : List ℕ) (n t : ℕ) where
  pub stays_in : (c : State) (d : KeyDeletion) → IsIn b name c → IsIn b name (deleted c name n t (Object d))
  stays_in c d is =
      deed c name n t d (λ after marker. IsIn b name after) (λ rests. is)
      (λ does. in_changed b name c d.key (change_named n t d.version) is)

  -- the row that is told of one of them
  abbrev pub row_of : State → KeyDeletion → DeletionRow
  row_of c d = rows.Deleted d.key d.version (marker_of c name n (Object d))

  -- those that are told of all
  abbrev pub rows_of : State → List NamedObject → List DeletionRow
  rows_of c objects = rows_told objects (markers_of c name n t objects)

  -- what each of them keeps, all keep
  pub all_keep : (P : State → Type 0) (objects : List NamedObject) (c : State) → IsIn b name c
      → ((e : State) (d : KeyDeletion) → Contains objects (Object d) → Contains (rows_of c objects) (row_of e d) → IsIn b name e → P e
      → P (deleted e name n t (Object d)))
      → P c → P (all_deleted c name n t objects)
  all_keep P [] c is keeps p = p
  all_keep P (Object d ∷ objects) c is keeps p =
      let next = deleted c name n t (Object d) in
      all_keep P objects next (stays_in c d is)
      (λ e f within row. keeps e f (contains_later (Object d) (Object f) objects within) (contains_later (row_of c d) (row_of e f) (rows_of next objects) row))
      (keeps c d (contains_first (Object d) (Object d) objects refl) (contains_first (row_of c d) (row_of c d) (rows_of next objects) refl) is p)
  all_keep P (Fault fault ∷ objects) c is keeps p =
      all_keep P objects c is
      (λ e f within row. keeps e f (contains_later (Fault fault) (Object f) objects within)
      (contains_later (rows.Fault fault) (row_of e f) (rows_of c objects) row)) p

  -- and what one of them makes of what those before it keep, if those behind it keep it
  pub all_meet : (Q P : State → Type 0) (objects : List NamedObject) (c : State) (d : KeyDeletion) → IsIn b name c
      → ((e : State) (f : KeyDeletion) → Contains objects (Object f) → IsIn b name e → Q e → Q (deleted e name n t (Object f)))
      → ((e : State) (f : KeyDeletion) → Contains objects (Object f) → IsIn b name e → P e → P (deleted e name n t (Object f)))
      → ((e : State) → IsIn b name e → Q e → P (deleted e name n t (Object d)))
      → Contains objects (Object d) → Q c → P (all_deleted c name n t objects)
  all_meet Q P [] c d is before behind meets within q = absurd (nothing_in [] (Object d) refl within)
  all_meet Q P (Fault fault ∷ objects) c d is before behind meets within q =
      elim (first_or_later (Fault fault) (Object d) objects within) [
        | inl same ↦ absurd (cc)
        | inr later ↦
            all_meet Q P objects c d is
            (λ e f inside. before e f (contains_later (Fault fault) (Object f) objects inside))
            (λ e f inside. behind e f (contains_later (Fault fault) (Object f) objects inside)) meets later q
      ]
  all_meet Q P (Object f ∷ objects) c d is before behind meets within q =
      let next = deleted c name n t (Object f) in
      elim (first_or_later (Object f) (Object d) objects within) [
        | inl same ↦
            all_keep P objects next (stays_in c f is)
            (λ e g inside row. behind e g (contains_later (Object f) (Object g) objects inside))
            (subst (λ (object : NamedObject). P (deleted c name n t object)) (sym same) (meets c is q))
        | inr later ↦
            all_meet Q P objects next d (stays_in c f is)
            (λ e g inside. before e g (contains_later (Object f) (Object g) objects inside))
            (λ e g inside. behind e g (contains_later (Object f) (Object g) objects inside)) meets later
            (before c f (contains_first (Object f) (Object f) objects refl) is q)
      ]

  -- ---- by changes of the number of the entry

  numbered : (version : Option VersionId) → IfSome (number_of (change_named {B = List ℕ} n t version)) (λ m. m ≡ n)
  numbered None = refl
  numbered (Some id) = tt

  -- one that acts is new to its key
  new_named : (version : Option VersionId) (vs : List (Version (List ℕ))) → acts n version vs ≡ true → IsTrue (is_new_number (n + 1) vs)
      → IfSome (number_of (change_named {B = List ℕ} n t version)) (λ m. IsTrue (is_new_number m vs))
  new_named None vs does next = unmade_new n vs next (not-true (has_made n vs) does)
  new_named (Some id) vs does next = tt

  -- all uploads stay
  pub uploads_stay : ChangesAreByUpload (List ℕ) → (c : State) (objects : List NamedObject) → IsIn b name c → SameUploads c (all_deleted c name n t objects)
  uploads_stay law c objects is bucket key id =
      let same = λ (after : State). upload_at after bucket key id ≡ upload_at c bucket key id in
      all_keep same objects c is
      (λ e d within row there before.
      deed e name n t d (λ after marker. same after) (λ rests. before)
      (λ does. law e name (KeyChanged d.key (change_named n t d.version)) there.there bucket key id ∙ before))
      refl

  pub all_come : (c : State) (objects : List NamedObject) → IsIn b name c → Comes n c (all_deleted c name n t objects)
  all_come c objects is =
      all_keep (Comes n c) objects c is
      (λ e d within row there before.
      deed e name n t d (λ after marker. Comes n c after) (λ rests. before)
      (λ does. Then before name (KeyChanged d.key (change_named n t d.version)) (numbered d.version)
      (λ below next. new_named d.version (versions_of e name d.key) does (next name d.key))))
      Stays

-- ---- ids and numbers

-- the id that a deletion changes
abbrev pub reached : Versioning → ℕ → Option VersionId → VersionId
reached b n version = unwrap_or version (new_id b n)

changes_reached : (b : Versioning) (n t : ℕ) (version : Option VersionId) → id_changed b (change_named {B = List ℕ} n t version) ≡ reached b n version
changes_reached b n t None = refl
changes_reached b n t (Some id) = refl

-- nothing stored is left there
left_empty : (b : Versioning) (n t : ℕ) (version : Option VersionId) (v : Version (List ℕ)) → version_made b (change_named n t version) ≡ Some v → stored v ≡ None
left_empty b n t None v is = nothing_stored b n t v is
left_empty b n t (Some id) v is = absurd (cc)

-- an id is that of an entry's number or not
pub own_is : (n : ℕ) (id : VersionId) → is_own n id ≡ true → id ≡ Numbered n
own_is n Null is = absurd (false≢true is)
own_is n (Numbered m) is =
    elim (eqb_tells m n) [
      | inl same ↦ ap Numbered same.1
      | inr differ ↦ absurd (false≢true (sym differ.0 ∙ is))
    ]

pub own_number : (n : ℕ) → is_own n (Numbered n) ≡ true
own_number n =
    elim (eqb_tells n n) [
      | inl same ↦ same.0
      | inr differ ↦ absurd (differ.1 refl)
    ]

-- what an entry made has its number
no_more : (x : Bool) → (x && false) ≡ false
no_more true = refl
no_more false = refl

pub found_made : (n : ℕ) (vs : List (Version (List ℕ))) (v : Version (List ℕ)) → find (is_under (Numbered n)) vs ≡ Some v → has_made n vs ≡ true
found_made n [] v is = absurd (cc)
found_made n (w ∷ vs) v is =
    elim (w.number == n) as (λ x. cond (not w.is_null && x) (Some w) (find (is_under (Numbered n)) vs) ≡ Some v → (x || has_made n vs) ≡ true) [
      | true ↦ λ found. refl
      | false ↦ λ found.
          found_made n vs v (sym (ap (λ x. cond x (Some w) (find (is_under (Numbered n)) vs)) (no_more (not w.is_null))) ∙ found)
    ] is

pub none_made : (n : ℕ) (vs : List (Version (List ℕ))) → has_made n vs ≡ false → find (is_under (Numbered n)) vs ≡ None
none_made n vs none =
    elim (find (is_under (Numbered n)) vs) as (λ found. find (is_under (Numbered n)) vs ≡ found → found ≡ None) [
      | None ↦ λ is. refl
      | Some v ↦ λ is. absurd (false≢true (sym none ∙ found_made n vs v is))
    ] refl

-- an entry whose number is above those of some versions made none of them
other_number : (m n : ℕ) → nat_lt m n ≡ true → (m == n) ≡ false
other_number m n below =
    let less : m < n = ltb-true m n below in
    elim (eqb_tells m n) [
      | inl same ↦ let is = same.1 in absurd (omega arith)
      | inr differ ↦ differ.0
    ]

pub not_made : (n : ℕ) (vs : List (Version (List ℕ))) → is_new_number n vs ≡ true → has_made n vs ≡ false
unfolding is_new_number
not_made n [] below = refl
not_made n (v ∷ vs) below =
    let both = and_parts (nat_lt v.number n) (list_all (λ w. nat_lt w.number n) vs) below in
    ap (λ x. x || has_made n vs) (other_number v.number n both.0) ∙ not_made n vs both.1

-- what is taken out of some versions leaves none that wasn't there
fewer_made : (n : ℕ) (id : VersionId) (vs : List (Version (List ℕ))) → has_made n vs ≡ false → has_made n (without id vs) ≡ false
unfolding without
fewer_made n id [] none = refl
fewer_made n id (v ∷ vs) none =
    let both = or_parts (v.number == n) (has_made n vs) none in
    let rest = fewer_made n id vs both.1 in
    elim (is_under id v) as (λ x. has_made n (cond (not x) (v ∷ without id vs) (without id vs)) ≡ false) [
      | true ↦ rest
      | false ↦ ap (λ x. x || has_made n (without id vs)) both.0 ∙ rest
    ]

pub yet_made : (n : ℕ) (id : VersionId) (vs : List (Version (List ℕ))) → has_made n (without id vs) ≡ true → has_made n vs ≡ true
yet_made n id vs is =
    elim (has_made n vs) as (λ x. has_made n vs ≡ x → x ≡ true) [
      | true ↦ λ some. refl
      | false ↦ λ none. absurd (false≢true (sym (fewer_made n id vs none) ∙ is))
    ] refl

-- a deletion that rests names no version where the entry made one, or its own id
pub rests_made : (n : ℕ) (vs : List (Version (List ℕ))) → acts n None vs ≡ false → has_made n vs ≡ true
rests_made n vs is = not-false (has_made n vs) is

pub acts_unmade : (n : ℕ) (vs : List (Version (List ℕ))) → acts n None vs ≡ true → has_made n vs ≡ false
acts_unmade n vs is = not-true (has_made n vs) is

-- ---- what stands at a place

module _ (places : ChangesAreByPlace (List ℕ)) (b : Versioning) (name : List ℕ) (n t : ℕ) where
  pub placed : (c : State) (d : KeyDeletion) → IsIn b name c
      → OnePlaceChanges c (changed c name (KeyChanged d.key (change_named n t d.version))) name d.key (reached b n d.version)
      (version_made b (change_named n t d.version))
  placed c d is =
      let what : KeyChange (List ℕ) = change_named n t d.version in
      let after = changed c name (KeyChanged d.key what) in
      subst (λ (id : VersionId). OnePlaceChanges c after name d.key id (version_made b what)) (changes_reached b n t d.version)
      (subst (λ (x : Versioning). OnePlaceChanges c after name d.key (id_changed x what) (version_made x what)) is.versioning
      (places c name (KeyChanged d.key what) is.there))

  -- what is not there stays
  elsewhere : (c : State) (d : KeyDeletion) (a : Address) (id : VersionId) → IsIn b name c
      → (a.bucket ≡ name → a.key ≡ d.key → id ≢ reached b n d.version)
      → version_at (changed c name (KeyChanged d.key (change_named n t d.version))) a.bucket a.key id ≡ version_at c a.bucket a.key id
  elsewhere c d a id is other =
      let place = placed c d is in
      let after = changed c name (KeyChanged d.key (change_named n t d.version)) in
      elim (same_or a.bucket name) [
        | inl bucket ↦
            elim (same_or a.key d.key) [
              | inl key ↦
                  subst (λ (q : List ℕ). version_at after q a.key id ≡ version_at c q a.key id) (sym bucket)
                  (subst (λ (k : List ℕ). version_at after name k id ≡ version_at c name k id) (sym key)
                  (place.other_ids id (other bucket key)))
              | inr key ↦ ap (asked_for (Some id)) (place.other_keys a.bucket a.key (λ both. key both.1))
            ]
        | inr bucket ↦ ap (asked_for (Some id)) (place.other_keys a.bucket a.key (λ both. bucket both.0))
      ]

  -- a deletion makes what stands at a place of the bucket, or leaves it
  pub record Makes (c : State) (d : KeyDeletion) (key : List ℕ) (id : VersionId) (after : State) : Type 0 where
    pub does : acts n d.version (versions_of c name d.key) ≡ true
    pub there : key ≡ d.key
    pub under : id ≡ reached b n d.version
    pub now : version_at after name key id ≡ version_made b (change_named n t d.version)

  abbrev pub MakesOrLeaves : State → KeyDeletion → List ℕ → VersionId → State → Type 0
  MakesOrLeaves c d key id after = Makes c d key id after ⊎ (version_at after name key id ≡ version_at c name key id)

  pub makes_or_leaves : (c : State) (d : KeyDeletion) (key : List ℕ) (id : VersionId) → IsIn b name c
      → MakesOrLeaves c d key id (deleted c name n t (Object d))
  makes_or_leaves c d key id is =
      let a : Address = record { bucket = name; key = key } in
      deed c name n t d (λ after marker. MakesOrLeaves c d key id after)
      (λ rests. inr refl)
      (λ does.
      elim (same_or key d.key) [
        | inl there ↦
            elim (id_or id (reached b n d.version)) [
              | inl under ↦
                  inl (record {
                    does = does;
                    there = there;
                    under = under;
                    now = ap₂ (λ (k : List ℕ) (i : VersionId). version_at (changed c name (KeyChanged d.key (change_named n t d.version))) name k i) there under
                        ∙ (placed c d is).here;
                  })
              | inr other ↦ inr (elsewhere c d a id is (λ bucket k. other))
            ]
        | inr other ↦ inr (elsewhere c d a id is (λ bucket k. absurd (other k)))
      ])

  -- what stands where it acts it made, and else it changes nothing
  abbrev pub RestsOrMade : State → KeyDeletion → State → Type 0
  RestsOrMade c d after =
      ((acts n d.version (versions_of c name d.key) ≡ false) × (after ≡ c))
      ⊎ (version_at after name d.key (reached b n d.version) ≡ version_made b (change_named n t d.version))

  pub rests_or_made : (c : State) (d : KeyDeletion) → IsIn b name c → RestsOrMade c d (deleted c name n t (Object d))
  rests_or_made c d is =
      deed c name n t d (λ after marker. RestsOrMade c d after) (λ rests. inl (rests, refl)) (λ does. inr (placed c d is).here)

  -- the versions under another key
  pub other_key : (c : State) (d : KeyDeletion) (a : Address) → IsIn b name c → ¬ ((a.bucket ≡ name) × (a.key ≡ d.key))
      → versions_of (deleted c name n t (Object d)) a.bucket a.key ≡ versions_of c a.bucket a.key
  other_key c d a is other =
      deed c name n t d (λ after marker. versions_of after a.bucket a.key ≡ versions_of c a.bucket a.key) (λ rests. refl)
      (λ does. (placed c d is).other_keys a.bucket a.key other)

  -- ---- what all leave

  pub all_other_keys : (c : State) (objects : List NamedObject) (a : Address) → IsIn b name c
      → ((d : KeyDeletion) → Contains objects (Object d) → ¬ ((a.bucket ≡ name) × (a.key ≡ d.key)))
      → versions_of (all_deleted c name n t objects) a.bucket a.key ≡ versions_of c a.bucket a.key
  all_other_keys c objects a is other =
      all_keep b name n t (λ after. versions_of after a.bucket a.key ≡ versions_of c a.bucket a.key) objects c is
      (λ e d within row there same. other_key e d a there (other d within) ∙ same) refl

  -- what they don't reach stays
  pub all_others : (c : State) (objects : List NamedObject) (a : Address) (id : VersionId) → IsIn b name c
      → ((d : KeyDeletion) (marker : Option VersionId) → Contains objects (Object d)
      → Contains (rows_of b name n t c objects) (rows.Deleted d.key d.version marker) → (d.version ≡ None → marker ≡ marker_made_as b n)
      → a.bucket ≡ name → a.key ≡ d.key → id ≢ reached b n d.version)
      → version_at (all_deleted c name n t objects) a.bucket a.key id ≡ version_at c a.bucket a.key id
  all_others c objects a id is other =
      let told_rows = rows_of b name n t c objects in
      let same = λ (after : State). version_at after a.bucket a.key id ≡ version_at c a.bucket a.key id in
      all_keep b name n t same objects c is
      (λ e d within row there before.
      deed e name n t d (λ after marker. Contains told_rows (rows.Deleted d.key d.version marker) → same after) (λ rests inside. before)
      (λ does inside.
      elsewhere e d a id there (other d (marker_by (versioning_of e name) n d.version (versions_of e name d.key)) within inside
      (λ none. ap (λ v. marker_by (versioning_of e name) n v (versions_of e name d.key)) none ∙ ap (λ x. marker_made_as x n) there.versioning))
      ∙ before) row) refl

  -- ---- where nothing stored stands

  abbrev pub IsClean : State → List ℕ → VersionId → Type 0
  IsClean c key id = (v : Version (List ℕ)) → version_at c name key id ≡ Some v → stored v ≡ None

  clean_made : (c : State) (d : KeyDeletion) (key : List ℕ) (id : VersionId) → version_at c name key id ≡ version_made b (change_named n t d.version)
      → IsClean c key id
  clean_made c d key id is v at = left_empty b n t d.version v (sym is ∙ at)

  clean_stays : (c : State) (d : KeyDeletion) (key : List ℕ) (id : VersionId) → IsIn b name c → IsClean c key id
      → IsClean (deleted c name n t (Object d)) key id
  clean_stays c d key id is clean =
      elim (makes_or_leaves c d key id is) [
        | inl makes ↦ clean_made (deleted c name n t (Object d)) d key id makes.now
        | inr same ↦ λ v at. clean v (sym same ∙ at)
      ]

  -- where the entry made a version, or could have made one, nothing stored stands under its id
  record OwnAreClean (key : List ℕ) (c : State) : Type 0 where
    own : IsClean c key (Numbered n)
    new : has_made n (versions_of c name key) ≡ true → IsClean c key (new_id b n)

  -- a deletion that names a version makes none
  pub made_before : (follow : ChangesFollowRules (List ℕ)) (c : State) (d : KeyDeletion) (id : VersionId) → IsIn b name c → d.version ≡ Some id
      → has_made n (versions_of (deleted c name n t (Object d)) name d.key) ≡ true → has_made n (versions_of c name d.key) ≡ true
  made_before follow c d id is named =
      deed c name n t d (λ after marker. has_made n (versions_of after name d.key) ≡ true → has_made n (versions_of c name d.key) ≡ true)
      (λ rests made. made)
      (λ does made.
      let what : KeyChange (List ℕ) = change_named n t d.version in
      let now = follow c name d.key what is.there
      ∙ ap (λ (v : Option VersionId). after_change (versioning_of c name) (change_named n t v) (versions_of c name d.key)) named in
      yet_made n id (versions_of c name d.key) (sym (ap (has_made n) now) ∙ made))

  new_here : (follow : ChangesFollowRules (List ℕ)) (c : State) (d : KeyDeletion) (version : Option VersionId) → d.version ≡ version → IsIn b name c
      → OwnAreClean d.key c → has_made n (versions_of (deleted c name n t (Object d)) name d.key) ≡ true
      → IsClean (deleted c name n t (Object d)) d.key (new_id b n)
  new_here follow c d (Some id) named is own made =
      clean_stays c d d.key (new_id b n) is (own.new (made_before follow c d id is named made))
  new_here follow c d None named is own made =
      elim (rests_or_made c d is) [
        | inl rests ↦
            clean_stays c d d.key (new_id b n) is
            (own.new (rests_made n (versions_of c name d.key)
            (sym (ap (λ (v : Option VersionId). acts n v (versions_of c name d.key)) named) ∙ rests.0)))
        | inr now ↦
            clean_made (deleted c name n t (Object d)) d d.key (new_id b n)
            (ap (λ (v : Option VersionId). version_at (deleted c name n t (Object d)) name d.key (reached b n v)) (sym named) ∙ now)
      ]

  own_stays : (follow : ChangesFollowRules (List ℕ)) (key : List ℕ) (c : State) (d : KeyDeletion) → IsIn b name c → OwnAreClean key c
      → OwnAreClean key (deleted c name n t (Object d))
  own_stays follow key c d is own =
      let a : Address = record { bucket = name; key = key } in
      record {
        own = clean_stays c d key (Numbered n) is own.own;
        new = elim (same_or key d.key) [
          | inl there ↦
              subst (λ (k : List ℕ). has_made n (versions_of (deleted c name n t (Object d)) name k) ≡ true → IsClean (deleted c name n t (Object d)) k (new_id b n)) (sym there)
              (new_here follow c d d.version refl is (subst (λ (k : List ℕ). OwnAreClean k c) there own))
          | inr other ↦ λ made.
              clean_stays c d key (new_id b n) is (own.new (sym (ap (has_made n) (other_key c d a is (λ both. other both.1))) ∙ made))
        ];
      }

  rests_clean : (c : State) (key : List ℕ) (version : Option VersionId) → OwnAreClean key c → acts n version (versions_of c name key) ≡ false
      → IsClean c key (reached b n version)
  rests_clean c key None own rests = own.new (rests_made n (versions_of c name key) rests)
  rests_clean c key (Some id) own rests = subst (IsClean c key) (sym (own_is n id (not-false (is_own n id) rests))) own.own

  pub reached_clean : (follow : ChangesFollowRules (List ℕ)) (c : State) (objects : List NamedObject) (d : KeyDeletion) → IsIn b name c → AreBelow n c
      → Contains objects (Object d) → IsClean (all_deleted c name n t objects) d.key (reached b n d.version)
  reached_clean follow c objects d is below within =
      let vs = versions_of c name d.key in
      let none = not_made n vs (below name d.key) in
      all_meet b name n t (OwnAreClean d.key) (λ after. IsClean after d.key (reached b n d.version)) objects c d is
      (λ e f inside there own. own_stays follow d.key e f there own)
      (λ e f inside there clean. clean_stays e f d.key (reached b n d.version) there clean)
      (λ e there own.
      elim (rests_or_made e d there) [
        | inl rests ↦ subst (λ (after : State). IsClean after d.key (reached b n d.version)) (sym rests.1) (rests_clean e d.key d.version own rests.0)
        | inr now ↦ clean_made (deleted e name n t (Object d)) d d.key (reached b n d.version) now
      ])
      within
      (record {
        own = λ v at. let nothing = none_made n vs none in absurd (cc);
        new = λ made. absurd (false≢true (sym none ∙ made));
      })
