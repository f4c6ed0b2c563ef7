-- What is told of several deletions by one entry, and what they touch by that.
use Rattle.std.proofs.Common.{◌≡◌, refl, sym, ap, ap₂, subst, ◌∙◌, true, false, cond, ℕ, inl, inr, List, [], ◌∷◌, filter_map, Contains, Option, Some, None}
use Rattle.std.proofs.lemmas.Bool.{false≢true, false_from_ne_true}
use Rattle.std.proofs.lemmas.Option.{same_Some}
use Rattle.std.proofs.lemmas.Slice.Eq.{bytes_eq-Decides}
use Rattle.std.specs.Option.{option_or, unwrap_or}
use Rattle.std.specs.Str.{bytes_eq}
use Rattle.s3_text.proofs.MapLemmas.{same_or}
use Rattle.s3_names.specs.declared.ids.VersionId.{VersionId}
use Rattle.s3_names.specs.declared.ids.VersionId.TheVariants.{Null, Numbered}
use Rattle.s3_versions.specs.declared.version.Version.{Version}
use Rattle.s3_versions.specs.declared.version.Versioning.{Versioning}
use Rattle.s3_versions.specs.declared.version.Versioning.TheVariants.{Unversioned, Enabled, Suspended}
use Rattle.s3_versions.specs.Rules.{new_id, stored}
use Rattle.s3_deletions.specs.Deletions.{has_made, acts, marker_made_as, marker_by}
use Rattle.s3_deletions.specs.declared.named.KeyDeletion.{KeyDeletion}
use Rattle.s3_deletions.specs.declared.named.NamedObject.{NamedObject}
use Rattle.s3_deletions.specs.declared.named.NamedObject.TheVariants.{Object, Fault}
use Rattle.s3_deletions.specs.declared.told.DeletionRow.{DeletionRow}
use Rattle.s3_deletions.specs.declared.told.DeletionRow.TheVariants as rows
use Rattle.s3_records.specs.Catalogue.{versions_of, versioning_of}
use Rattle.s3_records.specs.Deletions.{deleted, all_deleted}
use Rattle.s3_records.specs.Laws.{ChangesFollowRules}
use Rattle.s3_records.specs.Places.{version_at, ChangesAreByPlace, AreBelow}
use Rattle.s3_machine.specs.Effects.{Address, address_named, told, marker_in_row, marker_in_rows, id_named}
use Rattle.s3_machine.specs.Step.{State}
use Rattle.s3_machine.proofs.ContainsLemmas.{nothing_in, first_or_later, contains_first, contains_later, contains_made, made_of}
use Rattle.s3_machine.proofs.DeletionLemmas.{deed, IsIn, stays_in, row_of, rows_of, reached, rests_made, not_made, same_deletion, other_key, made_before, all_other_keys, all_others, reached_clean}

-- ---- rows and objects

pub same_row : (j k : List ℕ) (v w : Option VersionId) (m o : Option VersionId) → rows.Deleted j v m ≡ rows.Deleted k w o → (j ≡ k) × (v ≡ w) × (m ≡ o)
same_row j k v w m o is = (cc, cc, cc)

same_rows : (j k : List ℕ) (v w : Option VersionId) (m o : Option VersionId) → j ≡ k → v ≡ w → m ≡ o → rows.Deleted j v m ≡ rows.Deleted k w o
same_rows j k v w m o key version marker = cc

same_places : (bucket key : List ℕ) (a : Address) → a.bucket ≡ bucket → a.key ≡ key → record { bucket = bucket; key = key } ≡ a
same_places bucket key a there under =
    let built : List ℕ → List ℕ → Address = λ q k. record { bucket = q; key = k } in
    ap₂ built (sym there) (sym under)

-- the row that tells of the marker of a key, where one does
row_tells : (key : List ℕ) (row : DeletionRow) (id : VersionId) → marker_in_row key row ≡ Some id → row ≡ rows.Deleted key None (Some id)
row_tells key (rows.Deleted k None marker) id is =
    elim (bytes_eq k key) as (λ x. bytes_eq k key ≡ x → cond x marker None ≡ Some id → rows.Deleted k None marker ≡ rows.Deleted key None (Some id)) [
      | true ↦ λ same found. same_rows k key None None marker (Some id) ((bytes_eq-Decides k key).0 same) refl found
      | false ↦ λ other found. absurd (cc)
    ] refl is
row_tells key _ id is = absurd (cc)

first_told : (key : List ℕ) (told_rows : List DeletionRow) (id : VersionId) → marker_in_rows key told_rows ≡ Some id
    → Contains told_rows (rows.Deleted key None (Some id))
first_told key [] id is = absurd (cc)
first_told key (row ∷ rest) id is =
    elim (marker_in_row key row) as (λ x. marker_in_row key row ≡ x → option_or x (marker_in_rows key rest) ≡ Some id
    → Contains (row ∷ rest) (rows.Deleted key None (Some id))) [
      | None ↦ λ none found. contains_later row (rows.Deleted key None (Some id)) rest (first_told key rest id found)
      | Some m ↦ λ some found. contains_first row (rows.Deleted key None (Some id)) rest (row_tells key row id (some ∙ found))
    ] refl is

tells_its : (key : List ℕ) (id : VersionId) → marker_in_row key (rows.Deleted key None (Some id)) ≡ Some id
tells_its key id = ap (λ x. cond x (Some id) None) ((bytes_eq-Decides key key).1 refl)

some_told : (key : List ℕ) (told_rows : List DeletionRow) (id : VersionId) → Contains told_rows (rows.Deleted key None (Some id))
    → (other : VersionId) × (marker_in_rows key told_rows ≡ Some other)
some_told key [] id within = absurd (nothing_in [] (rows.Deleted key None (Some id)) refl within)
some_told key (row ∷ rest) id within =
    elim (first_or_later row (rows.Deleted key None (Some id)) rest within) [
      | inl same ↦ (id, ap (λ x. option_or x (marker_in_rows key rest)) (ap (marker_in_row key) same ∙ tells_its key id))
      | inr later ↦
          let behind = some_told key rest id later in
          elim (marker_in_row key row) as (λ x. (other : VersionId) × (option_or x (marker_in_rows key rest) ≡ Some other)) [
            | None ↦ behind
            | Some m ↦ (m, refl)
          ]
    ]

-- so what is told of a key is the id that the entry makes, where it may have made one
marker_known : (b : Versioning) (n : ℕ) (key : List ℕ) (told_rows : List DeletionRow)
    → ((id : VersionId) → Contains told_rows (rows.Deleted key None (Some id)) → marker_made_as b n ≡ Some id)
    → Contains told_rows (rows.Deleted key None (marker_made_as b n)) → told (marker_in_rows key told_rows) ≡ new_id b n
marker_known Unversioned n key told_rows all within =
    elim (marker_in_rows key told_rows) as (λ x. marker_in_rows key told_rows ≡ x → told x ≡ Null) [
      | None ↦ λ is. refl
      | Some id ↦ λ is. let never = all id (first_told key told_rows id is) in absurd (cc)
    ] refl
marker_known Enabled n key told_rows all within =
    let some = some_told key told_rows (Numbered n) within in
    ap told some.1 ∙ sym (same_Some (Numbered n) some.0 (all some.0 (first_told key told_rows some.0 some.1)))
marker_known Suspended n key told_rows all within =
    let some = some_told key told_rows Null within in
    ap told some.1 ∙ sym (same_Some Null some.0 (all some.0 (first_told key told_rows some.0 some.1)))

-- an object that writes under an address is of its bucket, and one that touches an id under a key of its key
bucket_named : (bucket : List ℕ) (object : NamedObject) (a : Address) → address_named bucket object ≡ Some a → a.bucket ≡ bucket
bucket_named bucket (Object d) a is = sym (ap (λ (x : Address). x.bucket) (same_Some (record { bucket = bucket; key = d.key }) a is))
bucket_named bucket (Fault fault) a is = absurd (cc)

named_id : (d : KeyDeletion) (told_rows : List DeletionRow)
    → id_named d.key told_rows (Object d) ≡ Some (unwrap_or d.version (told (marker_in_rows d.key told_rows)))
named_id d told_rows = ap (λ x. cond x (Some (unwrap_or d.version (told (marker_in_rows d.key told_rows)))) None) ((bytes_eq-Decides d.key d.key).1 refl)

deletion_named : (key : List ℕ) (told_rows : List DeletionRow) (object : NamedObject) (id : VersionId) → id_named key told_rows object ≡ Some id
    → (d : KeyDeletion) × (object ≡ Object d) × (d.key ≡ key) × (unwrap_or d.version (told (marker_in_rows key told_rows)) ≡ id)
deletion_named key told_rows (Object d) id is =
    elim (bytes_eq d.key key) as (λ x. bytes_eq d.key key ≡ x → cond x (Some (unwrap_or d.version (told (marker_in_rows key told_rows)))) None ≡ Some id
    → (f : KeyDeletion) × (Object d ≡ Object f) × (f.key ≡ key) × (unwrap_or f.version (told (marker_in_rows key told_rows)) ≡ id)) [
      | true ↦ λ same found. (d, refl, (bytes_eq-Decides d.key key).0 same, same_Some (unwrap_or d.version (told (marker_in_rows key told_rows))) id found)
      | false ↦ λ other found. absurd (cc)
    ] refl is
deletion_named key told_rows (Fault fault) id is = absurd (cc)

module _ (places : ChangesAreByPlace (List ℕ)) (b : Versioning) (name : List ℕ) (n t : ℕ) where
  -- ---- what is told of them

  -- a marker that is told of a key that was named without a version is the one that the entry makes
  rows_made : (objects : List NamedObject) (c : State) (key : List ℕ) (id : VersionId) → IsIn b name c
      → Contains (rows_of b name n t c objects) (rows.Deleted key None (Some id)) → marker_made_as b n ≡ Some id
  rows_made [] c key id is within = absurd (nothing_in [] (rows.Deleted key None (Some id)) refl within)
  rows_made (Fault fault ∷ objects) c key id is within =
      elim (first_or_later (rows.Fault fault) (rows.Deleted key None (Some id)) (rows_of b name n t c objects) within) [
        | inl same ↦ absurd (cc)
        | inr later ↦ rows_made objects c key id is later
      ]
  rows_made (Object d ∷ objects) c key id is within =
      let next = deleted c name n t (Object d) in
      elim (first_or_later (row_of b name n t c d) (rows.Deleted key None (Some id)) (rows_of b name n t next objects) within) [
        | inl same ↦
            deed c name n t d (λ after marker. rows.Deleted d.key d.version marker ≡ rows.Deleted key None (Some id) → marker_made_as b n ≡ Some id)
            (λ rests told_so. absurd (cc))
            (λ does told_so.
            let row = same_row d.key key d.version None (marker_by (versioning_of c name) n d.version (versions_of c name d.key)) (Some id) told_so in
            ap (λ (x : Versioning). marker_made_as x n) (sym is.versioning)
            ∙ sym (ap (λ (v : Option VersionId). marker_by (versioning_of c name) n v (versions_of c name d.key)) row.1)
            ∙ row.2) same
        | inr later ↦ rows_made objects next key id (stays_in b name n t c d is) later
      ]

  -- and where the entry made no version of the key before, it is told
  told_here : (c : State) (key : List ℕ) (d : KeyDeletion) → IsIn b name c → has_made n (versions_of c name key) ≡ false
      → Object d ≡ Object (record { key = key; version = None })
      → row_of b name n t c d ≡ rows.Deleted key None (marker_made_as b n)
  told_here c key d is none same =
      let named : d ≡ record { key = key; version = None } = cc in
      let there = ap (λ (f : KeyDeletion). f.key) named in
      let alone = ap (λ (f : KeyDeletion). f.version) named in
      deed c name n t d (λ after marker. rows.Deleted d.key d.version marker ≡ rows.Deleted key None (marker_made_as b n))
      (λ rests.
      absurd (false≢true (sym none ∙ sym (ap (λ (k : List ℕ). has_made n (versions_of c name k)) there)
      ∙ rests_made n (versions_of c name d.key) (sym (ap (λ (v : Option VersionId). acts n v (versions_of c name d.key)) alone) ∙ rests))))
      (λ does.
      let marker = ap (λ (v : Option VersionId). marker_by (versioning_of c name) n v (versions_of c name d.key)) alone
      ∙ ap (λ (x : Versioning). marker_made_as x n) is.versioning in
      same_rows d.key key d.version None (marker_by (versioning_of c name) n d.version (versions_of c name d.key)) (marker_made_as b n)
      there alone marker)

  -- where it isn't told of one deletion, none was made by that
  told_or_later : (follow : ChangesFollowRules (List ℕ)) (objects : List NamedObject) (c : State) (key : List ℕ) (d : KeyDeletion) → IsIn b name c
      → has_made n (versions_of c name key) ≡ false
      → (has_made n (versions_of (deleted c name n t (Object d)) name key) ≡ false
      → Contains (rows_of b name n t (deleted c name n t (Object d)) objects) (rows.Deleted key None (marker_made_as b n)))
      → Contains (rows_of b name n t c (Object d ∷ objects)) (rows.Deleted key None (marker_made_as b n))
  told_or_later follow objects c key d is none later =
      let next = deleted c name n t (Object d) in
      let a : Address = record { bucket = name; key = key } in
      let row = rows.Deleted key None (marker_made_as b n) in
      let behind : has_made n (versions_of next name key) ≡ false → Contains (rows_of b name n t c (Object d ∷ objects)) row =
      λ unmade. contains_later (row_of b name n t c d) row (rows_of b name n t next objects) (later unmade) in
      elim (same_or key d.key) [
        | inl there ↦
            elim d.version as (λ version. d.version ≡ version → Contains (rows_of b name n t c (Object d ∷ objects)) row) [
              | None ↦ λ alone.
                  contains_first (row_of b name n t c d) row (rows_of b name n t next objects)
                  (told_here c key d is none (ap Object (same_deletion d (record { key = key; version = None }) (sym there) alone)))
              | Some id ↦ λ named.
                  behind (false_from_ne_true (has_made n (versions_of next name key)) (λ made.
                  false≢true (sym none
                  ∙ ap (λ (k : List ℕ). has_made n (versions_of c name k)) there
                  ∙ made_before places b name n t follow c d id is named (sym (ap (λ (k : List ℕ). has_made n (versions_of next name k)) there) ∙ made))))
            ] refl
        | inr other ↦ behind (ap (has_made n) (other_key places b name n t c d a is (λ both. other both.1)) ∙ none)
      ]

  made_told : (follow : ChangesFollowRules (List ℕ)) (objects : List NamedObject) (c : State) (key : List ℕ) → IsIn b name c
      → has_made n (versions_of c name key) ≡ false → Contains objects (Object (record { key = key; version = None }))
      → Contains (rows_of b name n t c objects) (rows.Deleted key None (marker_made_as b n))
  made_told follow [] c key is none within = absurd (nothing_in [] (Object (record { key = key; version = None })) refl within)
  made_told follow (Fault fault ∷ objects) c key is none within =
      elim (first_or_later (Fault fault) (Object (record { key = key; version = None })) objects within) [
        | inl same ↦ absurd (cc)
        | inr later ↦
            contains_later (rows.Fault fault) (rows.Deleted key None (marker_made_as b n)) (rows_of b name n t c objects)
            (made_told follow objects c key is none later)
      ]
  made_told follow (Object d ∷ objects) c key is none within =
      let next = deleted c name n t (Object d) in
      elim (first_or_later (Object d) (Object (record { key = key; version = None })) objects within) [
        | inl same ↦
            contains_first (row_of b name n t c d) (rows.Deleted key None (marker_made_as b n)) (rows_of b name n t next objects)
            (told_here c key d is none same)
        | inr later ↦
            told_or_later follow objects c key d is none
            (λ unmade. made_told follow objects next key (stays_in b name n t c d is) unmade later)
      ]

  -- ---- what they touch

  -- the id that an object touches, by what is told, is the one that it reaches
  touches_reached : (objects : List NamedObject) (c : State) (key : List ℕ) (version : Option VersionId) → IsIn b name c
      → (version ≡ None → Contains (rows_of b name n t c objects) (rows.Deleted key None (marker_made_as b n)))
      → unwrap_or version (told (marker_in_rows key (rows_of b name n t c objects))) ≡ reached b n version
  touches_reached objects c key (Some id) is known = refl
  touches_reached objects c key None is known =
      marker_known b n key (rows_of b name n t c objects) (λ id within. rows_made objects c key id is within) (known refl)

  -- what they don't touch stays
  pub touched_others : (c : State) (objects : List NamedObject) (a : Address) (id : VersionId) → IsIn b name c
      → (Contains (filter_map (address_named name) objects) a → ¬ Contains (filter_map (id_named a.key (rows_of b name n t c objects)) objects) id)
      → version_at (all_deleted c name n t objects) a.bucket a.key id ≡ version_at c a.bucket a.key id
  touched_others c objects a id is spared =
      let told_rows = rows_of b name n t c objects in
      all_others places b name n t c objects a id is (λ d marker within row made bucket key same.
      let known = touches_reached objects c d.key d.version is (λ alone.
      subst (λ (v : Option VersionId). Contains told_rows (rows.Deleted d.key v (marker_made_as b n))) alone
      (subst (λ (m : Option VersionId). Contains told_rows (rows.Deleted d.key d.version m)) (made alone) row)) in
      let here : record { bucket = name; key = d.key } ≡ a = same_places name d.key a bucket key in
      spared (contains_made (address_named name) objects (Object d) a within (ap (λ (x : Address). Some x) here))
      (contains_made (id_named a.key told_rows) objects (Object d) id within
      (subst (λ (k : List ℕ). id_named k told_rows (Object d) ≡ Some id) (sym key) (named_id d told_rows ∙ ap (λ (i : VersionId). Some i) (known ∙ sym same)))))

  pub unwritten_keys : (c : State) (objects : List NamedObject) (a : Address) → IsIn b name c
      → ¬ Contains (filter_map (address_named name) objects) a
      → versions_of (all_deleted c name n t objects) a.bucket a.key ≡ versions_of c a.bucket a.key
  unwritten_keys c objects a is other =
      all_other_keys places b name n t c objects a is (λ d within same.
      other (contains_made (address_named name) objects (Object d) a within
      (ap (λ (x : Address). Some x) (same_places name d.key a same.0 same.1))))

  -- and where they touch something nothing stored stands
  pub touched_empty : (follow : ChangesFollowRules (List ℕ)) (c : State) (objects : List NamedObject) (a : Address) (id : VersionId)
      (v : Version (List ℕ))
      → IsIn b name c → AreBelow n c → Contains (filter_map (address_named name) objects) a
      → Contains (filter_map (id_named a.key (rows_of b name n t c objects)) objects) id
      → version_at (all_deleted c name n t objects) a.bucket a.key id ≡ Some v → stored v ≡ None
  touched_empty follow c objects a id v is below wrote touches at =
      let told_rows = rows_of b name n t c objects in
      let writer = made_of (address_named name) objects a wrote in
      let bucket = bucket_named name writer.0 a writer.2 in
      let toucher = made_of (id_named a.key told_rows) objects id touches in
      let of_key = deletion_named a.key told_rows toucher.0 id toucher.2 in
      let d = of_key.0 in
      let within = subst (Contains objects) of_key.1 toucher.1 in
      let none = not_made n (versions_of c name a.key) (below name a.key) in
      let known = touches_reached objects c a.key d.version is (λ alone.
      made_told follow objects c a.key is none
      (subst (Contains objects) (ap Object (same_deletion d (record { key = a.key; version = None }) of_key.2 alone)) within)) in
      let after = all_deleted c name n t objects in
      reached_clean places b name n t follow c objects d is below within v
      (ap (λ (k : List ℕ). version_at after name k (reached b n d.version)) of_key.2
      ∙ ap₂ (λ (q : List ℕ) (i : VersionId). version_at after q a.key i) (sym bucket) (sym known ∙ of_key.3) ∙ at)
