-- The number of the next entry, as records change.
use Rattle.std.proofs.Common.{◌≡◌, inl, inr, refl, sym, ap, subst, ◌∙◌, true, not, cond, ◌⊎◌, ℕ, ℤ, pos, ◌<◌, ◌≤◌, List, [], ◌∷◌, Option, Some, None, Result, Ok, Err, is_some, option_map, arith}
use Rattle.std.specs.Prelude.{⊤, IsTrue, IfSome, OnOk, if◌then◌else◌, is_ok}
use Rattle.std.proofs.lemmas.Bool.{false≢true}
use Rattle.s3_text.proofs.MapLemmas.{same_or}
use Rattle.sqlite_keyed.specs.Keyed.{insert_by}
use Rattle.s3_terms.specs.declared.memory.NoMemory.{NoMemory}
use Rattle.s3_deletions.specs.declared.named.NamedObject.{NamedObject}
use Rattle.s3_deletions.specs.declared.told.Markers.{Markers}
use Rattle.s3_versions.proofs.LawLemmas.{later_is_new, numbers_stay_new}
use Rattle.s3_uploads.specs.declared.upload.Upload.{Upload}
use Rattle.s3_uploads.specs.Uploads.{with_part}
use Rattle.s3_records.specs.Catalogue.{Catalogue, opening, has_bucket}
use Rattle.s3_records.specs.Changes.{Change, BucketAdded, BucketDropped, VersioningSet, KeyChanged, UploadAdded, PartPut, UploadDropped, UploadCompleted, changed}
use Rattle.s3_records.specs.Deletions.{all_deleted}
use Rattle.s3_records.specs.OpenUploads.{upload_at}
use Rattle.s3_records.specs.Places.{may_come, SameUploads, OneUploadChanges, UploadsAfter, number_in}
use Rattle.s3_records.proofs.DeletionLawLemmas.{deletions_stay_below, deletions_keep_the_rest}
use Rattle.s3_records.proofs.LawLemmas.{opening_is_empty}
use Rattle.s3_records.proofs.PlaceLemmas.{numbers_stay_below, later_is_below, opening_is_below}
use Rattle.s3_records.proofs.UploadLawLemmas.{same_or_id, changes_are_by_upload}
use Rattle.s3_rows.specs.Columns.{StoreColumns, Tables}
use Rattle.s3_rows.specs.Meaning.{catalogue_of}
use Rattle.s3_rows.proofs.EditLemmas.{same_key}
use Rattle.s3_stored_bodies.specs.Numbers.{Contents, times}
use Rattle.s3_stored_rows.specs.Bodies.{encoding, numbers_named}
use Rattle.s3_stored_rows.specs.Changes.{store_row, with_store, without_row}
use Rattle.s3_stored_rows.specs.declared.rows.TableName.TheVariants.{Store}
use Rattle.s3_row_steps.specs.Steps.{AreKept}
use Rattle.s3_table_records.specs.Kept.{Kept, kept, IsKept, Changes, Deletes, catalogue}
use Rattle.s3_table_records.specs.Numbered.{SaysNumber, LeavesNumber, IsAbove, IsNumbered}

-- ---- numbers above those of a catalogue

-- so is a later one
pub later_above : {B : Type 0} (n m : ℕ) (c : Catalogue B) → n ≤ m → IsAbove n c → IsAbove m c
later_above n m c rises above = record {
  versions = later_is_below later_is_new n m c rises above.versions;
  uploads = λ name key id there. let low : id < n = above.uploads name key id there in omega (arith, low, rises);
}

abbrev UploadsBelow : {B : Type 0} → ℕ → Catalogue B → Type 0
UploadsBelow n c = (name key : List ℕ) (id : ℕ) → IsTrue (is_some (upload_at c name key id)) → id < n

-- the id of the upload that a change begins
abbrev pub id_in : {B : Type 0} → Change B → Option ℕ
id_in (UploadAdded key id u) = Some id
id_in other = None

uploads_same : {B : Type 0} (c d : Catalogue B) (k : ℕ) → UploadsBelow k c → SameUploads c d → UploadsBelow k d
uploads_same c d k below same name key id there = below name key id (ap is_some (sym (same name key id)) ∙ there)

-- the upload that changes is below, and so is each that stays
uploads_by_place : {B : Type 0} (c d : Catalogue B) (bucket key : List ℕ) (id : ℕ) (now : Option (Upload B)) (k : ℕ) → UploadsBelow k c → OneUploadChanges c d bucket key id now
    → (is_some now ≡ true → id < k) → UploadsBelow k d
uploads_by_place c d bucket key id now k below one here name y i there =
    let apart = λ (far : ¬ ((name ≡ bucket) × ((y ≡ key) × (i ≡ id)))). below name y i (ap is_some (sym (one.others name y i far)) ∙ there) in
    elim (same_or name bucket) [
      | inr far ↦ apart (λ all. far all.0)
      | inl same ↦ elim (same_or y key) [
        | inr far ↦ apart (λ all. far all.1.0)
        | inl equal ↦ elim (same_or_id i id) [
          | inr far ↦ apart (λ all. far all.1.1)
          | inl is ↦
              let low : id < k = here (ap is_some (sym one.here) ∙ (λ j. is_some (upload_at d (sym same j) (sym equal j) (sym is j))) ∙ there) in
              omega (arith, low, is)
        ]
      ]
    ]

there_before : {X : Type 0} (f : X → X) (found : Option X) → is_some (option_map f found) ≡ true → is_some found ≡ true
there_before f None there = there
there_before f (Some x) there = refl

uploads_after : {B : Type 0} (c d : Catalogue B) (bucket : List ℕ) (change : Change B) (k : ℕ) → UploadsBelow k c → IfSome (id_in change) (λ id. id < k) → UploadsAfter c bucket change d → UploadsBelow k d
uploads_after c d bucket (BucketAdded t) k below new same = uploads_same c d k below same
uploads_after c d bucket BucketDropped k below new same = uploads_same c d k below same
uploads_after c d bucket (VersioningSet status) k below new same = uploads_same c d k below same
uploads_after c d bucket (KeyChanged key what) k below new same = uploads_same c d k below same
uploads_after c d bucket (UploadAdded key id u) k below new one = uploads_by_place c d bucket key id (Some u) k below one (λ there. new)
uploads_after c d bucket (PartPut key id n part) k below new one =
    uploads_by_place c d bucket key id (option_map (with_part n part) (upload_at c bucket key id)) k below one
    (λ there. below bucket key id (there_before (with_part n part) (upload_at c bucket key id) there))
uploads_after c d bucket (UploadDropped key id) k below new one = uploads_by_place c d bucket key id None k below one (λ there. absurd (false≢true there))
uploads_after c d bucket (UploadCompleted key id what) k below new one = uploads_by_place c d bucket key id None k below one (λ there. absurd (false≢true there))

-- after a change whose entry it is above
changed_above : {B : Type 0} (n : ℕ) (c : Catalogue B) (name : List ℕ) (change : Change B) → IsTrue (may_come c name change) → IfSome (number_in change) (λ k. k < n) → IfSome (id_in change) (λ id. id < n)
    → IsAbove n c → IsAbove n (changed c name change)
changed_above n c name change may number id above = record {
  versions = numbers_stay_below numbers_stay_new n c name change above.versions number;
  uploads = uploads_after c (changed c name change) name change n above.uploads id (changes_are_by_upload c name change may);
}

-- and after several deletions by one
deleted_above : {B : Type 0} (k : ℕ) (c : Catalogue B) (name : List ℕ) (n m : ℕ) (objects : List NamedObject) → IsTrue (has_bucket c name) → n < k → IsAbove k c → IsAbove k (all_deleted c name n m objects)
deleted_above k c name n m objects there entry above = record {
  versions = deletions_stay_below numbers_stay_new k c name n m objects above.versions entry;
  uploads = uploads_same c (all_deleted c name n m objects) k above.uploads (deletions_keep_the_rest c name n m objects there).uploads;
}

-- ---- records between two calls

says_still : (said : ℕ) (t s : Tables) → s.store ≡ t.store → SaysNumber said t → SaysNumber said s
says_still said t s same (store, row, number, is) = (store, row, number, same ∙ is)

module _ {before after : Tables → Type 0} (fewer : (t : Tables) → after t → before t) {n w : ℕ} where
  -- nothing changed
  pub numbered_still : {t s : Tables} {c d : Contents} {u v : ℕ → ℕ} {next : ℤ} → s ≡ t → d ≡ c → v ≡ u → IsNumbered before n w (kept t c u next) → IsNumbered after n w (kept s d v next)
  numbered_still {t} {s} {c} {d} {u} {v} {next} tables contents uses was =
      rw (tables, contents, uses) (record { kept = was.kept; above = was.above; says = was.says; left = λ x left. was.left x (fewer x left) })

  with_above : (m : ℕ) (old new : Kept) → IsNumbered before n w old → IsKept new → new.tables.store ≡ old.tables.store → IsAbove m (catalogue new) → IsNumbered after m w new
  with_above m old new was kept store above = record { kept = kept; above = above; says = says_still w old.tables new.tables store was.says; left = λ x left. was.left x (fewer x left) }

  -- an entry changed something, or not
  pub numbered_change : {X : Type 0} (above : ℕ) {old new : Kept} {bucket : List ℕ} {change : Change (List ℕ)} (result : Result X NoMemory) → IsNumbered before n w old → Changes old new bucket change result
      → IsTrue (may_come (catalogue old) bucket change) → IfSome (number_in change) (λ k. k < above) → IfSome (id_in change) (λ id. id < above) → n ≤ above
      → IsNumbered after (if is_ok result then above else n) w new
  numbered_change above {old} {new} {bucket} {change} (Ok x) was is may number id rises =
      with_above above old new was is.kept is.store (rw is.ok (changed_above above (catalogue old) bucket change may number id (later_above n above (catalogue old) rises was.above)))
  numbered_change above {old} {new} {bucket} {change} (Err e) was is may number id rises =
      with_above n old new was is.kept is.store (rw is.err was.above)

  -- a change has no number
  pub numbered_beside : {X : Type 0} {old new : Kept} {bucket : List ℕ} {change : Change (List ℕ)} (result : Result X NoMemory) → IsNumbered before n w old → Changes old new bucket change result
      → IsTrue (may_come (catalogue old) bucket change) → number_in change ≡ None → id_in change ≡ None → IsNumbered after n w new
  numbered_beside {X} {old} {new} {bucket} {change} result was is may number id =
      subst (λ m. IsNumbered after m w new) (either result) (numbered_change n result was is may (rw number tt) (rw id tt) (omega arith))
    where
      either : (r : Result X NoMemory) → (if is_ok r then n else n) ≡ n
      either (Ok x) = refl
      either (Err e) = refl

  -- an entry deleted several objects, or none
  pub numbered_deletions : (above : ℕ) {old new : Kept} {bucket : List ℕ} {k m : ℕ} {objects : List NamedObject} (result : Result Markers NoMemory) → IsNumbered before n w old → Deletes old new bucket k m objects result
      → IsTrue (has_bucket (catalogue old) bucket) → k < above → n ≤ above → IsNumbered after (if is_ok result then above else n) w new
  numbered_deletions above {old} {new} {bucket} {k} {m} {objects} (Ok x) was is there entry rises =
      with_above above old new was is.kept is.store (rw is.ok (deleted_above above (catalogue old) bucket k m objects there entry (later_above n above (catalogue old) rises was.above)))
  numbered_deletions above {old} {new} {bucket} {k} {m} {objects} (Err e) was is there entry rises =
      with_above n old new was is.kept is.store (rw is.err was.above)

-- ---- a commit

-- rows are the same but for the row of the store
abbrev pub SameButStore : Tables → Tables → Type 0
SameButStore t s = s ≡ record t { store = s.store }

pub same_rows : (c : Contents) (t s : Tables) → SameButStore t s → catalogue_of (encoding c) s ≡ catalogue_of (encoding c) t
unfolding catalogue_of
same_rows c t s is = ap (catalogue_of (encoding c)) is

pub same_names : (t s : Tables) → SameButStore t s → numbers_named s ≡ numbers_named t
unfolding numbers_named
same_names t s is = ap numbers_named is

pub kept_rows : (next : ℤ) (t : Tables) (store : List StoreColumns) → AreKept next t → AreKept next (record t { store = store })
kept_rows next t store are =
    let sound = are.sound in
    record {
      sound = record {
        buckets = sound.buckets;
        versions = sound.versions;
        uploads = sound.uploads;
        parts = sound.parts;
        version_buckets = sound.version_buckets;
        upload_buckets = sound.upload_buckets;
        part_uploads = sound.part_uploads;
      };
      rowids = record { buckets = are.rowids.buckets; versions = are.rowids.versions; uploads = are.rowids.uploads; parts = are.rowids.parts };
      small = record { versions = are.small.versions; uploads = are.small.uploads };
    }

-- what is left of it: what could be left before, or these rows, which say no lower number than that of the next entry
pub numbered_commit : (before after : Tables → Type 0) (n w said : ℕ) (t s : Tables) (c d : Contents) (u v : ℕ → ℕ) (next : ℤ) → IsNumbered before n w (kept t c u next)
    → SameButStore t s → d ≡ c → v ≡ u → SaysNumber said s → ((x : Tables) → after x → before x ⊎ ((x ≡ s) × (n ≤ said))) → IsNumbered after n said (kept s d v next)
numbered_commit before after n w said t s c d u v next was same contents uses says left =
    rw (contents, uses) (record {
      kept = record {
        rows = subst (AreKept next) (sym same) (kept_rows next t s.store was.kept.rows);
        named = λ i. was.kept.named i ∙ ap (times i) (sym (same_names t s same));
      };
      above = above;
      says = says;
      left = λ x may. elim (left x may) [
        | inl had ↦ was.left x had
        | inr now ↦ rw now.0 (record { number = said; contents = c; says = says; above = later_above n said (catalogue_of (encoding c) s) now.1 above })
      ];
    })
  where
    above : IsAbove n (catalogue_of (encoding c) s)
    above = rw (same_rows c t s same) was.above

-- where all that is left are these rows, what is left says what they say
pub numbered_alone : {E : Type 0} (result : Result ⊤ E) (leaves : Tables → Type 0) (n said : ℕ) (s : Tables) → SaysNumber said s → n ≤ said
    → OnOk result ((t : Tables) → leaves t → t ≡ s) → OnOk result (LeavesNumber leaves n)
numbered_alone (Ok x) leaves n said s says reaches alone = λ t left. (said, reaches, subst (SaysNumber said) (sym (alone t left)) says)
numbered_alone (Err e) leaves n said s says reaches alone = tt

-- and so that number, and each lower one, or a later one
pub numbered_lower : {E : Type 0} (result : Result ⊤ E) (leaves : Tables → Type 0) (n m : ℕ) → n ≤ m → OnOk result (LeavesNumber leaves m) → OnOk result (LeavesNumber leaves n)
numbered_lower (Ok x) leaves n m lower is = λ t left. let at = is t left in (at.0, (let high : m ≤ at.0 = at.1 in omega (arith, lower, high)), at.2)
numbered_lower (Err e) leaves n m lower is = tt

-- a later number is above, too
pub numbered_raised : (leaves : Tables → Type 0) (n m w : ℕ) (k : Kept) → n ≤ m → IsNumbered leaves n w k → IsNumbered leaves m w k
numbered_raised leaves n m w k rises was = record { kept = was.kept; above = later_above n m (catalogue k) rises was.above; says = was.says; left = was.left }

-- ---- at first

pub numbered_first : (leaves : Tables → Type 0) (number : ℕ) (k : Kept) → IsKept k → SaysNumber number k.tables → IsAbove number (catalogue k) → ((t : Tables) → leaves t → t ≡ k.tables) → IsNumbered leaves number number k
numbered_first leaves number k kept says above left = record {
  kept = kept;
  above = above;
  says = says;
  left = λ t may. rw (left t may) (record { number = number; contents = k.contents; says = says; above = above });
}

-- every number is above those of a catalogue that opens
pub opening_above : (n : ℕ) (c : Catalogue (List ℕ)) → c ≡ opening [] → IsAbove n c
opening_above n c is = rw is (record {
  versions = opening_is_below (List ℕ) n [];
  uploads = λ name key id there. absurd (false≢true (ap is_some (sym ((opening_is_empty {B = List ℕ} [] name).no_uploads key id)) ∙ there));
})

-- ---- the row of the store in the place of another

pub store_row_put : (t : Tables) (said : ℕ) (new : StoreColumns) → SaysNumber said t → with_store new (without_row Store (pos 1) t) ≡ record t { store = new ∷ [] }
store_row_put t said new (old, first, number, stands) =
    ap (λ xs. with_store new (without_row Store (pos 1) (record t { store = xs }))) stands
    ∙ ap (λ b. record t { store = insert_by store_row (cond (not b) (old ∷ []) []) new }) (same_key old.row (pos 1) first)
