-- What the deletion of one object comes to.
use Rattle.std.proofs.Common.{◌≡◌, ◌≢◌, ◌⊎◌, inl, inr, refl, sym, ap, ap₂, subst, ◌∙◌, ℕ, ◌+◌, ◌==◌, ◌<◌, nat_lt, true≢false, ℤ, pos, ◌+ℤ◌, Bool, true, false, not, cond, int_eq, List, [], ◌∷◌, ◌++◌, Option, Some, None, option_map, unwrap_or, unsigned_abs, arith}
use Rattle.std.proofs.lemmas.Bool.Decides.{nat_tests}
use Rattle.std.proofs.lemmas.List.Sums.{fold-append}
use Rattle.std.specs.FinMap as map
use Rattle.std.specs.List.{AllByRecursion}
use Rattle.sqlite_keyed.specs.Keyed.{has_key}
use Rattle.sqlite_keyed.proofs.KeyedLemmas.{all-insert_by}
use Rattle.sqlite_keyed.proofs.ListLemmas.{all-filter}
use Rattle.s3_names.specs.declared.ids.VersionId.{VersionId}
use Rattle.s3_names.specs.declared.ids.VersionId.TheVariants.{Null, Numbered}
use Rattle.s3_versions.specs.declared.version.Content.TheVariants.{DeleteMarker, Stored}
use Rattle.s3_versions.specs.declared.version.Versioning.{Versioning}
use Rattle.s3_versions.specs.declared.version.Versioning.TheVariants.{Unversioned, Enabled, Suspended}
use Rattle.s3_versions.specs.Rules.{is_marker, is_delete_marker, is_new_number, new_id, made, KeyDeleted}
use Rattle.s3_versions.proofs.LawLemmas.{numbers_stay_new}
use Rattle.s3_deletions.specs.declared.named.KeyDeletion.{KeyDeletion}
use Rattle.s3_deletions.specs.declared.named.NamedObject.{NamedObject}
use Rattle.s3_deletions.specs.declared.named.NamedObject.TheVariants.{Object, Fault}
use Rattle.s3_deletions.specs.Deletions.{is_own, has_made, acts, change_named, marker_made_as, marker_by}
use Rattle.s3_records.specs.Catalogue.{has_bucket, versions_of, versioning_of}
use Rattle.s3_records.specs.Changes.{KeyChanged, changed}
use Rattle.s3_records.specs.Deletions.{deleted}
use Rattle.s3_records.specs.Places.{AreBelow}
use Rattle.s3_records.proofs.DeletionLawLemmas.{deletions_stay_below}
use Rattle.s3_records.proofs.DeletionLemmas.{new_unless_made}
use Rattle.s3_rows.specs.Columns.{VersionColumns, Tables}
use Rattle.s3_rows.specs.Finding.{id_column, is_version}
use Rattle.s3_rows.specs.Meaning.{version_of, data_of, catalogue_of}
use Rattle.s3_rows.specs.Soundness.{version_row, has_bucket_row, AreSound}
use Rattle.s3_rows.specs.TableChanges.{version_put, version_dropped}
use Rattle.s3_rows.specs.VersionLaws.{Makes, MayStand}
use Rattle.s3_rows.proofs.EditLemmas.{find_gone, has_key_left}
use Rattle.s3_rows.proofs.ReadingLemmas.{rows_tell_version}
use Rattle.s3_rows.proofs.VersionLawLemmas.{has_bucket-row, sound-dropped, rows_mark, rows_delete, rows_drop_versions}
use Rattle.s3_columns.specs.Columns.{id_column as column_of}
use Rattle.s3_stored_bodies.specs.Numbers.{Contents, times}
use Rattle.s3_stored_rows.specs.Bodies.{encoding, numbers_named}
use Rattle.s3_stored_rows.specs.Changes.{version_columns, with_version, changed_by, after_all}
use Rattle.s3_stored_rows.specs.Queries.{version_of_id}
use Rattle.s3_stored_rows.specs.Rowids.{AreRowsBelow}
use Rattle.s3_stored_rows.specs.declared.change.Change.{Change}
use Rattle.s3_stored_rows.specs.declared.change.Change.TheVariants.{AddVersion}
use Rattle.s3_stored_rows.specs.declared.rows.StoredVersion.{StoredVersion}
use Rattle.s3_row_values.specs.Values.{IsMarkerRow}
use Rattle.s3_row_deletions.specs.declared.standing.Standing.{Standing}
use Rattle.s3_row_deletions.specs.declared.steps.Entry.{Entry}
use Rattle.s3_row_deletions.specs.declared.steps.Step.{Step}
use Rattle.s3_row_deletions.specs.Standing.{shown, row_shown, MayComeAll}
use Rattle.s3_row_deletions.specs.Steps.{is_older, rows_gone, changes_of, numbers_gone, next_after, is_made, is_marker_shown, HasNewId, AreReady, IsDeleted, IsStep, IsMarkerPut, IsMark}
use Rattle.s3_row_deletions.proofs.MadeLemmas.{made_told, none_stands}
use Rattle.s3_row_deletions.proofs.ReadyLemmas.{rowids_dropped, rowids_put, next_free, gone_is, gone_may_come, gone_trades, put_trades}
use Rattle.s3_row_deletions.proofs.StandingLemmas.{may_come_more}
use Rattle.s3_row_deletions.proofs.VersioningLemmas.{same_versioning}

-- an id has one column, whoever spells it
pub one_column : (id : VersionId) → column_of id ≡ id_column id
one_column Null = refl
one_column (Numbered n) = refl

-- what is told of a found row is what its version tells
shown_made : (n : ℕ) (o : Option VersionColumns) → is_made n (option_map row_shown o) ≡ unwrap_or (option_map (λ (v : VersionColumns). unsigned_abs v.number == n) o) false
shown_made n None = refl
shown_made n (Some v) = refl

marker_column : (contents : Contents) (v : VersionColumns) → is_delete_marker (version_of (encoding contents) v) ≡ int_eq v.marker (pos 1)
marker_column contents v = elim (int_eq v.marker (pos 1)) as (λ b. is_marker (cond b DeleteMarker (Stored (data_of (encoding contents) v))) ≡ b) [ true ↦ refl | false ↦ refl ]

shown_marker : (contents : Contents) (o : Option VersionColumns) → unwrap_or (option_map is_delete_marker (option_map (version_of (encoding contents)) o)) false ≡ is_marker_shown (option_map row_shown o)
shown_marker contents None = refl
shown_marker contents (Some v) = marker_column contents v

marker_made : (versioning : Versioning) (n : ℕ) → versioning ≢ Unversioned → marker_made_as versioning n ≡ Some (new_id versioning n)
marker_made Enabled n other = refl
marker_made Suspended n other = refl
marker_made Unversioned n other = absurd (other refl)

pub enabled_or_suspended : (versioning : Versioning) → (versioning ≡ Enabled) ⊎ (versioning ≡ Suspended) → versioning ≢ Unversioned
enabled_or_suspended versioning (inl is) unversioned = cc
enabled_or_suspended versioning (inr is) unversioned = cc

-- an id that is older than an entry isn't its own, and a number that is neither is later
pub older_differs : (n : ℕ) (id : VersionId) → is_older n id ≡ true → is_own n id ≡ false
older_differs n Null older = refl
older_differs n (Numbered m) older = grind (arith, nat_tests)

later_than : (m n : ℕ) → nat_lt m n ≡ false → (m == n) ≡ false → n < m
later_than m n young other = grind (arith, nat_tests)

-- a row that goes alone
gone_alone : (found : Option Standing) → rows_gone found ++ [] ≡ rows_gone found
gone_alone None = refl
gone_alone (Some f) = refl

module _ (t : Tables) (bucket : List ℕ) (e : Entry) (next : ℤ) (r : AreReady t bucket e next) where
  abbrev cat : Contents → Rattle.s3_records.specs.Catalogue.Catalogue (List ℕ)
  cat contents = catalogue_of (encoding contents) t

  -- tables in which an object is deleted are ready again
  ready_after : (u : Tables) (later : ℤ) (object : NamedObject) → AreSound u → AreRowsBelow later u → u.buckets ≡ t.buckets
      → AllByRecursion (HasNewId bucket e.versioning e.number) u.versions
      → ((contents : Contents) → catalogue_of (encoding contents) u ≡ deleted (cat contents) bucket e.number e.moment object) → AreReady u bucket e later
  ready_after u later object sound rowids same own means = record {
    sound = sound;
    rowids = rowids;
    there = ap (λ bs. has_bucket_row bs bucket) same ∙ r.there;
    versioning = λ contents. same_versioning (encoding contents) t u bucket same ∙ r.versioning contents;
    below = λ contents. subst (λ c. AreBelow (e.number + 1) c) (sym (means contents))
        (deletions_stay_below numbers_stay_new (e.number + 1) (cat contents) bucket e.number e.moment (object ∷ []) (r.below contents) (omega arith));
    own = own;
  }

  -- a step that makes these changes, after which the tables are these
  step_is : (object : NamedObject) (step : Step) (cs : List Change) (u : Tables) → changes_of step ≡ cs → after_all cs t ≡ u → MayComeAll t cs
      → AreReady u bucket e (next_after step.comes next) → IsDeleted t u bucket e object step.marker (numbers_gone step.gone) → IsStep t bucket e next object step
  step_is object step cs u same is may ready deletes =
      let there : after_all (changes_of step) t ≡ u = ap (λ cs. after_all cs t) same ∙ is in
      record {
        may_come = subst (MayComeAll t) (sym same) may;
        ready = subst (λ u. AreReady u bucket e (next_after step.comes next)) (sym there) ready;
        is = subst (λ u. IsDeleted t u bucket e object step.marker (numbers_gone step.gone)) (sym there) deletes;
      }

  -- nothing changes where the object is a fault
  pub fault_step : (fault : Rattle.s3_deletions.specs.declared.named.DeletionFault.DeletionFault) → IsStep t bucket e next (Fault fault) (record { gone = None; comes = None; marker = None })
  fault_step fault = record {
    may_come = tt;
    ready = r;
    is = record { means = λ contents. refl; told = λ contents. refl; trades = λ n. refl };
  }

  -- nor where the deletion doesn't act
  idle_step : (d : KeyDeletion) → ((contents : Contents) → acts e.number d.version (versions_of (cat contents) bucket d.key) ≡ false)
      → IsStep t bucket e next (Object d) (record { gone = None; comes = None; marker = None })
  idle_step d idle = record {
    may_come = tt;
    ready = r;
    is = record {
      means = λ contents. sym (ap (λ b. cond b (changed (cat contents) bucket (KeyChanged d.key (change_named e.number e.moment d.version))) (cat contents)) (idle contents));
      told = λ contents. sym (ap (λ b. cond b (marker_by (versioning_of (cat contents) bucket) e.number d.version (versions_of (cat contents) bucket d.key)) None) (idle contents));
      trades = λ n. refl;
    };
  }

  -- an id that is the entry's own
  own_step : (key : List ℕ) (id : VersionId) → is_own e.number id ≡ true → IsStep t bucket e next (Object (record { key = key; version = Some id })) (record { gone = None; comes = None; marker = None })
  own_step key id own = idle_step (record { key = key; version = Some id }) (λ contents. ap not own)

  -- a deletion that acts
  acting : (u : Tables) (d : KeyDeletion) (marker : Option VersionId) (gone : List ℕ) → ((contents : Contents) → acts e.number d.version (versions_of (cat contents) bucket d.key) ≡ true)
      → ((contents : Contents) → catalogue_of (encoding contents) u ≡ changed (cat contents) bucket (KeyChanged d.key (change_named e.number e.moment d.version)))
      → ((contents : Contents) → marker ≡ marker_by (versioning_of (cat contents) bucket) e.number d.version (versions_of (cat contents) bucket d.key))
      → ((n : ℕ) → times n (numbers_named u) + times n gone ≡ times n (numbers_named t) + times n []) → IsDeleted t u bucket e (Object d) marker gone
  acting u d marker gone acts_here makes told trades = record {
    means = λ contents. makes contents ∙ sym (ap (λ b. cond b (changed (cat contents) bucket (KeyChanged d.key (change_named e.number e.moment d.version))) (cat contents)) (acts_here contents));
    told = λ contents. told contents ∙ sym (ap (λ b. cond b (marker_by (versioning_of (cat contents) bucket) e.number d.version (versions_of (cat contents) bucket d.key)) None) (acts_here contents));
    trades = trades;
  }

  -- what goes is the row of the version of an id, and nothing comes
  gone_step : (d : KeyDeletion) (id : ℤ) (found : Option Standing) (marker : Option VersionId) → option_map shown found ≡ option_map row_shown (version_of_id bucket d.key id t)
      → ((contents : Contents) → acts e.number d.version (versions_of (cat contents) bucket d.key) ≡ true)
      → ((contents : Contents) → Makes (encoding contents) t (version_dropped bucket d.key id t) bucket (KeyChanged d.key (change_named e.number e.moment d.version)))
      → ((contents : Contents) → marker ≡ marker_by (versioning_of (cat contents) bucket) e.number d.version (versions_of (cat contents) bucket d.key))
      → IsStep t bucket e next (Object d) (record { gone = found; comes = None; marker = marker })
  gone_step d id found marker same acts_here makes told =
      let left : Tables = version_dropped bucket d.key id t in
      let deletes = acting left d marker (numbers_gone found) acts_here (λ contents. (makes contents).means) told (gone_trades t bucket d.key id found r.sound same) in
      step_is (Object d) (record { gone = found; comes = None; marker = marker }) (rows_gone found) left (gone_alone found)
      (gone_is t bucket d.key id found r.sound same) (gone_may_come t found r.sound)
      (ready_after left next (Object d) (sound-dropped t (is_version bucket d.key id) r.sound) (rowids_dropped next t (is_version bucket d.key id) r.rowids) refl
      (all-filter (HasNewId bucket e.versioning e.number) (λ v. not (is_version bucket d.key id v)) t.versions r.own) deletes.means)
      deletes

  pub dropped_step : (key : List ℕ) (id : VersionId) (found : Option Standing) → option_map shown found ≡ option_map row_shown (version_of_id bucket key (id_column id) t) → is_own e.number id ≡ false
      → IsStep t bucket e next (Object (record { key = key; version = Some id })) (record { gone = found; comes = None; marker = cond (is_marker_shown (option_map shown found)) (Some id) None })
  dropped_step key id found same other =
      gone_step (record { key = key; version = Some id }) (id_column id) found _ same (λ contents. ap not other)
      (λ contents. rows_drop_versions (encoding contents) t bucket key id r.sound)
      (λ contents. ap (λ b. cond b (Some id) None)
      (ap is_marker_shown same ∙ sym (shown_marker contents (version_of_id bucket key (id_column id) t))
      ∙ sym (ap (λ o. unwrap_or (option_map is_delete_marker o) false) (rows_tell_version (encoding contents) t bucket key id r.sound))))

  -- an id that is not older than the entry is its own, or none has it
  pub young_step : (key : List ℕ) (id : VersionId) → is_older e.number id ≡ false → IsStep t bucket e next (Object (record { key = key; version = Some id })) (record { gone = None; comes = None; marker = None })
  young_step key Null young = absurd (true≢false young)
  young_step key (Numbered m) young = go (m == e.number) refl
    where
      go : (b : Bool) → (m == e.number) ≡ b → IsStep t bucket e next (Object (record { key = key; version = Some (Numbered m) })) (record { gone = None; comes = None; marker = None })
      go true is = own_step key (Numbered m) is
      go false is =
          dropped_step key (Numbered m) None
          (sym (ap (option_map row_shown) (none_stands (encoding map.empty) t r.sound bucket key e.number m (later_than m e.number young is) (r.below map.empty)))) is

  -- ---- a key that is named without a version
  module _ (key : List ℕ) (found : Option Standing) (same : option_map shown found ≡ option_map row_shown (version_of_id bucket key (id_column (new_id e.versioning e.number)) t)) where
    made_here : (contents : Contents) → has_made e.number (versions_of (cat contents) bucket key) ≡ is_made e.number (option_map shown found)
    made_here contents =
        made_told (encoding contents) t r.sound bucket key e.versioning e.number r.own
        ∙ sym (shown_made e.number (version_of_id bucket key (id_column (new_id e.versioning e.number)) t)) ∙ sym (ap (is_made e.number) same)

    -- the entry made what stands there
    pub made_step : is_made e.number (option_map shown found) ≡ true → IsStep t bucket e next (Object (record { key = key; version = None })) (record { gone = None; comes = None; marker = None })
    made_step is = idle_step (record { key = key; version = None }) (λ contents. ap not (made_here contents ∙ is))

    module _ (none : is_made e.number (option_map shown found) ≡ false) where
      acts_here : (contents : Contents) → acts e.number None (versions_of (cat contents) bucket key) ≡ true
      acts_here contents = ap not (made_here contents ∙ none)

      -- an unversioned bucket
      pub null_step : e.versioning ≡ Unversioned → IsStep t bucket e next (Object (record { key = key; version = None })) (record { gone = found; comes = None; marker = None })
      null_step unversioned =
          let id = ap (λ b. id_column (new_id b e.number)) unversioned in
          gone_step (record { key = key; version = None }) (id_column Null) found None
          (same ∙ ap (λ i. option_map row_shown (version_of_id bucket key i t)) id) acts_here
          (λ contents. rows_delete (encoding contents) t bucket key e.number e.moment r.sound (r.versioning contents ∙ unversioned))
          (λ contents. sym (ap (λ b. marker_made_as b e.number) (r.versioning contents ∙ unversioned)))

      -- any other
      module _ (versioned : e.versioning ≢ Unversioned) (v : StoredVersion) (is : IsMarkerRow (version_columns v) next bucket key e.versioning e.number e.moment) where
        abbrev row : VersionColumns
        row = version_columns v

        abbrev id : ℤ
        id = id_column (new_id e.versioning e.number)

        abbrev left : Tables
        left = version_dropped bucket key id t

        free : has_key version_row left.versions row.row ≡ false
        free = has_key_left version_row (is_version bucket key id) t.versions row.row (next_free next t row.row is.placed.row_is r.rowids)

        put_is : version_put row t ≡ with_version row left
        put_is = λ i. with_version row (version_dropped (is.placed.bucket_is i) (is.placed.key_is i) (is.placed.id_is i) t)

        -- the entry's number is above those of the versions under the key
        newer : (contents : Contents) → is_new_number e.number (versions_of (cat contents) bucket key) ≡ true
        newer contents = new_unless_made e.number (versions_of (cat contents) bucket key) (r.below contents bucket key) (acts_here contents)

        versioning_here : (contents : Contents) → versioning_of (cat contents) row.bucket ≡ e.versioning
        versioning_here contents = ap (versioning_of (cat contents)) is.placed.bucket_is ∙ r.versioning contents

        may_stand : (contents : Contents) → MayStand (encoding contents) t row e.number
        may_stand contents = record {
          fits = is.placed.fits;
          free = ap (λ (u : Tables). has_key version_row u.versions row.row) (λ i. version_dropped (is.placed.bucket_is i) (is.placed.key_is i) (is.placed.id_is i) t) ∙ free;
          there = has_bucket-row (encoding contents) t row.bucket ∙ ap (has_bucket_row t.buckets) is.placed.bucket_is ∙ r.there;
          newer = ap₂ (λ b k. is_new_number e.number (versions_of (cat contents) b k)) is.placed.bucket_is is.placed.key_is ∙ newer contents;
        }

        makes : (contents : Contents) → Makes (encoding contents) t (version_put row t) row.bucket (KeyChanged row.key (KeyDeleted e.number e.moment))
        makes contents =
            rows_mark (encoding contents) t row e.number e.moment r.sound (may_stand contents)
            (λ unversioned. versioned (sym (versioning_here contents) ∙ unversioned))
            (is.means contents ∙ ap (λ b. made b e.number e.moment DeleteMarker) (sym (versioning_here contents)))

        means : (contents : Contents) → catalogue_of (encoding contents) (with_version row left) ≡ changed (cat contents) bucket (KeyChanged key (KeyDeleted e.number e.moment))
        means contents =
            ap (catalogue_of (encoding contents)) (sym put_is) ∙ (makes contents).means
            ∙ ap₂ (λ b k. changed (cat contents) b (KeyChanged k (KeyDeleted e.number e.moment))) is.placed.bucket_is is.placed.key_is

        told : (contents : Contents) → Some (new_id e.versioning e.number) ≡ marker_by (versioning_of (cat contents) bucket) e.number None (versions_of (cat contents) bucket key)
        told contents = sym (ap (λ b. marker_made_as b e.number) (r.versioning contents) ∙ marker_made e.versioning e.number versioned)

        trades : (n : ℕ) → times n (numbers_named (with_version row left)) + times n (numbers_gone found) ≡ times n (numbers_named t) + times n []
        trades n = ap (λ l. times n l + times n (numbers_gone found)) (put_trades left row free is.names) ∙ gone_trades t bucket key id found r.sound same n

        no_other : version_of_id row.bucket row.key row.id left ≡ None
        no_other =
            let at_place : version_of_id row.bucket row.key row.id left ≡ version_of_id bucket key id left =
            λ i. version_of_id (is.placed.bucket_is i) (is.placed.key_is i) (is.placed.id_is i) left in
            at_place ∙ find_gone (is_version bucket key id) (is_version bucket key id) (λ x passes. passes) t.versions

        may_come : MayComeAll t (rows_gone found ++ AddVersion v ∷ [])
        may_come = may_come_more t (rows_gone found) (AddVersion v ∷ []) (gone_may_come t found r.sound)
            (subst (λ u. MayComeAll u (AddVersion v ∷ [])) (sym (gone_is t bucket key id found r.sound same)) ((free, no_other), tt))

        after : after_all (rows_gone found ++ AddVersion v ∷ []) t ≡ with_version row left
        after = fold-append (λ now change. changed_by change now) t (rows_gone found) (AddVersion v ∷ []) ∙ ap (with_version row) (gone_is t bucket key id found r.sound same)

        put_step : IsStep t bucket e next (Object (record { key = key; version = None })) (record { gone = found; comes = Some v; marker = Some (new_id e.versioning e.number) })
        put_step =
            let d : KeyDeletion = record { key = key; version = None } in
            let deletes = acting (with_version row left) d (Some (new_id e.versioning e.number)) (numbers_gone found) acts_here means told trades in
            step_is (Object d) (record { gone = found; comes = Some v; marker = Some (new_id e.versioning e.number) }) (rows_gone found ++ AddVersion v ∷ []) (with_version row left) refl after may_come
            (ready_after (with_version row left) (next +ℤ pos 1) (Object d) (subst AreSound put_is (makes map.empty).sound)
            (rowids_put next left row is.placed.row_is (rowids_dropped next t (is_version bucket key id) r.rowids)) refl
            (all-insert_by version_row (HasNewId bucket e.versioning e.number) left.versions row (λ inside number. is.placed.id_is)
            (all-filter (HasNewId bucket e.versioning e.number) (λ v. not (is_version bucket key id v)) t.versions r.own)) deletes.means)
            deletes

      pub mark_step : e.versioning ≢ Unversioned → (step : Step) → IsMark bucket e next key found step → IsStep t bucket e next (Object (record { key = key; version = None })) step
      mark_step versioned step marks = go step.comes refl marks.comes
        where
          go : (comes : Option StoredVersion) → step.comes ≡ comes → IsMarkerPut bucket e next key comes → IsStep t bucket e next (Object (record { key = key; version = None })) step
          go None is put = absurd put
          go (Some v) is put =
              let step_here : step ≡ record { gone = found; comes = Some v; marker = Some (new_id e.versioning e.number) } =
              λ i. record { gone = marks.gone i; comes = is i; marker = marks.marker i } in
              subst (IsStep t bucket e next (Object (record { key = key; version = None }))) (sym step_here) (put_step versioned v put)
