-- Delete markers by their ids, and what is deleted by its id.
use Rattle.std.proofs.Common.{◌≡◌, ◌≢◌, refl, sym, ap, subst, ◌∙◌, Bool, true, false, not, ◌&&◌, cond, ℕ, ◌==◌, ◌⊎◌, inl, inr, List, [], ◌∷◌, ◌++◌, append_assoc, Option, Some, None, is_some, option_map, Result, Ok, Err}
use Rattle.std.proofs.lemmas.Bool.{false≢true, not-false, or_parts}
use Rattle.std.proofs.lemmas.Option.{same_Some}
use Rattle.std.specs.FinMap as map
use Rattle.std.specs.FinMap.{get-empty}
use Rattle.std.specs.Option.{unwrap_or}
use Rattle.s3_text.specs.Order.{byte_order}
use Rattle.s3_text.proofs.MapLemmas.{same_or}
use Rattle.s3_terms.specs.declared.code.Code.TheVariants.{NoSuchBucket, MethodNotAllowed}
use Rattle.s3_terms.specs.Fault.{◌>>◌}
use Rattle.s3_names.specs.declared.ids.VersionId.{VersionId}
use Rattle.s3_names.specs.declared.ids.VersionId.TheVariants.{Null, Numbered}
use Rattle.s3_conditions.specs.Conditions.{plain}
use Rattle.s3_versions.specs.declared.picking.Refusal.{Refusal}
use Rattle.s3_versions.specs.declared.version.Content.{Content}
use Rattle.s3_versions.specs.declared.version.Content.TheVariants.{DeleteMarker, Stored}
use Rattle.s3_versions.specs.declared.version.Data.{Data}
use Rattle.s3_versions.specs.declared.version.Version.{Version}
use Rattle.s3_versions.specs.declared.version.Versioning.{Versioning}
use Rattle.s3_versions.specs.declared.version.Versioning.TheVariants.{Unversioned, Enabled, Suspended}
use Rattle.s3_versions.specs.declared.version.VersioningStatus.{VersioningStatus}
use Rattle.s3_versions.specs.declared.version.VersioningStatus.TheVariants as status
use Rattle.s3_versions.specs.Metadata.{Entry as MetadataEntry}
use Rattle.s3_versions.specs.Rules.{is_under, is_marker, is_delete_marker, made, new_id, pick, facts_of, asked_for, judged, read_as, without, KeyChange, VersionPut, KeyDeleted, VersionDropped, after_delete}
use Rattle.s3_versions.specs.Laws.{id_changed, marker_made, version_made}
use Rattle.s3_uploads.specs.declared.upload.Upload.{Upload}
use Rattle.s3_uploads.specs.Uploads.{with_part}
use Rattle.s3_deletions.specs.Deletions.{has_made}
use Rattle.s3_records.specs.Catalogue.{Bucket, has_bucket, found_versions, versions_in, versioning_in, versioning_of}
use Rattle.s3_records.specs.Changes.{Change, BucketAdded, BucketDropped, VersioningSet, KeyChanged, UploadAdded, PartPut, UploadDropped, UploadCompleted, set_in, change_in, upload_change_in, bucket_after, changed}
use Rattle.s3_records.specs.Laws.{ChangesAreLocal}
use Rattle.s3_records.specs.Places.{version_at, OnePlaceChanges, ChangesAreByPlace, AreBelow}
use Rattle.s3_machine.specs.declared.command.Command.{Command}
use Rattle.s3_machine.specs.declared.command.Command.TheVariants as commands
use Rattle.s3_machine.specs.declared.command.KeyCommand.TheVariants as key_commands
use Rattle.s3_machine.specs.declared.command.Found.{Found}
use Rattle.s3_machine.specs.declared.command.Outcome.TheVariants as outcomes
use Rattle.s3_machine.specs.declared.command.WriteCondition.TheVariants as write_conditions
use Rattle.s3_machine.specs.declared.rules.Rules.{Rules}
use Rattle.s3_machine.specs.Bases.{EverySoundHistory}
use Rattle.s3_machine.specs.Effects.{Address, Read, whole, reads, overrides_of, given_whole, succeeds}
use Rattle.s3_machine.specs.Fault.{refuse}
use Rattle.s3_machine.specs.History.{Entry, IsAnswer, Legal, after, after_entry}
use Rattle.s3_machine.specs.Kept.{EveryHistory, SparesVersion}
use Rattle.s3_machine.specs.Markers.{deletes_key, drops, LeavesMarker, Drops, MarkersAnswerToTheirId, MarkersAreDeletedByTheirId, DroppedVersionsAreGone, DroppedVersionsAreNotFound, UndeletedKeysComeBack, UndeletedKeysAreGiven}
use Rattle.s3_machine.specs.Step.{State, Stepped, tag_at, is_barred, barred_code, shown_in, makes_marker, is_marker_under, found_in, delete_step, key_done, done, stepped, step}
use Rattle.s3_machine.proofs.ChangeLemmas.{Comes, Stays, Then, bucket_here}
use Rattle.s3_machine.proofs.DeletionLemmas.{id_or, own_number, not_made}
use Rattle.s3_machine.proofs.EffectLemmas.{FollowRules, versions_at, after_line, step_does}
use Rattle.s3_machine.proofs.HistoryLemmas.{after-append, Legal-append, parts_of}
use Rattle.s3_machine.proofs.KeptLemmas.{outcome_is, picked, read_there, key_left, version_spared, whole_given}
use Rattle.s3_machine.proofs.StateLemmas.{Numbers, numbered_by, below_after}

-- ---- delete markers stand where versioning was set

-- what was found is no delete marker
abbrev IsPlain : Option (Version (List ℕ)) → Type 0
IsPlain found = (v : Version (List ℕ)) → found ≡ Some v → is_delete_marker v ≡ false

-- where versioning was never set no delete marker has this id
abbrev PlainIn : List ℕ → VersionId → Option (Bucket (List ℕ)) → Type 0
PlainIn key id found = versioning_in found ≡ Unversioned → IsPlain (asked_for (Some id) (versions_in found key))

abbrev PlainAt : Address → VersionId → State → Type 0
PlainAt a id s = PlainIn a.key id (map.get s a.bucket)

-- what is made there is none
made_plain : (what : KeyChange (List ℕ)) → IsPlain (version_made Unversioned what)
made_plain (VersionPut n t d) v is = sym (ap is_delete_marker (same_Some (made Unversioned n t (Stored d)) v is))
made_plain (KeyDeleted n t) v is = absurd (cc)
made_plain (VersionDropped id) v is = absurd (cc)

none_plain : (found : Option (Version (List ℕ))) → found ≡ None → IsPlain found
none_plain found none v is = absurd (cc)

placed_plain : (c d : State) (name k key : List ℕ) (under id : VersionId) (now : Option (Version (List ℕ)))
    → OnePlaceChanges c d name k under now
    → IsPlain now → IsPlain (version_at c name key id) → IsPlain (version_at d name key id)
placed_plain c d name k key under id now place new was =
    elim (same_or key k) [
      | inl there ↦
          elim (id_or id under) [
            | inl same ↦
                subst (λ (q : List ℕ). IsPlain (version_at d name q id)) (sym there)
                (subst (λ (i : VersionId). IsPlain (version_at d name k i)) (sym same) (subst IsPlain (sym place.here) new))
            | inr other ↦
                subst (λ (q : List ℕ). IsPlain (version_at c name q id) → IsPlain (version_at d name q id)) (sym there)
                (λ before. subst IsPlain (sym (place.other_ids id other)) before) was
          ]
      | inr other ↦ subst IsPlain (sym (ap (asked_for (Some id)) (place.other_keys name key (λ both. other both.1)))) was
    ]

-- a change of versions leaves a bucket's versioning
same_setting : (key : List ℕ) (what : KeyChange (List ℕ)) (found : Option (Bucket (List ℕ)))
    → versioning_in (option_map (change_in key what) found) ≡ versioning_in found
same_setting key what None = refl
same_setting key what (Some b) = refl

same_uploads : (key : List ℕ) (id : ℕ) (next : Option (Upload (List ℕ))
    → Option (Upload (List ℕ))) (found : Option (Bucket (List ℕ)))
    → versioning_in (option_map (upload_change_in key id next) found) ≡ versioning_in found
same_uploads key id next None = refl
same_uploads key id next (Some b) = refl

uploads_plain : (key : List ℕ) (id : VersionId) (k : List ℕ) (i : ℕ) (next : Option (Upload (List ℕ)) → Option (Upload (List ℕ)))
    (found : Option (Bucket (List ℕ))) → PlainIn key id found → PlainIn key id (option_map (upload_change_in k i next) found)
uploads_plain key id k i next None plain = plain
uploads_plain key id k i next (Some b) plain = plain

set_plain : (key : List ℕ) (id : VersionId) (to : VersioningStatus) (found : Option (Bucket (List ℕ))) → PlainIn key id found
    → PlainIn key id (option_map (set_in to) found)
set_plain key id to None plain = plain
set_plain key id status.Enabled (Some b) plain = λ is. absurd (cc)
set_plain key id status.Suspended (Some b) plain = λ is. absurd (cc)

-- a bucket that isn't there has none, whatever of its versions is changed
gone_plain : (key : List ℕ) (id : VersionId) (change : Change (List ℕ)) (found : Option (Bucket (List ℕ)))
    → bucket_after change found ≡ None
    → PlainIn key id (bucket_after change found)
gone_plain key id change found none =
    subst (PlainIn key id) (sym none) (λ is v found_it. absurd (cc))

module _ (places : ChangesAreByPlace (List ℕ)) (local : ChangesAreLocal (List ℕ)) where
  -- a change of the versions of one key, where the bucket is there
  changed_plain : (c d : State) (name k key : List ℕ) (id : VersionId) (what : KeyChange (List ℕ))
      → versioning_of d name ≡ versioning_of c name
      → OnePlaceChanges c d name k (id_changed (versioning_of c name) what) (version_made (versioning_of c name) what)
      → PlainIn key id (map.get c name) → PlainIn key id (map.get d name)
  changed_plain c d name k key id what same place plain is =
      let before = sym same ∙ is in
      placed_plain c d name k key (id_changed (versioning_of c name) what) id (version_made (versioning_of c name) what) place
      (subst (λ (b : Versioning). IsPlain (version_made b what)) (sym before) (made_plain what))
      (plain before)

  key_plain : (c : State) (name k key : List ℕ) (id : VersionId) (what : KeyChange (List ℕ)) (found : Option (Bucket (List ℕ)))
      → map.get c name ≡ found
      → PlainIn key id (map.get c name) → PlainIn key id (map.get (changed c name (KeyChanged k what)) name)
  key_plain c name k key id what None none plain =
      subst (PlainIn key id) (sym (bucket_here c name (bucket_after (KeyChanged k what) (map.get c name))))
      (gone_plain key id (KeyChanged k what) (map.get c name) (ap (bucket_after (KeyChanged k what)) none))
  key_plain c name k key id what (Some b) some plain =
      let here = bucket_here c name (bucket_after (KeyChanged k what) (map.get c name)) in
      changed_plain c (changed c name (KeyChanged k what)) name k key id what
      (ap versioning_in here ∙ same_setting k what (map.get c name))
      (places c name (KeyChanged k what) (ap is_some some)) plain

  completion_plain : (c : State) (name k key : List ℕ) (i : ℕ) (id : VersionId) (what : KeyChange (List ℕ))
      (found : Option (Bucket (List ℕ)))
      → map.get c name ≡ found → PlainIn key id (map.get c name)
      → PlainIn key id (map.get (changed c name (UploadCompleted k i what)) name)
  completion_plain c name k key i id what None none plain =
      subst (PlainIn key id) (sym (bucket_here c name (bucket_after (UploadCompleted k i what) (map.get c name))))
      (gone_plain key id (UploadCompleted k i what) (map.get c name) (ap (bucket_after (UploadCompleted k i what)) none))
  completion_plain c name k key i id what (Some b) some plain =
      let here = bucket_here c name (bucket_after (UploadCompleted k i what) (map.get c name)) in
      changed_plain c (changed c name (UploadCompleted k i what)) name k key id what
      (ap versioning_in here ∙ same_uploads k i (λ old. None) (option_map (change_in k what) (map.get c name))
      ∙ same_setting k what (map.get c name))
      (places c name (UploadCompleted k i what) (ap is_some some)) plain

  here_plain : (c : State) (name key : List ℕ) (id : VersionId) (change : Change (List ℕ)) → PlainIn key id (map.get c name)
      → PlainIn key id (bucket_after change (map.get c name)) → PlainIn key id (map.get (changed c name change) name)
  here_plain c name key id change was now =
      subst (PlainIn key id) (sym (bucket_here c name (bucket_after change (map.get c name)))) now

  bucket_plain : (c : State) (name key : List ℕ) (id : VersionId) (change : Change (List ℕ)) → PlainIn key id (map.get c name)
      → PlainIn key id (map.get (changed c name change) name)
  bucket_plain c name key id (KeyChanged k what) plain = key_plain c name k key id what (map.get c name) refl plain
  bucket_plain c name key id (UploadCompleted k i what) plain = completion_plain c name k key i id what (map.get c name) refl plain
  bucket_plain c name key id (BucketAdded t) plain =
      here_plain c name key id (BucketAdded t) plain
      (λ is. none_plain _ (ap (λ (found : Option (List (Version (List ℕ)))). asked_for (Some id) (found_versions found))
      (get-empty byte_order key)))
  bucket_plain c name key id BucketDropped plain =
      here_plain c name key id BucketDropped plain (λ is v found. absurd (cc))
  bucket_plain c name key id (VersioningSet to) plain =
      here_plain c name key id (VersioningSet to) plain (set_plain key id to (map.get c name) plain)
  bucket_plain c name key id (UploadAdded k i u) plain =
      here_plain c name key id (UploadAdded k i u) plain (uploads_plain key id k i (λ old. Some u) (map.get c name) plain)
  bucket_plain c name key id (PartPut k i number part) plain =
      here_plain c name key id (PartPut k i number part) plain
      (uploads_plain key id k i (option_map (with_part number part)) (map.get c name) plain)
  bucket_plain c name key id (UploadDropped k i) plain =
      here_plain c name key id (UploadDropped k i) plain (uploads_plain key id k i (λ old. None) (map.get c name) plain)

  stays_plain : (c : State) (name : List ℕ) (change : Change (List ℕ)) (a : Address) (id : VersionId) → PlainAt a id c
      → PlainAt a id (changed c name change)
  stays_plain c name change a id plain =
      elim (same_or a.bucket name) [
        | inl same ↦
            subst (λ (q : List ℕ). PlainIn a.key id (map.get (changed c name change) q)) (sym same)
            (bucket_plain c name a.key id change (subst (λ (q : List ℕ). PlainIn a.key id (map.get c q)) same plain))
        | inr other ↦ subst (PlainIn a.key id) (sym (local c name change a.bucket other)) plain
      ]

  comes_plain : (n : ℕ) (s c : State) (a : Address) (id : VersionId) → Comes n s c → PlainAt a id s → PlainAt a id c
  comes_plain n s _ a id Stays plain = plain
  comes_plain n s _ a id (Then {c} before name change numbered new) plain =
      stays_plain c name change a id (comes_plain n s c a id before plain)

  plain_after : FollowRules → (rules : Rules) (s : State) (n : ℕ) (es : List Entry) (a : Address) (id : VersionId)
      → Legal rules s n es
      → PlainAt a id s → PlainAt a id (after rules s es)
  plain_after follow rules s n [] a id legal plain = plain
  plain_after follow rules s n (e ∷ es) a id legal plain =
      plain_after follow rules (after_entry rules s e) _ es a id legal.1
      (comes_plain e.answer.number s (after_entry rules s e) a id
      (step_does places follow rules s e.answer.number e.moment e.command).comes plain)

-- ---- an entry that leaves a delete marker

-- a delete marker of this id stands, where versioning was set
record IsMarked (s : State) (a : Address) (id : VersionId) : Type 0 where
  marker : Version (List ℕ)
  there : version_at s a.bucket a.key id ≡ Some marker
  hides : marker.content ≡ DeleteMarker
  set : versioning_of s a.bucket ≢ Unversioned

-- a delete that tells of a marker makes one
record Marker (b : Versioning) (n t : ℕ) (id : VersionId) : Type 0 where
  under : new_id b n ≡ id
  makes : ◌≡◌ {A = Option (Version (List ℕ))} (marker_made b n t) (Some (made b n t DeleteMarker))
  set : b ≢ Unversioned

marker_by_told : (b : Versioning) (n t : ℕ) (id : VersionId)
    → outcomes.Deleted (shown_in b (new_id b n)) (makes_marker b) ≡ outcomes.Deleted (Some id) true → Marker b n t id
marker_by_told Unversioned n t id is = absurd (cc)
marker_by_told Enabled n t id is = record { under = cc; makes = refl; set = λ same. absurd (cc) }
marker_by_told Suspended n t id is = record { under = cc; makes = refl; set = λ same. absurd (cc) }

-- a step made one, and told of it
record LeftBy (s : State) (n t : ℕ) (a : Address) (id : VersionId) (st : Stepped) : Type 0 where
  there : has_bucket s a.bucket ≡ true
  marker : Marker (versioning_of s a.bucket) n t id
  state : st.0 ≡ changed s a.bucket (KeyChanged a.key (KeyDeleted n t))

-- where it tells so
abbrev TellsOfMarker : State → ℕ → ℕ → Address → VersionId → Stepped → Type 0
TellsOfMarker s n t a id st = st.1 ≡ outcomes.Deleted (Some id) true → LeftBy s n t a id st

left_by : (s : State) (n t : ℕ) (a : Address) (id : VersionId) → not (has_bucket s a.bucket) ≡ false
    → TellsOfMarker s n t a id (delete_step s n t a.bucket a.key)
left_by s n t a id there told = record {
  there = not-false (has_bucket s a.bucket) there;
  marker = marker_by_told (versioning_of s a.bucket) n t id told;
  state = refl;
}

step_leaves : (rules : Rules) (s : State) (n t : ℕ) (command : Command) (a : Address) (id : VersionId)
    → deletes_key command ≡ Some a
    → TellsOfMarker s n t a id (step rules s n t command)
unfolding done key_done
step_leaves rules s n t (commands.Key name key (key_commands.Delete None)) a id deletes =
    let here : Address = record { bucket = name; key = key } in
    let command = commands.Key name key (key_commands.Delete None) in
    subst (λ (place : Address). TellsOfMarker s n t place id (step rules s n t command)) (same_Some here a deletes)
    (after_line (TellsOfMarker s n t here id) s (not (has_bucket s name)) NoSuchBucket
    (key_done s n t name key (key_commands.Delete None))
    (λ refused. absurd (cc)) (left_by s n t here id))
step_leaves rules s n t (commands.Key name key (key_commands.DeleteMatching tags)) a id deletes =
    let here : Address = record { bucket = name; key = key } in
    let command = commands.Key name key (key_commands.DeleteMatching tags) in
    subst (λ (place : Address). TellsOfMarker s n t place id (step rules s n t command)) (same_Some here a deletes)
    (after_line (TellsOfMarker s n t here id) s (not (has_bucket s name)) NoSuchBucket
    (key_done s n t name key (key_commands.DeleteMatching tags))
    (λ refused. absurd (cc))
    (λ there. after_line (TellsOfMarker s n t here id) s (is_barred (write_conditions.IfMatch tags) (tag_at s name key))
    (barred_code (tag_at s name key)) _ (λ refused. absurd (cc)) (λ met. left_by s n t here id there)))
step_leaves rules s n t _ a id deletes = absurd (cc)

entry_leaves : (rules : Rules) (s : State) (n : ℕ) (e : Entry) (a : Address) (id : VersionId) → IsAnswer rules s n e
    → LeavesMarker a id e
    → LeftBy s e.answer.number e.moment a id (step rules s e.answer.number e.moment e.command)
entry_leaves rules s n e a id answer leaves =
    step_leaves rules s e.answer.number e.moment e.command a id leaves.deletes (sym (outcome_is rules s n e answer) ∙ leaves.told)

module _ (places : ChangesAreByPlace (List ℕ)) where
  marked_by : (s : State) (n t : ℕ) (a : Address) (id : VersionId) (st : Stepped) → LeftBy s n t a id st → IsMarked st.0 a id
  marked_by s n t a id st left =
      let what : KeyChange (List ℕ) = KeyDeleted n t in
      let b = versioning_of s a.bucket in
      let place = places s a.bucket (KeyChanged a.key what) left.there in
      let same = ap (λ (after : State). versioning_of after a.bucket) left.state
      ∙ ap versioning_in (bucket_here s a.bucket (bucket_after (KeyChanged a.key what) (map.get s a.bucket)))
      ∙ same_setting a.key what (map.get s a.bucket) in
      record {
        marker = made b n t DeleteMarker;
        there = ap (λ (after : State). version_at after a.bucket a.key id) left.state
            ∙ sym (ap (version_at (changed s a.bucket (KeyChanged a.key what)) a.bucket a.key) left.marker.under)
            ∙ place.here ∙ left.marker.makes;
        hides = refl;
        set = λ is. left.marker.set (sym same ∙ is);
      }

  entry_marks : (rules : Rules) (s : State) (n : ℕ) (e : Entry) (a : Address) (id : VersionId) → IsAnswer rules s n e
      → LeavesMarker a id e
      → IsMarked (after_entry rules s e) a id
  entry_marks rules s n e a id answer leaves =
      marked_by s e.answer.number e.moment a id (step rules s e.answer.number e.moment e.command)
      (entry_leaves rules s n e a id answer leaves)

  -- ---- an entry that deletes a version

  -- the version of this id is gone, and what it was is told
  record IsDropped (s : State) (a : Address) (id : VersionId) (st : Stepped) : Type 0 where
    outcome : st.1 ≡ outcomes.Deleted (shown_in (versioning_of s a.bucket) id) (is_marker_under id (versions_at s a))
    there : has_bucket s a.bucket ≡ true
    state : st.0 ≡ changed s a.bucket (KeyChanged a.key (VersionDropped id))

  -- what it does once its bucket is found
  abbrev drop_done : State → Address → VersionId → Bool → Stepped
  drop_done s a id found =
      stepped s (refuse (not found) NoSuchBucket >> Ok (
        changed s a.bucket (KeyChanged a.key (VersionDropped id)),
        outcomes.Deleted (shown_in (versioning_of s a.bucket) id) (is_marker_under id (versions_at s a)),
      ))

  dropped_line : (s : State) (a : Address) (id : VersionId) (found : Bool) → has_bucket s a.bucket ≡ found
      → (has_bucket s a.bucket ≡ true) ⊎ (succeeds (drop_done s a id found).1 ≡ true) → IsDropped s a id (drop_done s a id found)
  dropped_line s a id true there reached = record { outcome = refl; there = there; state = refl }
  dropped_line s a id false none (inl there) = absurd (false≢true (sym none ∙ there))
  dropped_line s a id false none (inr accepted) = absurd (false≢true accepted)

  -- so it is where the bucket is there, or the command succeeds
  step_drops : (rules : Rules) (s : State) (n t : ℕ) (command : Command) (a : Address) (id : VersionId)
      → drops command ≡ Some (a, id)
      → (has_bucket s a.bucket ≡ true) ⊎ (succeeds (step rules s n t command).1 ≡ true)
      → IsDropped s a id (step rules s n t command)
  unfolding done key_done
  step_drops rules s n t (commands.Key name key (key_commands.Delete (Some named))) a id asks reached =
      let here : Address = record { bucket = name; key = key } in
      let same = same_Some (here, named) (a, id) asks in
      let command = commands.Key name key (key_commands.Delete (Some named)) in
      subst (λ (p : Address × VersionId). (has_bucket s p.0.bucket ≡ true) ⊎ (succeeds (step rules s n t command).1 ≡ true)
      → IsDropped s p.0 p.1 (step rules s n t command)) same
      (dropped_line s here named (has_bucket s name) refl) reached
  step_drops rules s n t _ a id asks reached = absurd (cc)

  -- nothing has the id then
  gone_by : (s : State) (a : Address) (id : VersionId) (st : Stepped) → IsDropped s a id st
      → version_at st.0 a.bucket a.key id ≡ None
  gone_by s a id st dropped =
      ap (λ (after : State). version_at after a.bucket a.key id) dropped.state
      ∙ (places s a.bucket (KeyChanged a.key (VersionDropped id)) dropped.there).here

-- a delete marker that a read by its id finds is refused
marker_read : (id : VersionId) (v : Version (List ℕ)) → v.content ≡ DeleteMarker
    → judged (Some id) (Some v) ≡ Err (record { code = MethodNotAllowed; is_delete_marker = true })
marker_read id v hides =
    ap (λ (content : Content (List ℕ)). read_as (record { code = MethodNotAllowed; is_delete_marker = true }) v content) hides

-- a read by an id, of what stands there
read_by_id : (rules : Rules) (s : State) (n t : ℕ) (command : Command) (asked : Read) (a : Address) (id : VersionId)
    → reads command ≡ Some asked
    → asked.address ≡ a → asked.version ≡ Some id → has_bucket s a.bucket ≡ true
    → (step rules s n t command).1 ≡ picked s a.bucket asked.conditions (overrides_of command) (pick (Some id) (versions_at s a))
read_by_id rules s n t command asked a id is at named there =
    read_there rules s n t command asked is (ap (λ (b : Address). has_bucket s b.bucket) at ∙ there)
    ∙ ap (λ (b : Address). picked s b.bucket asked.conditions (overrides_of command) (pick asked.version (versions_at s b))) at
    ∙ ap (λ (v : Option VersionId). picked s a.bucket asked.conditions (overrides_of command) (pick v (versions_at s a))) named

-- a bucket that has a version is there
bucket_found : (found : Option (Bucket (List ℕ))) (key : List ℕ) (id : VersionId) (v : Version (List ℕ))
    → asked_for (Some id) (versions_in found key) ≡ Some v → is_some found ≡ true
bucket_found None key id v is = absurd (cc)
bucket_found (Some b) key id v is = refl

-- an id is shown where versioning was set
shown_set : (b : Versioning) (id : VersionId) → b ≢ Unversioned → shown_in b id ≡ Some id
shown_set Unversioned id set = absurd (set refl)
shown_set Enabled id set = refl
shown_set Suspended id set = refl

told_deleted : (shown : Option VersionId) (was : Bool) (id : VersionId) → shown ≡ Some id → was ≡ true
    → outcomes.Deleted shown was ≡ outcomes.Deleted (Some id) true
told_deleted shown was id is so = cc

-- ---- in a history

-- behind entries that spare it, it stands, and its bucket has its versioning set
module _ (places : ChangesAreByPlace (List ℕ)) (follow : FollowRules) where
  marked_still : ChangesAreLocal (List ℕ)
      → (rules : Rules) (s : State) (n : ℕ) (es : List Entry) (a : Address) (id : VersionId) → Legal rules s n es
      → SparesVersion a id es → IsMarked s a id → IsMarked (after rules s es) a id
  marked_still local rules s n es a id legal spares marked =
      let there = version_spared places follow rules s n es a id legal spares ∙ marked.there in
      record {
        marker = marked.marker;
        there = there;
        hides = marked.hides;
        set = λ is.
            let plain = plain_after places local follow rules s n es a id legal (λ unset. absurd (marked.set unset)) in
            absurd (false≢true (sym (plain is marked.marker there) ∙ ap is_marker marked.hides));
      }

  pub markers_answer_to_their_id : ChangesAreLocal (List ℕ) → EveryHistory MarkersAnswerToTheirId
  markers_answer_to_their_id local rules s n entries legal before between later mark read a id parts leaves spares asks =
      let at = parts_of rules s n entries before between later mark read legal parts in
      let here = after rules s before in
      let there = after rules (after_entry rules here mark) between in
      let marked = marked_still local rules (after_entry rules here mark) at.k between a id at.legal spares
      (entry_marks places rules here at.m mark a id at.right leaves) in
      outcome_is rules there at.j read at.right_last
      ∙ read_by_id rules there read.answer.number read.moment read.command asks.asked a id asks.read asks.at asks.named
      (bucket_found (map.get there a.bucket) a.key id marked.marker marked.there)
      ∙ ap (picked there a.bucket asks.asked.conditions (overrides_of read.command))
      (ap (judged (Some id)) marked.there ∙ marker_read id marked.marker marked.hides)

  pub markers_are_deleted_by_their_id : ChangesAreLocal (List ℕ) → EveryHistory MarkersAreDeletedByTheirId
  markers_are_deleted_by_their_id local rules s n entries legal before between later mark drop a id parts leaves spares asks =
      let at = parts_of rules s n entries before between later mark drop legal parts in
      let here = after rules s before in
      let there = after rules (after_entry rules here mark) between in
      let marked = marked_still local rules (after_entry rules here mark) at.k between a id at.legal spares
      (entry_marks places rules here at.m mark a id at.right leaves) in
      let dropped = step_drops places rules there drop.answer.number drop.moment drop.command a id asks
      (inl (bucket_found (map.get there a.bucket) a.key id marked.marker marked.there)) in
      outcome_is rules there at.j drop at.right_last ∙ dropped.outcome
      ∙ told_deleted (shown_in (versioning_of there a.bucket) id) (is_marker_under id (versions_at there a)) id
      (shown_set (versioning_of there a.bucket) id marked.set)
      (ap (λ (found : Option (Version (List ℕ))). unwrap_or (option_map is_delete_marker found) false) marked.there
      ∙ ap is_marker marked.hides)

  -- what an entry deletes by its id is gone behind it, and behind those that spare it
  entry_drops : (rules : Rules) (s : State) (n : ℕ) (e : Entry) (a : Address) (id : VersionId) → IsAnswer rules s n e → Drops a id e
      → IsDropped places s a id (step rules s e.answer.number e.moment e.command)
  entry_drops rules s n e a id answer dropped =
      step_drops places rules s e.answer.number e.moment e.command a id dropped.asks
      (inr (sym (ap succeeds (outcome_is rules s n e answer)) ∙ dropped.accepted))

  gone_still : (rules : Rules) (s : State) (n m : ℕ) (e : Entry) (es : List Entry) (a : Address) (id : VersionId)
      → IsAnswer rules s n e
      → Legal rules (after_entry rules s e) m es → Drops a id e → SparesVersion a id es
      → version_at (after rules (after_entry rules s e) es) a.bucket a.key id ≡ None
  gone_still rules s n m e es a id answer legal dropped spares =
      version_spared places follow rules (after_entry rules s e) m es a id legal spares
      ∙ gone_by places s a id (step rules s e.answer.number e.moment e.command) (entry_drops rules s n e a id answer dropped)

  pub dropped_versions_are_gone : EveryHistory DroppedVersionsAreGone
  dropped_versions_are_gone rules s n entries legal before since drop a id parts dropped spares =
      let here = after rules s before in
      let joined = Legal-append rules s n before (drop ∷ since) (subst (Legal rules s n) parts legal) in
      ap (λ (es : List Entry). version_at (after rules s es) a.bucket a.key id) parts
      ∙ ap (λ (state : State). version_at state a.bucket a.key id) (after-append rules s before (drop ∷ since))
      ∙ gone_still rules here _ _ drop since a id joined.1.0 joined.1.1 dropped spares

  pub dropped_versions_are_not_found : EveryHistory DroppedVersionsAreNotFound
  dropped_versions_are_not_found rules s n entries legal before since later drop read a id parts dropped spares asks found =
      let split = parts ∙ append_assoc before (drop ∷ since) (read ∷ later) in
      let at = parts_of rules s n entries before since later drop read legal parts in
      let here = after rules s before in
      let there = after rules (after_entry rules here drop) since in
      let is_there = sym (ap (λ (state : State). has_bucket state a.bucket) (after-append rules s before (drop ∷ since))) ∙ found in
      let gone = gone_still rules here at.m at.k drop since a id at.right at.legal dropped spares in
      outcome_is rules there at.j read at.right_last
      ∙ read_by_id rules there read.answer.number read.moment read.command asks.asked a id asks.read asks.at asks.named is_there
      ∙ ap (λ (v : Option (Version (List ℕ))). picked there a.bucket asks.asked.conditions (overrides_of read.command) (judged (Some id) v)) gone

-- ---- a key that comes back

never : (x : Bool) → (x && false) ≡ false
never true = refl
never false = refl

-- without what an entry made there are as many versions as before, where it made none of them
without_unmade : (n : ℕ) (vs : List (Version (List ℕ))) → has_made n vs ≡ false → without (Numbered n) vs ≡ vs
unfolding without
without_unmade n [] none = refl
without_unmade n (v ∷ vs) none =
    let both = or_parts (v.number == n) (has_made n vs) none in
    let other : is_under (Numbered n) v ≡ false = ap (λ x. not v.is_null && x) both.0 ∙ never (not v.is_null) in
    ap (λ x. cond (not x) (v ∷ without (Numbered n) vs) (without (Numbered n) vs)) other
    ∙ ap (λ (ws : List (Version (List ℕ))). v ∷ ws) (without_unmade n vs both.1)

marker_undone : (n t : ℕ) (vs : List (Version (List ℕ))) → has_made n vs ≡ false
    → without (Numbered n) (after_delete Enabled n t vs) ≡ vs
unfolding without
marker_undone n t vs none =
    let v : Version (List ℕ) = made Enabled n t DeleteMarker in
    let rest = without (Numbered n) vs in
    ap (λ x. cond (not x) (v ∷ without (Numbered n) rest) (without (Numbered n) rest)) (own_number n)
    ∙ ap (without (Numbered n)) (without_unmade n vs none) ∙ without_unmade n vs none

-- a marker whose id isn't `null` is made where versioning is enabled, and deleting it undoes the delete
undone : (b : Versioning) (n t : ℕ) (id : VersionId) (vs : List (Version (List ℕ))) → has_made n vs ≡ false → Marker b n t id
    → id ≢ Null
    → without id (after_delete b n t vs) ≡ vs
undone Unversioned n t id vs none marker other = absurd (marker.set refl)
undone Enabled n t id vs none marker other =
    sym (ap (λ (i : VersionId). without i (after_delete Enabled n t vs)) marker.under) ∙ marker_undone n t vs none
undone Suspended n t id vs none marker other = absurd (other (sym marker.under))

module _ (places : ChangesAreByPlace (List ℕ)) (follow : FollowRules) where
  -- the versions behind the delete of a version
  dropped_from : (s : State) (a : Address) (id : VersionId) (st : Stepped) → IsDropped places s a id st
      → versions_at st.0 a ≡ without id (versions_at s a)
  dropped_from s a id st dropped =
      ap (λ (after : State). versions_at after a) dropped.state ∙ follow.keys s a.bucket a.key (VersionDropped id) dropped.there

  pub undeleted_keys_come_back : Numbers → EverySoundHistory UndeletedKeysComeBack
  undeleted_keys_come_back numbers rules s n entries sound legal before between since mark drop a id parts other leaves left asks
      behind =
      let at = parts_of rules s n entries before between since mark drop legal parts in
      let here = after rules s before in
      let marked_state = after_entry rules here mark in
      let there = after rules s (before ++ mark ∷ between) in
      let same : there ≡ after rules marked_state between = after-append rules s before (mark ∷ between) in
      let joined = Legal-append rules s n (before ++ mark ∷ between) (drop ∷ since) (subst (Legal rules s n) parts legal) in
      let first = Legal-append rules s n before (mark ∷ between) joined.0 in
      let below = subst (λ (m : ℕ). AreBelow m here) (sym (numbered_by rules here _ mark first.1.0))
      (below_after places follow rules numbers s n before first.0 sound.versions) in
      let made_it = entry_leaves rules here _ mark a id first.1.0 leaves in
      let marked = entry_marks places rules here _ mark a id first.1.0 leaves in
      let what : KeyChange (List ℕ) = KeyDeleted mark.answer.number mark.moment in
      let versions = ap (λ (state : State). versions_at state a) same
      ∙ key_left places follow rules marked_state _ between a first.1.1 left in
      let is_there = bucket_found (map.get there a.bucket) a.key id marked.marker
      (ap (asked_for (Some id)) versions ∙ marked.there) in
      let dropped = step_drops places rules there drop.answer.number drop.moment drop.command a id asks (inl is_there) in
      ap (λ (es : List Entry). versions_at (after rules s es) a) parts
      ∙ ap (λ (state : State). versions_at state a) (after-append rules s (before ++ mark ∷ between) (drop ∷ since))
      ∙ key_left places follow rules (after_entry rules there drop) _ since a joined.1.1 behind
      ∙ dropped_from there a id (step rules there drop.answer.number drop.moment drop.command) dropped
      ∙ ap (without id) (versions ∙ ap (λ (state : State). versions_at state a) made_it.state
      ∙ follow.keys here a.bucket a.key what made_it.there)
      ∙ undone (versioning_of here a.bucket) mark.answer.number mark.moment id (versions_at here a)
      (not_made mark.answer.number (versions_at here a) (below a.bucket a.key)) made_it.marker other

-- a plain read that is given a version picks it, from a bucket that is there
picked_given : (s : State) (name : List ℕ) (overrides : List MetadataEntry) (read : Result (Version (List ℕ) × Data (List ℕ)) Refusal) (found : Found (List ℕ))
    → given_whole (picked s name plain overrides read) ≡ Some found
    → (q : Version (List ℕ) × Data (List ℕ)) × (read ≡ Ok q) × (found_in (versioning_of s name) q ≡ found)
picked_given s name overrides (Ok q) found is = (
  q,
  refl,
  same_Some (found_in (versioning_of s name) q) found
      (sym (whole_given (found_in (versioning_of s name) q) overrides (facts_of q)) ∙ is),
)
picked_given s name overrides (Err refusal) found is = absurd (cc)

picked_there : (found : Option (Bucket (List ℕ))) (key : List ℕ) (q : Version (List ℕ) × Data (List ℕ))
    → pick None (versions_in found key) ≡ Ok q → is_some found ≡ true
picked_there None key q is = absurd (cc)
picked_there (Some b) key q is = refl

pub undeleted_keys_are_given : EverySoundHistory UndeletedKeysComeBack → EverySoundHistory UndeletedKeysAreGiven
undeleted_keys_are_given law rules s n entries sound legal before between since later mark drop read a id what given parts other
    leaves left asks behind reads_key =
    let front = (before ++ mark ∷ between) ++ drop ∷ since in
    let here = after rules s before in
    let there = after rules s front in
    let joined = Legal-append rules s n front (read ∷ later) (subst (Legal rules s n) parts legal) in
    let versions = law rules s n front sound joined.0 before between since mark drop a id refl other leaves left asks behind in
    let first = Legal-append rules s n before (mark ∷ between)
    (Legal-append rules s n (before ++ mark ∷ between) (drop ∷ since) joined.0).0 in
    let made_it = entry_leaves rules here _ mark a id first.1.0 leaves in
    let picks = picked_given here a.bucket (overrides_of read.command) (pick None (versions_at here a)) given.found
    (sym (ap given_whole (read_there rules here read.answer.number read.moment read.command (whole a None) reads_key made_it.there))
    ∙ given.gives rules read.answer.number read.moment read.command reads_key) in
    let now = ap (pick None) versions ∙ picks.1 in
    let outcome = outcome_is rules there _ read joined.1.0
    ∙ read_there rules there read.answer.number read.moment read.command (whole a None) reads_key
    (picked_there (map.get there a.bucket) a.key picks.0 now)
    ∙ ap (picked there a.bucket plain (overrides_of read.command)) now in
    let found = found_in (versioning_of there a.bucket) picks.0 in
    record {
      found = found;
      gives = ap given_whole outcome ∙ whole_given found (overrides_of read.command) (facts_of picks.0);
      moment = ap (λ (f : Found (List ℕ)). f.moment) picks.2;
      holds = ap (λ (f : Found (List ℕ)). f.stored) picks.2 ∙ given.holds;
    }
