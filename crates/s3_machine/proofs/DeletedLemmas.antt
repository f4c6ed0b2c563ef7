-- What becomes of the objects that one entry deletes together.
use Rattle.std.proofs.Common.{◌≡◌, ◌≢◌, refl, sym, ap, subst, ◌∙◌, Bool, true, false, not, cond, ◌||◌, ℕ, ◌⊎◌, ⊎_elim, inl, inr, List, [], ◌∷◌, ◌++◌, append_assoc, Contains, Option, Some, None, Ok, Err}
use Rattle.std.proofs.lemmas.Bool.{false≢true, not-true, not-false}
use Rattle.std.proofs.lemmas.Option.{same_Some}
use Rattle.std.proofs.lemmas.List.Elements.{Contains-append_right}
use Rattle.s3_text.proofs.MapLemmas.{same_or}
use Rattle.s3_terms.specs.Fault.{◌>>◌}
use Rattle.s3_terms.specs.declared.code.Code.TheVariants.{NoSuchBucket, NoSuchKey}
use Rattle.s3_names.specs.declared.ids.VersionId.{VersionId}
use Rattle.s3_names.specs.declared.ids.VersionId.TheVariants.{Null, Numbered}
use Rattle.s3_versions.specs.declared.version.Content.TheVariants.{DeleteMarker}
use Rattle.s3_versions.specs.declared.version.Version.{Version}
use Rattle.s3_versions.specs.declared.version.Versioning.{Versioning}
use Rattle.s3_versions.specs.declared.version.Versioning.TheVariants.{Unversioned, Enabled, Suspended}
use Rattle.s3_versions.specs.Rules.{made, new_id, pick, without, KeyDeleted, after_change}
use Rattle.s3_versions.specs.Laws.{marker_made, version_made}
use Rattle.s3_versions.specs.Laws as versions
use Rattle.s3_deletions.specs.Deletions.{is_own, has_made, is_marker_under, acts, change_named, marker_made_as, marker_by, rows_told}
use Rattle.s3_deletions.specs.declared.named.Deletion.{Deletion}
use Rattle.s3_deletions.specs.declared.named.KeyDeletion.{KeyDeletion}
use Rattle.s3_deletions.specs.declared.named.NamedObject.{NamedObject}
use Rattle.s3_deletions.specs.declared.named.NamedObject.TheVariants.{Object, Fault}
use Rattle.s3_deletions.specs.declared.told.DeletionRow.{DeletionRow}
use Rattle.s3_deletions.specs.declared.told.DeletionRow.TheVariants as rows
use Rattle.s3_records.specs.Catalogue.{has_bucket, versions_of, versioning_of}
use Rattle.s3_records.specs.Changes.{KeyChanged, changed}
use Rattle.s3_records.specs.Deletions.{deleted, all_deleted, markers_of}
use Rattle.s3_records.specs.Laws.{ChangesFollowRules}
use Rattle.s3_records.specs.Places.{version_at, ChangesAreByPlace, AreBelow}
use Rattle.s3_documents.specs.Document as documents
use Rattle.s3_machine.specs.declared.command.Command.{Command}
use Rattle.s3_machine.specs.declared.command.Command.TheVariants as commands
use Rattle.s3_machine.specs.declared.command.Outcome.TheVariants as outcomes
use Rattle.s3_machine.specs.declared.rules.Rules.{Rules}
use Rattle.s3_machine.specs.Bases.{EverySoundHistory}
use Rattle.s3_machine.specs.Deleted.{Deletes, Reaches, TellsMarker, NamedKeysAreGone, NamedVersionsAreGone, OtherVersionsStay, DeletionsAreTold, MarkersAreToldOnce}
use Rattle.s3_machine.specs.Effects.{overrides_of, Address, deletes, succeeds}
use Rattle.s3_machine.specs.Fault.{refuse}
use Rattle.s3_machine.specs.History.{Entry, IsAnswer, Legal, after, after_entry}
use Rattle.s3_machine.specs.Kept.{EveryHistory}
use Rattle.s3_machine.specs.Step.{State, Stepped, makes_marker, done, stepped, step}
use Rattle.s3_machine.proofs.ChangeLemmas.{AllNull, none_null}
use Rattle.s3_machine.proofs.ContainsLemmas.{nothing_in, first_or_later, contains_first}
use Rattle.s3_machine.proofs.DeletionLemmas.{deed, IsIn, stays_in, row_of, rows_of, all_meet, reached, own_is, own_number, found_made, none_made, not_made, rests_made, acts_unmade, same_deletion, placed, makes_or_leaves, rests_or_made, other_key, all_others}
use Rattle.s3_machine.proofs.DeletionRowLemmas.{same_row}
use Rattle.s3_machine.proofs.EffectLemmas.{FollowRules, versions_at}
use Rattle.s3_machine.proofs.HistoryLemmas.{after-push, after-append, Legal-append, parts_of, right_at}
use Rattle.s3_machine.proofs.KeptLemmas.{outcome_is, picked, read_there, key_left}
use Rattle.s3_machine.proofs.StateLemmas.{Numbers, numbered_by, below_after, null_after}

-- ---- a key that is named alone

-- nothing of the key was made by entry n, and where versioning was never set its versions are `null`
record IsFresh (b : Versioning) (n : ℕ) (vs : List (Version (List ℕ))) : Type 0 where
  unmade : has_made n vs ≡ false
  null : b ≡ Unversioned → AllNull vs

-- the key is gone: it has no versions, or what entry n made of it is a delete marker that hides them
abbrev IsGone : Versioning → ℕ → List (Version (List ℕ)) → Type 0
IsGone Unversioned n vs = vs ≡ []
IsGone Enabled n vs = (has_made n vs ≡ true) × (pick None vs ≡ Err (record { code = NoSuchKey; is_delete_marker = true }))
IsGone Suspended n vs = (has_made n vs ≡ true) × (pick None vs ≡ Err (record { code = NoSuchKey; is_delete_marker = true }))

gone_told : (b : Versioning) (n : ℕ) (vs : List (Version (List ℕ))) → IsGone b n vs
    → pick None vs ≡ Err (record { code = NoSuchKey; is_delete_marker = makes_marker b })
gone_told Unversioned n vs gone = ap (pick None) gone
gone_told Enabled n vs gone = gone.1
gone_told Suspended n vs gone = gone.1

-- a deletion that names the key alone leaves it gone, and gone again
gone_made : versions.MarkersHide (List ℕ) → (b : Versioning) (n t : ℕ) (vs : List (Version (List ℕ))) → IsFresh b n vs
    → IsGone b n (after_change b (KeyDeleted n t) vs)
gone_made hide Unversioned n t vs fresh = fresh.null refl
gone_made hide Enabled n t vs fresh = (ap (λ x. x || has_made n (without (Numbered n) vs)) (own_number n), (hide n t vs).0)
gone_made hide Suspended n t vs fresh = (ap (λ x. x || has_made n (without Null vs)) (own_number n), (hide n t vs).1)

gone_again : (b : Versioning) (n t : ℕ) (vs : List (Version (List ℕ))) → has_made n vs ≡ false → IsGone b n vs
    → IsGone b n (after_change b (KeyDeleted n t) vs)
gone_again Unversioned n t vs unmade gone = subst AllNull (sym gone) none_null
gone_again Enabled n t vs unmade gone = absurd (false≢true (sym unmade ∙ gone.0))
gone_again Suspended n t vs unmade gone = absurd (false≢true (sym unmade ∙ gone.0))

-- where it rests, it is gone
gone_rests : (b : Versioning) (n : ℕ) (vs : List (Version (List ℕ))) → has_made n vs ≡ true → IsFresh b n vs ⊎ IsGone b n vs → IsGone b n vs
gone_rests b n vs is (inl fresh) = absurd (false≢true (sym fresh.unmade ∙ is))
gone_rests b n vs is (inr gone) = gone

module _ (places : ChangesAreByPlace (List ℕ)) (follow : ChangesFollowRules (List ℕ)) (hide : versions.MarkersHide (List ℕ))
    (b : Versioning) (name : List ℕ) (n t : ℕ) where
  gone_now : (c : State) (d : KeyDeletion) → IsIn b name c → d.version ≡ None
      → IsFresh b n (versions_of c name d.key) ⊎ IsGone b n (versions_of c name d.key)
      → IsGone b n (versions_of (deleted c name n t (Object d)) name d.key)
  gone_now c d is alone before =
      let vs = versions_of c name d.key in
      deed c name n t d (λ after marker. IsGone b n (versions_of after name d.key))
      (λ rests. gone_rests b n vs (rests_made n vs (sym (ap (λ (v : Option VersionId). acts n v vs) alone) ∙ rests)) before)
      (λ does.
      let unmade = acts_unmade n vs (sym (ap (λ (v : Option VersionId). acts n v vs) alone) ∙ does) in
      let now = follow c name d.key (change_named n t d.version) is.there
      ∙ ap (λ (x : Versioning). after_change x (change_named n t d.version) vs) is.versioning
      ∙ ap (λ (v : Option VersionId). after_change b (change_named n t v) vs) alone in
      subst (IsGone b n) (sym now)
      (⊎_elim (λ fresh. gone_made hide b n t vs fresh) (λ gone. gone_again b n t vs unmade gone) before))

  -- what holds of a key's versions holds behind a deletion of another
  left_so : (P : List (Version (List ℕ)) → Type 0) (key : List ℕ) (c : State) (d : KeyDeletion) → IsIn b name c → key ≢ d.key
      → P (versions_of c name key) → P (versions_of (deleted c name n t (Object d)) name key)
  left_so P key c d is other =
      let a : Address = record { bucket = name; key = key } in
      subst P (sym (other_key places b name n t c d a is (λ both. other both.1)))

  gone_so : (key : List ℕ) (c : State) (d : KeyDeletion) → IsIn b name c → (d.key ≡ key → d.version ≡ None) → key ≡ d.key
      → IsFresh b n (versions_of c name key) ⊎ IsGone b n (versions_of c name key)
      → IsGone b n (versions_of (deleted c name n t (Object d)) name key)
  gone_so key c d is alone there before =
      subst (λ (k : List ℕ). IsGone b n (versions_of (deleted c name n t (Object d)) name k)) (sym there)
      (gone_now c d is (alone (sym there))
      (subst (λ (k : List ℕ). IsFresh b n (versions_of c name k) ⊎ IsGone b n (versions_of c name k)) there before))

  all_gone : (c : State) (objects : List NamedObject) (key : List ℕ) → IsIn b name c
      → ((d : KeyDeletion) → Contains objects (Object d) → d.key ≡ key → d.version ≡ None)
      → Contains objects (Object (record { key = key; version = None })) → IsFresh b n (versions_of c name key)
      → IsGone b n (versions_of (all_deleted c name n t objects) name key)
  all_gone c objects key is alone within fresh =
      let so = λ (vs : List (Version (List ℕ))). IsFresh b n vs ⊎ IsGone b n vs in
      all_meet b name n t (λ e. so (versions_of e name key)) (λ e. IsGone b n (versions_of e name key)) objects c
      (record { key = key; version = None }) is
      (λ e d inside there before.
      elim (same_or key d.key) [
        | inl same ↦ inr (gone_so key e d there (alone d inside) same before)
        | inr other ↦ left_so so key e d there other before
      ])
      (λ e d inside there gone.
      elim (same_or key d.key) [
        | inl same ↦ gone_so key e d there (alone d inside) same (inr gone)
        | inr other ↦ left_so (IsGone b n) key e d there other gone
      ])
      (λ e there before. gone_now e (record { key = key; version = None }) there refl before)
      within (inl fresh)

-- ---- a version that is named

-- where the entry makes no delete marker of an id, it makes nothing of it
no_marker : (b : Versioning) (n t : ℕ) (id : VersionId) → id ≡ new_id b n → marker_made_as b n ≢ Some id → marker_made {B = List ℕ} b n t ≡ None
no_marker Unversioned n t id is other = refl
no_marker Enabled n t id is other = absurd (other (ap (λ (i : VersionId). Some i) (sym is)))
no_marker Suspended n t id is other = absurd (other (ap (λ (i : VersionId). Some i) (sym is)))

nothing_made : (b : Versioning) (n t : ℕ) (id : VersionId) (version : Option VersionId) → id ≡ reached b n version
    → (version ≡ None → marker_made_as b n ≢ Some id) → version_made {B = List ℕ} b (change_named n t version) ≡ None
nothing_made b n t id None under other = no_marker b n t id under (other refl)
nothing_made b n t id (Some named) under other = refl

module _ (places : ChangesAreByPlace (List ℕ)) (b : Versioning) (name : List ℕ) (n t : ℕ) where
  absent_stays : (c : State) (d : KeyDeletion) (key : List ℕ) (id : VersionId) → IsIn b name c
      → (d.key ≡ key → d.version ≡ None → marker_made_as b n ≢ Some id)
      → version_at c name key id ≡ None → version_at (deleted c name n t (Object d)) name key id ≡ None
  absent_stays c d key id is other absent =
      elim (makes_or_leaves places b name n t c d key id is) [
        | inl makes ↦ makes.now ∙ nothing_made b n t id d.version makes.under (other (sym makes.there))
        | inr same ↦ same ∙ absent
      ]

  all_absent : (c : State) (objects : List NamedObject) (key : List ℕ) (id : VersionId) → IsIn b name c → AreBelow n c
      → ((d : KeyDeletion) → Contains objects (Object d) → d.key ≡ key → d.version ≡ None → marker_made_as b n ≢ Some id)
      → Contains objects (Object (record { key = key; version = Some id }))
      → version_at (all_deleted c name n t objects) name key id ≡ None
  all_absent c objects key id is below other within =
      let d : KeyDeletion = record { key = key; version = Some id } in
      let none = none_made n (versions_of c name key) (not_made n (versions_of c name key) (below name key)) in
      all_meet b name n t (λ e. is_own n id ≡ true → version_at e name key id ≡ None) (λ e. version_at e name key id ≡ None) objects c d is
      (λ e f inside there before own. absent_stays e f key id there (other f inside) (before own))
      (λ e f inside there before. absent_stays e f key id there (other f inside) before)
      (λ e there before.
      elim (rests_or_made places b name n t e d there) [
        | inl rests ↦ ap (λ (after : State). version_at after name key id) rests.1 ∙ before (not-false (is_own n id) rests.0)
        | inr now ↦ now
      ])
      within
      (λ own. ap (version_at c name key) (own_is n id own) ∙ none)

-- ---- what is told once

-- a deletion that acts tells the id of the entry's number only of a marker that it makes
own_marker : (b : Versioning) (n : ℕ) (version : Option VersionId) (vs : List (Version (List ℕ))) → acts n version vs ≡ true
    → marker_by b n version vs ≡ Some (Numbered n) → (version ≡ None) × (b ≡ Enabled)
own_marker Unversioned n None vs does is = absurd (cc)
own_marker Enabled n None vs does is = (refl, refl)
own_marker Suspended n None vs does is = absurd (cc)
own_marker b n (Some id) vs does is =
    elim (is_marker_under id vs) as (λ x. cond x (Some id) None ≡ Some (Numbered n) → (Some id ≡ None) × (b ≡ Enabled)) [
      | true ↦ λ same.
          let own = same_Some id (Numbered n) same in
          absurd (false≢true (sym (not-true (is_own n id) does) ∙ ap (is_own n) own ∙ own_number n))
      | false ↦ λ never. absurd (cc)
    ] is

-- and where a version of that id stands none acts that reaches it
no_act : (b : Versioning) (n : ℕ) (version : Option VersionId) (vs : List (Version (List ℕ))) → has_made n vs ≡ true → acts n version vs ≡ true
    → Numbered n ≢ reached b n version
no_act b n None vs is does under = false≢true (sym (acts_unmade n vs does) ∙ is)
no_act b n (Some id) vs is does under =
    false≢true (sym (not-true (is_own n id) does) ∙ sym (ap (is_own n) under) ∙ own_number n)

module _ (places : ChangesAreByPlace (List ℕ)) (b : Versioning) (name : List ℕ) (n t : ℕ) (key : List ℕ) where
  -- where a version of that id stands, it isn't told of
  never_told : (objects : List NamedObject) (c : State) (v : Version (List ℕ)) (row : DeletionRow) → IsIn b name c
      → version_at c name key (Numbered n) ≡ Some v → Contains (rows_of b name n t c objects) row → ¬ TellsMarker key (Numbered n) row
  never_told [] c v row is stands within tells = absurd (nothing_in [] row refl within)
  never_told (Fault fault ∷ objects) c v row is stands within tells =
      elim (first_or_later (rows.Fault fault) row (rows_of b name n t c objects) within) [
        | inl same ↦ let told_so = same ∙ tells.is in absurd (cc)
        | inr later ↦ never_told objects c v row is stands later tells
      ]
  never_told (Object d ∷ objects) c v row is stands within tells =
      let next = deleted c name n t (Object d) in
      let made_it = found_made n (versions_of c name key) v stands in
      elim (first_or_later (row_of b name n t c d) row (rows_of b name n t next objects) within) [
        | inl same ↦
            deed c name n t d (λ after marker. rows.Deleted d.key d.version marker ≡ rows.Deleted key tells.version (Some (Numbered n)) → ⊥)
            (λ rests told_so. absurd (cc))
            (λ does told_so.
            let vs = versions_of c name d.key in
            let parts = same_row d.key key d.version tells.version (marker_by (versioning_of c name) n d.version vs) (Some (Numbered n)) told_so in
            let own = own_marker (versioning_of c name) n d.version vs does parts.2 in
            false≢true (sym (acts_unmade n vs (sym (ap (λ (x : Option VersionId). acts n x vs) own.0) ∙ does))
            ∙ ap (λ (k : List ℕ). has_made n (versions_of c name k)) parts.0 ∙ made_it))
            (same ∙ tells.is)
        | inr later ↦
            elim (makes_or_leaves places b name n t c d key (Numbered n) is) [
              | inl makes ↦
                  absurd (no_act b n d.version (versions_of c name d.key)
                  (sym (ap (λ (k : List ℕ). has_made n (versions_of c name k)) makes.there) ∙ made_it) makes.does makes.under)
              | inr left ↦ never_told objects next v row (stays_in b name n t c d is) (left ∙ stands) later tells
            ]
      ]

  -- behind a deletion that tells of it, it stands
  told_behind : (objects : List NamedObject) (c : State) (d : KeyDeletion) (one : DeletionRow) (rest : List DeletionRow) (another : DeletionRow)
      → IsIn b name c → row_of b name n t c d ≡ one → rows_of b name n t (deleted c name n t (Object d)) objects ≡ rest
      → TellsMarker key (Numbered n) one → Contains rest another → ¬ TellsMarker key (Numbered n) another
  told_behind objects c d one rest another is first behind tells within again =
      deed c name n t d (λ after marker. IsIn b name after → rows.Deleted d.key d.version marker ≡ rows.Deleted key tells.version (Some (Numbered n))
      → rows_of b name n t after objects ≡ rest → ⊥)
      (λ rests there told_so rows_are. absurd (cc))
      (λ does there told_so rows_are.
      let vs = versions_of c name d.key in
      let parts = same_row d.key key d.version tells.version (marker_by (versioning_of c name) n d.version vs) (Some (Numbered n)) told_so in
      let own = own_marker (versioning_of c name) n d.version vs does parts.2 in
      let enabled = sym is.versioning ∙ own.1 in
      let after = changed c name (KeyChanged d.key (change_named n t d.version)) in
      let here = sym (ap (λ (k : List ℕ). version_at after name k (Numbered n)) parts.0)
      ∙ sym (ap (λ (v : Option VersionId). version_at after name d.key (reached b n v)) own.0
      ∙ ap (λ (x : Versioning). version_at after name d.key (new_id x n)) enabled)
      ∙ (placed places b name n t c d is).here
      ∙ ap (λ (v : Option VersionId). version_made b (change_named n t v)) own.0
      ∙ ap (λ (x : Versioning). marker_made x n t) enabled in
      never_told objects after (made Enabled n t DeleteMarker) another there here (subst (λ (all : List DeletionRow). Contains all another) (sym rows_are) within) again)
      (stays_in b name n t c d is) (first ∙ tells.is) behind

  told_once : (objects : List NamedObject) (c : State) (front : List DeletionRow) (one : DeletionRow) (rest : List DeletionRow) (another : DeletionRow)
      → IsIn b name c → rows_of b name n t c objects ≡ front ++ one ∷ rest → TellsMarker key (Numbered n) one → Contains rest another
      → ¬ TellsMarker key (Numbered n) another
  told_once [] c [] one rest another is rows_are tells within again = absurd (cc)
  told_once [] c (f ∷ front) one rest another is rows_are tells within again = absurd (cc)
  told_once (Fault fault ∷ objects) c [] one rest another is rows_are tells within again =
      let first : rows.Fault fault ≡ one = cc in let told_so = first ∙ tells.is in absurd (cc)
  told_once (Fault fault ∷ objects) c (f ∷ front) one rest another is rows_are tells within again =
      told_once objects c front one rest another is (cc) tells within again
  told_once (Object d ∷ objects) c [] one rest another is rows_are tells within again =
      told_behind objects c d one rest another is (cc) (cc) tells within again
  told_once (Object d ∷ objects) c (f ∷ front) one rest another is rows_are tells within again =
      told_once objects (deleted c name n t (Object d)) front one rest another (stays_in b name n t c d is) (cc) tells within again

-- ---- entries

-- the deletion was done
pub record IsDone (s : State) (n t : ℕ) (bucket : List ℕ) (deletion : Deletion) (st : Stepped) : Type 0 where
  pub there : has_bucket s bucket ≡ true
  pub state : st.0 ≡ all_deleted s bucket n t deletion.objects
  pub told : st.1 ≡ outcomes.Told (documents.deletions deletion.is_quiet (rows_told deletion.objects (markers_of s bucket n t deletion.objects)))

done_line : (s : State) (n t : ℕ) (bucket : List ℕ) (deletion : Deletion) (found : Bool) → has_bucket s bucket ≡ found
    → succeeds (stepped s (refuse (not found) NoSuchBucket >> Ok (
      all_deleted s bucket n t deletion.objects,
      outcomes.Told (documents.deletions deletion.is_quiet (rows_told deletion.objects (markers_of s bucket n t deletion.objects))),
    ))).1 ≡ true
    → IsDone s n t bucket deletion (stepped s (refuse (not found) NoSuchBucket >> Ok (
      all_deleted s bucket n t deletion.objects,
      outcomes.Told (documents.deletions deletion.is_quiet (rows_told deletion.objects (markers_of s bucket n t deletion.objects))),
    )))
done_line s n t bucket deletion true there success = record { there = there; state = refl; told = refl }
done_line s n t bucket deletion false there success = absurd (false≢true success)

step_deletes : (rules : Rules) (s : State) (n t : ℕ) (command : Command) (bucket : List ℕ) (deletion : Deletion) → deletes command ≡ Some (bucket, deletion)
    → succeeds (step rules s n t command).1 ≡ true → IsDone s n t bucket deletion (step rules s n t command)
unfolding done
step_deletes rules s n t (commands.DeleteObjects name asked) bucket deletion asks success =
    let same = same_Some (name, asked) (bucket, deletion) asks in
    subst (λ (p : List ℕ × Deletion). IsDone s n t p.0 p.1 (step rules s n t (commands.DeleteObjects name asked))) same
    (done_line s n t name asked (has_bucket s name) refl success)
step_deletes rules s n t _ bucket deletion asks success = absurd (cc)

entry_deletes : (rules : Rules) (s : State) (n : ℕ) (e : Entry) (bucket : List ℕ) (deletion : Deletion) → IsAnswer rules s n e → Deletes bucket deletion e
    → IsDone s e.answer.number e.moment bucket deletion (step rules s e.answer.number e.moment e.command)
entry_deletes rules s n e bucket deletion answer asked =
    step_deletes rules s e.answer.number e.moment e.command bucket deletion asked.asks
    (sym (ap succeeds (outcome_is rules s n e answer)) ∙ asked.accepted)

-- the bucket, as the deletion finds it
found_in_bucket : (s : State) (bucket : List ℕ) → has_bucket s bucket ≡ true → IsIn (versioning_of s bucket) bucket s
found_in_bucket s bucket there = record { there = there; versioning = refl }

pub deletions_are_told : EveryHistory DeletionsAreTold
deletions_are_told rules s n entries legal before later e bucket deletion parts asked =
    let here = after rules s before in
    let answer = right_at rules s n entries before later e legal parts in
    outcome_is rules here _ e answer ∙ (entry_deletes rules here _ e bucket deletion answer asked).told

-- the rows of a document
rows_in : (quiet other : Bool) (xs ys : List DeletionRow) → outcomes.Told (documents.deletions quiet xs) ≡ outcomes.Told (documents.deletions other ys) → xs ≡ ys
rows_in quiet other xs ys is = cc

module _ (places : ChangesAreByPlace (List ℕ)) where
  pub markers_are_told_once : EveryHistory MarkersAreToldOnce
  markers_are_told_once rules s n entries legal before later e bucket deletion is_quiet front middle rest one another key parts asked outcome tells =
      let here = after rules s before in
      let answer = right_at rules s n entries before later e legal parts in
      let whole = entry_deletes rules here _ e bucket deletion answer asked in
      let told_rows = rows_told deletion.objects (markers_of here bucket e.answer.number e.moment deletion.objects) in
      let rows_are = rows_in deletion.is_quiet is_quiet told_rows (front ++ one ∷ middle ++ another ∷ rest)
      (sym (outcome_is rules here _ e answer ∙ whole.told) ∙ outcome)
      ∙ append_assoc front (one ∷ middle) (another ∷ rest) in
      told_once places (versioning_of here bucket) bucket e.answer.number e.moment key deletion.objects here front one (middle ++ another ∷ rest) another
      (found_in_bucket here bucket whole.there) rows_are tells
      (Contains-append_right middle (another ∷ rest) another (contains_first another another rest refl))

  -- a version that is not reached stays
  unreached : (s : State) (n : ℕ) (bucket : List ℕ) (deletion : Deletion) (a : Address) (id : VersionId) (d : KeyDeletion) (version : Option VersionId)
      → d.version ≡ version → Contains deletion.objects (Object d) → a.key ≡ d.key → id ≡ reached (versioning_of s bucket) n version
      → Reaches s n bucket deletion a.key id
  unreached s n bucket deletion a id d None alone within key same =
      inr (subst (Contains deletion.objects) (ap Object (same_deletion d (record { key = a.key; version = None }) (sym key) alone)) within, sym same)
  unreached s n bucket deletion a id d (Some named) is within key same =
      inl (subst (Contains deletion.objects)
      (ap Object (same_deletion d (record { key = a.key; version = Some id }) (sym key) (is ∙ ap (λ (i : VersionId). Some i) (sym same)))) within)

  pub other_versions_stay : EveryHistory OtherVersionsStay
  other_versions_stay rules s n entries legal before later e bucket deletion a id parts asked other =
      let here = after rules s before in
      let answer = right_at rules s n entries before later e legal parts in
      let whole = entry_deletes rules here _ e bucket deletion answer asked in
      ap (λ (state : State). version_at state a.bucket a.key id) (after-push rules s before e ∙ whole.state)
      ∙ all_others places (versioning_of here bucket) bucket e.answer.number e.moment here deletion.objects a id
      (found_in_bucket here bucket whole.there)
      (λ d marker within row made there key same.
      other there (unreached here e.answer.number bucket deletion a id d d.version refl within key same))

module _ (places : ChangesAreByPlace (List ℕ)) (follow : FollowRules) (numbers : Numbers) where
  -- the number of an entry is above those of all versions before it
  below_before : (rules : Rules) (s : State) (n : ℕ) (entries before later : List Entry) (e : Entry)
      → AreBelow n s → Legal rules s n entries → entries ≡ before ++ e ∷ later → AreBelow e.answer.number (after rules s before)
  below_before rules s n entries before later e below legal parts =
      let joined = Legal-append rules s n before (e ∷ later) (subst (Legal rules s n) parts legal) in
      subst (λ (m : ℕ). AreBelow m (after rules s before)) (sym (numbered_by rules (after rules s before) _ e joined.1.0))
      (below_after places follow rules numbers s n before joined.0 below)

  pub named_versions_are_gone : EverySoundHistory NamedVersionsAreGone
  named_versions_are_gone rules s n entries sound legal before later e bucket key deletion id parts asked named unmade =
      let here = after rules s before in
      let answer = right_at rules s n entries before later e legal parts in
      let whole = entry_deletes rules here _ e bucket deletion answer asked in
      ap (λ (state : State). version_at state bucket key id) (after-push rules s before e ∙ whole.state)
      ∙ all_absent places (versioning_of here bucket) bucket e.answer.number e.moment here deletion.objects key id
      (found_in_bucket here bucket whole.there) (below_before rules s n entries before later e sound.versions legal parts)
      (λ d within there alone is.
      unmade (record {
        named = subst (Contains deletion.objects) (ap Object (same_deletion d (record { key = key; version = None }) there alone)) within;
        made = is;
      }))
      named

  pub named_keys_are_gone : versions.MarkersHide (List ℕ) → EverySoundHistory NamedKeysAreGone
  named_keys_are_gone hide rules s n entries sound legal before between later e read a deletion parts asked named leaves reads found =
      let here = after rules s before in
      let split = parts ∙ append_assoc before (e ∷ between) (read ∷ later) in
      let answer = right_at rules s n entries before (between ++ read ∷ later) e legal split in
      let at = parts_of rules s n entries before between later e read legal parts in
      let joined = Legal-append rules s n before (e ∷ between ++ read ∷ later) (subst (Legal rules s n) split legal) in
      let whole = entry_deletes rules here _ e a.bucket deletion answer asked in
      let b = versioning_of here a.bucket in
      let there = after rules (after_entry rules here e) between in
      let below = below_before rules s n entries before (between ++ read ∷ later) e sound.versions legal split in
      let nulls = null_after places follow rules s n before joined.0 (λ name is key. sound.null name key is) in
      let fresh : IsFresh b e.answer.number (versions_at here a) =
      record {
        unmade = not_made e.answer.number (versions_at here a) (below a.bucket a.key);
        null = λ is. nulls a.bucket is a.key;
      } in
      let gone = all_gone places follow.keys hide b a.bucket e.answer.number e.moment here deletion.objects a.key
      (found_in_bucket here a.bucket whole.there)
      (λ d within same.
      elim d.version as (λ version. d.version ≡ version → version ≡ None) [
        | None ↦ λ alone. refl
        | Some id ↦ λ is.
            absurd (named.alone id (subst (Contains deletion.objects) (ap Object (same_deletion d (record { key = a.key; version = Some id }) same is)) within))
      ] refl)
      named.named fresh in
      let left = key_left places follow rules (after_entry rules here e) at.k between a at.legal leaves
      ∙ ap (λ (state : State). versions_at state a) whole.state in
      let is_there = sym (ap (λ (state : State). has_bucket state a.bucket) (after-append rules s before (e ∷ between))) ∙ found in
      outcome_is rules there at.j read at.right_last
      ∙ read_there rules there read.answer.number read.moment read.command _ reads.read is_there
      ∙ ap (picked there a.bucket reads.conditions (overrides_of read.command)) (ap (pick None) left ∙ gone_told b e.answer.number (versions_of (all_deleted here a.bucket e.answer.number e.moment deletion.objects) a.bucket a.key) gone)
