-- Each object that stands was stored by an entry of the history, or stood at its beginning and stayed.
use Rattle.std.proofs.Common.{◌≡◌, refl, sym, ap, ap₂, subst, ◌∙◌, Bool, true, false, not, cond, ℕ, suc, ◌⊎◌, ⊎_elim, inl, inr, List, [], ◌∷◌, ◌++◌, append_assoc, append-nil, Contains, Option, Some, None, Result, Ok, Err, find}
use Rattle.std.proofs.lemmas.Bool.{false≢true}
use Rattle.std.proofs.lemmas.Option.{same_Some}
use Rattle.s3_names.specs.declared.ids.VersionId.{VersionId}
use Rattle.s3_conditions.specs.declared.conditions.Conditions.{Conditions}
use Rattle.s3_conditions.specs.declared.conditions.Selection.{Selection}
use Rattle.s3_conditions.specs.declared.conditions.Selection.TheVariants.{Whole, Part, Unchanged, Outside}
use Rattle.s3_versions.specs.declared.picking.Refusal.{Refusal}
use Rattle.s3_versions.specs.declared.version.Content.{Content}
use Rattle.s3_versions.specs.declared.version.Content.TheVariants.{DeleteMarker, Stored}
use Rattle.s3_versions.specs.declared.version.Data.{Data}
use Rattle.s3_versions.specs.declared.version.Version.{Version}
use Rattle.s3_versions.specs.declared.version.Versioning.{Versioning}
use Rattle.s3_versions.specs.declared.version.Versioning.TheVariants.{Unversioned, Enabled, Suspended}
use Rattle.s3_versions.specs.Metadata.{Entry as MetadataEntry}
use Rattle.s3_versions.specs.Rules.{id_of, is_under, made, new_id, stored, stored_in, pick, facts_of, asked_for, judged, read_as}
use Rattle.s3_terms.specs.declared.code.Code.TheVariants.{NoSuchBucket, NoSuchKey, MethodNotAllowed}
use Rattle.s3_versions.specs.Laws.{IdsAreTold}
use Rattle.s3_records.specs.Catalogue.{has_bucket, versions_of, versioning_of}
use Rattle.s3_records.specs.Places.{version_at, ChangesAreByPlace, AreBelow}
use Rattle.s3_machine.specs.declared.command.Found.{Found}
use Rattle.s3_machine.specs.Bases.{EverySoundHistory}
use Rattle.s3_machine.specs.Effects.{Address, Object, Read, writes, object_of, read_at, reads, given, found_object, touched, succeeds}
use Rattle.s3_machine.specs.History.{Entry, IsAnswer, Legal, after, after_entry}
use Rattle.s3_machine.specs.Kept.{Spares, SparesVersion, Stores, WasStored, Stands, Stayed, IsFoundUnder, OnlyStoredStands, OnlyStoredIsGiven}
use Rattle.s3_machine.specs.declared.command.Command.{Command}
use Rattle.s3_machine.specs.declared.command.Command.TheVariants as commands
use Rattle.s3_machine.specs.declared.command.KeyCommand.TheVariants as key_commands
use Rattle.s3_machine.specs.declared.command.Outcome.{Outcome}
use Rattle.s3_machine.specs.declared.rules.Rules.{Rules}
use Rattle.s3_terms.specs.Fault.{◌>>=◌}
use Rattle.s3_machine.specs.Step.{State, found_in, shown_in, outcome_shown, shown_by, key_done, done, stepped, step}
use Rattle.s3_machine.proofs.ContainsLemmas.{one_in, contains_or}
use Rattle.s3_machine.proofs.DeletionLemmas.{id_or}
use Rattle.s3_machine.proofs.EffectLemmas.{FollowRules, versions_at, address_or, Adds, Changes, shown, after_line}
use Rattle.s3_machine.proofs.HistoryLemmas.{Legal-append, after-push}
use Rattle.s3_machine.proofs.KeptLemmas.{outcome_is, entry_does, version_left}
use Rattle.s3_machine.proofs.StateLemmas.{Numbers, numbered_by, entry_below}

-- each object that stands behind these entries was stored by one of them, or stood before them and stayed
abbrev pub Known : Rules → State → List Entry → Type 0
Known rules s past = (object : Object) → Stands (after rules s past) object → WasStored rules s past object ⊎ Stayed s past object

spares_push : (a : Address) (id : VersionId) (es : List Entry) (e : Entry) → SparesVersion a id es → Spares a id e → SparesVersion a id (es ++ e ∷ [])
spares_push a id [] e spares last = (last, tt)
spares_push a id (x ∷ es) e spares last = (spares.0, spares_push a id es e spares.1 last)

stored_push : (rules : Rules) (s : State) (past : List Entry) (object : Object) (e : Entry) → WasStored rules s past object
    → Spares object.address object.id e → WasStored rules s (past ++ e ∷ []) object
stored_push rules s past object e known spares = record {
  before = known.before;
  write = known.write;
  between = known.between ++ e ∷ [];
  parts = ap (λ es. es ++ e ∷ []) known.parts ∙ append_assoc known.before (known.write ∷ known.between) (e ∷ []);
  stores = known.stores;
  spared = spares_push object.address object.id known.between e known.spared spares;
}

stayed_push : (s : State) (past : List Entry) (object : Object) (e : Entry) → Stayed s past object → Spares object.address object.id e
    → Stayed s (past ++ e ∷ []) object
stayed_push s past object e was spares =
    record { at_base = was.at_base; spared = spares_push object.address object.id past e was.spared spares }

-- the version that a put made, by what it stores
made_data : (b : Versioning) (n t : ℕ) (e d : Data (List ℕ)) → stored (made b n t (Stored e)) ≡ Some d → d ≡ e
made_data b n t e d is = cc

made_when : (b : Versioning) (n t : ℕ) (e : Data (List ℕ)) (v : Version (List ℕ)) → Some (made b n t (Stored e)) ≡ Some v → v.moment ≡ t
made_when b n t e v is = cc

-- objects with the same parts are the same
same_object : (x y : Object) → x.address ≡ y.address → x.id ≡ y.id → x.moment ≡ y.moment → x.stored ≡ y.stored → x ≡ y
same_object x y address id moment stored_same =
    let built = λ (a : Address) (i : VersionId) (t : ℕ) (d : Data (List ℕ)).
    ◌≡◌ {A = Object} (record { address = a; id = i; moment = t; stored = d }) y in
    subst (λ (a : Address). built a x.id x.moment x.stored) (sym address)
    (subst (λ (i : VersionId). built y.address i x.moment x.stored) (sym id)
    (subst (λ (t : ℕ). built y.address y.id t x.stored) (sym moment)
    (subst (λ (d : Data (List ℕ)). built y.address y.id y.moment d) (sym stored_same) refl)))

module _ (places : ChangesAreByPlace (List ℕ)) (follow : FollowRules) (rules : Rules) where
  -- what stands where an entry stored something, it stored
  stored_here : (s : State) (n : ℕ) (e : Entry) (object : Object) → IsAnswer rules s n e
      → succeeds (step rules s e.answer.number e.moment e.command).1 ≡ true
      → Adds s e.answer.number e.moment e.command (step rules s e.answer.number e.moment e.command)
      → Contains (writes e.command) object.address
      → Contains (touched e.command (step rules s e.answer.number e.moment e.command).1 object.address) object.id
      → Stands (after_entry rules s e) object → Stores s e object
  stored_here s n e object answer accepted adds written touches stands =
      let outcome = (step rules s e.answer.number e.moment e.command).1 in
      let b = versioning_of s adds.address.bucket in
      let place = one_in (writes e.command) adds.address object.address adds.written written in
      let under = one_in (touched e.command outcome object.address) (new_id b e.answer.number) object.id
      (ap (touched e.command outcome) (sym place) ∙ adds.touches) touches in
      let there = ap₂ (λ (a : Address) (i : VersionId). version_at (after_entry rules s e) a.bucket a.key i) place under ∙ stands.there in
      let is = same_Some _ stands.version (sym adds.makes ∙ there) in
      let same = same_object (object_of s e.answer.number e.moment adds.address adds.what) object place under
      (sym (made_when b e.answer.number e.moment adds.what stands.version (ap Some is)) ∙ stands.moment)
      (sym (made_data b e.answer.number e.moment adds.what object.stored (ap stored is ∙ stands.holds))) in
      record { by = adds.by ∙ ap Some same; accepted = ap succeeds (outcome_is rules s n e answer) ∙ accepted }

  -- what stands behind an entry it stored, or it stood before, and the entry didn't touch its id
  abbrev StoredOrStood : State → Entry → Object → Type 0
  StoredOrStood s e object = Stores s e object ⊎ (Stands s object × Spares object.address object.id e)

  stood : (s : State) (n : ℕ) (e : Entry) (object : Object) → IsAnswer rules s n e → Stands (after_entry rules s e) object
      → Spares object.address object.id e → StoredOrStood s e object
  stood s n e object answer stands spares =
      let there = sym (version_left places follow rules s n e object.address object.id answer spares) ∙ stands.there in
      inr (record { version = stands.version; there = there; moment = stands.moment; holds = stands.holds }, spares)

  -- so does what stands where an entry changed something
  stored_or_nothing : (s : State) (n : ℕ) (e : Entry) (object : Object) → IsAnswer rules s n e → AreBelow e.answer.number s
      → Changes s e.answer.number e.moment e.command (step rules s e.answer.number e.moment e.command)
      → Contains (writes e.command) object.address
      → Contains (touched e.command (step rules s e.answer.number e.moment e.command).1 object.address) object.id
      → Stands (after_entry rules s e) object → Stores s e object
  stored_or_nothing s n e object answer below changes written touches stands =
      elim changes.adds [
        | inl adds ↦ stored_here s n e object answer changes.accepted adds written touches stands
        | inr nothing ↦
            let none = nothing.empty below object.address object.id stands.version written touches stands.there in
            let some = stands.holds in absurd (cc)
      ]

  stored_or_stood : (s : State) (n : ℕ) (e : Entry) (object : Object) → IsAnswer rules s n e → AreBelow e.answer.number s
      → Stands (after_entry rules s e) object → StoredOrStood s e object
  stored_or_stood s n e object answer below stands =
      let a = object.address in
      let outcome = outcome_is rules s n e answer in
      elim (entry_does places follow rules s n e answer).effect [
        | inl same ↦
            stood s n e object answer stands (λ written accepted touches.
            false≢true (sym (same.refused a written) ∙ sym (ap succeeds outcome) ∙ accepted))
        | inr changes ↦
            elim (contains_or address_or (writes e.command) a) [
              | inl written ↦
                  elim (contains_or id_or (touched e.command (step rules s e.answer.number e.moment e.command).1 a) object.id) [
                    | inl touches ↦ inl (stored_or_nothing s n e object answer below changes written touches stands)
                    | inr spared ↦
                        stood s n e object answer stands (λ written accepted touches.
                        spared (subst (λ (o : Outcome). Contains (touched e.command o a) object.id) outcome touches))
                  ]
              | inr never ↦ stood s n e object answer stands (λ written accepted touches. never written)
            ]
      ]

  known_push : (s : State) (n : ℕ) (past : List Entry) (e : Entry) → Known rules s past → AreBelow n (after rules s past)
      → IsAnswer rules (after rules s past) n e → Known rules s (past ++ e ∷ [])
  known_push s n past e known below answer object stands =
      let here = after rules s past in
      let number = numbered_by rules here n e answer in
      elim (stored_or_stood here n e object answer (subst (λ (m : ℕ). AreBelow m here) (sym number) below)
      (subst (λ (t : State). Stands t object) (after-push rules s past e) stands)) [
        | inl stores ↦ inl (record { before = past; write = e; between = []; parts = refl; stores = stores; spared = tt })
        | inr before ↦
            ⊎_elim (λ was. inl (stored_push rules s past object e was before.1)) (λ was. inr (stayed_push s past object e was before.1))
            (known object before.0)
      ]

  pub known_after : Numbers → (s : State) (n : ℕ) (past es : List Entry) → Known rules s past → AreBelow n (after rules s past)
      → Legal rules (after rules s past) n es → Known rules s (past ++ es)
  known_after numbers s n past [] known below legal = subst (Known rules s) (sym (append-nil past)) known
  known_after numbers s n past (e ∷ es) known below legal =
      let there = sym (after-push rules s past e) in
      subst (Known rules s) (append_assoc past (e ∷ []) es)
      (known_after numbers s (suc n) (past ++ e ∷ []) es (known_push s n past e known below legal.0)
      (subst (AreBelow (suc n)) there (entry_below places follow rules numbers (after rules s past) n e legal.0 below))
      (subst (λ (t : State). Legal rules t (suc n) es) there legal.1))

found_passes : {X : Type 0} (p : X → Bool) (xs : List X) (x : X) → find p xs ≡ Some x → p x ≡ true
found_passes p [] x is = absurd (cc)
found_passes p (y ∷ ys) x is =
    elim (p y) as (λ b. p y ≡ b → cond b (Some y) (find p ys) ≡ Some x → p x ≡ true) [
      | true ↦ λ passes here. ap p (sym (same_Some y x here)) ∙ passes
      | false ↦ λ passes here. found_passes p ys x here
    ] refl is

first_found : {X : Type 0} (p : X → Bool) (x : X) (xs : List X) → p x ≡ true → find p (x ∷ xs) ≡ Some x
first_found p x xs passes = ap (λ b. cond b (Some x) (find p xs)) passes

shown_is : (b : Versioning) (id w : VersionId) → shown_in b id ≡ Some w → w ≡ id
shown_is Unversioned id w is = absurd (cc)
shown_is Enabled id w is = cc
shown_is Suspended id w is = cc

-- what is read of a version
read_ok : (refusal : Refusal) (v : Version (List ℕ)) (content : Content (List ℕ)) (read : Version (List ℕ) × Data (List ℕ)) → v.content ≡ content → read_as refusal v content ≡ Ok read → (v ≡ read.0) × (stored v ≡ Some read.1)
read_ok refusal v DeleteMarker read is ok = absurd (cc)
read_ok refusal v (Stored d) read is ok =
    let same : (v, d) ≡ read = cc in
    (ap (λ (r : Version (List ℕ) × Data (List ℕ)). r.0) same, ap stored_in is ∙ ap (λ (r : Version (List ℕ) × Data (List ℕ)). Some r.1) same)

judged_ok : (asked : Option VersionId) (found : Option (Version (List ℕ))) (read : Version (List ℕ) × Data (List ℕ)) → judged asked found ≡ Ok read → (found ≡ Some read.0) × (stored read.0 ≡ Some read.1)
judged_ok None None read ok = absurd (cc)
judged_ok (Some id) None read ok = absurd (cc)
judged_ok None (Some v) read ok =
    let is = read_ok (record { code = NoSuchKey; is_delete_marker = true }) v v.content read refl ok in
    (ap Some is.0, ap stored (sym is.0) ∙ is.1)
judged_ok (Some id) (Some v) read ok =
    let is = read_ok (record { code = MethodNotAllowed; is_delete_marker = true }) v v.content read refl ok in
    (ap Some is.0, ap stored (sym is.0) ∙ is.1)

-- the version that is asked for stands under its id, which is the one that was named
abbrev Under : List (Version (List ℕ)) → Option VersionId → Version (List ℕ) → Type 0
Under vs asked v = ((w : VersionId) → asked ≡ Some w → w ≡ id_of v) × (find (is_under (id_of v)) vs ≡ Some v)

under : IdsAreTold (List ℕ) → (vs : List (Version (List ℕ))) (asked : Option VersionId) (v : Version (List ℕ)) → asked_for asked vs ≡ Some v → Under vs asked v
under ids [] None v is = absurd (cc)
under ids (first ∷ rest) None v is =
    let found = first_found (is_under (id_of first)) first rest (ids.0 first) in
    (λ w none. absurd (cc), subst (λ (x : Version (List ℕ)). find (is_under (id_of x)) (first ∷ rest) ≡ Some x) (same_Some first v is) found)
under ids vs (Some id) v is =
    let told = ids.1 id v (found_passes (is_under id) vs v is) in
    (λ w named. cc, subst (λ (i : VersionId). find (is_under i) vs ≡ Some v) (sym told) is)

-- what is picked stands
pub picked_stands : IdsAreTold (List ℕ) → (s : State) (a : Address) (asked : Option VersionId) (read : Version (List ℕ) × Data (List ℕ))
    → pick asked (versions_at s a) ≡ Ok read
    → ((w : VersionId) → asked ≡ Some w → w ≡ id_of read.0)
    × Stands s (record { address = a; id = id_of read.0; moment = read.0.moment; stored = read.1 })
picked_stands ids s a asked read picks =
    let ok = judged_ok asked (asked_for asked (versions_at s a)) read picks in
    let there = under ids (versions_at s a) asked read.0 ok.0 in
    (there.0, record { version = read.0; there = there.1; moment = refl; holds = ok.1 })

-- a read that hands out a version found it
shows_found : (s : State) (here found : Found (List ℕ)) (overrides : List MetadataEntry) (selection : Result Selection Refusal)
    → given (stepped s (selection >>= (λ chosen. Ok (s, outcome_shown here overrides chosen)))).1 ≡ Some found → here ≡ found
shows_found s here found overrides (Ok Whole) is = cc
shows_found s here found overrides (Ok (Part first last)) is = cc
shows_found s here found overrides (Ok Unchanged) is = absurd (cc)
shows_found s here found overrides (Ok Outside) is = absurd (cc)
shows_found s here found overrides (Err refusal) is = absurd (cc)

given_of : (s : State) (name : List ℕ) (conditions : Conditions) (overrides : List MetadataEntry) (result : Result (Version (List ℕ) × Data (List ℕ)) Refusal) (found : Found (List ℕ))
    → given (stepped s (result >>= shown s name conditions overrides)).1 ≡ Some found
    → (read : Version (List ℕ) × Data (List ℕ)) × (result ≡ Ok read) × (found_in (versioning_of s name) read ≡ found)
given_of s name conditions overrides (Ok read) found is =
    (read, refl, shows_found s (found_in (versioning_of s name) read) found overrides (shown_by conditions (facts_of read)) is)
given_of s name conditions overrides (Err refusal) found is = absurd (cc)

step_given : (rules : Rules) (s : State) (n t : ℕ) (command : Command) (asked : Read) (found : Found (List ℕ)) → reads command ≡ Some asked
    → given (step rules s n t command).1 ≡ Some found
    → (read : Version (List ℕ) × Data (List ℕ)) × (pick asked.version (versions_at s asked.address) ≡ Ok read) × (found_in (versioning_of s asked.address.bucket) read ≡ found)
unfolding done key_done
step_given rules s n t (commands.Key name key (key_commands.Read wanted)) asked found is gives =
    let here = read_at (record { bucket = name; key = key }) wanted in
    let same : here ≡ asked = cc in
    let goal = λ (q : Read). (read : Version (List ℕ) × Data (List ℕ)) × (pick q.version (versions_at s q.address) ≡ Ok read)
    × (found_in (versioning_of s q.address.bucket) read ≡ found) in
    subst goal same
    (after_line (λ st. given st.1 ≡ Some found → goal here) s
    (not (has_bucket s name)) NoSuchBucket
    (key_done s n t name key (key_commands.Read wanted))
    (λ none. absurd (cc))
    (λ there ok. given_of s name wanted.conditions wanted.overrides (pick wanted.version (versions_of s name key)) found ok) gives)
step_given rules s n t _ asked found is gives = absurd (cc)

pub reads_found : IdsAreTold (List ℕ) → (rules : Rules) (s : State) (n t : ℕ) (command : Command) (asked : Read) (found : Found (List ℕ))
    → reads command ≡ Some asked → given (step rules s n t command).1 ≡ Some found
    → (id : VersionId) × IsFoundUnder id asked found × Stands s (found_object asked.address id found)
reads_found ids rules s n t command asked found is gives =
    let read = step_given rules s n t command asked found is gives in
    let stands = picked_stands ids s asked.address asked.version read.0 read.1 in (
      id_of read.0.0,
      record {
        named = stands.0;
        shown = λ w shows. shown_is (versioning_of s asked.address.bucket) (id_of read.0.0) w
            (ap (λ (f : Found (List ℕ)). f.shown) read.2 ∙ shows);
      },
      subst (λ (f : Found (List ℕ)). Stands s (found_object asked.address (id_of read.0.0) f)) read.2 stands.1,
    )

-- before all entries what stands is what stands at the beginning
known_at_base : (rules : Rules) (s : State) → Known rules s []
known_at_base rules s object stands = inr (record { at_base = stands; spared = tt })

module _ (places : ChangesAreByPlace (List ℕ)) (follow : FollowRules) (numbers : Numbers) where
  pub only_stored_stands : EverySoundHistory OnlyStoredStands
  only_stored_stands rules s n entries sound =
      known_after places follow rules numbers s n [] entries (known_at_base rules s) sound.versions

  pub only_stored_is_given : IdsAreTold (List ℕ) → EverySoundHistory OnlyStoredIsGiven
  only_stored_is_given ids rules s n entries sound legal earlier later read asked found parts is gives =
      let legal_there = Legal-append rules s n earlier (read ∷ later) (subst (Legal rules s n) parts legal) in
      let there = after rules s earlier in
      let reading = reads_found ids rules there read.answer.number read.moment read.command asked found is
      (ap given (sym (outcome_is rules there _ read legal_there.1.0)) ∙ gives) in
      let from = found_object asked.address reading.0 found in
      (reading.0, reading.1, only_stored_stands rules s n earlier sound legal_there.0 from reading.2)
