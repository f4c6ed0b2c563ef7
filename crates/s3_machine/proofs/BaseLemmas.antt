-- The opening state is a sound base, and so is what a legal history leaves that begins at one.
use Rattle.std.proofs.Common.{◌≡◌, refl, sym, ap, subst, ◌∙◌, arith, ℕ, suc, ◌+◌, IsTrue, List, [], ◌∷◌, length, Option, Some, None, is_some}
use Rattle.std.proofs.lemmas.Bool.{false≢true}
use Rattle.s3_versions.specs.Rules.{asked_for, are_versions}
use Rattle.s3_versions.specs.declared.version.Version.{Version}
use Rattle.s3_uploads.specs.Laws.{PutsAreUnderOneNumber, PutsKeepTheOrder}
use Rattle.s3_uploads.specs.Parts.{rises, numbers_of, part_at}
use Rattle.s3_uploads.specs.declared.upload.Upload.{Upload}
use Rattle.s3_records.specs.Laws.{AreCatalogued, VersionsStayInOrder, AreFilled, OpeningIsEmpty, KeysStayFilled}
use Rattle.s3_records.specs.OpenUploads.{parts_sent}
use Rattle.s3_records.specs.Places.{ChangesAreByPlace, ChangesAreByUpload, AreBelow}
use Rattle.s3_machine.specs.Bases.{UploadsAreBelow, PartsRise, OpeningIsSound, HistoriesLeaveSound, OpeningHasNothing}
use Rattle.s3_machine.specs.Effects.{UploadPlace, open_at}
use Rattle.s3_machine.specs.History.{Entry, IsAnswer, Legal, after, after_entry}
use Rattle.s3_machine.specs.Step.{State}
use Rattle.s3_machine.specs.declared.rules.Rules.{Rules}
use Rattle.s3_machine.proofs.ChangeLemmas.{Comes, Stays, Then, comes_ordered, opening_null}
use Rattle.s3_machine.proofs.CourseLemmas.{fate_of}
use Rattle.s3_machine.proofs.EffectLemmas.{FollowRules, step_does}
use Rattle.s3_machine.proofs.RowLemmas.{AllRise, none_rises, parts_rise, rise_all, rise_after}
use Rattle.s3_machine.proofs.StateLemmas.{Numbers, numbered_by, entry_below, below_after, null_after}
use Rattle.s3_machine.proofs.UploadLemmas.{Left, Begun, Sent, Ended}

-- ---- the opening

-- what is none isn't there
none_there : {X : Type 0} (found : Option X) → found ≡ None → ¬ IsTrue (is_some found)
none_there None is there = false≢true there
none_there (Some x) is there = absurd (cc)

pub opening_has_nothing : OpeningIsEmpty (List ℕ) → OpeningHasNothing
opening_has_nothing empty names = record {
  objects = λ object stands.
      let none = ap (asked_for (Some object.id)) ((empty names object.address.bucket).empty object.address.key) in
      let some = stands.there in absurd (cc);
  uploads = λ upload t asked is.
      let none = (empty names upload.address.bucket).no_uploads upload.address.key upload.id in
      let some = is.there in absurd (cc);
  parts = λ part what is.
      let place = part.upload in
      let none = ap (λ (found : Option (Upload (List ℕ))). part_at part.number (parts_sent found))
      ((empty names place.address.bucket).no_uploads place.address.key place.id) in absurd (cc);
}

none_ordered : IsTrue (are_versions {B = List ℕ} [])
unfolding are_versions
none_ordered = refl

pub opening_is_sound : Numbers → OpeningIsEmpty (List ℕ) → KeysStayFilled (List ℕ) → OpeningIsSound
opening_is_sound numbers empty filled names n = record {
  versions = numbers.opening n names;
  uploads = λ name key id there. absurd (none_there _ ((empty names name).no_uploads key id) there);
  parts = λ name key id.
      subst (λ (found : Option (Upload (List ℕ))). IsTrue (rises (numbers_of (parts_sent found)))) (sym ((empty names name).no_uploads key id))
      none_rises;
  ordered = λ name key. subst (λ (vs : List (Version (List ℕ))). IsTrue (are_versions vs)) (sym ((empty names name).empty key)) none_ordered;
  null = λ name key is. opening_null empty names name is key;
  filled = filled.0 names;
}

-- ---- what a history leaves

module _ (law : ChangesAreByUpload (List ℕ)) (puts : PutsAreUnderOneNumber (List ℕ)) (rules : Rules) where
  -- the ids of the uploads that are open behind an entry are below the next number
  entry_uploads : (s : State) (n : ℕ) (e : Entry) → IsAnswer rules s n e → UploadsAreBelow n s → UploadsAreBelow (suc n) (after_entry rules s e)
  entry_uploads s n e answer below name key id there =
      let upload : UploadPlace = record { address = record { bucket = name; key = key }; id = id } in
      elim (fate_of law puts rules s e upload) [
        | Left left ↦ let first = below name key id (sym (ap is_some left.same) ∙ there) in omega arith
        | Begun begun ↦
            let numbered = begun.numbered in
            let number = numbered_by rules s n e answer in omega arith
        | Sent send ↦ let first = below name key id (ap is_some send.there) in omega arith
        | Ended ended ↦ absurd (none_there _ ended.now there)
      ]

  uploads_after : (s : State) (n : ℕ) (es : List Entry) → Legal rules s n es → UploadsAreBelow n s
      → UploadsAreBelow (n + length es) (after rules s es)
  uploads_after s n [] legal below =
      let same : n ≡ n + 0 = omega arith in subst (λ (m : ℕ). UploadsAreBelow m s) same below
  uploads_after s n (e ∷ es) legal below =
      let same : suc n + length es ≡ n + suc (length es) = omega arith in
      subst (λ (m : ℕ). UploadsAreBelow m (after rules (after_entry rules s e) es)) same
      (uploads_after (after_entry rules s e) (suc n) es legal.1 (entry_uploads s n e legal.0 below))

-- no key is there without, whatever is changed
comes_filled : KeysStayFilled (List ℕ) → (n : ℕ) (s c : State) → Comes n s c → AreFilled s → AreFilled c
comes_filled stay n s _ Stays filled = filled
comes_filled stay n s _ (Then {c} before name change numbered new) filled = stay.1 c name change (comes_filled stay n s c before filled)

module _ (places : ChangesAreByPlace (List ℕ)) (follow : FollowRules) (stay : KeysStayFilled (List ℕ)) (rules : Rules) where
  filled_after : (s : State) (es : List Entry) → AreFilled s → AreFilled (after rules s es)
  filled_after s [] filled = filled
  filled_after s (e ∷ es) filled =
      filled_after (after_entry rules s e) es
      (comes_filled stay e.answer.number s (after_entry rules s e) (step_does places follow rules s e.answer.number e.moment e.command).comes filled)

module _ (places : ChangesAreByPlace (List ℕ)) (follow : FollowRules) (numbers : Numbers) (order : VersionsStayInOrder (List ℕ)) (rules : Rules) where
  ordered_after : (s : State) (n : ℕ) (es : List Entry) → Legal rules s n es → AreBelow n s → AreCatalogued s → AreCatalogued (after rules s es)
  ordered_after s n [] legal below ordered = ordered
  ordered_after s n (e ∷ es) legal below ordered =
      let number = numbered_by rules s n e legal.0 in
      let here = subst (λ (m : ℕ). AreBelow m s) (sym number) below in
      let next = numbers.later e.answer.number (e.answer.number + 1) s (omega arith) here in
      ordered_after (after_entry rules s e) (suc n) es legal.1 (entry_below places follow rules numbers s n e legal.0 below)
      (comes_ordered order numbers.stay e.answer.number s (after_entry rules s e) (step_does places follow rules s e.answer.number e.moment e.command).comes
      here next ordered)

-- what they stand on
pub record LawsOfChanges : Type 0 where
  pub places : ChangesAreByPlace (List ℕ)
  pub follow : FollowRules
  pub numbers : Numbers
  pub versions : VersionsStayInOrder (List ℕ)
  pub uploads : ChangesAreByUpload (List ℕ)
  pub puts : PutsAreUnderOneNumber (List ℕ)
  pub order : PutsKeepTheOrder (List ℕ)
  pub filled : KeysStayFilled (List ℕ)

-- the parts at each place rise where those of all uploads do
all_rise : (s : State) → AllRise s → PartsRise s
all_rise s rise name key id =
    let upload : UploadPlace = record { address = record { bucket = name; key = key }; id = id } in
    parts_rise (open_at s upload) (rise upload)

pub histories_leave_sound : LawsOfChanges → HistoriesLeaveSound
histories_leave_sound laws rules s n entries sound legal = record {
  versions = below_after laws.places laws.follow rules laws.numbers s n entries legal sound.versions;
  uploads = uploads_after laws.uploads laws.puts rules s n entries legal sound.uploads;
  ordered = ordered_after laws.places laws.follow laws.numbers laws.versions rules s n entries legal sound.versions sound.ordered;
  parts = all_rise (after rules s entries) (rise_after laws.uploads laws.puts laws.order rules s entries (rise_all s sound.parts));
  null = λ name key is. null_after laws.places laws.follow rules s n entries legal (λ other is_so k. sound.null other k is_so) name is key;
  filled = filled_after laws.places laws.follow laws.filled rules s entries sound.filled;
}
