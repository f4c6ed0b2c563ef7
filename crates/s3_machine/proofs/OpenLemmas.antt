-- The laws of uploads and of their parts.
use Rattle.std.proofs.Common.{◌≡◌, refl, sym, ap, subst, ◌∙◌, ◌⊎◌, ⊎_elim, inl, inr, ℕ, ◌+◌, suc, ◌<◌, arith, List, [], ◌∷◌, ◌++◌, append_assoc, length, Option, Some, None, is_some}
use Rattle.s3_uploads.specs.Laws.{PutsAreUnderOneNumber}
use Rattle.s3_uploads.specs.Parts.{part_at}
use Rattle.s3_uploads.specs.declared.part.Part.{Part}
use Rattle.s3_uploads.specs.declared.upload.Upload.{Upload}
use Rattle.s3_records.specs.OpenUploads.{parts_sent}
use Rattle.s3_records.specs.Places.{ChangesAreByUpload}
use Rattle.s3_machine.specs.declared.command.Description.{Description}
use Rattle.s3_machine.specs.declared.rules.Rules.{Rules}
use Rattle.s3_machine.specs.Bases.{UploadsAreBelow, EverySoundHistory}
use Rattle.s3_machine.specs.Effects.{UploadPlace, PartPlace, open_at, part_in}
use Rattle.s3_machine.specs.History.{Entry, Legal, after, after_entry}
use Rattle.s3_machine.specs.Kept.{EveryHistory}
use Rattle.s3_machine.specs.Step.{State}
use Rattle.s3_machine.specs.Uploads.{Sends, WasBegun, WasSent, IsOpen, StayedOpen, StayedPart}
use Rattle.s3_machine.specs.UploadsKept.{UploadsAreOpenUntilEnded, PartsAreKept, OnlySentStands}
use Rattle.s3_machine.proofs.CourseLemmas.{asked_of, Course, Stay, courses}
use Rattle.s3_machine.proofs.HistoryLemmas.{Legal-append, after-append}
use Rattle.s3_machine.proofs.StayLemmas.{begun_below, begun_is_open, open_through, part_through, sends_it}

-- what an upload has that was begun so
same_asked : (u : Upload (List ℕ)) (asked : Description) → u.content_type ≡ asked.content_type → u.metadata ≡ asked.metadata → asked_of u ≡ asked
same_asked u asked content_type metadata =
    let built = λ (c : _) (m : _). ◌≡◌ {A = Description} (record { content_type = c; metadata = m }) asked in
    subst (λ c. built c u.metadata) (sym content_type) (subst (λ m. built asked.content_type m) (sym metadata) refl)

-- what was put in the end of a history was put in it
sent_in : (rules : Rules) (s : State) (entries front back : List Entry) (part : PartPlace) (what : Part (List ℕ)) → entries ≡ front ++ back
    → WasSent rules (after rules s front) back part what → WasSent rules s entries part what
sent_in rules s entries front back part what parts was = record {
  before = front ++ was.before;
  send = was.send;
  later = was.later;
  parts = parts ∙ ap (λ (es : List Entry). front ++ es) was.parts ∙ sym (append_assoc front was.before (was.send ∷ was.later));
  sends = subst (λ (state : State). Sends state part what was.send) (sym (after-append rules s front was.before)) was.sends;
  last = was.last;
  stays = was.stays;
}

-- a part that stands is of an upload that is open
standing : (s : State) (part : PartPlace) (found : Option (Upload (List ℕ))) (p : Part (List ℕ)) → open_at s part.upload ≡ found
    → part_at part.number (parts_sent found) ≡ Some p
    → (u : Upload (List ℕ)) × (open_at s part.upload ≡ Some u) × (part_at part.number u.parts ≡ Some p)
standing s part None p there is = absurd (cc)
standing s part (Some u) p there is = (u, there, is)

-- the id of an upload that is open at the beginning is below the first number
id_below : (s : State) (n : ℕ) (upload : UploadPlace) (u : Upload (List ℕ)) → UploadsAreBelow n s → open_at s upload ≡ Some u → upload.id < n
id_below s n upload u below is = below upload.address.bucket upload.address.key upload.id (ap is_some is)

module _ (law : ChangesAreByUpload (List ℕ)) (puts : PutsAreUnderOneNumber (List ℕ)) where
  pub uploads_are_open_until_ended : EverySoundHistory UploadsAreOpenUntilEnded
  uploads_are_open_until_ended rules s n entries sound legal upload t asked =
      let both = λ (k : ℕ) (a : Description). WasBegun entries upload k a ⊎ StayedOpen s entries upload k a in (
        λ (is : IsOpen (after rules s entries) upload t asked).
            subst (λ (k : ℕ). both k asked) is.moment
            (subst (λ (a : Description). both is.found.moment a) (same_asked is.found asked is.content_type is.metadata)
            (⊎_elim (λ (course : Course rules s entries upload is.found). inl course.begun)
            (λ (stay : Stay rules s entries upload is.found). inr stay.stayed)
            (courses law puts rules s n entries legal upload is.found is.there))),
        λ (was : both t asked).
            ⊎_elim (λ begun. begun_is_open law puts rules s n entries upload t asked legal begun)
            (λ (stayed : StayedOpen s entries upload t asked).
            open_through law puts rules s n entries upload t asked legal
            (id_below s n upload stayed.at_base.found sound.uploads stayed.at_base.there) stayed.stays stayed.at_base) was,
      )

  -- the id of an upload that is open behind some entries is below the next number
  open_below : (rules : Rules) (s : State) (n : ℕ) (past : List Entry) (upload : UploadPlace) (u : Upload (List ℕ)) → UploadsAreBelow n s
      → Legal rules s n past → Course rules s past upload u ⊎ Stay rules s past upload u → upload.id < n + length past
  open_below rules s n past upload u below legal (inl course) = begun_below rules s n past upload u.moment (asked_of u) legal course.begun
  open_below rules s n past upload u below legal (inr stay) =
      let first = id_below s n upload stay.stayed.at_base.found below stay.stayed.at_base.there in omega arith

  sent_is_kept : (rules : Rules) (s : State) (n : ℕ) (entries : List Entry) (part : PartPlace) (what : Part (List ℕ)) → UploadsAreBelow n s
      → Legal rules s n entries → WasSent rules s entries part what → part_in (after rules s entries) part ≡ Some what
  sent_is_kept rules s n entries part what least legal was =
      let here = after rules s was.before in
      let m = n + length was.before in
      let joined = Legal-append rules s n was.before (was.send ∷ was.later) (subst (Legal rules s n) was.parts legal) in
      let put = sends_it law puts rules here m was.send part what joined.1.0 was.sends in
      let before = open_below rules s n was.before part.upload put.found least joined.0
      (courses law puts rules s n was.before joined.0 part.upload put.found put.there) in
      let below : part.upload.id < suc m = omega arith in
      let last = part_through law puts rules (after_entry rules here was.send) (suc m) was.later part what
      joined.1.1 below was.stays was.last put.now in
      ap (λ (state : State). part_at part.number (parts_sent (open_at state part.upload)))
      (ap (after rules s) was.parts ∙ after-append rules s was.before (was.send ∷ was.later))
      ∙ last

  pub parts_are_kept : EverySoundHistory PartsAreKept
  parts_are_kept rules s n entries sound legal part what was =
      ⊎_elim (λ sent. sent_is_kept rules s n entries part what sound.uploads legal sent)
      (λ (stayed : StayedPart s entries part what).
      let there = standing s part (open_at s part.upload) what refl stayed.at_base in
      part_through law puts rules s n entries part what legal (id_below s n part.upload there.0 sound.uploads there.1)
      stayed.stays stayed.last stayed.at_base) was

  pub only_sent_stands : EveryHistory OnlySentStands
  only_sent_stands rules s n entries legal part p is =
      let stands = standing (after rules s entries) part (open_at (after rules s entries) part.upload) p refl is in
      ⊎_elim (λ (course : Course rules s entries part.upload stands.0).
      let front = course.begun.parts ∙ sym (append_assoc course.begun.before (course.begun.begin ∷ []) course.begun.since) in
      inl (sent_in rules s entries (course.begun.before ++ course.begun.begin ∷ []) course.begun.since part p front
      (course.sent part.number p stands.2)))
      (λ (stay : Stay rules s entries part.upload stands.0). stay.parts part.number p stands.2)
      (courses law puts rules s n entries legal part.upload stands.0 stands.1)
