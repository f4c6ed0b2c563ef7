-- What a device took over several calls.
use Rattle.std.proofs.Common.{◌≡◌, ◌∙◌, ℕ, List, [], ◌∷◌, ◌++◌, codes, inl, inr, length, take, drop, ◌-◌, suc, sym, ap, append_assoc, append-nil, take-append-drop, refl, Result, Ok, Err}
use Rattle.std.proofs.lemmas.List.{length-append, take-append-le, take_rest, take_at}
use Rattle.std.proofs.Math.Seq.{take-append-add}
use Rattle.std.proofs.Transfers.{starts_with_length}
use Rattle.std.specs.Io.{StartsWith}
use Rattle.std.specs.Prelude.{IfErr, OnOk}
use Rattle.std.specs.Result.{IsErrAnd}
use Rattle.s3_devices.specs.Device.{Traffic}
use Rattle.s3_settings.specs.declared.fault.Fault.{Fault}
use Rattle.s3_settings.specs.declared.fault.Fault.TheVariants.{OutputFailed}
use Rattle.s3_settings.specs.Devices.{IsTold, Takes, TakesBeginning}

pub none_taken : (old : Traffic) → Takes old old []
none_taken old = ap (λ (l : List ℕ). record old { sent = l }) (sym (append-nil old.sent))

taken_further : (old between after : Traffic) (done more : List ℕ) → Takes old between done → Takes between after more → Takes old after (done ++ more)
taken_further old between after done more was is =
    is ∙ ap (λ (t : Traffic). record t { sent = t.sent ++ more; late_writes = after.late_writes }) was
    ∙ ap (λ (l : List ℕ). record old { sent = l; late_writes = after.late_writes }) (append_assoc old.sent done more)

-- one write more
pub more_given : (old between after : Traffic) (bytes done left : List ℕ) (count : ℕ) → bytes ≡ done ++ left → Takes old between done → Takes between after (take count left)
    → (more : List ℕ) × (bytes ≡ more ++ take (length left - count) (drop count left)) × Takes old after more
more_given old between after bytes done left count split was is =
    let rest : take (length left - count) (drop count left) ≡ drop count left = take_rest left count in (
      done ++ take count left,
      split ∙ ap (λ (l : List ℕ). done ++ l) (sym (take-append-drop count left)) ∙ sym (append_assoc done (take count left) (drop count left))
          ∙ ap (λ (l : List ℕ). (done ++ take count left) ++ l) (sym rest),
      taken_further old between after done (take count left) was is,
    )

given_before : (old between after : Traffic) (bytes done left : List ℕ) → bytes ≡ done ++ left → Takes old between done
    → after ≡ record between { failed_writes = suc between.failed_writes } → TakesBeginning old after bytes
given_before old between after bytes done left split was fails =
    let late : between.late_writes ≡ after.late_writes = sym (ap (λ (t : Traffic). t.late_writes) fails) in record {
      taken = done;
      first = ap (take (length done)) split ∙ take_at done left (length done) refl;
      failed = fails ∙ ap (λ (t : Traffic). record t { failed_writes = suc t.failed_writes }) was
          ∙ ap (λ (n : ℕ). record old { sent = old.sent ++ done; failed_writes = suc old.failed_writes; late_writes = n }) late;
    }

-- where a write fails, what was taken before is a beginning
pub output_failed : {T : Type 0} (r : Result T Fault) (fault : Fault) (old between after : Traffic) (bytes done left : List ℕ) → bytes ≡ done ++ left → Takes old between done
    → (fault ≡ OutputFailed) × (after ≡ record between { failed_writes = suc between.failed_writes }) → IsErrAnd r (λ f. f ≡ fault)
    → IfErr r (λ f. (f ≡ OutputFailed) × TakesBeginning old after bytes)
output_failed (Ok x) fault old between after bytes done left split was fails told = tt
output_failed (Err e) fault old between after bytes done left split was fails told = (told ∙ fails.0, given_before old between after bytes done left split was fails.1)

-- a beginning of what follows some bytes is one of all
starts_further : (front bytes taken : List ℕ) → StartsWith bytes taken → StartsWith (front ++ bytes) (front ++ taken)
starts_further front bytes taken h =
    ap (λ (n : ℕ). take n (front ++ bytes)) (length-append front taken) ∙ take-append-add front bytes (length taken) ∙ ap (λ (l : List ℕ). front ++ l) h

starts_before : (bytes more taken : List ℕ) → StartsWith bytes taken → StartsWith (bytes ++ more) taken
starts_before bytes more taken h = take-append-le (length taken) bytes more (starts_with_length bytes taken h) ∙ h

-- what a device took of one piece after another
part_of_first : (old after : Traffic) (first more : List ℕ) → TakesBeginning old after first → TakesBeginning old after (first ++ more)
part_of_first old after first more part = record { taken = part.taken; first = starts_before first more part.taken part.first; failed = part.failed }

part_of_more : (old between after : Traffic) (first more : List ℕ) → Takes old between first → TakesBeginning between after more → TakesBeginning old after (first ++ more)
part_of_more old between after first more was part = record {
  taken = first ++ part.taken;
  first = starts_further first more part.taken part.first;
  failed = part.failed
      ∙ ap (λ (t : Traffic). record t { sent = t.sent ++ part.taken; failed_writes = suc t.failed_writes; late_writes = after.late_writes }) was
      ∙ ap (λ (l : List ℕ). record old { sent = l; failed_writes = suc old.failed_writes; late_writes = after.late_writes }) (append_assoc old.sent first part.taken);
}

-- the same by what the calls answered
pub told_after : {T E : Type 0} (r : Result T E) (old between after : Traffic) (first more : List ℕ)
    → Takes old between first → OnOk r (Takes between after more) → OnOk r (Takes old after (first ++ more))
told_after (Ok x) old between after first more was is = taken_further old between after first more was is
told_after (Err e) old between after first more was is = tt

pub cut_after : {T : Type 0} (r : Result T Fault) (old between after : Traffic) (first more : List ℕ)
    → Takes old between first → IfErr r (λ f. (f ≡ OutputFailed) × TakesBeginning between after more) → IfErr r (λ f. (f ≡ OutputFailed) × TakesBeginning old after (first ++ more))
cut_after (Ok x) old between after first more was part = tt
cut_after (Err e) old between after first more was part = (part.0, part_of_more old between after first more was part.1)

pub cut_in_first : (fault : Fault) (old after : Traffic) (first more : List ℕ) → (fault ≡ OutputFailed) × TakesBeginning old after first → (fault ≡ OutputFailed) × TakesBeginning old after (first ++ more)
cut_in_first fault old after first more part = (part.0, part_of_first old after first more part.1)

-- a device that failed or not was told
pub either_told : {T : Type 0} (r : Result T Fault) (old after : Traffic) (bytes : List ℕ) → OnOk r (Takes old after bytes) → IfErr r (λ f. (f ≡ OutputFailed) × TakesBeginning old after bytes) → IsTold old after bytes
either_told (Ok x) old after bytes all part = inl all
either_told (Err e) old after bytes all part = inr part.1

-- the line of a fault from its parts
pub line_said : (first second third start between end text : List ℕ) → start ≡ first → between ≡ second → end ≡ third → first ++ (second ++ third) ≡ text
    → ((codes "s3d: " ++ start) ++ (between ++ end)) ++ 10 ∷ [] ≡ codes "s3d: " ++ text ++ 10 ∷ []
line_said first second third start between end text s b t e =
    let joined : start ++ (between ++ end) ≡ text = cc in
    ap (λ (l : List ℕ). l ++ 10 ∷ []) (append_assoc (codes "s3d: ") start (between ++ end) ∙ ap (λ (l : List ℕ). codes "s3d: " ++ l) joined)
    ∙ append_assoc (codes "s3d: ") text (10 ∷ [])
