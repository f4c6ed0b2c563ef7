-- A connection on trial, from step to step.
use Rattle.std.proofs.Common.{◌≡◌, ◌≤◌, ◌+◌, ℕ, Bool, true, false, Result, Ok, Err, IfOk, List, [], ◌++◌, length, take, drop, refl, sym, ap, subst, ◌∙◌, arith, append_assoc}
use Rattle.std.proofs.lemmas.List.{length-append, length-take-le, take-append-drop, take_all}
use Rattle.s3_config.specs.Settings.{Settings}
use Rattle.s3_session.specs.Fault.{FaultsStay}
use Rattle.s3_session.specs.Laws.{OutputsStay}
use Rattle.s3_session.specs.Output.{Reading, Standing, Over, is_dead, is_waiting, nothing_yet}
use Rattle.s3_session.specs.Session.{Connection, standing_of}
use Rattle.s3_session.specs.Stands.{SessionsWrite, Stands}
use Rattle.s3_simulation.specs.Faults.{HasNoFaultOf}
use Rattle.s3_simulation.specs.Moments.{handed}
use Rattle.s3_simulation.specs.Trimmed.{All, Share}
use Rattle.s3_simulation.specs.Trying.{HasNoneBefore, HasStepped, HasTried, IsPassed, IsStepOf, ReadsOn, Settles, StepsOn, TellsRefused, Tries, Trying, added_up, share_of, unended, up_to_if}
use Rattle.s3_simulation.specs.declared.share.Kept.{Kept}
use Rattle.s3_simulation.specs.declared.trial.Passed.{Passed}
use Rattle.s3_simulation.specs.declared.trial.Passed.TheVariants as passed
use Rattle.s3_simulation.specs.declared.trial.Step.{Step}
use Rattle.s3_simulation.specs.declared.trial.Step.TheVariants as steps
use Rattle.s3_simulation.proofs.PlayedLemmas.{OneTimedOutput}
use Rattle.s3_simulation.proofs.TrialLemmas.{tried_counted}
use Rattle.s3_simulation.proofs.ShareLemmas.{settles_more, settles_refused, settles_replied}

-- ---- from its beginning, and from step to step

-- nothing came
pub tried_none : (session : Connection) (settings : Settings) (moments : List ℕ) → Stands session settings nothing_yet []
    → HasTried (record { session = session; moments = moments; is_sound = false; taken = 0 }) settings moments []
tried_none session settings moments stands = record {
  count = 0;
  hands = λ n. (let same : 0 + n ≡ n = omega arith in ap (handed moments) same);
  turns = [];
  answers = [];
  sent = [];
  stands = stands;
  knows = (refl, refl);
}

not_refused : (refused : Bool) (standing : Standing) → standing ≡ Reading → (refused ≡ true → standing ≡ Over) → refused ≡ false
not_refused true standing reads over = let never = sym (over refl) ∙ reads in absurd (cc)
not_refused false standing reads over = refl

-- it reads on, and no message of it was refused
pub tries_on : (t : Trying) (settings : Settings) (moments bytes : List ℕ) → HasTried t settings moments bytes → standing_of t.session ≡ Reading
    → t.taken ≡ length bytes → (refused : Bool) → (refused ≡ true → standing_of t.session ≡ Over)
    → (is_dead (standing_of t.session) ≡ false → is_waiting (standing_of t.session) ≡ false → refused ≡ false → HasNoFaultOf settings moments (unended bytes))
    → Tries t settings moments bytes
tries_on t settings moments bytes tried reads counted refused over none = record {
  tried = tried;
  clean = none (ap is_dead reads) (ap is_waiting reads) (not_refused refused (standing_of t.session) reads over);
  counted = counted;
}

-- so many more bytes are counted
pub counted_more : (before len taken : ℕ) (bytes piece : List ℕ) → before ≡ length bytes → len ≤ length piece → taken ≡ before + len
    → taken ≡ length (bytes ++ take len piece)
counted_more before len taken bytes piece counted within is =
    omega (arith, counted, is, length-append bytes (take len piece), length-take-le len piece within)

-- what is settled behind some bytes of a piece is behind all
pub settles_behind : (settings : Settings) (moments bytes piece : List ℕ) (len : ℕ) (share : Share) → Settles settings moments (bytes ++ take len piece) share
    → Settles settings moments (bytes ++ piece) share
settles_behind settings moments bytes piece len share settles =
    subst (λ (b : List ℕ). Settles settings moments b share)
    (append_assoc bytes (take len piece) (drop len piece) ∙ ap (λ (b : List ℕ). bytes ++ b) (take-append-drop len piece))
    (settles_more settings moments (bytes ++ take len piece) (drop len piece) share settles)

-- what a step makes of it
module _ (t u : Trying) (settings : Settings) (moments bytes piece : List ℕ) (len : ℕ) (refused : Bool) (kept : Kept)
    (tries : Tries t settings moments bytes) (tried : HasTried u settings moments (bytes ++ take len piece)) (same : u.taken ≡ t.taken) (within : len ≤ length piece)
    (tells : TellsRefused (added_up u len) refused) where
  counted : u.taken + len ≡ length (bytes ++ take len piece)
  counted = counted_more t.taken len (u.taken + len) bytes piece tries.counted within (ap (λ (n : ℕ). n + len) same)

  tried_now : HasTried (added_up u len) settings moments (bytes ++ take len piece)
  tried_now = tried_counted u (u.taken + len) settings moments (bytes ++ take len piece) tried

  goes_on : standing_of u.session ≡ Reading → Tries (added_up u len) settings moments (bytes ++ take len piece)
  goes_on reads =
      tries_on (added_up u len) settings moments (bytes ++ take len piece) tried_now reads counted refused tells.over
      (tells.none settings moments (bytes ++ take len piece) tried_now)

  all_on : standing_of u.session ≡ Reading → len ≡ length piece → Tries (added_up u len) settings moments (bytes ++ piece)
  all_on reads all =
      let enough : length piece ≤ len = omega (arith, all) in
      subst (λ (b : List ℕ). Tries (added_up u len) settings moments (bytes ++ b)) (take_all len piece enough) (goes_on reads)

  replied : OutputsStay → FaultsStay → standing_of u.session ≡ Over → u.is_sound ≡ true → refused ≡ false → Settles settings moments (bytes ++ piece) All
  replied stay faults over sound calm =
      settles_behind settings moments bytes piece len All
      (settles_replied stay faults (added_up u len) settings moments (bytes ++ take len piece) tried_now sound
      (λ more. tells.closed settings moments (bytes ++ take len piece) more tried_now over calm))

  stopped : SessionsWrite → OutputsStay → OneTimedOutput → (standing_of u.session ≡ Over → HasNoneBefore settings moments (bytes ++ take len piece)) → refused ≡ true
      → share_of kept ≡ up_to_if u.is_sound (u.taken + len) → Settles settings moments (bytes ++ piece) (share_of kept)
  stopped write stay one first told is =
      let over = tells.over told in
      subst (Settles settings moments (bytes ++ piece)) (sym is)
      (settles_behind settings moments bytes piece len (up_to_if u.is_sound (u.taken + len))
      (settles_refused write stay one (added_up u len) settings moments (bytes ++ take len piece) (u.taken + len) tried_now over
      (tells.some settings moments (bytes ++ take len piece) tried_now told) (first over) counted u.is_sound refl))

  made_by : SessionsWrite → OutputsStay → FaultsStay → OneTimedOutput → (p : Passed) → IsPassed p (standing_of u.session) → (p ≡ passed.All → len ≡ length piece)
      → (p ≡ passed.Stopped → standing_of u.session ≡ Over → HasNoneBefore settings moments (bytes ++ take len piece)) → (p ≡ passed.Replied → u.is_sound ≡ true)
      → share_of kept ≡ up_to_if u.is_sound (u.taken + len)
      → (step : Step) → IsStepOf step p len refused kept → HasStepped step (added_up u len) settings moments bytes piece
  made_by write stay faults one passed.All stands all first sound is step made =
      subst (λ (s : Step). HasStepped s (added_up u len) settings moments bytes piece) (sym made) (all_on stands (all refl))
  made_by write stay faults one passed.Answered stands all first sound is step made =
      subst (λ (s : Step). HasStepped s (added_up u len) settings moments bytes piece) (sym made) (goes_on stands)
  made_by write stay faults one passed.Replied stands all first sound is step made =
      subst (λ (s : Step). HasStepped s (added_up u len) settings moments bytes piece) (sym made.1) (replied stay faults stands (sound refl) made.0)
  made_by write stay faults one passed.Stopped stands all first sound is step made =
      subst (λ (s : Step). HasStepped s (added_up u len) settings moments bytes piece) (sym made.1) (stopped write stay one (first refl) made.0 is)

  pub stepped : {E : Type 0} → SessionsWrite → OutputsStay → FaultsStay → OneTimedOutput → (p : Passed) → IsPassed p (standing_of u.session) → (p ≡ passed.All → len ≡ length piece)
      → (p ≡ passed.Stopped → standing_of u.session ≡ Over → HasNoneBefore settings moments (bytes ++ take len piece)) → (p ≡ passed.Replied → u.is_sound ≡ true)
      → share_of kept ≡ up_to_if u.is_sound (u.taken + len)
      → (result : Result Step E) → IfOk result (λ step. IsStepOf step p len refused kept) → IfOk result (λ step. HasStepped step (added_up u len) settings moments bytes piece)
  stepped write stay faults one p stands all first sound is (Ok step) made = made_by write stay faults one p stands all first sound is step made
  stepped write stay faults one p stands all first sound is (Err e) made = tt

-- and whether it reads on
steps_by : (t : Trying) (size len : ℕ) (refused : Bool) (kept : Kept) (p : Passed) → IsPassed p (standing_of t.session) → t.session.is_ended ≡ false → len ≤ size
    → (step : Step) → IsStepOf step p len refused kept → StepsOn step t size
steps_by t size len refused kept passed.All stands open_still within step made = subst (λ (s : Step). StepsOn s t size) (sym made) (stands, open_still)
steps_by t size len refused kept passed.Answered stands open_still within step made = subst (λ (s : Step). StepsOn s t size) (sym made) ((stands, open_still), within)
steps_by t size len refused kept passed.Replied stands open_still within step made = subst (λ (s : Step). StepsOn s t size) (sym made.1) tt
steps_by t size len refused kept passed.Stopped stands open_still within step made = subst (λ (s : Step). StepsOn s t size) (sym made.1) tt

pub steps_on : {E : Type 0} (t : Trying) (size len : ℕ) (refused : Bool) (kept : Kept) (p : Passed) → IsPassed p (standing_of t.session) → t.session.is_ended ≡ false → len ≤ size
    → (result : Result Step E) → IfOk result (λ step. IsStepOf step p len refused kept) → IfOk result (λ step. StepsOn step t size)
steps_on t size len refused kept p stands open_still within (Ok step) made = steps_by t size len refused kept p stands open_still within step made
steps_on t size len refused kept p stands open_still within (Err e) made = tt

-- ---- what a piece makes of it, step by step

module _ (t : Trying) (settings : Settings) (moments bytes done rest piece : List ℕ) (split : piece ≡ done ++ rest) where
  whole : (bytes ++ done) ++ rest ≡ bytes ++ piece
  whole = append_assoc bytes done rest ∙ ap (λ (b : List ℕ). bytes ++ b) (sym split)

  pub more_taken : (step : Step) → HasStepped step t settings moments (bytes ++ done) rest → step ≡ steps.More → Tries t settings moments (bytes ++ piece)
  more_taken step made is =
      subst (Tries t settings moments) whole (subst (λ (s : Step). HasStepped s t settings moments (bytes ++ done) rest) is made)

  pub settled_taken : (step : Step) (kept : Kept) → HasStepped step t settings moments (bytes ++ done) rest → step ≡ steps.Settled kept
      → Settles settings moments (bytes ++ piece) (share_of kept)
  settled_taken step kept made is =
      subst (λ (b : List ℕ). Settles settings moments b (share_of kept)) whole (subst (λ (s : Step). HasStepped s t settings moments (bytes ++ done) rest) is made)

  pub behind_taken : (step : Step) (len : ℕ) → HasStepped step t settings moments (bytes ++ done) rest → step ≡ steps.Behind len
      → Tries t settings moments (bytes ++ (done ++ take len rest))
  behind_taken step len made is =
      subst (Tries t settings moments) (append_assoc bytes done (take len rest)) (subst (λ (s : Step). HasStepped s t settings moments (bytes ++ done) rest) is made)

pub split_on : (piece done rest behind : List ℕ) (len : ℕ) → piece ≡ done ++ rest → behind ≡ drop len rest → piece ≡ (done ++ take len rest) ++ behind
split_on piece done rest behind len split is =
    split ∙ ap (λ (b : List ℕ). done ++ b) (sym (take-append-drop len rest)) ∙ sym (append_assoc done (take len rest) (drop len rest))
    ∙ ap (λ (b : List ℕ). (done ++ take len rest) ++ b) (sym is)

pub on_behind : (t : Trying) (size len : ℕ) (step : Step) → StepsOn step t size → step ≡ steps.Behind len → ReadsOn t × (len ≤ size)
on_behind t size len step on is = subst (λ (s : Step). StepsOn s t size) is on

pub on_more : (t : Trying) (size : ℕ) (step : Step) → StepsOn step t size → step ≡ steps.More → ReadsOn t
on_more t size step on is = subst (λ (s : Step). StepsOn s t size) is on
