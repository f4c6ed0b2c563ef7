-- What a replay over a folder is answered, and why it is not.
use Rattle.std.proofs.Common.{◌≡◌, ◌∙◌, ℕ, List, Option, Some, None, Result, Ok, Err, ap, inl, inr, is_some, refl, subst, sym, false}
use Rattle.std.proofs.lemmas.Bool.{true≢false}
use Rattle.std.specs.Prelude.{⊤, IfErr, IfOk, IsTrue, option_map}
use Rattle.std.specs.Borrow.{Bor}
use Rattle.std.specs.Global.{Vec}
use Rattle.s3_config.specs.Settings.{Settings}
use Rattle.s3_devices.specs.Device.{Traffic}
use Rattle.s3_storage.specs.declared.storage_fault.StorageFault.{StorageFault}
use Rattle.s3_storage.specs.declared.storage_fault.StorageFault.TheVariants as storage
use Rattle.s3_records.specs.declared.commit.CommitError.{CommitError}
use Rattle.s3_records.specs.declared.commit.CommitError.TheVariants as commits
use Rattle.s3_store.specs.Steps.{Standing}
use Rattle.s3_settings.specs.Devices.{GivesAll}
use Rattle.s3_settings.specs.Settings.{IsConfigured, IsSetupOf, replay_mode}
use Rattle.s3_settings.specs.declared.fault.Fault.{Fault}
use Rattle.s3_settings.specs.declared.fault.Fault.TheVariants.{CannotRead, CannotWrite, BadKeysLine, BadEventLine, BadSetting, CannotListen, CannotUse, InputFailed, OutputFailed, OutOfMemory}
use Rattle.s3_settings.specs.declared.mode.ReplayMode.{ReplayMode}
use Rattle.s3_settings.specs.declared.options.ReplayOptions.{ReplayOptions}
use Rattle.s3_settings.specs.declared.settings.Setup.{Setup}
use Rattle.s3_cli.specs.Run.{IsAnsweredFrom, IsAnsweredOver, IsEarlyOrLate, IsFound, IsReplayFault, is_before_input, reads_events}
use Rattle.s3_cli.specs.Reading.{IsAnswerFault, IsKeepingFault, IsKeptFault, IsOpenedFault, IsOpeningFault, IsOverFault, IsReadingFault, commit_fault}
use Rattle.s3_cli.proofs.ConfigLemmas.{config_fault, gives_nothing}
use Rattle.s3_cli.proofs.ReadingLemmas.{all_some, reading_answer}

-- ---- which faults come after the input

commit_late : (path : Bor (List ℕ)) (error : CommitError) (fault : Fault) → fault ≡ commit_fault path error → is_before_input fault ≡ false
commit_late path commits.NoMemory fault is = ap is_before_input is
commit_late path commits.Failed fault is = ap is_before_input is

answer_late : (mode : ReplayMode) (old new : Traffic) (fault : Fault) → IsAnswerFault mode old new fault → is_before_input fault ≡ false
answer_late mode old new (CannotRead path) why = absurd why
answer_late mode old new (CannotWrite path) why = absurd why
answer_late mode old new (BadKeysLine number) why = absurd why
answer_late mode old new (BadEventLine number) why = refl
answer_late mode old new BadSetting why = absurd why
answer_late mode old new (CannotListen address) why = absurd why
answer_late mode old new (CannotUse path cause) why = absurd why
answer_late mode old new InputFailed why = refl
answer_late mode old new OutputFailed why = absurd why
answer_late mode old new OutOfMemory why = refl

opened_late : (path : Bor (List ℕ)) (mode : ReplayMode) (old new : Traffic) (fault : Fault) → IsOpenedFault path (IsAnswerFault mode) old new fault
    → is_before_input fault ≡ false
opened_late path mode old new fault (inl commit) = commit_late path commit.0 fault commit.1
opened_late path mode old new fault (inr why) = answer_late mode old new fault why

-- such a fault isn't found before the input is read
not_before : {Same : Type 0} (fault : Fault) → is_before_input fault ≡ false → IsTrue (is_before_input fault) → Same
not_before fault late before = absurd (true≢false (sym before ∙ late))

pub answer_unread : {T : Type 0} (Same : Type 0) (mode : ReplayMode) (old new : Traffic) (r : Result T Fault) → IfErr r (IsAnswerFault mode old new)
    → IfErr r (λ fault. IsTrue (is_before_input fault) → Same)
answer_unread Same mode old new (Ok x) why = tt
answer_unread Same mode old new (Err fault) why = not_before fault (answer_late mode old new fault why)

pub events_unread : {T : Type 0} (Same : Type 0) (path : Bor (List ℕ)) (mode : ReplayMode) (old new : Traffic) (r : Result T Fault)
    → IfErr r (IsOpenedFault path (IsAnswerFault mode) old new) → IfErr r (λ fault. IsTrue (is_before_input fault) → Same)
events_unread Same path mode old new (Ok x) why = tt
events_unread Same path mode old new (Err fault) why = not_before fault (opened_late path mode old new fault why)

-- ---- why a folder's replay has no answer

opened_reading : (path : Bor (List ℕ)) (mode : ReplayMode) (old new : Traffic) (fault : Fault) → IsOpenedFault path IsReadingFault old new fault
    → IsOpenedFault path (IsAnswerFault mode) old new fault
opened_reading path mode old new fault (inl commit) = inl commit
opened_reading path mode old new fault (inr why) = inr (reading_answer mode old new fault why)

pub connection_unread : {T : Type 0} (Same : Type 0) (path : Bor (List ℕ)) (mode : ReplayMode) (old new : Traffic) (r : Result T Fault)
    → IfErr r (IsOpenedFault path IsReadingFault old new) → IfErr r (λ fault. IsTrue (is_before_input fault) → Same)
connection_unread Same path mode old new (Ok x) why = tt
connection_unread Same path mode old new (Err fault) why =
    not_before fault (opened_late path mode old new fault (opened_reading path mode old new fault why))

pub events_refused : {T : Type 0} (path : Bor (List ℕ)) (mode : ReplayMode) (old new : Traffic) (r : Result T Fault)
    → IfErr r (IsOpenedFault path (IsAnswerFault mode) old new) → IfErr r (IsKeptFault path mode old new)
events_refused path mode old new (Ok x) why = tt
events_refused path mode old new (Err fault) why = inr why

pub connection_refused : {T : Type 0} (path : Bor (List ℕ)) (mode : ReplayMode) (old new : Traffic) (r : Result T Fault)
    → IfErr r (IsOpenedFault path IsReadingFault old new) → IfErr r (IsKeptFault path mode old new)
connection_refused path mode old new (Ok x) why = tt
connection_refused path mode old new (Err fault) why = inr (opened_reading path mode old new fault why)

any_bytes : (P : List ℕ → Type 0) (old new : Traffic) → GivesAll P old new → GivesAll (λ bytes. ⊤) old new
any_bytes P old new all = record { bytes = all.bytes; given = all.given; is = tt }

-- what was read of the device has no answer that is kept
keeping_fault : (path : Bor (List ℕ)) (mode : ReplayMode) (P : List ℕ → Type 0) (old new : Traffic) (fault : Fault) → GivesAll P old new
    → IsKeepingFault path fault → IsOpenedFault path (IsAnswerFault mode) old new fault
keeping_fault path mode P old new fault all (inl commit) = inl (commit.0, commit.1, any_bytes P old new all)
keeping_fault path mode P old new fault all (inr memory) = inr (subst (IsAnswerFault mode old new) (sym memory) (all_some P old new all))

pub keeping_refused : {T : Type 0} (path : Bor (List ℕ)) (mode : ReplayMode) (P : List ℕ → Type 0) (old new : Traffic) (r : Result T Fault) → GivesAll P old new
    → IfErr r (IsKeepingFault path) → IfErr r (IsOpenedFault path (IsAnswerFault mode) old new)
keeping_refused path mode P old new (Ok x) all why = tt
keeping_refused path mode P old new (Err fault) all why = keeping_fault path mode P old new fault all why

-- ---- what it is answered

pub found_answered : {E : Type 0} (path : Bor (List ℕ)) (settings : Settings) (base : Standing) (mode : ReplayMode) (old new : Traffic) (r : Result (Vec ℕ) E)
    → IsFound settings base → IfOk r (λ text. GivesAll (λ bytes. IsAnsweredFrom base settings mode bytes text.items) old new)
    → IfOk r (λ text. GivesAll (λ bytes. IsAnsweredOver (Some path) settings mode bytes text.items) old new)
found_answered path settings base mode old new (Err e) found answered = tt
found_answered path settings base mode old new (Ok text) found answered = record {
  bytes = answered.bytes;
  given = answered.given;
  is = (base, found, answered.is);
}

-- ---- why a replay fails

-- the options are right, and there are settings
module _ (known : List ℕ → Option (List ℕ)) (o : ReplayOptions) (mode : ReplayMode) (setup : Setup) (settings : Settings) (old new : Traffic)
    (timed : replay_mode o ≡ Some mode) (asked : IsSetupOf o.common setup) (configured : IsConfigured (known setup.keys.now) setup settings) where
  answer_fault : (fault : Fault) → IsAnswerFault mode old new fault → IsReplayFault known old new o fault
  answer_fault (CannotRead path) why = absurd why
  answer_fault (CannotWrite path) why = absurd why
  answer_fault (BadKeysLine number) why = absurd why
  answer_fault (BadEventLine number) why = (why.1, ap (option_map reads_events) timed ∙ ap Some why.0, (setup, settings, asked, configured))
  answer_fault BadSetting why = absurd why
  answer_fault (CannotListen address) why = absurd why
  answer_fault (CannotUse path cause) why = absurd why
  answer_fault InputFailed why = (why, ap is_some timed, (setup, settings, asked, configured))
  answer_fault OutputFailed why = absurd why
  answer_fault OutOfMemory why = (why, rw (timed, asked.valid) refl)

  use_fault : (path : Bor (List ℕ)) (why : StorageFault) → o.folder ≡ Some path → IsEarlyOrLate old new why → IsReplayFault known old new o (CannotUse path why)
  use_fault path why in_folder when =
      (when, ap (option_map (λ (text : Bor (List ℕ)). text.now)) in_folder, ap is_some timed, (setup, settings, asked, configured))

  memory_fault : (fault : Fault) → fault ≡ OutOfMemory → new ≡ old → IsReplayFault known old new o fault
  memory_fault fault is same =
      subst (IsReplayFault known old new o) (sym is) (subst (λ (t : Traffic). IsReplayFault known old t o OutOfMemory) (sym same) (gives_nothing old, rw (timed, asked.valid) refl))

  opening_fault : (path : Bor (List ℕ)) (fault : Fault) → o.folder ≡ Some path → new ≡ old → IsOpeningFault path fault → IsReplayFault known old new o fault
  opening_fault path fault in_folder same (inl why) = subst (IsReplayFault known old new o) (sym why.1) (use_fault path why.0 in_folder (inl same))
  opening_fault path fault in_folder same (inr is) = memory_fault fault is same

  committing_fault : (path : Bor (List ℕ)) (error : CommitError) → o.folder ≡ Some path → GivesAll (λ bytes. ⊤) old new
      → IsReplayFault known old new o (commit_fault path error)
  committing_fault path commits.NoMemory in_folder all = use_fault path storage.NoRoom in_folder (inr (refl, all))
  committing_fault path commits.Failed in_folder all = use_fault path storage.Failed in_folder (inr (refl, all))

  over_fault : (folder : Option (Bor (List ℕ))) (fault : Fault) → o.folder ≡ folder → IsOverFault folder mode old new fault → IsReplayFault known old new o fault
  over_fault None fault is why = answer_fault fault why
  over_fault (Some path) fault is (inl early) = opening_fault path fault is early.0 early.1
  over_fault (Some path) fault is (inr (inl commit)) = subst (IsReplayFault known old new o) (sym commit.1) (committing_fault path commit.0 is commit.2)
  over_fault (Some path) fault is (inr (inr why)) = answer_fault fault why

  pub over_refused : {T : Type 0} (r : Result T Fault) → IfErr r (IsOverFault o.folder mode old new) → IfErr r (IsReplayFault known old new o)
  over_refused (Ok x) why = tt
  over_refused (Err fault) why = over_fault o.folder fault refl why

pub ruleset over = answer_unread

pub ruleset replaying = (config_fault, over_refused)
