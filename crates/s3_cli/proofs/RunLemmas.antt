-- How a task ends.
use Rattle.std.proofs.Common.{◌≡◌, ℕ, List, [], Option, Result, Ok, Err, inl, inr, refl, subst, sym}
use Rattle.std.specs.Prelude.{◌≢◌, IfErr, OnOk}
use Rattle.s3_devices.specs.Device.{Traffic}
use Rattle.s3_settings.specs.declared.fault.Fault.{Fault}
use Rattle.s3_settings.specs.declared.fault.Fault.TheVariants.{OutputFailed}
use Rattle.s3_settings.specs.Devices.{IsToldSome, IsUnread, Takes, TakesBeginning}
use Rattle.s3_command_line.specs.declared.task.Task.{Task}
use Rattle.s3_cli.specs.Run.{IsTaskDone, IsTaskFault, IsTaskText}

-- what was written of a text that isn't empty was told
pub told_some : {T : Type 0} (old new : Traffic) (text : List ℕ) (r : Result T Fault) → text ≢ [] → OnOk r (Takes old new text)
    → IfErr r (λ fault. (fault ≡ OutputFailed) × TakesBeginning old new text) → IsToldSome old new
told_some old new text (Ok x) some took failed = record { bytes = text; some = some; told = inl took }
told_some old new text (Err fault) some took failed = record { bytes = text; some = some; told = inr failed.1 }

-- the device took a task's text, or a beginning of it
pub written_whole : {T E : Type 0} (known : List ℕ → Option (List ℕ)) (old between new : Traffic) (task : Task) (text : List ℕ) (r : Result T E)
    → IsTaskText known old between task text → OnOk r (Takes between new text) → OnOk r (IsTaskDone known old new task)
written_whole known old between new task text (Ok x) is took = record { text = text; between = between; is = is; written = took }
written_whole known old between new task text (Err e) is took = tt

pub cut_short : {T : Type 0} (known : List ℕ → Option (List ℕ)) (old between new : Traffic) (task : Task) (text : List ℕ) (r : Result T Fault)
    → IsTaskText known old between task text → IfErr r (λ fault. (fault ≡ OutputFailed) × TakesBeginning between new text) → IfErr r (IsTaskFault known old new task)
cut_short known old between new task text (Ok x) is failed = tt
cut_short known old between new task text (Err fault) is failed =
    inr (failed.0, record { text = text; between = between; is = is; written = failed.1 })

taken_unread : (old new : Traffic) (bytes : List ℕ) → Takes old new bytes → IsUnread old new
taken_unread old new bytes a =
    subst (λ (t : Traffic). IsUnread old t) (sym a) refl

failed_unread : (old new : Traffic) (bytes : List ℕ) → TakesBeginning old new bytes → IsUnread old new
failed_unread old new bytes a =
    subst (λ (t : Traffic). IsUnread old t) (sym a.failed) refl

-- that is no reading
pub unread_by : {T : Type 0} (old between new : Traffic) (bytes : List ℕ) (r : Result T Fault)
    → between ≡ old → OnOk r (Takes between new bytes) → IfErr r (λ fault. (fault ≡ OutputFailed) × TakesBeginning between new bytes) → IsUnread old new
unread_by old between new bytes (Ok x) same took failed = subst (λ (t : Traffic). IsUnread t new) same (taken_unread between new bytes took)
unread_by old between new bytes (Err e) same took failed = subst (λ (t : Traffic). IsUnread t new) same (failed_unread between new bytes failed.1)

pub same_unread : (old new : Traffic) → new ≡ old → IsUnread old new
same_unread old new same = subst (λ (t : Traffic). IsUnread old t) (sym same) refl

pub ruleset runs = (written_whole, cut_short, unread_by, same_unread)
