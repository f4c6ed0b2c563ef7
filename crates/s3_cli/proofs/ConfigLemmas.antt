-- Why a replay has no settings.
use Rattle.std.proofs.Common.{◌≡◌, ℕ, List, Option, Some, [], refl, sym, ap, append-nil, inr, is_some}
use Rattle.s3_settings.specs.declared.options.ReplayOptions.{ReplayOptions}
use Rattle.s3_devices.specs.Device.{Traffic}
use Rattle.s3_settings.specs.Devices.{GivesSome}
use Rattle.s3_settings.specs.Settings.{IsConfigFault, IsSetupOf, replay_mode}
use Rattle.s3_settings.specs.declared.fault.Fault.{Fault}
use Rattle.s3_settings.specs.declared.fault.Fault.TheVariants.{CannotRead, CannotWrite, BadKeysLine, BadEventLine, BadSetting, CannotListen, CannotUse, InputFailed, OutputFailed, OutOfMemory}
use Rattle.s3_settings.specs.declared.mode.ReplayMode.{ReplayMode}
use Rattle.s3_settings.specs.declared.settings.Setup.{Setup}
use Rattle.s3_cli.specs.Run.{IsReplayFault}

-- nothing is some
pub gives_nothing : (t : Traffic) → GivesSome t t
gives_nothing t = record { bytes = []; given = ap (λ bytes. record t { received = bytes }) (sym (append-nil t.received)) }

-- the options are right, and there are no settings
pub config_fault : (known : List ℕ → Option (List ℕ)) (o : ReplayOptions) (mode : ReplayMode) (setup : Setup) (t : Traffic) (fault : Fault)
    → replay_mode o ≡ Some mode → IsSetupOf o.common setup → IsConfigFault (known setup.keys.now) setup fault → IsReplayFault known t t o fault
config_fault known o mode setup t (CannotRead path) timed asked why = (refl, (ap is_some timed, (setup, asked, why)))
config_fault known o mode setup t (CannotWrite path) timed asked why = absurd why
config_fault known o mode setup t (BadKeysLine number) timed asked why = (refl, (ap is_some timed, (setup, asked, why)))
config_fault known o mode setup t (BadEventLine number) timed asked why = absurd why
config_fault known o mode setup t BadSetting timed asked why = (refl, inr (ap is_some timed, (setup, asked, why)))
config_fault known o mode setup t (CannotListen address) timed asked why = absurd why
config_fault known o mode setup t (CannotUse path cause) timed asked why = absurd why
config_fault known o mode setup t InputFailed timed asked why = absurd why
config_fault known o mode setup t OutputFailed timed asked why = absurd why
config_fault known o mode setup t OutOfMemory timed asked why = (gives_nothing t, rw (timed, asked.valid) refl)
