-- What a signing comes to, part by part.
use Rattle.std.proofs.Common.{◌≡◌, ◌∙◌, ◌<◌, ℕ, true, false, List, length, get_or, Option, Some, is_some, inl, inr, ap, refl}
use Rattle.std.proofs.lemmas.List.Folds.{list_all_at, list_all-map}
use Rattle.std.specs.Borrow.{Bor}
use Rattle.std.specs.List.{list_all}
use Rattle.s3_config.specs.Settings.{Settings}
use Rattle.s3_settings.specs.declared.fault.Fault.{Fault}
use Rattle.s3_settings.specs.declared.fault.Fault.TheVariants.{CannotRead, CannotWrite, BadKeysLine, BadEventLine, BadSetting, CannotListen, CannotUse, InputFailed, OutputFailed, OutOfMemory}
use Rattle.s3_settings.specs.declared.settings.Setup.{Setup}
use Rattle.s3_cli.specs.declared.sign.Draft.{Draft}
use Rattle.s3_settings.specs.declared.options.SignOptions.{SignOptions}
use Rattle.s3_settings.specs.Settings.{IsSetupOf, IsConfigFault}
use Rattle.s3_cli.specs.Sign.{texts_of, has_colon, moment_of_signing, are_first_options, IsDraftFault, IsDraftOf, IsDraftText, IsPrepared, IsReady, IsRequestFault, IsSignFault, IsTextOf}

-- a word without a colon
pub colon_missing : (words : List (Bor (List ℕ))) (i : ℕ) (d : Bor (List ℕ)) → i < length words → has_colon (get_or words i d).now ≡ false → list_all has_colon (texts_of words) ≡ false
colon_missing words i d lt h =
    list_all-map has_colon (λ (word : Bor (List ℕ)). word.now) words ∙ list_all_at (λ (word : Bor (List ℕ)). has_colon word.now) words i d lt h

-- the settings, the draft and the stamp are what the options ask for
prepared : (known : List ℕ → Option (List ℕ)) (o : SignOptions) (setup : Setup) (moment : ℕ) (draft : Draft) (settings : Settings) (stamp : List ℕ) → moment_of_signing o ≡ Some moment → IsSetupOf o.common setup → IsDraftOf o draft → IsReady known setup moment settings stamp → IsPrepared known o draft settings stamp
prepared known o setup moment draft settings stamp timed asked drafted ready = record {
  moment = moment;
  setup = setup;
  timed = timed;
  asked = asked;
  drafted = drafted;
  configured = ready.configured;
  stamped = ready.stamped;
}

-- the first options are right
first_right : (o : SignOptions) (setup : Setup) (moment : ℕ) → moment_of_signing o ≡ Some moment → IsSetupOf o.common setup → are_first_options o ≡ true
first_right o setup moment timed asked = rw (timed, asked.valid) refl

-- the options are right, and there are no settings
config_fault : (known : List ℕ → Option (List ℕ)) (o : SignOptions) (setup : Setup) (moment : ℕ) (draft : Draft) (fault : Fault) → moment_of_signing o ≡ Some moment → IsSetupOf o.common setup → IsDraftOf o draft → IsConfigFault (known setup.keys.now) setup fault → IsSignFault known o fault
config_fault known o setup moment draft (CannotRead path) timed asked drafted h = inl (draft, ap is_some timed, drafted, (setup, asked, h))
config_fault known o setup moment draft (CannotWrite path) timed asked drafted h = absurd h
config_fault known o setup moment draft (BadKeysLine number) timed asked drafted h = (draft, ap is_some timed, drafted, (setup, asked, h))
config_fault known o setup moment draft (BadEventLine number) timed asked drafted h = absurd h
config_fault known o setup moment draft BadSetting timed asked drafted h = inr (inl (draft, ap is_some timed, drafted, (setup, asked, h)))
config_fault known o setup moment draft (CannotListen address) timed asked drafted h = absurd h
config_fault known o setup moment draft (CannotUse path why) timed asked drafted h = absurd h
config_fault known o setup moment draft InputFailed timed asked drafted h = absurd h
config_fault known o setup moment draft OutputFailed timed asked drafted h = absurd h
config_fault known o setup moment draft OutOfMemory timed asked drafted h = first_right o setup moment timed asked

-- there are settings, and there is no request
request_fault : (known : List ℕ → Option (List ℕ)) (o : SignOptions) (draft : Draft) (settings : Settings) (stamp : List ℕ) (fault : Fault) → IsPrepared known o draft settings stamp → IsRequestFault known settings draft stamp fault → IsSignFault known o fault
request_fault known o draft settings stamp (CannotRead path) ready h = inr (draft, settings, stamp, ready, h)
request_fault known o draft settings stamp (CannotWrite path) ready h = absurd h
request_fault known o draft settings stamp (BadKeysLine number) ready h = absurd h
request_fault known o draft settings stamp (BadEventLine number) ready h = absurd h
request_fault known o draft settings stamp BadSetting ready h = inr (inr (draft, settings, stamp, ready, h))
request_fault known o draft settings stamp (CannotListen address) ready h = absurd h
request_fault known o draft settings stamp (CannotUse path why) ready h = absurd h
request_fault known o draft settings stamp InputFailed ready h = absurd h
request_fault known o draft settings stamp OutputFailed ready h = absurd h
request_fault known o draft settings stamp OutOfMemory ready h = first_right o ready.setup ready.moment ready.timed ready.asked

-- what a draft comes to, the options that describe it come to
pub text_of_draft : (known : List ℕ → Option (List ℕ)) (o : SignOptions) (setup : Setup) (moment : ℕ) (draft : Draft) (text : List ℕ) → moment_of_signing o ≡ Some moment → IsSetupOf o.common setup → IsDraftOf o draft → IsDraftText known setup moment draft text → IsTextOf known o text
text_of_draft known o setup moment draft text timed asked drafted (settings, stamp, ready, is) = record {
  draft = draft;
  settings = settings;
  stamp = stamp;
  prepared = prepared known o setup moment draft settings stamp timed asked drafted ready;
  request = is;
}

pub fault_of_draft : (known : List ℕ → Option (List ℕ)) (o : SignOptions) (setup : Setup) (moment : ℕ) (draft : Draft) (fault : Fault) → moment_of_signing o ≡ Some moment → IsSetupOf o.common setup → IsDraftOf o draft → IsDraftFault known setup moment draft fault → IsSignFault known o fault
fault_of_draft known o setup moment draft fault timed asked drafted (inl h) = config_fault known o setup moment draft fault timed asked drafted h
fault_of_draft known o setup moment draft fault timed asked drafted (inr (settings, stamp, ready, h)) =
    request_fault known o draft settings stamp fault (prepared known o setup moment draft settings stamp timed asked drafted ready) h
