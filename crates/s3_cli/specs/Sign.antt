-- What `s3d sign` writes, over the bytes that its files tell: `None` stands for those of a file that
-- tells none.
use Rattle.std.specs.Prelude.{◌≡◌, ◌⊎◌, ℕ, Bool, true, false, IsTrue, ◌&&◌, ◌==◌, List, [], ◌∷◌, ◌++◌, map, codes, Option, Some, None, is_some, IfSome, option_map, position}
use Rattle.std.specs.List.{list_all, before_first, after_first}
use Rattle.std.specs.Borrow.{Bor}
use Rattle.s3_calendar.specs.Moment.{is_stamp, stamp_seconds}
use Rattle.s3_text.specs.Characters.{line_feed}
use Rattle.s3_config.specs.Settings.{Settings, secret_of}
use Rattle.s3_signer.specs.Request.{HeaderLine, IsSignable, given_lines, request_text}
use Rattle.s3_signer.specs.Chunked.{IsChunkedText, IsSignableInChunks}
use Rattle.s3_signer.specs.Presigned.{IsPresignable, IsPresignableWith, presigned_request_text, presigned_target_text}
use Rattle.s3_settings.specs.declared.fault.Fault.{Fault}
use Rattle.s3_settings.specs.declared.fault.Fault.TheVariants.{CannotRead, CannotWrite, BadKeysLine, BadEventLine, BadSetting, CannotListen, CannotUse, InputFailed, OutputFailed, OutOfMemory}
use Rattle.s3_settings.specs.declared.settings.Setup.{Setup}
use Rattle.s3_cli.specs.declared.mode.SignMode.{SignMode}
use Rattle.s3_cli.specs.declared.mode.SignMode.TheVariants.{Hashed, Chunked, Presigned, Address}
use Rattle.s3_cli.specs.declared.sign.Draft.{Draft}
use Rattle.s3_cli.specs.Mode.{sign_mode}
use Rattle.s3_settings.specs.declared.options.SignOptions.{SignOptions}
use Rattle.s3_settings.specs.Fault.{IsReadFault}
use Rattle.s3_settings.specs.Settings.{option_moment, are_options, IsSetupOf, IsConfigured, IsConfigFault, HasConfigFault}

-- the texts behind references
abbrev pub texts_of : List (Bor (List ℕ)) → List (List ℕ)
texts_of = map (λ text. text.now)

-- the byte `:`
abbrev pub colon : ℕ
colon = 58

abbrev pub is_colon : ℕ → Bool
is_colon b = b == colon

-- the word has a `:`
abbrev pub has_colon : List ℕ → Bool
has_colon word = is_some (position is_colon word)

-- the header line of a word NAME:VALUE: what stands before and after its first `:`
abbrev pub line_of_word : List ℕ → HeaderLine
line_of_word word = (before_first is_colon word, after_first is_colon word)

-- the header lines of a request to this host: the host's, and those of the words
abbrev pub header_lines : List ℕ → List (List ℕ) → List HeaderLine
header_lines host words = (codes "host", host) ∷ map line_of_word words

-- the moment at which the options say that the request is signed
abbrev pub moment_of_signing : SignOptions → Option ℕ
moment_of_signing o = option_moment (option_map (λ text. text.now) o.moment)

-- the moment and the options on the settings are of their forms
abbrev pub are_first_options : SignOptions → Bool
are_first_options o = is_some (moment_of_signing o) && are_options o.common

-- the options that a request needs are there, those on how it is signed ask for one way of it, and each further word
-- is a header line
unfoldable pub are_sign_options : SignOptions → Bool
are_sign_options o =
    is_some o.id && is_some o.method && is_some o.target && is_some o.host
    && is_some (sign_mode o)
    && list_all has_colon (texts_of o.headers.items)

-- a draft has what the options say
pub record IsDraftOf (o : SignOptions) (d : Draft) : Type 0 where
  pub id : option_map (λ text. text.now) o.id ≡ Some d.id.now
  pub method : option_map (λ text. text.now) o.method ≡ Some d.method.now
  pub target : option_map (λ text. text.now) o.target ≡ Some d.target.now
  pub host : option_map (λ text. text.now) o.host ≡ Some d.host.now
  pub headers : option_map (λ host. header_lines host.now (texts_of o.headers.items)) o.host ≡ Some (given_lines d.headers.items)
  pub words : list_all has_colon (texts_of o.headers.items) ≡ true
  pub body : option_map (λ path. path.now) o.body ≡ option_map (λ path. path.now) d.body
  pub mode : sign_mode o ≡ Some d.mode

-- the bytes are those of the file at the path, where they are known; without a path there are none
abbrev pub IsBodyOf : (List ℕ → Option (List ℕ)) → Option (Bor (List ℕ)) → List ℕ → Type 0
IsBodyOf known None bytes = bytes ≡ []
IsBodyOf known (Some path) bytes = IfSome (known path.now) (λ text. bytes ≡ text)

-- why there is no body
abbrev pub IsBodyFault : (List ℕ → Option (List ℕ)) → Option (Bor (List ℕ)) → Fault → Type 0
IsBodyFault known None fault = ⊥
IsBodyFault known (Some path) fault = IsReadFault (known path.now) path.now fault

-- what is written of a request in this mode can be signed
abbrev pub IsSignableIn : SignMode → List ℕ → List ℕ → List ℕ → List ℕ → List ℕ → List HeaderLine → List ℕ → List ℕ → Type 0
IsSignableIn Hashed id secret region method target headers body stamp =
    IsSignable id secret region method target headers body stamp
IsSignableIn (Chunked size) id secret region method target headers body stamp =
    IsSignableInChunks id secret region method target headers body size stamp
IsSignableIn (Presigned expires) id secret region method target headers body stamp =
    IsPresignableWith id secret region method target headers body stamp expires
IsSignableIn (Address expires) id secret region method target headers body stamp =
    IsPresignable id secret region method target headers stamp expires

-- the address of a target at a host, by plain HTTP, and a line feed
abbrev pub address_line : List ℕ → List ℕ → List ℕ
address_line host target = codes "http://" ++ host ++ target ++ line_feed ∷ []

-- the text is what is written in this mode of a request to this host: the request, with its body as it is, in signed
-- chunks, or under a target that carries its signature; or the address of such a target
abbrev pub IsTextIn : SignMode → List ℕ → List ℕ → List ℕ → List ℕ → List ℕ → List ℕ → List HeaderLine → List ℕ → List ℕ → List ℕ → Type 0
IsTextIn Hashed host id secret region method target headers body stamp text =
    text ≡ request_text id secret region method target headers body stamp
IsTextIn (Chunked size) host id secret region method target headers body stamp text =
    IsChunkedText id secret region method target headers body size stamp text
IsTextIn (Presigned expires) host id secret region method target headers body stamp text =
    text ≡ presigned_request_text id secret region method target headers body stamp expires
IsTextIn (Address expires) host id secret region method target headers body stamp text =
    text ≡ address_line host (presigned_target_text id secret region method target headers stamp expires)

-- what is written of a request of the draft with this body, at this stamp, can be signed by this secret for a server of
-- these settings
abbrev pub IsSignableDraft : Settings → List ℕ → Draft → List ℕ → List ℕ → Type 0
IsSignableDraft settings secret draft body stamp =
    IsSignableIn draft.mode draft.id.now secret settings.region draft.method.now draft.target.now (given_lines draft.headers.items) body stamp

-- the text is what is written of it
abbrev pub IsSignedDraft : Settings → List ℕ → Draft → List ℕ → List ℕ → List ℕ → Type 0
IsSignedDraft settings secret draft body stamp text =
    IsTextIn draft.mode draft.host.now draft.id.now secret settings.region draft.method.now draft.target.now (given_lines draft.headers.items) body stamp text

-- the text is what is written of the draft: signed by the secret that the settings have for its id, with
-- the bytes of its body's file
pub record IsRequestOf (known : List ℕ → Option (List ℕ)) (settings : Settings) (draft : Draft) (stamp text : List ℕ) : Type 0 where
  pub secret : List ℕ
  pub bytes : List ℕ
  pub owned : secret_of settings.keys draft.id.now ≡ Some secret
  pub body : IsBodyOf known draft.body bytes
  pub signable : IsSignableDraft settings secret draft bytes stamp
  pub signed : IsSignedDraft settings secret draft bytes stamp text

-- why there is none; memory runs out only where the settings have the id
abbrev pub IsRequestFault : (List ℕ → Option (List ℕ)) → Settings → Draft → List ℕ → Fault → Type 0
IsRequestFault known settings draft stamp BadSetting =
    (secret_of settings.keys draft.id.now ≡ None)
    ⊎ ((secret : List ℕ) × (body : List ℕ) × (secret_of settings.keys draft.id.now ≡ Some secret) × IsBodyOf known draft.body body × ¬ (IsSignableDraft settings secret draft body stamp))
IsRequestFault known settings draft stamp (CannotRead path) =
    (is_some (secret_of settings.keys draft.id.now) ≡ true) × IsBodyFault known draft.body (CannotRead path)
IsRequestFault known settings draft stamp OutOfMemory = is_some (secret_of settings.keys draft.id.now) ≡ true
IsRequestFault known settings draft stamp _ = ⊥

-- the stamp is the one of the moment
abbrev pub IsStampOf : ℕ → List ℕ → Type 0
IsStampOf moment stamp = IsTrue (is_stamp stamp) × (stamp_seconds stamp ≡ moment)

-- what the options ask for, the settings that they and the keys file make, and the stamp of the moment
pub record IsPrepared (known : List ℕ → Option (List ℕ)) (o : SignOptions) (draft : Draft) (settings : Settings) (stamp : List ℕ) : Type 0 where
  pub moment : ℕ
  pub setup : Setup
  pub timed : moment_of_signing o ≡ Some moment
  pub asked : IsSetupOf o.common setup
  pub drafted : IsDraftOf o draft
  pub configured : IsConfigured (known setup.keys.now) setup settings
  pub stamped : IsStampOf moment stamp

-- the text is what the options ask for: the signed request that they describe, or its address
pub record IsTextOf (known : List ℕ → Option (List ℕ)) (o : SignOptions) (text : List ℕ) : Type 0 where
  pub draft : Draft
  pub settings : Settings
  pub stamp : List ℕ
  pub prepared : IsPrepared known o draft settings stamp
  pub request : IsRequestOf known settings draft stamp text

-- the options are right, and there are no settings for this reason
abbrev pub HasDraftAndConfigFault : (List ℕ → Option (List ℕ)) → SignOptions → Fault → Type 0
HasDraftAndConfigFault known o fault =
    (draft : Draft) × (is_some (moment_of_signing o) ≡ true) × IsDraftOf o draft × HasConfigFault known o.common fault

-- there are settings, and there is no request for this reason
abbrev pub HasRequestFault : (List ℕ → Option (List ℕ)) → SignOptions → Fault → Type 0
HasRequestFault known o fault =
    (draft : Draft) × (settings : Settings) × (stamp : List ℕ)
    × IsPrepared known o draft settings stamp × IsRequestFault known settings draft stamp fault

-- why a signing has no such text, each fault only where none that comes before it is there; memory runs out
-- only where the moment and the options on the settings are of their forms
abbrev pub IsSignFault : (List ℕ → Option (List ℕ)) → SignOptions → Fault → Type 0
IsSignFault known o BadSetting =
    ((are_first_options o && are_sign_options o) ≡ false)
    ⊎ (HasDraftAndConfigFault known o BadSetting ⊎ HasRequestFault known o BadSetting)
IsSignFault known o (CannotRead path) =
    HasDraftAndConfigFault known o (CannotRead path) ⊎ HasRequestFault known o (CannotRead path)
IsSignFault known o (CannotWrite path) = ⊥
IsSignFault known o (BadKeysLine number) = HasDraftAndConfigFault known o (BadKeysLine number)
IsSignFault known o (BadEventLine number) = ⊥
IsSignFault known o (CannotListen address) = ⊥
IsSignFault known o (CannotUse path why) = ⊥
IsSignFault known o InputFailed = ⊥
IsSignFault known o OutputFailed = ⊥
IsSignFault known o OutOfMemory = are_first_options o ≡ true

-- The rest serves clauses of private functions alone.

-- the settings are those of a setup and its keys file, and the stamp is that of the moment
pub record IsReady (known : List ℕ → Option (List ℕ)) (setup : Setup) (moment : ℕ) (settings : Settings) (stamp : List ℕ) : Type 0 where
  pub configured : IsConfigured (known setup.keys.now) setup settings
  pub stamped : IsStampOf moment stamp

-- the text is what is written of a draft under a setup, at a moment
abbrev pub IsDraftText : (List ℕ → Option (List ℕ)) → Setup → ℕ → Draft → List ℕ → Type 0
IsDraftText known setup moment draft text =
    (settings : Settings) × (stamp : List ℕ)
    × IsReady known setup moment settings stamp × IsRequestOf known settings draft stamp text

-- why there is none
abbrev pub IsDraftFault : (List ℕ → Option (List ℕ)) → Setup → ℕ → Draft → Fault → Type 0
IsDraftFault known setup moment draft fault =
    IsConfigFault (known setup.keys.now) setup fault
    ⊎ ((settings : Settings) × (stamp : List ℕ)
    × IsReady known setup moment settings stamp × IsRequestFault known settings draft stamp fault)
