-- What a signed request proves to a server (AWS Signature Version 4, "Add the signature to the
-- request").
use Rattle.std.specs.Prelude.{◌≡◌, ℕ, true, false, List, [], Ok}
use Rattle.hex.specs.Hex.{encode_lower}
use Rattle.sha2.specs.Sha256.{sha256}
use Rattle.s3_config.specs.Settings.{Settings}
use Rattle.s3_calendar.specs.Moment.{stamp_seconds}
use Rattle.s3_http_heads.specs.Head.{HeadParts}
use Rattle.s3_http_heads.specs.Target.{target_parts}
use Rattle.s3_http_heads.specs.Message.{IsMessage}
use Rattle.s3_signing.specs.Accepted.{Knows}
use Rattle.s3_signing.specs.Presigned.{is_presigned}
use Rattle.s3_signing.specs.Verdict.{Proved, head_verdict, is_near}
use Rattle.s3_signer.specs.Request.{HeaderLine, hashed, proved_of}

-- this holds at every server that knows the signer, within the limits of its clock, unless the target carries a
-- signature of its own
abbrev pub AtEachServer : List ℕ → List ℕ → List ℕ → List ℕ → List ℕ → (Settings → ℕ → Type 0) → Type 0
AtEachServer id secret region target stamp Holds =
    (settings : Settings) (moment : ℕ)
    → Knows settings id secret region → is_near (stamp_seconds stamp) moment ≡ true → is_presigned (target_parts target) ≡ false
    → Holds settings moment

-- the bytes are one message with this body, and its head is verified at the moment: it proves this, with the
-- body's hash for its word
pub record IsVerifiedMessage (settings : Settings) (moment : ℕ) (proved : Proved) (body bytes : List ℕ) : Type 0 where
  pub head : HeadParts
  pub message : IsMessage bytes head body []
  pub verdict : head_verdict settings head moment ≡ Ok proved
  pub word : proved.word ≡ encode_lower (sha256 body)

-- the bytes are so verified
abbrev pub IsVerifiedRequest : List ℕ → List ℕ → List ℕ → List ℕ → List ℕ → List HeaderLine → List ℕ → List ℕ → List ℕ → Type 0
IsVerifiedRequest id secret region method target headers body stamp bytes =
    AtEachServer id secret region target stamp (λ settings moment.
    IsVerifiedMessage settings moment (proved_of secret region method target headers (hashed method body) stamp) body bytes)
