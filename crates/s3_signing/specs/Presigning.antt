-- What a presigned head says, and what it proves to a server until when (Amazon S3 API Reference, "Authenticating requests:
-- using query parameters (AWS Signature Version 4)").
use Rattle.std.specs.Prelude.{◌≡◌, ℕ, true, false, if◌then◌else◌, List, codes, Ok, Err}
use Rattle.s3_config.specs.Settings.{Settings}
use Rattle.s3_calendar.specs.Moment.{stamp_seconds, stamp_date}
use Rattle.s3_terms.specs.declared.code.Code.TheVariants.{AccessDenied}
use Rattle.s3_http_heads.specs.Head.{HeadParts, is_sent}
use Rattle.s3_http_heads.specs.Target.{is_unreadable, target_parts}
use Rattle.s3_canonical.specs.Request.{canonical_headers}
use Rattle.s3_signing.specs.Accepted.{Knows}
use Rattle.s3_signing.specs.Cover.{covers_enough}
use Rattle.s3_signing.specs.Key.{signing_key}
use Rattle.s3_signing.specs.Names.{cover_of}
use Rattle.s3_signing.specs.Presigned.{Presigned, is_presigned, presigned_at}
use Rattle.s3_signing.specs.Signature.{signature_of}
use Rattle.s3_signing.specs.Verdict.{Proved, head_verdict, is_current, names_other_word}
use Rattle.s3_signing.specs.Word.{unsigned_payload}

-- the signature that presigns a head, whose body isn't signed
abbrev pub presigned_signature : List ℕ → List ℕ → HeadParts → List ℕ → List ℕ
presigned_signature secret region head stamp =
    signature_of secret stamp region head (cover_of head) unsigned_payload

-- what the query says that this signer writes for these names and with this signature
abbrev pub written_by : List ℕ → List ℕ → List ℕ → ℕ → List ℕ → List ℕ → Presigned
written_by id region stamp expires signed signature = record {
  sent = record {
    id = id;
    date = stamp_date stamp;
    region = region;
    service = codes "s3";
    signed = signed;
    signature = signature;
  };
  stamp = stamp;
  expires = expires;
}

-- what the query of a head that this signer presigns has to say
abbrev pub presigned_by : List ℕ → List ℕ → List ℕ → HeadParts → List ℕ → ℕ → Presigned
presigned_by id secret region head stamp expires =
    written_by id region stamp expires (cover_of head) (presigned_signature secret region head stamp)

-- nothing in the lines of a head speaks against a presigned query that covers these names: there is no Authorization, no
-- other word for the body, and enough is covered
pub record IsSound (head : HeadParts) (signed : List ℕ) : Type 0 where
  pub no_authorization : is_sent (codes "authorization") head ≡ false
  pub word : names_other_word head ≡ false
  pub covered : covers_enough head signed ≡ true

-- the head says so: its target can be read, and has this query, and nothing in its lines speaks against that
pub record SaysPresigned (id secret region : List ℕ) (head : HeadParts) (stamp : List ℕ) (expires : ℕ) : Type 0 where
  pub readable : is_unreadable head.target ≡ false
  pub presigned : is_presigned (target_parts head.target) ≡ true
  pub says : presigned_at (target_parts head.target) ≡ Ok (presigned_by id secret region head stamp expires)
  pub sound : IsSound head (cover_of head)

-- a head that uses a presigned one: with its method and its target, and with the same lines of the signed names, while
-- nothing in its lines speaks against the query; so none of Amazon's headers is there that isn't signed, and its other lines
-- are free
pub record Uses (presigned head : HeadParts) : Type 0 where
  pub method : head.method ≡ presigned.method
  pub target : head.target ≡ presigned.target
  pub lines : canonical_headers head (cover_of presigned) ≡ canonical_headers presigned (cover_of presigned)
  pub sound : IsSound head (cover_of presigned)

-- what a presigned head proves: the stamp, the region, the key of the day, the signature, and that its body isn't signed
abbrev pub presigned_proof : List ℕ → List ℕ → HeadParts → List ℕ → Proved
presigned_proof secret region head stamp = record {
  stamp = stamp;
  region = region;
  key = signing_key secret (stamp_date stamp) region;
  seed = presigned_signature secret region head stamp;
  word = unsigned_payload;
}

-- a head that uses a presigned one is verified by every server that knows the signer, from as long before the stamp as
-- clocks may differ to so many seconds behind it, and is refused at any other moment
abbrev pub IsVerifiedInTime : List ℕ → List ℕ → List ℕ → HeadParts → List ℕ → ℕ → HeadParts → Type 0
IsVerifiedInTime id secret region presigned stamp expires head =
    (settings : Settings) (moment : ℕ)
    → Knows settings id secret region
    → head_verdict settings head moment
    ≡ (if is_current (stamp_seconds stamp) expires moment then Ok (presigned_proof secret region presigned stamp) else Err AccessDenied)

-- and so is whoever uses it
abbrev pub IsVerifiedWhileCurrent : List ℕ → List ℕ → List ℕ → HeadParts → List ℕ → ℕ → Type 0
IsVerifiedWhileCurrent id secret region presigned stamp expires =
    (head : HeadParts) → Uses presigned head → IsVerifiedInTime id secret region presigned stamp expires head

-- what says that it is presigned is so verified
abbrev pub PresignedIsVerified : Type 0
PresignedIsVerified =
    (id secret region : List ℕ) (head : HeadParts) (stamp : List ℕ) (expires : ℕ)
    → SaysPresigned id secret region head stamp expires → IsVerifiedWhileCurrent id secret region head stamp expires
