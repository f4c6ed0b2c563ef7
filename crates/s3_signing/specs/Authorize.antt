-- What a signer writes (AWS Signature Version 4, "Add the signature to the request").
use Rattle.std.specs.Prelude.{ℕ, List, ◌∷◌, ◌++◌, codes}
use Rattle.s3_text.specs.Characters.{slash}
use Rattle.s3_calendar.specs.Moment.{stamp_date}
use Rattle.s3_http_heads.specs.Head.{HeadParts}
use Rattle.s3_signing.specs.Names.{cover_of}
use Rattle.s3_signing.specs.Signature.{scope_text, signature_of}
use Rattle.s3_signing.specs.Verdict.{sent_word}

-- the id and its scope
abbrev pub credential_text : List ℕ → List ℕ → List ℕ → List ℕ
credential_text id stamp region = id ++ slash ∷ scope_text (stamp_date stamp) region

-- the signature that covers the signer's names
abbrev pub signature_to_write : List ℕ → List ℕ → HeadParts → List ℕ → List ℕ
signature_to_write secret region head stamp =
    signature_of secret stamp region head (cover_of head) (sent_word head)

-- the value of the Authorization header that signs a head
unfoldable pub authorization_text : List ℕ → List ℕ → List ℕ → HeadParts → List ℕ → List ℕ
authorization_text id secret region head stamp =
    codes "AWS4-HMAC-SHA256 Credential=" ++ credential_text id stamp region
    ++ codes ", SignedHeaders=" ++ cover_of head
    ++ codes ", Signature=" ++ signature_to_write secret region head stamp
