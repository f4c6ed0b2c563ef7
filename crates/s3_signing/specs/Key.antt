-- The key that signs (AWS Signature Version 4, "Calculate the signature").
use Rattle.std.specs.Prelude.{ℕ, List, ◌++◌, codes}
use Rattle.s3_hmac.specs.Hmac.{hmac}

-- four tags of HMAC, each the key of the next one
unfoldable pub signing_key : List ℕ → List ℕ → List ℕ → List ℕ
signing_key secret date region =
    hmac (hmac (hmac (hmac (codes "AWS4" ++ secret) date) region) (codes "s3")) (codes "aws4_request")

-- what a signing key is made of: a secret, a stamp of the day, and a region
pub record Made : Type 0 where
  pub secret : List ℕ
  pub stamp : List ℕ
  pub region : List ℕ
