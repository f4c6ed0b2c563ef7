-- How the value of an Authorization header is spelled (AWS Signature Version 4, "Using the Authorization
-- header").
use Rattle.std.specs.Prelude.{◌≡◌, ℕ, Bool, true, not, ◌||◌, ◌==◌, List, [], ◌∷◌, ◌++◌, codes, replicate}
use Rattle.std.specs.List.{list_all, join_with_byte}
use Rattle.s3_text.specs.Characters.{comma, slash, space}
use Rattle.s3_authorization.specs.Authorization.{Parts, are_parts, scheme}

-- how many spaces stand before each of the three parts; the first has one more, that of the scheme
pub record Spaces : Type 0 where
  pub credential : ℕ
  pub signed : ℕ
  pub signature : ℕ

-- so many spaces, and a text
abbrev pub spaced : ℕ → List ℕ → List ℕ
spaced count text = replicate count space ++ text

-- `id/date/region/service/aws4_request`
abbrev pub credential_of : Parts → List ℕ
credential_of p =
    join_with_byte slash (p.id ∷ p.date ∷ p.region ∷ p.service ∷ codes "aws4_request" ∷ [])

-- the scheme and the credential, the signed names, and the signature, joined by commas
abbrev pub spelling : Parts → Spaces → List ℕ
spelling p spaces =
    join_with_byte comma (
    (scheme ++ spaced spaces.credential (codes "Credential=" ++ credential_of p))
    ∷ spaced spaces.signed (codes "SignedHeaders=" ++ p.signed)
    ∷ spaced spaces.signature (codes "Signature=" ++ p.signature)
    ∷ [])

-- neither a slash nor a comma stands in the text
abbrev pub is_plain : List ℕ → Bool
is_plain text = list_all (λ b. not (b == slash || b == comma)) text

-- the text spells parts that hold what the form asks for, and whose id and scope can be told apart
pub record Spells (text : List ℕ) (p : Parts) : Type 0 where
  pub form : are_parts p ≡ true
  pub plain : list_all is_plain (p.id ∷ p.date ∷ p.region ∷ p.service ∷ []) ≡ true
  pub spaces : Spaces
  pub written : text ≡ spelling p spaces
