-- The text of an entity tag.
use Rattle.std.specs.Prelude.{◌≡◌, ◌<◌, ℕ, ◌^◌, List, [], ◌∷◌, length, Option, Some, None, IfSome}
use Rattle.std.specs.Fmt.{decimal}
use Rattle.hex.specs.Hex.{IsBytes}
use Rattle.s3_text.specs.Characters.{hyphen}

-- the MD5 of a tag
pub record IsDigest (md5 : List ℕ) : Type 0 where
  pub len : length md5 ≡ 16
  pub bytes : IsBytes md5

-- how many parts were joined, if the object was joined of parts
abbrev pub AreParts : Option ℕ → Type 0
AreParts parts = IfSome parts (λ count. count < 2 ^ 16)

-- what follows the digits of the MD5: nothing, or a hyphen and how many parts were joined
abbrev pub tail_text : Option ℕ → List ℕ
tail_text None = []
tail_text (Some count) = hyphen ∷ decimal count
