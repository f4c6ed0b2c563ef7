-- A message at the front of the bytes of a connection (RFC 9112, sections 2.1, 2.2 and 6.2).
use Rattle.std.specs.Prelude.{◌≡◌, ℕ, List, ◌++◌, length, Some}
use Rattle.s3_http_heads.specs.declared.find.Found.TheVariants.{Head}
use Rattle.s3_http_heads.specs.Find.{skip_pairs, found_in}
use Rattle.s3_http_heads.specs.Head.{HeadParts, Says}
use Rattle.s3_http_heads.specs.BodyLength.{length_lines, announced}

-- after the skipped pairs stand a head text that says these parts, a body that ends as it should, and the rest
pub record IsMessageBy (Ends : List ℕ → Type 0) (bytes : List ℕ) (parts : HeadParts) (body rest : List ℕ) : Type 0 where
  pub text : List ℕ
  pub found : found_in bytes ≡ Head (length text)
  pub joined : skip_pairs bytes ≡ text ++ (body ++ rest)
  pub says : Says text parts
  pub whole : Ends body

-- the body has as many bytes as Content-Length announces
abbrev pub HasLength : HeadParts → List ℕ → Type 0
HasLength parts body = announced (length_lines parts) ≡ Some (length body)

-- so a message has a head text, and as many bytes of body as its Content-Length announces
abbrev pub IsMessage : List ℕ → HeadParts → List ℕ → List ℕ → Type 0
IsMessage bytes parts body rest = IsMessageBy (HasLength parts) bytes parts body rest
