-- What a keys file says: one credential a line, which is an id, one space, and as the secret
-- everything up to the line's end (LF), which the last line may lack. No id stands on two lines.
use Rattle.std.specs.Prelude.{◌≡◌, ℕ, ◌+◌, Bool, true, ◌==◌, if◌then◌else◌, List, [], ◌∷◌, ◌++◌, map, take, drop, Option, Some, None, is_some, option_and_then, position}
use Rattle.std.specs.List.{list_any}
use Rattle.std.specs.Str.{bytes_eq}
use Rattle.s3_config.specs.Settings.{Credentials, are_credentials, all_different}
use Rattle.s3_text.specs.Characters.{space}
use Rattle.s3_text.specs.Lines.{lines_of, IsFirstBadLine}
use Rattle.s3_settings.specs.declared.fault.Fault.{Fault}
use Rattle.s3_settings.specs.declared.fault.Fault.TheVariants.{BadKeysLine, OutOfMemory}

abbrev pub is_space : ℕ → Bool
is_space b = b == space

-- what stands before and after a place of a line
abbrev pub parts_at : List ℕ → ℕ → Credentials
parts_at line place = record { id = take place line; secret = drop (place + 1) line }

-- the credential, if an id and a secret make one
abbrev pub valid_key : Credentials → Option Credentials
valid_key key = if are_credentials key then Some key else None

-- the credential that a line says: the parts round its first space
unfoldable pub key_of_line : List ℕ → Option Credentials
key_of_line line = option_and_then (λ place. valid_key (parts_at line place)) (position is_space line)

-- the ids of some keys
abbrev pub ids_of : List Credentials → List (List ℕ)
ids_of keys = map (λ (key : Credentials). key.id) keys

-- the lines say these keys: each line says its own, and the ids are all different
pub record SayKeys (lines : List (List ℕ)) (keys : List Credentials) : Type 0 where
  pub said : map key_of_line lines ≡ map Some keys
  pub different : all_different (ids_of keys) ≡ true

-- each line says a key, and no id stands twice; so do no lines at all
abbrev pub AreKeyLines : List (List ℕ) → Type 0
AreKeyLines lines = (keys : List Credentials) × SayKeys lines keys

-- the line of a credential
abbrev pub line_of_key : Credentials → List ℕ
line_of_key key = key.id ++ space ∷ key.secret

-- The next two serve clauses of private functions alone.

-- one of the keys has this id
abbrev pub has_id : List Credentials → List ℕ → Bool
has_id keys id = list_any (λ (key : Credentials). bytes_eq key.id id) keys

-- the credential that a line says, unless one of the keys before it has its id
unfoldable pub new_key : List Credentials → List ℕ → Option Credentials
new_key keys line =
    option_and_then (λ (key : Credentials). if has_id keys key.id then None else Some key) (key_of_line line)

-- the first of the lines has a space, so that the parts round it are copied
abbrev pub AsksRoom : List (List ℕ) → Type 0
AsksRoom [] = ⊥
AsksRoom (line ∷ lines) = is_some (position is_space line) ≡ true

-- a fault says why a file of this text gives no keys: its first bad line, or out of memory for a line that
-- may say one
abbrev pub IsKeysFault : List ℕ → Fault → Type 0
IsKeysFault text (BadKeysLine number) = IsFirstBadLine AreKeyLines (lines_of text) number
IsKeysFault text OutOfMemory = AsksRoom (lines_of text)
IsKeysFault text _ = ⊥
