-- How a target with a query is spelled (RFC 3986, sections 2.1, 3.3 and 3.4), and what is read of it; as `Spells` says of the
-- value of an Authorization header. All of it is of targets with a query: of one without `?` it says nothing.
use Rattle.std.specs.Prelude.{◌≡◌, ◌≢◌, ℕ, ◌+◌, ◌*◌, ◌==◌, ◌&&◌, ◌||◌, Bool, not, IsTrue, List, [], ◌∷◌, ◌++◌, map as each, Option, Some, None, Ok}
use Rattle.std.specs.Char.{digit_value, is_digit}
use Rattle.std.specs.List.{All, list_all, flat_map, join_with_byte}
use Rattle.percent_encoding.specs.Percent.{percent_sign}
use Rattle.s3_text.specs.Characters.{ampersand, equals_sign, question_mark, slash}
use Rattle.s3_http_heads.specs.Target.{TargetParts, target_of}

-- a byte as it is written: as itself, or as `%` and two hexadecimal digits (section 2.1)
pub data Letter : Type 0 where
  Plain : ℕ → Letter
  Escaped : (high low : ℕ) → Letter

abbrev pub letter_text : Letter → List ℕ
letter_text (Plain b) = b ∷ []
letter_text (Escaped high low) = percent_sign ∷ high ∷ low ∷ []

-- and what it stands for
abbrev pub letter_byte : Letter → ℕ
letter_byte (Plain b) = b
letter_byte (Escaped high low) = 16 * digit_value high + digit_value low

-- several
abbrev pub letters_text : List Letter → List ℕ
letters_text letters = flat_map letter_text letters

abbrev pub letters_bytes : List Letter → List ℕ
letters_bytes letters = each letter_byte letters

-- a letter may stand where these bytes mean something else: as itself it is none of them, nor `%`; else it has two digits
abbrev pub is_letter : (ℕ → Bool) → Letter → Bool
is_letter means (Plain b) = not (b == percent_sign) && not (means b)
is_letter means (Escaped high low) = is_digit high 16 && is_digit low 16

-- the path ends before `?`, a name before `=` and `&`, and a value before `&`
abbrev pub is_path_letter : Letter → Bool
is_path_letter = is_letter (λ b. b == question_mark)

abbrev pub is_name_letter : Letter → Bool
is_name_letter = is_letter (λ b. b == equals_sign || b == ampersand)

abbrev pub is_value_letter : Letter → Bool
is_value_letter = is_letter (λ b. b == ampersand)

-- a parameter as it is written: a name, and a value where there is one
pub record Written : Type 0 where
  pub name : List Letter
  pub value : Option (List Letter)

-- the value comes behind an equals sign
abbrev pub value_text : Option (List Letter) → List ℕ
value_text None = []
value_text (Some letters) = equals_sign ∷ letters_text letters

abbrev pub parameter_text : Written → List ℕ
parameter_text w = letters_text w.name ++ value_text w.value

-- a parameter without a value has the empty one
abbrev pub value_bytes : Option (List Letter) → List ℕ
value_bytes None = []
value_bytes (Some letters) = letters_bytes letters

abbrev pub parameter_of : Written → List ℕ × List ℕ
parameter_of w = (letters_bytes w.name, value_bytes w.value)

-- a value may be written; where there is none, the name has a letter
abbrev pub AreValueLetters : List Letter → Option (List Letter) → Type 0
AreValueLetters name None = name ≢ []
AreValueLetters name (Some letters) = IsTrue (list_all is_value_letter letters)

-- so may a parameter
pub record IsWritten (w : Written) : Type 0 where
  pub name : IsTrue (list_all is_name_letter w.name)
  pub value : AreValueLetters w.name w.value

-- parameters with ampersands between them
abbrev pub query_text : List Written → List ℕ
query_text written = join_with_byte ampersand (each parameter_text written)

-- a text is the target of a path, which begins with a slash, and of a query with these parameters
pub record SpellsTarget (text : List ℕ) (path : List ℕ) (parameters : List (List ℕ × List ℕ)) : Type 0 where
  pub letters : List Letter
  pub plain : IsTrue (list_all is_path_letter letters)
  pub means : path ≡ slash ∷ letters_bytes letters
  pub query : List Written
  pub right : All IsWritten query
  pub are : parameters ≡ each parameter_of query
  pub written : text ≡ slash ∷ letters_text letters ++ question_mark ∷ query_text query

-- it is read as just this: the path, and the parameters in the order in which they stand
pub record IsReadAs (text : List ℕ) (path : List ℕ) (parameters : List (List ℕ × List ℕ)) : Type 0 where
  pub target : TargetParts
  pub read : target_of text ≡ Ok target
  pub path_read : target.path ≡ path
  pub parameters_read : target.parameters ≡ parameters

abbrev pub SpelledTargetsAreRead : Type 0
SpelledTargetsAreRead =
    (text path : List ℕ) (parameters : List (List ℕ × List ℕ)) → SpellsTarget text path parameters → IsReadAs text path parameters
