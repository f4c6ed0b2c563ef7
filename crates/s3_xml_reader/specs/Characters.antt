-- Characters that XML doesn't have.
use Rattle.std.specs.Prelude.{ℕ, Bool, false, List, ◌∷◌}
use Rattle.s3_xml.specs.Characters.{is_noncharacter}

-- the bytes begin with those of U+FFFE or of U+FFFF
abbrev pub begins_with_noncharacter : List ℕ → Bool
begins_with_noncharacter (a ∷ b ∷ c ∷ rest) = is_noncharacter a b c
begins_with_noncharacter other = false
