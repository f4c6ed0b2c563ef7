-- What a crash leaves of a catalogue that is kept on a disk.
use Rattle.std.specs.Prelude.{◌≡◌, ℕ, ◌⊎◌, List, [], ◌∷◌}
use Rattle.s3_records.specs.Catalogue.{Catalogue}

-- a catalogue is one of these
abbrev pub IsOneOf : Catalogue (List ℕ) → List (Catalogue (List ℕ)) → Type 0
IsOneOf left [] = ⊥
IsOneOf left (c ∷ known) = (left ≡ c) ⊎ IsOneOf left known

-- what was known of what a crash leaves, is still: of which catalogues it leaves one
abbrev pub StaysKnown : {S : Type 0} → (S → List (Catalogue (List ℕ)) → Type 0) → S → S → Type 0
StaysKnown leaves_one_of old new = (known : List (Catalogue (List ℕ))) → leaves_one_of old known → leaves_one_of new known
