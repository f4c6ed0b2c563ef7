-- What is shown of a version lies in it, and is what was asked for.
use Rattle.std.proofs.Common.{◌≡◌, ℕ, Bool, true, false, ◌&&◌, ◌||◌, if◌then◌else◌, Option, Some, None, Ok, IfOk, refl, sym, subst, arith, nat_lt}
use Rattle.std.specs.Prelude.{◌-◌, ◌==◌, nat_le, min}
use Rattle.std.proofs.lemmas.Bool.Decides.{nat_tests}
use Rattle.s3_terms.specs.Fault.{refuse, ◌>>◌}
use Rattle.s3_terms.specs.declared.code.Code.TheVariants.{PreconditionFailed}
use Rattle.s3_conditions.specs.declared.conditions.Selection.TheVariants.{Part, Unchanged, Outside}
use Rattle.s3_conditions.specs.declared.range.ByteRange.{ByteRange}
use Rattle.s3_conditions.specs.declared.range.ByteRange.TheVariants.{FromTo, From, Last}
use Rattle.s3_conditions.specs.Conditions.{unmet, unchanged, selected, satisfied, judged, LiesIn}
use Rattle.s3_conditions.specs.Laws.{PartsLieInTheObject, PartsAreWhatIsAsked, has_byte, is_in_part}

-- a part that is shown only where it lies there
part_within : (outside : Bool) (size first last : ℕ) → (outside ≡ false → LiesIn size (Part first last))
    → LiesIn size (if outside then Outside else Part first last)
part_within true size first last lies = tt
part_within false size first last lies = lies refl

pub satisfied_within : (range : ByteRange) (size : ℕ) → LiesIn size (satisfied range size)
satisfied_within (FromTo first last) size =
    part_within (nat_le size first || nat_lt last first) size first (min last (size - 1)) (λ inside. (grind (arith, nat_tests, inside), grind (arith, nat_tests, inside)))
satisfied_within (From first) size =
    part_within (nat_le size first) size first (size - 1) (λ inside. (grind (arith, nat_tests, inside), grind (arith, nat_tests, inside)))
satisfied_within (Last count) size =
    part_within (count == 0 || size == 0) size (size - count) (size - 1) (λ inside. (grind (arith, nat_tests, inside), grind (arith, nat_tests, inside)))

stages_within : (fault same : Bool) (range : Option ByteRange) (size : ℕ)
    → IfOk (refuse fault PreconditionFailed >> Ok (if same then Unchanged else selected range size)) (LiesIn size)
unfolding selected
stages_within true same range size = tt
stages_within false true range size = tt
stages_within false false None size = tt
stages_within false false (Some range) size = satisfied_within range size

pub parts_lie_in_the_object : PartsLieInTheObject
unfolding judged
parts_lie_in_the_object asked moment tag size shown is =
    subst (λ r. IfOk r (LiesIn size)) is (stages_within (unmet asked moment tag) (unchanged asked moment tag) asked.range size)

-- a byte is shown where it is in the part, if one is shown
byte_shown : (outside asked : Bool) (first last position : ℕ) → (outside ≡ true → asked ≡ false)
    → (outside ≡ false → (nat_le first position && nat_le position last) ≡ asked)
    → is_in_part (if outside then Outside else Part first last) position ≡ asked
byte_shown true asked first last position none some = sym (none refl)
byte_shown false asked first last position none some = some refl

pub parts_are_what_is_asked : PartsAreWhatIsAsked
parts_are_what_is_asked (FromTo first last) size position within =
    byte_shown (nat_le size first || nat_lt last first) (has_byte (FromTo first last) size position) first (min last (size - 1)) position
    (λ is. grind (arith, nat_tests, within, is)) (λ is. grind (arith, nat_tests, within, is))
parts_are_what_is_asked (From first) size position within =
    byte_shown (nat_le size first) (has_byte (From first) size position) first (size - 1) position
    (λ is. grind (arith, nat_tests, within, is)) (λ is. grind (arith, nat_tests, within, is))
parts_are_what_is_asked (Last count) size position within =
    byte_shown (count == 0 || size == 0) (has_byte (Last count) size position) (size - count) (size - 1) position
    (λ is. grind (arith, nat_tests, within, is)) (λ is. grind (arith, nat_tests, within, is))
