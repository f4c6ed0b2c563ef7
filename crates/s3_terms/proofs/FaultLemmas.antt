-- What is known of the stages of a rule that refuses nothing.
use Rattle.std.proofs.Common.{◌≡◌, Bool, true, false, Result, Ok, Err, refl}
use Rattle.std.specs.Prelude.{⊤}
use Rattle.s3_terms.specs.declared.code.Code.{Code}
use Rattle.s3_terms.specs.Fault.{refuse, ◌>>◌, ◌>>=◌}

-- its first stage gave a value, from which the rest went on
pub stage_ok : {A B : Type 0} (first : Result A Code) (next : A → Result B Code) (given : B) → first >>= next ≡ Ok given → (value : A) × (first ≡ Ok value) × (next value ≡ Ok given)
stage_ok (Ok value) next given is = (value, refl, is)
stage_ok (Err code) next given is = absurd (cc)

-- or none, and the rest decided
pub then_ok : {A : Type 0} (first : Result ⊤ Code) (next : Result A Code) (given : A) → first >> next ≡ Ok given → next ≡ Ok given
then_ok (Ok done) next given is = is
then_ok (Err code) next given is = absurd (cc)

-- what its first line refuses is not there
pub test_ok : {A : Type 0} (test : Bool) (code : Code) (next : Result A Code) (given : A) → refuse test code >> next ≡ Ok given → (test ≡ false) × (next ≡ Ok given)
test_ok false code next given is = (refl, is)
test_ok true code next given is = absurd (cc)

-- and the value of its last line is what it gives
pub one_value : {A : Type 0} (value given : A) → ◌≡◌ {A = Result A Code} (Ok value) (Ok given) → value ≡ given
one_value value given is = cc
