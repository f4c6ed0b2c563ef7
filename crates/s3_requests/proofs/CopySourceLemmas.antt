-- What a refusal says of the source of a copy.
use Rattle.std.proofs.Common.{◌≡◌, inl, inr, ◌⊎◌, refl, sym, ap, ◌∙◌, ℕ, List, Result, Err}
use Rattle.s3_terms.specs.Fault.{FollowsToEnd}
use Rattle.s3_terms.specs.declared.code.Code.{Code}
use Rattle.s3_terms.specs.declared.code.Code.TheVariants.{InternalError, InvalidArgument}
use Rattle.s3_requests.specs.Arguments.{as_argument}
use Rattle.s3_requests.specs.CopySource.{argument_code}

one_of_two : (code : Code) → (argument_code code ≡ InternalError) ⊎ (argument_code code ≡ InvalidArgument)
one_of_two InternalError = inl refl
one_of_two other = inr refl

-- a name that is refused: memory ran out, or the rule for what was sent refuses the argument
pub refused : (rule meant : Result (List ℕ) Code) (code answer : Code) → answer ≡ argument_code code → rule ≡ meant → FollowsToEnd (Err code) rule
    → (answer ≡ InternalError) ⊎ (as_argument meant ≡ Err answer)
refused rule meant code answer is same (inl none) = inl (is ∙ ap argument_code none.0)
refused rule meant code answer is same (inr refuses) = elim (one_of_two code) [
  | inl memory ↦ inl (is ∙ memory)
  | inr argument ↦ inr (ap as_argument (sym same ∙ refuses) ∙ ap Err (sym (is ∙ argument)))
]
