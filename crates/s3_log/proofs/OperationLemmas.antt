-- Operations of one name, and targets whose query says nothing.
use Rattle.std.proofs.Common.{◌≡◌, ℕ, List, [], ◌∷◌, Bool, true, false, not, ◌&&◌, codes, ap, refl}
use Rattle.std.specs.List.{list_any}
use Rattle.s3_terms.specs.declared.dialect.Dialect.TheVariants.{S3}
use Rattle.s3_http_heads.specs.Head.{HeadParts}
use Rattle.s3_http_heads.specs.Target.{TargetParts}
use Rattle.s3_requests.specs.Addresses.{names_lacking}
use Rattle.s3_requests.specs.Operations.{first_row}
use Rattle.s3_requests.specs.declared.operations.Operation.TheVariants.{GetObject, GetObjectPart, HeadObject, HeadObjectPart}
use Rattle.s3_log.specs.Operation.{is_escaped, operation_name, parameters_sent}

-- a part is got, and asked for, by the operation of the whole
pub get_of_a_part : (is_part : Bool) → codes "GetObject" ≡ operation_name (first_row ((is_part, GetObjectPart) ∷ []) GetObject)
get_of_a_part true = refl
get_of_a_part false = refl

pub head_of_a_part : (is_part : Bool) → codes "HeadObject" ≡ operation_name (first_row ((is_part, HeadObjectPart) ∷ []) HeadObject)
head_of_a_part true = refl
head_of_a_part false = refl

-- of a target with these parameters it can be known what is asked for
abbrev is_plain : HeadParts → TargetParts → List (List ℕ × List ℕ) → Bool
is_plain head target parameters =
    not (list_any is_escaped parameters) && not (names_lacking S3 head (record target { parameters = parameters }))

pub nothing_named : (head : HeadParts) (target : TargetParts) → target.parameters ≡ parameters_sent []
    → (not (list_any is_escaped target.parameters) && not (names_lacking S3 head target)) ≡ true
nothing_named head target none = ap (is_plain head target) none
