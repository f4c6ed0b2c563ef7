-- Refusals of the machine in their order: the first one decides.
use Rattle.std.specs.Prelude.{Bool, true, false, Result, Ok, Err, ⊤}
use Rattle.s3_terms.specs.declared.code.Code.{Code}
use Rattle.s3_versions.specs.declared.picking.Refusal.{Refusal}

-- refused with this code, and told of no delete marker, where the fault is there
abbrev pub refuse : Bool → Code → Result ⊤ Refusal
refuse true code = Err (record { code = code; is_delete_marker = false })
refuse false code = Ok tt

-- refused with the code of this fault, and told of no delete marker
abbrev pub as_refusal : {A : Type 0} → Result A Code → Result A Refusal
as_refusal (Ok value) = Ok value
as_refusal (Err code) = Err (record { code = code; is_delete_marker = false })
