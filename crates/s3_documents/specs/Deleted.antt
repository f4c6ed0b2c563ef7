-- What is told of the objects that a DeleteObjects names (Amazon S3 API Reference, DeleteObjects, "Response Syntax"). It is
-- told in XML alone: JSON has no such document.
use Rattle.std.specs.Prelude.{ℕ, true, List, ◌∷◌, ◌++◌, codes, Option, option_map}
use Rattle.s3_terms.specs.Code.{name_of, message_of}
use Rattle.s3_names.specs.Ids.{version_id_text}
use Rattle.s3_names.specs.declared.ids.VersionId.{VersionId}
use Rattle.s3_deletions.specs.declared.named.DeletionFault.{DeletionFault}
use Rattle.s3_documents.specs.Printed.{told}
use Rattle.s3_documents.specs.Tree.{Value, text, truth, Fields}

-- the id of a version, as a value
abbrev pub id_value : VersionId → Value
id_value id = text (version_id_text id)

-- of a key that isn't there now, or its version of this id: that a delete marker was made or is gone, and its id, if it is
-- so; the key; and the id that was named, if one was
abbrev pub deleted_fields : List ℕ → (version marker : Option VersionId) → Fields
deleted_fields key version marker =
    told (codes "DeleteMarker") (option_map (λ id. truth true) marker)
    ++ told (codes "DeleteMarkerVersionId") (option_map id_value marker)
    ++ (codes "Key", text key)
    ∷ told (codes "VersionId") (option_map id_value version)

-- of an object that can't be deleted: why, and its key and its id as they were sent
abbrev pub fault_fields : DeletionFault → Fields
fault_fields fault =
    (codes "Code", text (name_of fault.code))
    ∷ (codes "Key", text fault.key)
    ∷ (codes "Message", text (message_of fault.code))
    ∷ told (codes "VersionId") (option_map text fault.version)
