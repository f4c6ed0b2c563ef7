-- What the elements of a DeleteObjects tell, one after another: how far its reader has come.
-- Only clauses of private functions cite these, and nobody has to believe them.
use Rattle.std.specs.Prelude.{◌==◌, Bool, false, not, ◌&&◌, ◌||◌, nat_lt, if◌then◌else◌, [], ◌∷◌, ◌++◌, length, codes, Option, Some, None, option_map, ok_or, Result, Ok}
use Rattle.std.specs.Option.{option_map_or}
use Rattle.s3_terms.specs.Fault.{refuse, ◌>>◌, ◌>>=◌}
use Rattle.s3_terms.specs.declared.code.Code.{Code}
use Rattle.s3_terms.specs.declared.code.Code.TheVariants.{MalformedXML, NotImplemented}
use Rattle.s3_deletions.specs.declared.named.Deletion.{Deletion}
use Rattle.s3_deletions.specs.declared.named.NamedObject.{NamedObject}
use Rattle.s3_xml.specs.Ended.{Ended}
use Rattle.s3_request_documents.specs.Deletion.{truth_told, object_of, is_condition}
use Rattle.s3_request_documents.specs.Xml.{is_named}
use Rattle.s3_request_documents.specs.declared.deletion_rows.ObjectFields.{ObjectFields}
use Rattle.s3_request_documents.specs.declared.deletion_rows.ObjectRows.{ObjectRows}
use Rattle.s3_request_documents.specs.declared.deletion.Told.{Told}

-- the last element, which is the root, has the name of a deletion's
abbrev pub is_deletion : Option Ended → Bool
is_deletion last = option_map_or (is_named (codes "Delete")) last false

-- no field has been read
abbrev pub no_fields : ObjectFields
no_fields = record { key = None; id = None; has_condition = false }

-- one more field
abbrev pub with_field : ObjectFields → Ended → ObjectFields
with_field fields element =
    if is_named (codes "Key") element then record fields { key = Some element.content }
    else if is_named (codes "VersionId") element then record fields { id = Some element.content }
    else record fields { has_condition = fields.has_condition || is_condition element }

-- a row ends that names this object
abbrev pub with_object : ObjectRows → NamedObject → ObjectRows
with_object rows object = record {
  fields = no_fields;
  objects = rows.objects ++ object ∷ [];
  have_conditions = rows.have_conditions || rows.fields.has_condition;
}

-- a row ends, where it names one and there may be one more
abbrev pub with_row : ObjectRows → Option ObjectRows
with_row rows =
    if nat_lt (length rows.objects) 1_000 then option_map (with_object rows) (object_of rows.fields.key rows.fields.id)
    else None

-- another element ends right in the root
abbrev pub with_other : ObjectRows → ObjectRows
with_other rows = record rows { fields = no_fields }

-- an element ends, if it may
abbrev pub with_element : ObjectRows → Ended → Option ObjectRows
with_element rows element =
    if element.level == 3 then Some (record rows { fields = with_field rows.fields element })
    else if element.level == 2 then
    (if is_named (codes "Object") element then with_row rows else Some (with_other rows))
    else Some rows

-- and it may say whether only faults are to be told
abbrev pub quiet_with : Option Bool → Ended → Option Bool
quiet_with quiet element =
    if element.level == 2 && is_named (codes "Quiet") element then truth_told element.content else quiet

-- and it may be the root
abbrev pub told_as : Option Bool → Ended → ObjectRows → Told
told_as quiet element rows = record { rows = rows; quiet = quiet_with quiet element; is_root = is_deletion (Some element) }

abbrev pub told_with : Told → Ended → Option Told
told_with told element = option_map (told_as told.quiet element) (with_element told.rows element)

-- nothing is told yet
abbrev pub nothing_told : Told
nothing_told = record {
  rows = record { fields = no_fields; objects = []; have_conditions = false };
  quiet = Some false;
  is_root = false;
}

-- the first refusal of what is told, or else whether only faults are to be told
abbrev pub judged_told : Told → Result Bool Code
judged_told told = do
  refuse (not told.is_root) MalformedXML
  is_quiet ← ok_or told.quiet MalformedXML
  refuse (length told.rows.objects == 0) MalformedXML
  refuse told.rows.have_conditions NotImplemented
  Ok is_quiet

-- what is answered to what is told
abbrev pub answered : Told → Result Deletion Code
answered told = do
  is_quiet ← judged_told told
  Ok (record { objects = told.rows.objects; is_quiet = is_quiet })
