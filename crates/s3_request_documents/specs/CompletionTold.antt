-- What the elements of a completion tell, one after another: how far its reader has come.
-- Only clauses of private functions cite these, and nobody has to believe them.
use Rattle.std.specs.Prelude.{ℕ, ◌+◌, ◌==◌, Bool, true, false, not, ◌&&◌, nat_lt, if◌then◌else◌, List, ◌++◌, [], codes, Option, Some, None, option_map, option_and_then, is_some, Result, Ok}
use Rattle.std.specs.List.{last_or, cons_option}
use Rattle.std.specs.Option.{option_map_or}
use Rattle.s3_terms.specs.Fault.{refuse, ◌>>◌}
use Rattle.s3_terms.specs.declared.code.Code.{Code}
use Rattle.s3_terms.specs.declared.code.Code.TheVariants.{MalformedXML, InvalidArgument}
use Rattle.s3_xml.specs.Ended.{Ended}
use Rattle.s3_names.specs.Ids.{as_part_number}
use Rattle.s3_conditions.specs.Tags.{unquoted}
use Rattle.s3_uploads.specs.declared.listed.ListedPart.{ListedPart}
use Rattle.s3_request_documents.specs.Completion.{is_count, listed_as, rows_listed}
use Rattle.s3_request_documents.specs.Xml.{is_named, rows_named, number_told}
use Rattle.s3_request_documents.specs.declared.completion_rows.Fields.{Fields}
use Rattle.s3_request_documents.specs.declared.completion_rows.Rows.{Rows}
use Rattle.s3_request_documents.specs.declared.completion_xml.Told.{Told}

-- the last element, which is the root, has the name of a completion's
abbrev pub is_completion : Option Ended → Bool
is_completion last = option_map_or (is_named (codes "CompleteMultipartUpload")) last false

-- what elements ask for with their root
abbrev pub completion_of : List Ended → Result (List ListedPart) Code
completion_of elements = do
  refuse (not (is_completion (last_or None elements))) MalformedXML
  rows_listed (rows_named (codes "Part") elements)

-- no field has been read
abbrev pub no_fields : Fields
no_fields = record { tag = None; number = None }

-- the tag and the number with one more field
abbrev pub tag_with : Option (List ℕ) → Ended → Option (List ℕ)
tag_with tag element = if is_named (codes "ETag") element then Some (unquoted element.content) else tag

abbrev pub number_with : Option (Option ℕ) → Ended → Option (Option ℕ)
number_with number element =
    if is_named (codes "PartNumber") element then option_map as_part_number (number_told element.content) else number

-- one more field
abbrev pub with_field : Fields → Ended → Fields
with_field fields element = record { tag = tag_with fields.tag element; number = number_with fields.number element }

-- the number of a part that fields tell, and the part that they list
abbrev pub number_of : Fields → Option ℕ
number_of fields = option_and_then (λ number. number) fields.number

abbrev pub part_of : Fields → Option ListedPart
part_of fields = option_and_then (λ tag. option_map (listed_as tag) (number_of fields)) fields.tag

-- a row ends: it is counted up to one more than there may be, and listed where there may be so many
abbrev pub with_row : Rows → Rows
with_row rows = record {
  fields = no_fields;
  parts = if nat_lt rows.count 10_000 then rows.parts ++ cons_option (part_of rows.fields) [] else rows.parts;
  count = if nat_lt rows.count 10_001 then rows.count + 1 else rows.count;
  are_parts = rows.are_parts && (is_some rows.fields.tag && is_some rows.fields.number);
  are_numbered = rows.are_numbered && is_some (number_of rows.fields);
}

-- another element ends right in the root
abbrev pub with_other : Rows → Rows
with_other rows = record rows { fields = no_fields }

-- an element ends
abbrev pub with_element : Rows → Ended → Rows
with_element rows element =
    if element.level == 3 then record rows { fields = with_field rows.fields element }
    else if element.level == 2 then (if is_named (codes "Part") element then with_row rows else with_other rows)
    else rows

-- and it may be the root
abbrev pub told_with : Told → Ended → Told
told_with told element = record { rows = with_element told.rows element; is_root = is_completion (Some element) }

-- nothing is told yet
abbrev pub nothing_told : Told
nothing_told = record {
  rows = record { fields = no_fields; parts = []; count = 0; are_parts = true; are_numbered = true };
  is_root = false;
}

-- what is answered to what is told
abbrev pub answered : Told → Result (List ListedPart) Code
answered told = do
  refuse (not told.is_root) MalformedXML
  refuse (not (is_count told.rows.count)) MalformedXML
  refuse (not told.rows.are_parts) MalformedXML
  refuse (not told.rows.are_numbered) InvalidArgument
  Ok told.rows.parts
