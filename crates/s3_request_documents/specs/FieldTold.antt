-- What the elements of a document tell of one field of its root: how far its reader has come.
-- Only clauses of private functions cite these, and nobody has to believe them.
use Rattle.std.specs.Prelude.{ℕ, ◌==◌, false, ◌&&◌, if◌then◌else◌, List, Some, None}
use Rattle.std.specs.List.{last_or}
use Rattle.std.specs.Option.{option_map_or}
use Rattle.s3_xml.specs.Ended.{Ended}
use Rattle.s3_request_documents.specs.Xml.{is_named, top_fields, field_in}
use Rattle.s3_request_documents.specs.declared.root_field.Told.{Told}

-- the text of the last field of the name, and whether the last element, which is the root, has its name
abbrev pub told_of : (root name : List ℕ) → List Ended → Told
told_of root name elements = record {
  field = field_in name (top_fields elements);
  is_root = option_map_or (is_named root) (last_or None elements) false;
}

-- with one more element
abbrev pub told_with : (root name : List ℕ) → Told → Ended → Told
told_with root name told element = record {
  field = if element.level == 2 && is_named name element then Some element.content else told.field;
  is_root = is_named root element;
}
