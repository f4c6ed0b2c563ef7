-- The region that the body of a CreateBucket asks for (Amazon S3 API Reference, CreateBucket).
use Rattle.std.specs.Prelude.{ℕ, ◌==◌, Bool, true, not, ◌||◌, if◌then◌else◌, List, length, codes, ok_or, Result, Ok, ⊤}
use Rattle.std.specs.Option.{option_map_or}
use Rattle.std.specs.Str.{bytes_eq}
use Rattle.s3_terms.specs.Fault.{refuse, ◌>>=◌}
use Rattle.s3_terms.specs.declared.code.Code.{Code}
use Rattle.s3_terms.specs.declared.code.Code.TheVariants.{MalformedXML, InvalidLocationConstraint}
use Rattle.s3_request_documents.specs.Xml.{root_field}

-- a constraint that this region meets: none, or its name
abbrev pub is_met_by : (region constraint : List ℕ) → Bool
is_met_by region constraint = length constraint == 0 || bytes_eq constraint region

-- a document: by the element `LocationConstraint` right in the root `CreateBucketConfiguration`, if there is one
abbrev pub location_in_xml : (region body : List ℕ) → Result ⊤ Code
location_in_xml region body = do
  field ← ok_or (root_field (codes "CreateBucketConfiguration") (codes "LocationConstraint") body) MalformedXML
  refuse (not (option_map_or (is_met_by region) field true)) InvalidLocationConstraint

-- and a body, which may be empty
abbrev pub location_read : (region body : List ℕ) → Result ⊤ Code
location_read region body = if length body == 0 then Ok tt else location_in_xml region body
