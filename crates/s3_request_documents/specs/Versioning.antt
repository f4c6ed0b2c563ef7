-- The versioning that the body of a PutBucketVersioning asks for (Amazon S3 API Reference, PutBucketVersioning, whose
-- document is XML there).
use Rattle.std.specs.Prelude.{ℕ, List, codes, if◌then◌else◌, Option, Some, None, ok_or, option_and_then, Result}
use Rattle.std.specs.Str.{bytes_eq}
use Rattle.serde_json.specs.Data.{Data}
use Rattle.serde_json.specs.Find.{get, as_str}
use Rattle.s3_terms.specs.Fault.{◌>>=◌}
use Rattle.s3_terms.specs.declared.code.Code.{Code}
use Rattle.s3_terms.specs.declared.code.Code.TheVariants.{MalformedBody, MalformedXML}
use Rattle.s3_terms.specs.declared.dialect.Dialect.{Dialect}
use Rattle.s3_terms.specs.declared.dialect.Dialect.TheVariants.{Json, S3}
use Rattle.s3_versions.specs.declared.version.VersioningStatus.{VersioningStatus}
use Rattle.s3_versions.specs.declared.version.VersioningStatus.TheVariants as status
use Rattle.s3_request_documents.specs.Json.{json_of}
use Rattle.s3_request_documents.specs.Xml.{root_field}

-- the status of a name
abbrev pub status_named : List ℕ → Option VersioningStatus
status_named name =
    if bytes_eq name (codes "Enabled") then Some status.Enabled
    else if bytes_eq name (codes "Suspended") then Some status.Suspended
    else None

-- the status that a value's member `Status` names
abbrev pub status_in : Data → Option VersioningStatus
status_in value = option_and_then status_named (option_and_then as_str (get (codes "Status") value))

-- what a body asks for as JSON
abbrev pub versioning_in_json : List ℕ → Result VersioningStatus Code
versioning_in_json body = do
  value ← ok_or (json_of body) MalformedBody
  ok_or (status_in value) MalformedBody

-- and in XML: by the element `Status` right in the root `VersioningConfiguration`
abbrev pub versioning_in_xml : List ℕ → Result VersioningStatus Code
versioning_in_xml body = do
  field ← ok_or (root_field (codes "VersioningConfiguration") (codes "Status") body) MalformedXML
  ok_or (option_and_then status_named field) MalformedXML

-- and in a dialect
abbrev pub versioning_read : Dialect → List ℕ → Result VersioningStatus Code
versioning_read Json body = versioning_in_json body
versioning_read S3 body = versioning_in_xml body
