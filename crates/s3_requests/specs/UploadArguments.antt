-- Which upload is meant, and which part of it (Amazon S3 API Reference, UploadPart, "URI Request Parameters"): of a parameter
-- the first occurrence counts.
use Rattle.std.specs.Prelude.{ℕ, List, codes, ok_or, Result, Ok}
use Rattle.s3_terms.specs.Fault.{◌>>=◌}
use Rattle.s3_terms.specs.declared.code.Code.{Code}
use Rattle.s3_terms.specs.declared.code.Code.TheVariants.{InvalidArgument, NoSuchUpload}
use Rattle.s3_names.specs.Ids.{part_number, upload_id}
use Rattle.s3_http_heads.specs.Target.{TargetParts, first_parameter}
use Rattle.s3_requests.specs.ListArguments.{value_of}

-- the upload whose id a text is; a text of another form is the id of none
abbrev pub upload_named : List ℕ → Result ℕ Code
upload_named text = ok_or (upload_id text) NoSuchUpload

-- the upload that is meant
abbrev pub upload_argument : TargetParts → Result ℕ Code
upload_argument target = upload_named (value_of (codes "uploadId") target)

-- the upload and the number of the part that is sent to it: both have to be there, and the number is judged first
unfoldable pub part_argument : TargetParts → Result (ℕ × ℕ) Code
part_argument target = do
  digits ← ok_or (first_parameter (codes "partNumber") target) InvalidArgument
  text ← ok_or (first_parameter (codes "uploadId") target) InvalidArgument
  number ← ok_or (part_number digits) InvalidArgument
  id ← upload_named text
  Ok (id, number)
