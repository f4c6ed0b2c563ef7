-- What a copy is from (Amazon S3 API Reference, CopyObject and UploadPartCopy): the value of `x-amz-copy-source` is an
-- optional slash, a bucket, a slash and a key, and then may name a version behind `?`. It is cut at its first `?`, and what
-- stands before that at the first slash behind the optional one; then the bucket and the key are percent-decoded.
use Rattle.std.specs.Prelude.{ℕ, Bool, not, ◌&&◌, ◌==◌, if◌then◌else◌, List, [], ◌∷◌, codes, Option, None, ok_or, Result, Ok}
use Rattle.std.specs.List.{list_any, before_first, after_first}
use Rattle.std.specs.Str.{bytes_eq}
use Rattle.percent_encoding.specs.Percent.{percent_decode}
use Rattle.s3_text.specs.Characters.{slash, equals_sign, question_mark}
use Rattle.s3_terms.specs.Fault.{refuse, ◌>>◌, ◌>>=◌}
use Rattle.s3_terms.specs.declared.code.Code.{Code}
use Rattle.s3_terms.specs.declared.code.Code.TheVariants.{InvalidArgument, InternalError, NotImplemented}
use Rattle.s3_terms.specs.declared.dialect.Dialect.{Dialect}
use Rattle.s3_terms.specs.declared.dialect.Dialect.TheVariants.{Json, S3}
use Rattle.s3_conditions.specs.Conditions.{plain}
use Rattle.s3_conditions.specs.declared.conditions.Conditions.{Conditions}
use Rattle.s3_names.specs.Names.{bucket_name, object_key}
use Rattle.s3_names.specs.declared.ids.VersionId.{VersionId}
use Rattle.s3_http_heads.specs.Head.{HeadParts, first_value}
use Rattle.s3_http_heads.specs.Target.{has_bad_escape}
use Rattle.s3_machine.specs.declared.command.Source.{Source}
use Rattle.s3_requests.specs.Arguments.{as_argument, id_read}
use Rattle.s3_requests.specs.LineNames.{begins_with}
use Rattle.s3_requests.specs.Operations.{is_xml}
use Rattle.s3_requests.specs.ReadConditions.{source_conditions_of}

-- whatever is wrong with the source, its argument is invalid; of a refusal, which may say that memory ran out
abbrev pub argument_code : Code → Code
argument_code InternalError = InternalError
argument_code other = InvalidArgument

-- a text without the slash that may come first
abbrev pub without_slash : List ℕ → List ℕ
without_slash [] = []
without_slash (b ∷ rest) = if b == slash then rest else b ∷ rest

-- the bucket and the key, with the slash between them, as they were sent
abbrev pub path_in : List ℕ → List ℕ
path_in value = without_slash (before_first (λ b. b == question_mark) value)

-- what stands behind the first `?`: `versionId=` and an id, which isn't percent-encoded
abbrev pub id_in : List ℕ → Result (Option VersionId) Code
id_in behind = do
  refuse (not (bytes_eq (before_first (λ b. b == equals_sign) behind) (codes "versionId"))) InvalidArgument
  id_read (after_first (λ b. b == equals_sign) behind)

-- the version that is named, if one is
unfoldable pub version_in : List ℕ → Result (Option VersionId) Code
version_in value =
    if list_any (λ b. b == question_mark) value then id_in (after_first (λ b. b == question_mark) value) else Ok None

-- the bucket and the key as they are meant
abbrev pub bucket_in : List ℕ → Result (List ℕ) Code
bucket_in path = as_argument (bucket_name (percent_decode (before_first (λ b. b == slash) path)))

abbrev pub key_in : List ℕ → Result (List ℕ) Code
key_in path = as_argument (object_key (percent_decode (after_first (λ b. b == slash) path)))

-- what a value names, on these conditions
unfoldable pub source_in : Conditions → List ℕ → Result Source Code
source_in conditions value = do
  version ← version_in value
  refuse (has_bad_escape (path_in value)) InvalidArgument
  bucket ← bucket_in (path_in value)
  key ← key_in (path_in value)
  Ok (record { bucket = bucket; key = key; version = version; conditions = conditions })

-- lines of this name set a condition for the source
abbrev pub is_condition : List ℕ → Bool
is_condition name = begins_with (codes "x-amz-copy-source-if-") name

abbrev pub has_source_condition : HeadParts → Bool
has_source_condition head = list_any (λ (line : List ℕ × List ℕ). is_condition line.0) head.headers

-- the conditions for the source, which a copy has where documents are XML alone
abbrev pub conditions_for_source : Dialect → HeadParts → Conditions
conditions_for_source Json head = plain
conditions_for_source S3 head = source_conditions_of head

-- the source of a copy that this server makes
unfoldable pub source_of : Dialect → HeadParts → Result Source Code
source_of dialect head = do
  refuse (not (is_xml dialect) && has_source_condition head) NotImplemented
  value ← ok_or (first_value (codes "x-amz-copy-source") head) InvalidArgument
  source_in (conditions_for_source dialect head) value
