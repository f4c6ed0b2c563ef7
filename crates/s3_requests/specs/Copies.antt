-- What a copy asks beside its source (Amazon S3 API Reference, CopyObject, `x-amz-metadata-directive`, and UploadPartCopy,
-- `x-amz-copy-source-range`): of each line the first one counts.
use Rattle.std.specs.Prelude.{ℕ, Bool, false, not, ◌&&◌, List, [], ◌∷◌, codes, Option, Some, None, is_none, Result, Ok, Err}
use Rattle.std.specs.Str.{bytes_eq}
use Rattle.s3_terms.specs.Fault.{refuse, ◌>>◌, ◌>>=◌}
use Rattle.s3_terms.specs.declared.code.Code.{Code}
use Rattle.s3_terms.specs.declared.code.Code.TheVariants.{InvalidArgument, InvalidRequest, NotImplemented}
use Rattle.s3_terms.specs.declared.dialect.Dialect.{Dialect}
use Rattle.s3_terms.specs.declared.dialect.Dialect.TheVariants.{Json, S3}
use Rattle.s3_conditions.specs.Range.{byte_range}
use Rattle.s3_conditions.specs.declared.range.ByteRange.{ByteRange}
use Rattle.s3_conditions.specs.declared.range.ByteRange.TheVariants.{FromTo}
use Rattle.s3_http_heads.specs.Head.{HeadParts, first_value}
use Rattle.s3_http_heads.specs.Target.{TargetParts}
use Rattle.s3_machine.specs.declared.command.CopyRange.{CopyRange}
use Rattle.s3_machine.specs.declared.command.Description.{Description}
use Rattle.s3_machine.specs.declared.command.ObjectCopy.{ObjectCopy}
use Rattle.s3_machine.specs.declared.command.PartCopy.{PartCopy}
use Rattle.s3_machine.specs.declared.command.Source.{Source}
use Rattle.s3_requests.specs.declared.copies.Directive.{Directive}
use Rattle.s3_requests.specs.declared.copies.Directive.TheVariants as directives
use Rattle.s3_requests.specs.CopySource.{source_of}
use Rattle.s3_requests.specs.Description.{description_of}
use Rattle.s3_requests.specs.Operations.{first_row, is_xml}

-- what a directive says, whose case counts: COPY, or where documents are XML also REPLACE
unfoldable pub directive_read : Dialect → List ℕ → Result Directive Code
directive_read Json text = do
  refuse (not (bytes_eq text (codes "COPY"))) NotImplemented
  Ok directives.Keep
directive_read S3 text =
    first_row (
    (bytes_eq text (codes "COPY"), Ok directives.Keep)
    ∷ (bytes_eq text (codes "REPLACE"), Ok directives.Replace)
    ∷ []) (Err InvalidArgument)

-- without one it is COPY
abbrev pub directive_named : Dialect → Option (List ℕ) → Result Directive Code
directive_named dialect None = Ok directives.Keep
directive_named dialect (Some text) = directive_read dialect text

-- what is to be done with what is said of the source
unfoldable pub directive_of : Dialect → HeadParts → Result Directive Code
directive_of dialect head = directive_named dialect (first_value (codes "x-amz-metadata-directive") head)

-- what is to be said of the copy in its place: what the head of a copy says, as that of a put
abbrev pub description_by : Dialect → Directive → HeadParts → Result (Option Description) Code
description_by dialect directives.Keep head = Ok None
description_by dialect directives.Replace head = do
  said ← description_of dialect head
  Ok (Some said)

-- a copy of the current version of a key to the key itself that keeps what is said of it, and so would change nothing
abbrev pub is_copy_to_itself : Directive → Source → TargetParts → Bool
is_copy_to_itself directives.Keep source target =
    is_none source.version && bytes_eq source.bucket target.bucket && bytes_eq source.key target.key
is_copy_to_itself directives.Replace source target = false

-- the source of a CopyObject to this target; where documents are XML, as with Amazon S3, none is made of a key to itself
unfoldable pub source_for : Dialect → Directive → HeadParts → TargetParts → Result Source Code
source_for dialect directive head target = do
  source ← source_of dialect head
  refuse (is_xml dialect && is_copy_to_itself directive source target) InvalidRequest
  Ok source

-- what a CopyObject copies
unfoldable pub object_copy_of : Dialect → HeadParts → TargetParts → Result ObjectCopy Code
object_copy_of dialect head target = do
  directive ← directive_of dialect head
  source ← source_for dialect directive head target
  description ← description_by dialect directive head
  Ok (record { source = source; description = description })

-- the bytes from a first position to a last one; a copy has no other range
abbrev pub bytes_between : Option ByteRange → Result CopyRange Code
bytes_between (Some (FromTo first last)) = Ok (record { first = first; last = last })
bytes_between other = Err InvalidArgument

-- the bytes that a line names, if one is there
abbrev pub range_named : Option (List ℕ) → Result (Option CopyRange) Code
range_named None = Ok None
range_named (Some text) = do
  range ← bytes_between (byte_range text)
  Ok (Some range)

-- what an UploadPartCopy copies
unfoldable pub part_copy_of : Dialect → HeadParts → Result PartCopy Code
part_copy_of dialect head = do
  source ← source_of dialect head
  range ← range_named (first_value (codes "x-amz-copy-source-range") head)
  Ok (record { source = source; range = range })
