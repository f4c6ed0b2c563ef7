-- Where routing takes memory: for a long name, and for what an operation copies of the head or of the settings. What is wrong
-- before that is told, whatever memory there is.
use Rattle.std.specs.Prelude.{◌≡◌, ◌≢◌, ℕ, ◌<◌, ◌⊎◌, MatchBool, true, false, not, ◌&&◌, ◌==◌, List, [], length, codes, None, Result, Ok, Err, IsOk}
use Rattle.std.specs.Option.{IsSomeAnd}
use Rattle.std.specs.Result.{IsOkAnd}
use Rattle.s3_names.specs.Names.{object_key}
use Rattle.s3_terms.specs.declared.code.Code.{Code}
use Rattle.s3_terms.specs.declared.code.Code.TheVariants.{InternalError}
use Rattle.s3_terms.specs.declared.dialect.Dialect.{Dialect}
use Rattle.s3_http_heads.specs.Head.{HeadParts, first_value}
use Rattle.s3_http_heads.specs.Method.{method_of}
use Rattle.s3_http_heads.specs.Target.{TargetParts, first_parameter, has_bad_escape, has_parameter}
use Rattle.s3_requests.specs.declared.operations.Operation.{Operation}
use Rattle.s3_requests.specs.declared.operations.Operation.TheVariants as operations
use Rattle.s3_requests.specs.Addresses.{address_at}
use Rattle.s3_requests.specs.Arguments.{version_argument}
use Rattle.s3_requests.specs.Copies.{directive_of}
use Rattle.s3_requests.specs.CopySource.{has_source_condition, path_in, version_in}
use Rattle.s3_requests.specs.Description.{content_type_of}
use Rattle.s3_requests.specs.ListArguments.{count_named, lacks_prefixes}
use Rattle.s3_requests.specs.Operations.{bucket_operation, is_xml, key_operation}
use Rattle.s3_requests.specs.Overrides.{overrides_asked, overrides_sent}
use Rattle.s3_requests.specs.Routing.{bucket_named, served}
use Rattle.s3_requests.specs.UploadArguments.{part_argument, upload_argument}
use Rattle.s3_requests.specs.WriteCondition.{tags_wanted}

-- what is answered is what the rule says, unless memory ran out where it is taken
abbrev pub FollowsWhere : {A : Type 0} → Type 0 → Result A Code → Result A Code → Type 0
FollowsWhere takes (Ok value) rule = rule ≡ Ok value
FollowsWhere takes (Err code) rule = ((code ≡ InternalError) × takes) ⊎ (rule ≡ Err code)

-- names and keys of up to so many bytes are kept in place
abbrev pub most_in_place : ℕ
most_in_place = 38

-- what a head says of an object takes memory, unless its media type is too long
abbrev pub DescriptionTakes : HeadParts → Type 0
DescriptionTakes head = IsOk (content_type_of head)

-- the first line of this name isn't empty
abbrev pub TagsTake : List ℕ → HeadParts → Type 0
TagsTake name head = IsSomeAnd (first_value name head) (λ value. 0 < length value)

-- the conditions of a read take it for their tags
abbrev pub ConditionsTake : HeadParts → Type 0
ConditionsTake head = TagsTake (codes "if-match") head ⊎ TagsTake (codes "if-none-match") head

-- a read takes it for what its reply is to say, in the dialect of S3 and where that is something
abbrev pub OverridesTake : Dialect → TargetParts → Type 0
OverridesTake dialect target = (is_xml dialect ≡ true) × (overrides_sent target ≢ [])

-- so does a read, where its version is one, and for its conditions where this is right
abbrev pub ReadTakes : Dialect → HeadParts → TargetParts → Type 0
ReadTakes dialect head target =
    IsOk (version_argument (codes "versionId") target)
    × (OverridesTake dialect target ⊎ (IsOk (overrides_asked dialect target) × ConditionsTake head))

-- the tags that a write wants take it, unless their line is empty
abbrev pub WantedTake : Dialect → HeadParts → Type 0
WantedTake dialect head = IsSomeAnd (tags_wanted dialect head) (λ value. 0 < length value)

-- the condition of a write takes it for them, where no line stands beside theirs
abbrev pub ConditionTakes : Dialect → HeadParts → Type 0
ConditionTakes dialect head = (first_value (codes "if-none-match") head ≡ None) × WantedTake dialect head

-- so does the completion of an upload, where its upload is one
abbrev pub CompletionTakes : Dialect → HeadParts → TargetParts → Type 0
CompletionTakes dialect head target = IsOk (upload_argument target) × ConditionTakes dialect head

-- and a delete, where it names no version
abbrev pub DeleteTakes : Dialect → HeadParts → TargetParts → Type 0
DeleteTakes dialect head target = (version_argument (codes "versionId") target ≡ Ok None) × WantedTake dialect head

-- the source of a copy takes it once its version and its escapes are right
abbrev pub SourceInTakes : List ℕ → Type 0
SourceInTakes value = IsOk (version_in value) × (has_bad_escape (path_in value) ≡ false)

-- where documents are JSON, there is no condition for it
abbrev pub SourceTakes : Dialect → HeadParts → Type 0
SourceTakes dialect head =
    ((not (is_xml dialect) && has_source_condition head) ≡ false) × IsSomeAnd (first_value (codes "x-amz-copy-source") head) SourceInTakes

-- a copy takes it for its source, where its directive is one
abbrev pub CopyTakes : Dialect → HeadParts → Type 0
CopyTakes dialect head = IsOk (directive_of dialect head) × SourceTakes dialect head

-- and the copy of a part where its number and its upload are such
abbrev pub PartCopyTakes : Dialect → HeadParts → TargetParts → Type 0
PartCopyTakes dialect head target = IsOk (part_argument target) × SourceTakes dialect head

-- a list of objects takes it for its texts, where its count is one
abbrev pub ObjectsTake : TargetParts → Type 0
ObjectsTake target = IsOk (count_named (first_parameter (codes "max-keys") target))

-- so does a list of versions or of uploads that asks for no common prefixes which it doesn't have
abbrev pub KeysTake : Dialect → List ℕ → TargetParts → Type 0
KeysTake dialect count target = (lacks_prefixes dialect target ≡ false) × IsOk (count_named (first_parameter count target))

-- an operation on a bucket takes it for the region that a body may name, or for the texts of a list
abbrev pub InBucketTakes : Dialect → Operation → TargetParts → Type 0
InBucketTakes dialect operations.CreateBucket target = is_xml dialect ≡ true
InBucketTakes dialect operations.ListObjects target = (has_parameter (codes "list-type") target ≡ false) × ObjectsTake target
InBucketTakes dialect operations.ListObjectsV2 target = ObjectsTake target
InBucketTakes dialect operations.ListObjectVersions target = KeysTake dialect (codes "max-keys") target
InBucketTakes dialect operations.ListMultipartUploads target = KeysTake dialect (codes "max-uploads") target
InBucketTakes dialect other target = ⊥

-- what is asked of a bucket takes it where this server has the operation
unfoldable pub BucketTakes : Dialect → HeadParts → TargetParts → Type 0
BucketTakes dialect head target =
    IsOkAnd (served dialect head (bucket_operation (method_of head.method) target)) (λ operation. InBucketTakes dialect operation target)

-- an operation on a key takes it for what is said of an object, for the tags of a condition, for what a reply is to say, or for the
-- source of a copy; a put reads its condition where what is said of its object is right
abbrev pub UnderKeyTakes : Dialect → Operation → HeadParts → TargetParts → Type 0
UnderKeyTakes dialect operations.PutObject head target = DescriptionTakes head
UnderKeyTakes dialect operations.CreateMultipartUpload head target = DescriptionTakes head
UnderKeyTakes dialect operations.CopyObject head target = CopyTakes dialect head
UnderKeyTakes dialect operations.UploadPartCopy head target = PartCopyTakes dialect head target
UnderKeyTakes dialect operations.GetObject head target = ReadTakes dialect head target
UnderKeyTakes dialect operations.HeadObject head target = ReadTakes dialect head target
UnderKeyTakes dialect operations.DeleteObject head target = DeleteTakes dialect head target
UnderKeyTakes dialect operations.CompleteMultipartUpload head target = CompletionTakes dialect head target
UnderKeyTakes dialect other head target = ⊥

-- what is asked of a key takes it where this server has the operation
unfoldable pub KeyTakes : Dialect → HeadParts → TargetParts → Type 0
KeyTakes dialect head target =
    IsOkAnd (served dialect head (key_operation (method_of head.method) head target)) (λ operation. UnderKeyTakes dialect operation head target)

-- a bucket and a key that are named so take it where they are long; behind them their operation takes it
unfoldable pub NamedTakes : Dialect → HeadParts → TargetParts → Type 0
NamedTakes dialect head target =
    IsOk (bucket_named target)
    × ((most_in_place < length target.bucket)
    ⊎ MatchBool (length target.key == 0)
    (BucketTakes dialect head target)
    (IsOk (object_key target.key) × ((most_in_place < length target.key) ⊎ KeyTakes dialect head target)))

-- the routing of a head takes it for what it addresses; the service has no name, and takes none
unfoldable pub RouteTakes : Dialect → HeadParts → Type 0
RouteTakes dialect head = IsOkAnd (address_at dialect head) (NamedTakes dialect head)
