-- The operation that a request asks for: by the table by which it is routed, of what its head says as it was sent.
use Rattle.std.specs.Prelude.{ℕ, Bool, not, ◌&&◌, ◌||◌, ◌==◌, nat_eq, if◌then◌else◌, List, [], ◌∷◌, map, codes, Option}
use Rattle.std.specs.List.{list_any, starts_with}
use Rattle.std.specs.Option.{option_map_or}
use Rattle.std.specs.Str.{bytes_eq}
use Rattle.percent_encoding.specs.Percent.{percent_sign}
use Rattle.s3_text.specs.Characters.{ampersand, colon, equals_sign, line_feed, question_mark, slash}
use Rattle.s3_text.specs.Cut.{parts_at}
use Rattle.s3_terms.specs.declared.dialect.Dialect.TheVariants.{S3}
use Rattle.s3_machine.specs.declared.configuration.Configuration.{Configuration}
use Rattle.s3_machine.specs.declared.configuration.Configuration.TheVariants as configurations
use Rattle.s3_http_heads.specs.Head.{HeadParts}
use Rattle.s3_http_heads.specs.Method as methods
use Rattle.s3_http_heads.specs.Target.{TargetParts}
use Rattle.s3_requests.specs.Addresses.{is_bucket, is_service, names_lacking}
use Rattle.s3_requests.specs.Operations.{bucket_operation, key_operation, service_operation}
use Rattle.s3_requests.specs.declared.operations.Operation.{Operation}
use Rattle.s3_requests.specs.declared.operations.Operation.TheVariants as operations
use Rattle.s3_log.specs.Request.{before, behind, bucket_of, key_of, method_of, query_of, target_of}

-- what asks for a configuration of a bucket
abbrev pub configuration_name : Configuration → List ℕ
configuration_name configurations.Cors = codes "GetBucketCors"
configuration_name configurations.Encryption = codes "GetBucketEncryption"
configuration_name configurations.Lifecycle = codes "GetBucketLifecycleConfiguration"
configuration_name configurations.ObjectLock = codes "GetObjectLockConfiguration"
configuration_name configurations.OwnershipControls = codes "GetBucketOwnershipControls"
configuration_name configurations.Policy = codes "GetBucketPolicy"
configuration_name configurations.PublicAccessBlock = codes "GetPublicAccessBlock"
configuration_name configurations.Replication = codes "GetBucketReplication"
configuration_name configurations.Tagging = codes "GetBucketTagging"
configuration_name configurations.Website = codes "GetBucketWebsite"

-- the name of an operation in the Amazon S3 API Reference
abbrev pub operation_name : Operation → List ℕ
operation_name operations.ListBuckets = codes "ListBuckets"
operation_name operations.CreateBucket = codes "CreateBucket"
operation_name operations.HeadBucket = codes "HeadBucket"
operation_name operations.DeleteBucket = codes "DeleteBucket"
operation_name operations.PutBucketVersioning = codes "PutBucketVersioning"
operation_name operations.GetBucketVersioning = codes "GetBucketVersioning"
operation_name operations.GetBucketLocation = codes "GetBucketLocation"
operation_name (operations.GetBucketConfiguration which) = configuration_name which
operation_name operations.ListObjects = codes "ListObjects"
operation_name operations.ListObjectsV2 = codes "ListObjectsV2"
operation_name operations.ListObjectVersions = codes "ListObjectVersions"
operation_name operations.ListMultipartUploads = codes "ListMultipartUploads"
operation_name operations.DeleteObjects = codes "DeleteObjects"
operation_name operations.PostObject = codes "PostObject"
operation_name operations.PutObject = codes "PutObject"
operation_name operations.CopyObject = codes "CopyObject"
operation_name operations.GetObject = codes "GetObject"
operation_name operations.HeadObject = codes "HeadObject"
operation_name operations.GetObjectTagging = codes "GetObjectTagging"
operation_name operations.GetObjectPart = codes "GetObject"
operation_name operations.HeadObjectPart = codes "HeadObject"
operation_name operations.DeleteObject = codes "DeleteObject"
operation_name operations.CreateMultipartUpload = codes "CreateMultipartUpload"
operation_name operations.UploadPart = codes "UploadPart"
operation_name operations.UploadPartCopy = codes "UploadPartCopy"
operation_name operations.ListParts = codes "ListParts"
operation_name operations.CompleteMultipartUpload = codes "CompleteMultipartUpload"
operation_name operations.AbortMultipartUpload = codes "AbortMultipartUpload"

-- the same of one that may not be known
abbrev pub name_told : Option Operation → List ℕ
name_told operation = option_map_or operation_name operation []

-- a parameter and a header line, each cut into its name and its value
abbrev pub cut_at : ℕ → List ℕ → List ℕ × List ℕ
cut_at byte part = (before byte part, behind byte part)

abbrev pub parameters_sent : List ℕ → List (List ℕ × List ℕ)
parameters_sent query = map (cut_at equals_sign) (parts_at ampersand query)

-- what a target and a head say, as they were sent (their version says nothing of what is asked for)
abbrev pub target_sent : List ℕ → TargetParts
target_sent head = record {
  path = before question_mark (target_of head);
  bucket = bucket_of head;
  key = key_of head;
  parameters = parameters_sent (query_of head);
}

abbrev pub head_sent : List ℕ → HeadParts
head_sent head = record {
  method = method_of head;
  target = target_of head;
  minor = 1;
  headers = map (cut_at colon) (parts_at line_feed head);
}

-- a text has an escape, so that it says something else than it shows
abbrev pub has_escape : List ℕ → Bool
has_escape text = list_any (λ byte. byte == percent_sign) text

-- what a parameter says of the operation has one: its name, or the version of a list
abbrev pub is_escaped : List ℕ × List ℕ → Bool
is_escaped parameter =
    has_escape parameter.0 || (bytes_eq parameter.0 (codes "list-type") && has_escape parameter.1)

-- it can be known what is asked for: the path begins with a slash, nothing of the query that says so has an escape, and no name is
-- that of a sub-resource that isn't there where documents are XML
abbrev pub is_known : HeadParts → TargetParts → Bool
is_known head target =
    starts_with nat_eq target.path (slash ∷ []) && not (list_any is_escaped target.parameters) && not (names_lacking S3 head target)

-- the operation of the table
abbrev pub operation_asked : HeadParts → TargetParts → Option Operation
operation_asked head target =
    if is_service target then service_operation (methods.method_of head.method)
    else if is_bucket target then bucket_operation (methods.method_of head.method) target
    else key_operation (methods.method_of head.method) head target

-- its name, where it can be known and there is one
abbrev pub asked_by : HeadParts → TargetParts → List ℕ
asked_by head target = if is_known head target then name_told (operation_asked head target) else []

unfoldable pub operation_of : List ℕ → List ℕ
operation_of head = asked_by (head_sent head) (target_sent head)
