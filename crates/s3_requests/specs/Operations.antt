-- The table of S3's operations (Amazon S3 API Reference, "Actions", and POST Object): which one a request asks
-- for, by its method, by what its address names, and by the parameters and lines that tell operations apart; and
-- which of them this server has. Of several rows that apply the first one counts.
use Rattle.std.specs.Prelude.{Bool, true, false, ◌&&◌, ◌||◌, if◌then◌else◌, List, [], ◌∷◌, codes, Option, Some, None}
use Rattle.std.specs.Option.{option_map_or}
use Rattle.std.specs.Str.{bytes_eq}
use Rattle.s3_http_heads.specs.Head.{HeadParts, is_sent}
use Rattle.s3_http_heads.specs.Target.{TargetParts, has_parameter, first_parameter}
use Rattle.s3_http_heads.specs.declared.method.Method.{Method}
use Rattle.s3_http_heads.specs.declared.method.Method.TheVariants.{Get, Head, Put, Post, Delete, Other}
use Rattle.s3_terms.specs.declared.dialect.Dialect.{Dialect}
use Rattle.s3_terms.specs.declared.dialect.Dialect.TheVariants.{Json, S3}
use Rattle.s3_machine.specs.declared.configuration.Configuration.{Configuration}
use Rattle.s3_machine.specs.declared.configuration.Configuration.TheVariants as configurations
use Rattle.s3_requests.specs.declared.operations.Operation.{Operation}
use Rattle.s3_requests.specs.declared.operations.Operation.TheVariants.{ListBuckets, CreateBucket, HeadBucket, DeleteBucket, PutBucketVersioning, GetBucketVersioning, GetBucketLocation, GetBucketConfiguration, ListObjects, ListObjectsV2, ListObjectVersions, ListMultipartUploads, DeleteObjects, PostObject, PutObject, CopyObject, GetObject, HeadObject, GetObjectTagging, GetObjectPart, HeadObjectPart, DeleteObject, CreateMultipartUpload, UploadPart, UploadPartCopy, ListParts, CompleteMultipartUpload, AbortMultipartUpload}

-- the value of the first row whose condition holds, or the given one where none does
abbrev pub first_row : {A : Type 0} → List (Bool × A) → A → A
first_row [] otherwise = otherwise
first_row (row ∷ rows) otherwise = if row.0 then row.1 else first_row rows otherwise

-- the operations on the service
abbrev pub service_operation : Method → Option Operation
service_operation Get = Some ListBuckets
service_operation _ = None

-- the list is asked for in its second version
abbrev pub asks_for_second_list : TargetParts → Bool
asks_for_second_list target =
    option_map_or (λ value. bytes_eq value (codes "2")) (first_parameter (codes "list-type") target) false

-- the configuration of a bucket that is named
abbrev pub configuration_named : TargetParts → Option Configuration
configuration_named target =
    first_row (
    (has_parameter (codes "cors") target, Some configurations.Cors)
    ∷ (has_parameter (codes "encryption") target, Some configurations.Encryption)
    ∷ (has_parameter (codes "lifecycle") target, Some configurations.Lifecycle)
    ∷ (has_parameter (codes "object-lock") target, Some configurations.ObjectLock)
    ∷ (has_parameter (codes "ownershipControls") target, Some configurations.OwnershipControls)
    ∷ (has_parameter (codes "policy") target, Some configurations.Policy)
    ∷ (has_parameter (codes "publicAccessBlock") target, Some configurations.PublicAccessBlock)
    ∷ (has_parameter (codes "replication") target, Some configurations.Replication)
    ∷ (has_parameter (codes "tagging") target, Some configurations.Tagging)
    ∷ (has_parameter (codes "website") target, Some configurations.Website)
    ∷ []) None

-- GET of a bucket that names nothing of it
abbrev pub objects_read : TargetParts → Operation
objects_read target = first_row ((asks_for_second_list target, ListObjectsV2) ∷ []) ListObjects

-- GET of a bucket
abbrev pub bucket_read : TargetParts → Operation
bucket_read target =
    first_row (
    (has_parameter (codes "versioning") target, GetBucketVersioning)
    ∷ (has_parameter (codes "uploads") target, ListMultipartUploads)
    ∷ (has_parameter (codes "versions") target, ListObjectVersions)
    ∷ (has_parameter (codes "location") target, GetBucketLocation)
    ∷ []) (option_map_or GetBucketConfiguration (configuration_named target) (objects_read target))

-- PUT of a bucket
abbrev pub bucket_write : TargetParts → Operation
bucket_write target =
    first_row ((has_parameter (codes "versioning") target, PutBucketVersioning) ∷ []) CreateBucket

-- POST of a bucket
abbrev pub bucket_post : TargetParts → Operation
bucket_post target = first_row ((has_parameter (codes "delete") target, DeleteObjects) ∷ []) PostObject

-- the operations on a bucket
abbrev pub bucket_operation : Method → TargetParts → Option Operation
bucket_operation Get target = Some (bucket_read target)
bucket_operation Head target = Some HeadBucket
bucket_operation Put target = Some (bucket_write target)
bucket_operation Post target = Some (bucket_post target)
bucket_operation Delete target = Some DeleteBucket
bucket_operation Other target = None

-- GET of a key
abbrev pub key_read : TargetParts → Operation
key_read target =
    first_row (
    (has_parameter (codes "tagging") target, GetObjectTagging)
    ∷ (has_parameter (codes "uploadId") target, ListParts)
    ∷ (has_parameter (codes "partNumber") target, GetObjectPart)
    ∷ []) GetObject

-- HEAD of a key
abbrev pub key_head : TargetParts → Operation
key_head target = first_row ((has_parameter (codes "partNumber") target, HeadObjectPart) ∷ []) HeadObject

-- a part of an upload is named
abbrev pub names_part : TargetParts → Bool
names_part target = has_parameter (codes "partNumber") target || has_parameter (codes "uploadId") target

-- something that is stored is to be copied
abbrev pub names_source : HeadParts → Bool
names_source head = is_sent (codes "x-amz-copy-source") head

-- PUT of a key
abbrev pub key_write : HeadParts → TargetParts → Operation
key_write head target =
    first_row (
    (names_part target && names_source head, UploadPartCopy)
    ∷ (names_part target, UploadPart)
    ∷ (names_source head, CopyObject)
    ∷ []) PutObject

-- POST of a key
abbrev pub key_post : TargetParts → Option Operation
key_post target =
    first_row (
    (has_parameter (codes "uploads") target, Some CreateMultipartUpload)
    ∷ (has_parameter (codes "uploadId") target, Some CompleteMultipartUpload)
    ∷ []) None

-- DELETE of a key
abbrev pub key_delete : TargetParts → Operation
key_delete target = first_row ((has_parameter (codes "uploadId") target, AbortMultipartUpload) ∷ []) DeleteObject

-- the operations on a key
abbrev pub key_operation : Method → HeadParts → TargetParts → Option Operation
key_operation Get head target = Some (key_read target)
key_operation Head head target = Some (key_head target)
key_operation Put head target = Some (key_write head target)
key_operation Post head target = key_post target
key_operation Delete head target = Some (key_delete target)
key_operation Other head target = None

-- documents are XML
abbrev pub is_xml : Dialect → Bool
is_xml Json = false
is_xml S3 = true

-- this server has the operation: six of them where documents are XML alone, three not at all, and all others
abbrev pub is_served : Dialect → Operation → Bool
is_served dialect ListObjects = is_xml dialect
is_served dialect GetBucketLocation = is_xml dialect
is_served dialect (GetBucketConfiguration which) = is_xml dialect
is_served dialect DeleteObjects = is_xml dialect
is_served dialect GetObjectTagging = is_xml dialect
is_served dialect UploadPartCopy = is_xml dialect
is_served dialect PostObject = false
is_served dialect GetObjectPart = false
is_served dialect HeadObjectPart = false
is_served dialect other = true
