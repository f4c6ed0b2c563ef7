-- What a head asks for, and of which bucket and which key, and the faults of routing in their order.
use Rattle.std.specs.Prelude.{ℕ, not, ◌==◌, if◌then◌else◌, List, length, codes, Option, ok_or, Result, Ok, Err}
use Rattle.s3_names.specs.Names.{bucket_name, object_key}
use Rattle.s3_terms.specs.Fault.{refuse, ◌>>◌, ◌>>=◌}
use Rattle.s3_terms.specs.declared.code.Code.{Code}
use Rattle.s3_terms.specs.declared.code.Code.TheVariants.{InvalidRequest, InvalidStorageClass, NotImplemented, MethodNotAllowed}
use Rattle.s3_terms.specs.declared.dialect.Dialect.{Dialect}
use Rattle.s3_terms.specs.declared.dialect.Dialect.TheVariants.{Json, S3}
use Rattle.s3_config.specs.Settings.{Settings}
use Rattle.s3_http_heads.specs.Method.{method_of}
use Rattle.s3_http_heads.specs.Head.{HeadParts}
use Rattle.s3_http_heads.specs.Target.{TargetParts, has_parameter}
use Rattle.s3_prefixes.specs.declared.asked.ListVersion.{ListVersion}
use Rattle.s3_prefixes.specs.declared.asked.ListVersion.TheVariants.{First, Second}
use Rattle.s3_requests.specs.declared.operations.Operation.{Operation}
use Rattle.s3_requests.specs.declared.operations.Operation.TheVariants as operations
use Rattle.s3_requests.specs.declared.routing.Plan.{Plan}
use Rattle.s3_requests.specs.declared.routing.Plan.TheVariants as plans
use Rattle.s3_requests.specs.declared.routing.KeyAsked.{KeyAsked}
use Rattle.s3_requests.specs.declared.routing.KeyAsked.TheVariants as key_asked
use Rattle.s3_machine.specs.declared.command.Command.TheVariants as commands
use Rattle.s3_machine.specs.declared.command.BucketCommand.{BucketCommand}
use Rattle.s3_machine.specs.declared.command.BucketCommand.TheVariants as bucket_commands
use Rattle.s3_machine.specs.declared.command.KeyCommand.{KeyCommand}
use Rattle.s3_machine.specs.declared.command.KeyCommand.TheVariants as key_commands
use Rattle.s3_machine.specs.declared.command.UploadCommand.TheVariants as upload_commands
use Rattle.s3_requests.specs.Addresses.{is_service, address_at}
use Rattle.s3_requests.specs.Arguments.{version_argument}
use Rattle.s3_requests.specs.ListArguments.{objects_asked_of, versions_asked_of, uploads_asked_of, parts_asked_of}
use Rattle.s3_requests.specs.UploadArguments.{upload_argument, part_argument}
use Rattle.s3_requests.specs.Copies.{object_copy_of, part_copy_of}
use Rattle.s3_requests.specs.Overrides.{overrides_asked}
use Rattle.s3_requests.specs.Protection.{is_protected}
use Rattle.s3_requests.specs.ReadConditions.{conditions_of}
use Rattle.s3_requests.specs.StorageClass.{asks_for_no_class}
use Rattle.s3_requests.specs.WriteCondition.{condition_of, deletion_said, tags_wanted}
use Rattle.s3_requests.specs.Description.{description_of}
use Rattle.s3_requests.specs.Operations.{service_operation, bucket_operation, key_operation, is_served}
use Rattle.s3_requests.specs.Unserved.{asks_for_more}

-- an operation that is there, that this server has, and of which the head asks for nothing more than that, and for no class that
-- is none
unfoldable pub served : Dialect → HeadParts → Option Operation → Result Operation Code
served dialect head found = do
  operation ← ok_or found MethodNotAllowed
  refuse (not (is_served dialect operation)) NotImplemented
  refuse (asks_for_more dialect operation head) NotImplemented
  refuse (asks_for_no_class dialect operation head) InvalidStorageClass
  Ok operation

-- the service's operations, with their arguments
abbrev pub service_plan_for : Operation → Result Plan Code
service_plan_for operations.ListBuckets = Ok (plans.Ready commands.ListBuckets)
service_plan_for other = Err NotImplemented

-- what is asked of the service
unfoldable pub service_plan : Dialect → HeadParts → Result Plan Code
service_plan dialect head = do
  operation ← served dialect head (service_operation (method_of head.method))
  service_plan_for operation

-- the name of the bucket that a target names
abbrev pub bucket_named : TargetParts → Result (List ℕ) Code
bucket_named target = bucket_name target.bucket

-- a list of objects in this version, with what is asked of it
abbrev pub list_of_objects : Dialect → ListVersion → TargetParts → Result BucketCommand Code
list_of_objects dialect version target = do
  asked ← objects_asked_of dialect version target
  Ok (bucket_commands.ListObjects asked)

-- ListObjects, where no other type of list is asked for
abbrev pub first_list : Dialect → TargetParts → Result BucketCommand Code
first_list dialect target = do
  refuse (has_parameter (codes "list-type") target) NotImplemented
  list_of_objects dialect First target

-- ListObjectVersions, with what is asked of the list
abbrev pub list_of_versions : Dialect → TargetParts → Result BucketCommand Code
list_of_versions dialect target = do
  asked ← versions_asked_of dialect target
  Ok (bucket_commands.ListVersions asked)

-- ListMultipartUploads, with what is asked of the list
abbrev pub list_of_uploads : Dialect → TargetParts → Result BucketCommand Code
list_of_uploads dialect target = do
  asked ← uploads_asked_of dialect target
  Ok (bucket_commands.ListUploads asked)

-- an operation on a bucket that needs no body, with its arguments
abbrev pub bucket_command_for : Dialect → Operation → TargetParts → Result BucketCommand Code
bucket_command_for dialect operations.HeadBucket target = Ok bucket_commands.Head
bucket_command_for dialect operations.DeleteBucket target = Ok bucket_commands.Delete
bucket_command_for dialect operations.GetBucketVersioning target = Ok bucket_commands.GetVersioning
bucket_command_for dialect operations.GetBucketLocation target = Ok bucket_commands.GetLocation
bucket_command_for dialect (operations.GetBucketConfiguration which) target = Ok (bucket_commands.GetConfiguration which)
bucket_command_for dialect operations.ListObjects target = first_list dialect target
bucket_command_for dialect operations.ListObjectsV2 target = list_of_objects dialect Second target
bucket_command_for dialect operations.ListObjectVersions target = list_of_versions dialect target
bucket_command_for dialect operations.ListMultipartUploads target = list_of_uploads dialect target
bucket_command_for dialect other target = Err NotImplemented

-- CreateBucket of this name, whose body may name this region; where documents are JSON it isn't read
abbrev pub creation_plan : Dialect → List ℕ → List ℕ → Plan
creation_plan Json name region = plans.Ready (commands.Bucket name bucket_commands.Create)
creation_plan S3 name region = plans.CreateBucket name region

-- DeleteObjects in the bucket of this name, where its body is protected
abbrev pub deletion_plan : List ℕ → HeadParts → Result Plan Code
deletion_plan name head = do
  refuse (not (is_protected head)) InvalidRequest
  Ok (plans.DeleteObjects name)

-- what is asked of the bucket itself
abbrev pub of_bucket : List ℕ → Result BucketCommand Code → Result Plan Code
of_bucket name command = do
  asked ← command
  Ok (plans.Ready (commands.Bucket name asked))

-- an operation on the bucket of this name, or on objects in it, with its arguments
abbrev pub plan_in_bucket : Settings → List ℕ → Operation → HeadParts → TargetParts → Result Plan Code
plan_in_bucket settings name operations.CreateBucket head target = Ok (creation_plan settings.dialect name settings.region)
plan_in_bucket settings name operations.PutBucketVersioning head target = Ok (plans.PutVersioning name settings.dialect)
plan_in_bucket settings name operations.DeleteObjects head target = deletion_plan name head
plan_in_bucket settings name other head target = of_bucket name (bucket_command_for settings.dialect other target)

-- what is asked of the bucket of this name, or of objects in it
unfoldable pub plan_of_bucket : Settings → List ℕ → HeadParts → TargetParts → Result Plan Code
plan_of_bucket settings name head target = do
  operation ← served settings.dialect head (bucket_operation (method_of head.method) target)
  plan_in_bucket settings name operation head target

-- CopyObject, with what it copies
abbrev pub copy_command : Dialect → HeadParts → TargetParts → Result KeyCommand Code
copy_command dialect head target = do
  copy ← object_copy_of dialect head target
  Ok (key_commands.Copy copy)

-- GetObject and HeadObject, whose reply leaves the bytes out
unfoldable pub read_command : Dialect → HeadParts → TargetParts → Result KeyCommand Code
read_command dialect head target = do
  version ← version_argument (codes "versionId") target
  overrides ← overrides_asked dialect target
  Ok (key_commands.Read (record { version = version; conditions = conditions_of head; overrides = overrides }))

-- GetObjectTagging
unfoldable pub tags_command : TargetParts → Result KeyCommand Code
tags_command target = do
  version ← version_argument (codes "versionId") target
  Ok (key_commands.ReadTags version)

-- DeleteObject, on the condition that its head sets
unfoldable pub delete_command : Dialect → HeadParts → TargetParts → Result KeyCommand Code
delete_command dialect head target = do
  version ← version_argument (codes "versionId") target
  deletion_said version (tags_wanted dialect head)

-- CreateMultipartUpload, with what the head says of the object
abbrev pub begin_command : Dialect → HeadParts → Result KeyCommand Code
begin_command dialect head = do
  said ← description_of dialect head
  Ok (key_commands.Begin said)

-- an operation on a key that needs no body, with its arguments
unfoldable pub key_command_for : Dialect → Operation → HeadParts → TargetParts → Result KeyCommand Code
key_command_for dialect operations.CopyObject head target = copy_command dialect head target
key_command_for dialect operations.GetObject head target = read_command dialect head target
key_command_for dialect operations.HeadObject head target = read_command dialect head target
key_command_for dialect operations.GetObjectTagging head target = tags_command target
key_command_for dialect operations.DeleteObject head target = delete_command dialect head target
key_command_for dialect operations.CreateMultipartUpload head target = begin_command dialect head
key_command_for dialect other head target = Err NotImplemented

-- PutObject, with what the head says of the object, and its condition
unfoldable pub put_plan : Dialect → HeadParts → Result KeyAsked Code
put_plan dialect head = do
  said ← description_of dialect head
  condition ← condition_of dialect head
  Ok (key_asked.Put said condition)

-- UploadPart, with its part
abbrev pub part_plan : TargetParts → Result KeyAsked Code
part_plan target = do
  part ← part_argument target
  Ok (key_asked.PutPart part.0 part.1)

-- UploadPartCopy, with its part, and what it copies
unfoldable pub part_copy_plan : Dialect → HeadParts → TargetParts → Result KeyAsked Code
part_copy_plan dialect head target = do
  part ← part_argument target
  copy ← part_copy_of dialect head
  Ok (key_asked.Upload part.0 (upload_commands.CopyPart part.1 copy))

-- ListParts, with what is asked of the list, and its upload
unfoldable pub parts_plan : TargetParts → Result KeyAsked Code
parts_plan target = do
  asked ← parts_asked_of target
  id ← upload_argument target
  Ok (key_asked.Upload id (upload_commands.ListParts asked))

-- CompleteMultipartUpload, with its upload, its condition, and the dialect of the document that it brings
unfoldable pub complete_plan : Dialect → HeadParts → TargetParts → Result KeyAsked Code
complete_plan dialect head target = do
  id ← upload_argument target
  condition ← condition_of dialect head
  Ok (key_asked.Complete id dialect condition)

-- AbortMultipartUpload, with its upload
abbrev pub abort_plan : TargetParts → Result KeyAsked Code
abort_plan target = do
  id ← upload_argument target
  Ok (key_asked.Upload id upload_commands.Abort)

-- what is asked of the key itself
abbrev pub of_key : Result KeyCommand Code → Result KeyAsked Code
of_key command = do
  asked ← command
  Ok (key_asked.Key asked)

-- an operation on a key, or on an upload to it, with its arguments
abbrev pub asked_for : Dialect → Operation → HeadParts → TargetParts → Result KeyAsked Code
asked_for dialect operations.PutObject head target = put_plan dialect head
asked_for dialect operations.UploadPart head target = part_plan target
asked_for dialect operations.UploadPartCopy head target = part_copy_plan dialect head target
asked_for dialect operations.ListParts head target = parts_plan target
asked_for dialect operations.CompleteMultipartUpload head target = complete_plan dialect head target
asked_for dialect operations.AbortMultipartUpload head target = abort_plan target
asked_for dialect other head target = of_key (key_command_for dialect other head target)

-- what is asked of a key, or of an upload to it
unfoldable pub key_plan : Dialect → HeadParts → TargetParts → Result KeyAsked Code
key_plan dialect head target = do
  operation ← served dialect head (key_operation (method_of head.method) head target)
  asked_for dialect operation head target

-- the plan of what is asked of this key
abbrev pub plan_under : List ℕ → List ℕ → KeyAsked → Plan
plan_under bucket key (key_asked.Key asked) = plans.Ready (commands.Key bucket key asked)
plan_under bucket key (key_asked.Upload id asked) = plans.Ready (commands.Upload bucket key id asked)
plan_under bucket key (key_asked.Put said condition) = plans.Put bucket key said condition
plan_under bucket key (key_asked.PutPart id number) = plans.PutPart bucket key id number
plan_under bucket key (key_asked.Complete id dialect condition) = plans.Complete bucket key id dialect condition

-- what is asked of a key in the bucket of this name
abbrev pub plan_of_key : Dialect → List ℕ → HeadParts → TargetParts → Result Plan Code
plan_of_key dialect name head target = do
  key ← object_key target.key
  asked ← key_plan dialect head target
  Ok (plan_under name key asked)

-- what is asked of a bucket, or of a key in it; where the key is empty, the bucket is meant
unfoldable pub named_plan : Settings → HeadParts → TargetParts → Result Plan Code
named_plan settings head target = do
  name ← bucket_named target
  if length target.key == 0 then plan_of_bucket settings name head target else plan_of_key settings.dialect name head target

-- what the head asks for
unfoldable pub route_of : Settings → HeadParts → Result Plan Code
route_of settings head = do
  target ← address_at settings.dialect head
  if is_service target then service_plan settings.dialect head else named_plan settings head target
