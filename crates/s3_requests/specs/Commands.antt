-- What a plan comes to with the body that came with its message, and the faults of that body.
use Rattle.std.specs.Prelude.{◌≡◌, ◌⊎◌, ℕ, ◌<◌, Bool, true, false, List, length, Option, is_some, Result, Ok}
use Rattle.s3_terms.specs.Fault.{◌>>◌, ◌>>=◌}
use Rattle.s3_terms.specs.declared.code.Code.{Code}
use Rattle.s3_terms.specs.declared.dialect.Dialect.{Dialect}
use Rattle.s3_names.specs.declared.ids.UploadId.{UploadId}
use Rattle.s3_integrity.specs.declared.checksum.Checksum.{Checksum}
use Rattle.s3_versions.specs.Metadata.{Entry}
use Rattle.s3_requests.specs.KeptSum.{with_sum}
use Rattle.s3_requests.specs.declared.routing.Plan.{Plan}
use Rattle.s3_requests.specs.declared.routing.Plan.TheVariants as plans
use Rattle.s3_machine.specs.declared.command.Command.{Command}
use Rattle.s3_machine.specs.declared.command.Command.TheVariants as commands
use Rattle.s3_machine.specs.declared.command.BucketCommand.TheVariants as bucket_commands
use Rattle.s3_machine.specs.declared.command.Description.{Description}
use Rattle.s3_machine.specs.declared.command.KeyCommand.TheVariants as key_commands
use Rattle.s3_machine.specs.declared.command.ObjectPut.{ObjectPut}
use Rattle.s3_machine.specs.declared.command.UploadCommand.TheVariants as upload_commands
use Rattle.s3_machine.specs.declared.command.WriteCondition.{WriteCondition}
use Rattle.s3_request_documents.specs.Completion.{completion_read}
use Rattle.s3_request_documents.specs.Deletion.{deletion_read}
use Rattle.s3_request_documents.specs.Location.{location_read}
use Rattle.s3_request_documents.specs.Versioning.{versioning_read}

-- CreateBucket, where the body may name this region
abbrev pub creation_command_of : List ℕ → List ℕ → List ℕ → Result Command Code
creation_command_of name region body = do
  location_read region body
  Ok (commands.Bucket name bucket_commands.Create)

-- PutBucketVersioning, with the status that the body names
abbrev pub versioning_command_of : List ℕ → Dialect → List ℕ → Result Command Code
versioning_command_of name dialect body = do
  status ← versioning_read dialect body
  Ok (commands.Bucket name (bucket_commands.PutVersioning status))

-- what is to be stored, with its body
abbrev pub put_of : List ℕ → List Entry → WriteCondition → List ℕ → ObjectPut
put_of content_type metadata condition body =
    record { content_type = content_type; metadata = metadata; condition = condition; payload = body }

-- PutObject, with the checksum that was found of its body among the metadata
abbrev pub put_command_of : List ℕ → List ℕ → Description → WriteCondition → Option Checksum → List ℕ → Result Command Code
put_command_of bucket key said condition sum body = do
  metadata ← with_sum sum said.metadata
  Ok (commands.Key bucket key (key_commands.Put (put_of said.content_type metadata condition body)))

-- CompleteMultipartUpload, with the parts that the body lists
abbrev pub completion_command_of : List ℕ → List ℕ → UploadId → Dialect → WriteCondition → List ℕ → Result Command Code
completion_command_of bucket key id dialect condition body = do
  listed ← completion_read dialect body
  Ok (commands.Upload bucket key id (upload_commands.Complete listed condition))

-- DeleteObjects, with the objects that the body names
abbrev pub deletion_command_of : List ℕ → List ℕ → Result Command Code
deletion_command_of bucket body = do
  deletion ← deletion_read body
  Ok (commands.DeleteObjects bucket deletion)

-- the command of a plan with the body that came, and the checksum that was found of it, if it can use the body; one that needs no
-- body leaves both out
unfoldable pub command_of : Plan → Option Checksum → List ℕ → Result Command Code
command_of (plans.Ready command) sum body = Ok command
command_of (plans.CreateBucket name region) sum body = creation_command_of name region body
command_of (plans.PutVersioning name dialect) sum body = versioning_command_of name dialect body
command_of (plans.Put bucket key said condition) sum body = put_command_of bucket key said condition sum body
command_of (plans.PutPart bucket key id number) sum body = Ok (commands.Upload bucket key id (upload_commands.PutPart number body))
command_of (plans.Complete bucket key id dialect condition) sum body = completion_command_of bucket key id dialect condition body
command_of (plans.DeleteObjects bucket) sum body = deletion_command_of bucket body

-- the plan reads a document from its body: a CreateBucket that isn't ready without, a PutBucketVersioning, a
-- CompleteMultipartUpload, or a DeleteObjects
abbrev pub reads_body : Plan → Bool
reads_body (plans.CreateBucket name region) = true
reads_body (plans.PutVersioning name dialect) = true
reads_body (plans.Complete bucket key id dialect condition) = true
reads_body (plans.DeleteObjects bucket) = true
reads_body other = false

-- the plan keeps a checksum of its body: a PutObject
abbrev pub keeps_sum : Plan → Bool
keeps_sum (plans.Put bucket key said condition) = true
keeps_sum other = false

-- the command takes memory: for a document in its body, where that isn't empty, or for a checksum
abbrev pub CommandTakes : Plan → Option Checksum → List ℕ → Type 0
CommandTakes plan sum body =
    ((reads_body plan ≡ true) × (0 < length body)) ⊎ ((keeps_sum plan ≡ true) × (is_some sum ≡ true))
