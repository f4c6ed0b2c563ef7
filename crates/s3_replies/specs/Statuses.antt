-- The statuses of the replies to what comes of commands (RFC 9110, sections 15.3 to 15.6; Amazon S3 API Reference, the
-- operations that are named).
use Rattle.s3_terms.specs.Code.{status_of}
use Rattle.s3_terms.specs.declared.status.Status.{Status}
use Rattle.s3_terms.specs.declared.status.Status.TheVariants as statuses
use Rattle.s3_conditions.specs.declared.conditions.Selection.{Selection}
use Rattle.s3_conditions.specs.declared.conditions.Selection.TheVariants.{Whole, Part, Unchanged, Outside}
use Rattle.s3_machine.specs.declared.command.Outcome.{Outcome}
use Rattle.s3_machine.specs.declared.command.Outcome.TheVariants as outcomes

-- the status of a reply that shows this of a version (sections 15.3.7, 15.4.5 and 15.5.17)
abbrev pub status_with : Selection → Status
status_with Whole = statuses.Ok
status_with (Part first last) = statuses.PartialContent
status_with Unchanged = statuses.NotModified
status_with Outside = statuses.RangeNotSatisfiable

-- the status of the reply to what came of a command: of what is gone nothing is told, and a refusal has the status of its code
abbrev pub reply_status : Outcome → Status
reply_status (outcomes.Told document) = statuses.Ok
reply_status (outcomes.BucketMade name) = statuses.Ok
reply_status (outcomes.BucketFound region) = statuses.Ok
reply_status outcomes.BucketDropped = statuses.NoContent
reply_status outcomes.VersioningSet = statuses.Ok
reply_status (outcomes.BucketVersioning versioning) = statuses.Ok
reply_status (outcomes.Put tag shown) = statuses.Ok
reply_status (outcomes.Got found selection overrides) = status_with selection
reply_status (outcomes.NoTags shown) = statuses.Ok
reply_status (outcomes.OutOfRange size) = statuses.RangeNotSatisfiable
reply_status (outcomes.Copied tag moment shown) = statuses.Ok
reply_status (outcomes.PartPut tag) = statuses.Ok
reply_status (outcomes.PartCopied tag moment source) = statuses.Ok
reply_status (outcomes.Completed document tag shown) = statuses.Ok
reply_status outcomes.UploadDropped = statuses.NoContent
reply_status (outcomes.Deleted shown is_delete_marker) = statuses.NoContent
reply_status (outcomes.Refused code is_delete_marker) = status_of code
