-- The codes of refusals, by the project's table of codes (docs/PROTOCOL.md); all names but
-- MalformedHead, HeadTooLarge and MalformedBody are those of the Amazon S3 API Reference, "Error
-- responses".
use Rattle.std.specs.Prelude.{ℕ, List, codes}
use Rattle.s3_terms.specs.declared.code.Code.{Code}
use Rattle.s3_terms.specs.declared.status.Status.{Status}
use Rattle.s3_terms.specs.declared.status.Status.TheVariants as statuses
use Rattle.s3_terms.specs.declared.code.Code.TheVariants.{MalformedHead, HeadTooLarge, NotImplemented, InvalidRequest, MissingContentLength, EntityTooLarge, InvalidURI, AccessDenied, AuthorizationHeaderMalformed, RequestTimeTooSkewed, InvalidArgument, InvalidAccessKeyId, SignatureDoesNotMatch, InvalidDigest, InvalidBucketName, KeyTooLongError, MethodNotAllowed, MetadataTooLarge, NoSuchUpload, IncompleteBody, XAmzContentSHA256Mismatch, BadDigest, MalformedBody, NoSuchBucket, BucketAlreadyOwnedByYou, BucketNotEmpty, NoSuchKey, NoSuchVersion, PreconditionFailed, InvalidRange, InvalidPartOrder, InvalidPart, EntityTooSmall, InternalError, AuthorizationQueryParametersError, MalformedXML, InvalidLocationConstraint, NoSuchBucketPolicy, NoSuchCORSConfiguration, NoSuchLifecycleConfiguration, NoSuchPublicAccessBlockConfiguration, NoSuchTagSet, NoSuchWebsiteConfiguration, ObjectLockConfigurationNotFoundError, OwnershipControlsNotFoundError, ReplicationConfigurationNotFoundError, ServerSideEncryptionConfigurationNotFoundError, InvalidStorageClass}

-- a row of the table: a code's number, its HTTP status, its name and its message
abbrev pub Row : Type 0
Row = ℕ × Status × List ℕ × List ℕ

-- the row of a code
abbrev pub row_of : Code → Row
row_of MalformedHead = (1, statuses.BadRequest, codes "MalformedHead", codes "The head is malformed.")
row_of HeadTooLarge = (2, statuses.BadRequest, codes "HeadTooLarge", codes "The head is too large.")
row_of NotImplemented = (3, statuses.NotImplemented, codes "NotImplemented", codes "This is not implemented.")
row_of InvalidRequest = (4, statuses.BadRequest, codes "InvalidRequest", codes "The request is invalid.")
row_of MissingContentLength = (5, statuses.LengthRequired, codes "MissingContentLength", codes "Content-Length is required.")
row_of EntityTooLarge = (6, statuses.BadRequest, codes "EntityTooLarge", codes "The body is too large.")
row_of InvalidURI = (7, statuses.BadRequest, codes "InvalidURI", codes "The target cannot be read.")
row_of AccessDenied = (8, statuses.Forbidden, codes "AccessDenied", codes "Access is denied.")
row_of AuthorizationHeaderMalformed = (9, statuses.BadRequest, codes "AuthorizationHeaderMalformed", codes "The authorization is malformed.")
row_of RequestTimeTooSkewed = (10, statuses.Forbidden, codes "RequestTimeTooSkewed", codes "The request time is too far off.")
row_of InvalidArgument = (11, statuses.BadRequest, codes "InvalidArgument", codes "An argument is invalid.")
row_of InvalidAccessKeyId = (12, statuses.Forbidden, codes "InvalidAccessKeyId", codes "The access key id is unknown.")
row_of SignatureDoesNotMatch = (13, statuses.Forbidden, codes "SignatureDoesNotMatch", codes "The signature does not match.")
row_of InvalidDigest = (14, statuses.BadRequest, codes "InvalidDigest", codes "The Content-MD5 is not valid.")
row_of InvalidBucketName = (15, statuses.BadRequest, codes "InvalidBucketName", codes "The bucket name is not valid.")
row_of KeyTooLongError = (16, statuses.BadRequest, codes "KeyTooLongError", codes "The key is too long.")
row_of MethodNotAllowed = (17, statuses.MethodNotAllowed, codes "MethodNotAllowed", codes "The method is not allowed here.")
row_of MetadataTooLarge = (18, statuses.BadRequest, codes "MetadataTooLarge", codes "The metadata is too large.")
row_of NoSuchUpload = (19, statuses.NotFound, codes "NoSuchUpload", codes "The upload does not exist.")
row_of IncompleteBody = (20, statuses.BadRequest, codes "IncompleteBody", codes "The body is incomplete.")
row_of XAmzContentSHA256Mismatch = (21, statuses.BadRequest, codes "XAmzContentSHA256Mismatch", codes "The body hash does not match.")
row_of BadDigest = (22, statuses.BadRequest, codes "BadDigest", codes "The body MD5 does not match.")
row_of MalformedBody = (23, statuses.BadRequest, codes "MalformedBody", codes "The body is not the expected JSON.")
row_of NoSuchBucket = (24, statuses.NotFound, codes "NoSuchBucket", codes "The bucket does not exist.")
row_of BucketAlreadyOwnedByYou = (25, statuses.Conflict, codes "BucketAlreadyOwnedByYou", codes "The bucket is already there.")
row_of BucketNotEmpty = (26, statuses.Conflict, codes "BucketNotEmpty", codes "The bucket is not empty.")
row_of NoSuchKey = (27, statuses.NotFound, codes "NoSuchKey", codes "The key does not exist.")
row_of NoSuchVersion = (28, statuses.NotFound, codes "NoSuchVersion", codes "The version does not exist.")
row_of PreconditionFailed = (29, statuses.PreconditionFailed, codes "PreconditionFailed", codes "A precondition failed.")
row_of InvalidRange = (30, statuses.RangeNotSatisfiable, codes "InvalidRange", codes "The range is not satisfiable.")
row_of InvalidPartOrder = (31, statuses.BadRequest, codes "InvalidPartOrder", codes "The parts are not in order.")
row_of InvalidPart = (32, statuses.BadRequest, codes "InvalidPart", codes "A listed part is not there.")
row_of EntityTooSmall = (33, statuses.BadRequest, codes "EntityTooSmall", codes "A part is too small.")
row_of InternalError = (34, statuses.InternalServerError, codes "InternalError", codes "")
row_of AuthorizationQueryParametersError = (35, statuses.BadRequest, codes "AuthorizationQueryParametersError", codes "The signing query is malformed.")
row_of MalformedXML = (36, statuses.BadRequest, codes "MalformedXML", codes "The body is not the expected XML.")
row_of InvalidLocationConstraint = (37, statuses.BadRequest, codes "InvalidLocationConstraint", codes "The location constraint is not this region.")
row_of NoSuchBucketPolicy = (38, statuses.NotFound, codes "NoSuchBucketPolicy", codes "The bucket has no policy.")
row_of NoSuchCORSConfiguration = (39, statuses.NotFound, codes "NoSuchCORSConfiguration", codes "The bucket has no CORS rules.")
row_of NoSuchLifecycleConfiguration = (40, statuses.NotFound, codes "NoSuchLifecycleConfiguration", codes "The bucket has no lifecycle rules.")
row_of NoSuchPublicAccessBlockConfiguration = (41, statuses.NotFound, codes "NoSuchPublicAccessBlockConfiguration", codes "The bucket blocks no public access.")
row_of NoSuchTagSet = (42, statuses.NotFound, codes "NoSuchTagSet", codes "The bucket has no tags.")
row_of NoSuchWebsiteConfiguration = (43, statuses.NotFound, codes "NoSuchWebsiteConfiguration", codes "The bucket is no website.")
row_of ObjectLockConfigurationNotFoundError = (44, statuses.NotFound, codes "ObjectLockConfigurationNotFoundError", codes "The bucket has no object lock.")
row_of OwnershipControlsNotFoundError = (45, statuses.NotFound, codes "OwnershipControlsNotFoundError", codes "The bucket has no ownership controls.")
row_of ReplicationConfigurationNotFoundError = (46, statuses.NotFound, codes "ReplicationConfigurationNotFoundError", codes "The bucket has no replication rules.")
row_of ServerSideEncryptionConfigurationNotFoundError = (47, statuses.NotFound, codes "ServerSideEncryptionConfigurationNotFoundError", codes "The bucket has no default encryption.")
row_of InvalidStorageClass = (48, statuses.BadRequest, codes "InvalidStorageClass", codes "The storage class is not valid.")

-- the code's number in the table
abbrev pub number_of : Code → ℕ
number_of code = (row_of code).0

-- the HTTP status of a refusal
abbrev pub status_of : Code → Status
status_of code = (row_of code).1

-- the text of the member `Code` of an error document
abbrev pub name_of : Code → List ℕ
name_of code = (row_of code).2

-- the text of the member `Message`; none for the code that has no document
abbrev pub message_of : Code → List ℕ
message_of code = (row_of code).3
