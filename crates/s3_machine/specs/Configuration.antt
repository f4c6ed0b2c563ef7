-- By which code S3 says that a bucket doesn't have a configuration (Amazon S3 API Reference, "Error responses", and the
-- operations that `Configuration` names).
use Rattle.s3_terms.specs.declared.code.Code.{Code}
use Rattle.s3_terms.specs.declared.code.Code.TheVariants as codes
use Rattle.s3_machine.specs.declared.configuration.Configuration.{Configuration}
use Rattle.s3_machine.specs.declared.configuration.Configuration.TheVariants.{Cors, Encryption, Lifecycle, ObjectLock, OwnershipControls, Policy, PublicAccessBlock, Replication, Tagging, Website}

abbrev pub absence_of : Configuration → Code
absence_of Cors = codes.NoSuchCORSConfiguration
absence_of Encryption = codes.ServerSideEncryptionConfigurationNotFoundError
absence_of Lifecycle = codes.NoSuchLifecycleConfiguration
absence_of ObjectLock = codes.ObjectLockConfigurationNotFoundError
absence_of OwnershipControls = codes.OwnershipControlsNotFoundError
absence_of Policy = codes.NoSuchBucketPolicy
absence_of PublicAccessBlock = codes.NoSuchPublicAccessBlockConfiguration
absence_of Replication = codes.ReplicationConfigurationNotFoundError
absence_of Tagging = codes.NoSuchTagSet
absence_of Website = codes.NoSuchWebsiteConfiguration
