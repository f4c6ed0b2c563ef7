pub mod BucketStepLemmas
pub mod CompletionLemmas
pub mod FindingLemmas
pub mod KeepingLemmas
pub mod PartStepLemmas
pub mod RowidLemmas
pub mod UploadStepLemmas
pub mod VersionStepLemmas
