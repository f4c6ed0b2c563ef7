pub mod Codes
pub mod Completion
pub mod Laws
pub mod Parts
pub mod UploadCodes
pub mod Uploads
