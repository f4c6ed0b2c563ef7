pub mod Codes
pub mod ContentType
pub mod Laws
pub mod Metadata
pub mod Rules
