pub mod Hmac
pub mod Mac
pub use Rattle.sha2.specs.Sha256
