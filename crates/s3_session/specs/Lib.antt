pub mod Admission
pub mod Admitting
pub mod Decision
pub mod Fault
pub mod Incoming
pub mod Invitation
pub mod Laws
pub mod Output
pub mod PrintedFault
pub mod ReadBack
pub mod Replay
pub mod Session
pub mod Stands
pub mod Verdict
pub mod Verified
pub mod Walk
pub use Rattle.s3_http_heads.specs.Find
pub use Rattle.s3_http_heads.specs.Head
pub use Rattle.s3_http_heads.specs.BodyLength
pub use Rattle.s3_signing.specs.Verdict as Signing
pub use Rattle.s3_payloads.specs.Form
pub use Rattle.s3_payloads.specs.Verdict as Payloads
pub use Rattle.s3_framed_bodies.specs.Framed
pub use Rattle.s3_framed_bodies.specs.Verdict as Bodies
pub use Rattle.s3_requests.specs.Commands
pub use Rattle.s3_requests.specs.Routing
pub use Rattle.s3_machine.specs.Step
pub use Rattle.s3_machine.specs.History
pub use Rattle.s3_replies.specs.Replies
