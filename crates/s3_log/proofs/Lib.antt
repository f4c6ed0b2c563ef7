pub mod CutLemmas
pub mod KeyIdLemmas
pub mod LineLemmas
pub mod OperationLemmas
pub mod QueryLemmas
pub mod RoomLemmas
pub mod TextLemmas
