pub mod Stages
pub mod Requests
pub mod Messages
pub mod Linked
pub mod WireSchedule
pub mod Link
pub mod Framed
pub mod Wire
