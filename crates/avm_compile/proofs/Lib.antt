mod WorkedPrograms
pub mod EndLaws
pub mod HeightLaws
pub mod LengthLaws
pub mod NameLaws
pub mod BlockLaws
pub mod EventLaws
pub mod RemoteLaws
pub mod WaitLaws
pub mod PlaceLaws
