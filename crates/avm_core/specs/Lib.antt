pub mod Machine
pub mod Steps
pub mod Arms
pub mod Programs
