pub mod Standing
pub mod Stream
pub mod Open
pub mod Walking
pub mod Fed
