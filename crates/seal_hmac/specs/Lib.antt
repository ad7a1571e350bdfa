pub mod Digests
pub mod Fed
pub mod Hmac
pub mod Keys
pub mod Seal
