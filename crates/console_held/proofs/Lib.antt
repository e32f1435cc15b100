pub mod Asking
pub mod Replying
