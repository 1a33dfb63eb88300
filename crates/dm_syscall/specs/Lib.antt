pub mod Calls
pub mod Numbers
pub mod Sends
pub mod Plainly
pub mod Completing
