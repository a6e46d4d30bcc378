-- Laws of what a tick leaves as it was, of its steps, of its report and its flags, and of what its functions ask.
pub mod Kept
pub mod Steps
pub mod Told
pub mod Flags
pub mod Empty
pub mod Linking
