-- What each label does, with places, by file.
pub mod Calls
pub mod Acts
pub mod Receives
pub mod Answers
pub mod Serves
pub mod Creates
pub mod Boards
pub mod Managers
pub mod Takes
