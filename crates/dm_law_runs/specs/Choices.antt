-- What exploring leaves out, and what an answer says, by file.
pub mod Chosen
pub mod Laws
pub mod RuleSight
pub mod ByRule
