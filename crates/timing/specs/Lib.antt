-- ---- definitions to believe
pub mod Answers
-- ---- laws
pub mod Floors
pub mod Served
pub mod Unique
pub mod Entries
pub mod Most
