-- ---- definitions to believe
pub mod Answers
-- ---- laws
pub mod Unique
pub mod Asking
pub mod Offers
pub mod Keeps
pub mod Change
pub mod SameEntries
