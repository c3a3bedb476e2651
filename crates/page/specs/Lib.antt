-- ---- definitions to believe
pub mod Answers
pub mod Shows
-- ---- laws
pub mod Tables
pub mod Making
pub mod Unique
pub mod OfPlans
pub mod Alike
pub mod Determined
pub mod Starts
pub mod Paper
pub mod Entries
