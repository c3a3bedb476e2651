-- ---- definitions to believe
pub mod Found
pub mod Kinds
-- ---- laws
pub mod Seen
pub mod Steps
