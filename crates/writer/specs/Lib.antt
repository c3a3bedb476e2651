-- ---- definitions to believe
pub mod Wrote
-- ---- laws
pub mod Lines
pub mod Entries
