-- ---- definitions to believe
pub mod Text
pub mod Answers
pub mod Fault
pub mod Lines
pub mod Bytes
-- ---- laws
pub mod Unique
pub mod Steps
pub mod Theorems
pub mod RoundTrip
pub mod Entries
