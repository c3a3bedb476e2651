-- ---- definitions to believe
pub mod Lines
pub mod Text
-- ---- laws
pub mod Steps
pub mod Unique
pub mod RoundTrip
