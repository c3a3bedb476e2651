-- ---- definitions to believe
pub mod Script
pub mod Text
-- ---- laws
pub mod Steps
pub mod Walk
pub mod Unique
pub mod RoundTrip
pub mod Fault
pub mod Ahead
