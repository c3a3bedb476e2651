-- ---- definitions to believe
pub mod Read
pub mod Fault
-- ---- laws
pub mod Whole
pub mod Refusals
pub mod FaultLaws
