-- ---- definitions to believe
pub mod IntervalLines
-- ---- laws
pub mod Small
pub mod Places
