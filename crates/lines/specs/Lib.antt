-- ---- definitions to believe
pub mod Lines
-- ---- laws
pub mod Shown
pub mod Numbers
