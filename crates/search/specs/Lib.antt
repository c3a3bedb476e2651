-- ---- definitions to believe
pub mod Search
-- ---- laws
pub mod StageLaws
