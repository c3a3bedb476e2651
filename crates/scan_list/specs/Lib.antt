-- ---- definitions to believe
pub mod List
-- ---- laws
pub mod ListLaws
