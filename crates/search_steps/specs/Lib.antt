-- ---- definitions to believe
pub mod Steps
-- ---- laws
pub mod StepLaws
