-- ---- definitions to believe
pub mod Domain
pub mod Task
-- ---- laws
pub mod TaskLaws
pub mod Bridge
