-- ---- definitions to believe
pub mod Graph
pub mod Parts
-- ---- laws
pub mod Laws
