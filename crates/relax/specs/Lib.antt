-- ---- definitions to believe
pub mod Relax
-- ---- laws
pub mod Coarse
