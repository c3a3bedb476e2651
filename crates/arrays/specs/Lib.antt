-- ---- definitions to believe
pub mod Cut
