-- ---- definitions to believe
pub mod Sizes
