-- ---- definitions to believe
pub mod Starts
