-- ---- definitions to believe
pub mod Cells
