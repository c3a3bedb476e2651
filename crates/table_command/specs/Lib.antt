-- ---- definitions to believe
pub mod Prints
-- ---- laws
pub mod Widths
pub mod Small
pub mod Turns
pub mod Whole
pub mod Unique
