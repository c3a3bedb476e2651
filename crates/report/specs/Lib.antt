-- ---- definitions to believe
pub mod Print
pub mod PlanText
pub mod IntervalText
-- ---- laws
pub mod Printing
pub mod Bounds
pub mod Entries
