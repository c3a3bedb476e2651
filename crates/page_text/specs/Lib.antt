-- ---- definitions to believe
pub mod Columns
pub mod Page
pub mod Pipelined
-- ---- laws
pub mod Digits
pub mod Joining
pub mod Users
pub mod Widths
