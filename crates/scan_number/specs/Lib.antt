-- ---- definitions to believe
pub mod Number
-- ---- laws
pub mod Bytes
pub mod Digits
