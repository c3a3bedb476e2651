-- ---- definitions to believe
pub mod Prints
-- ---- laws
pub mod Printed
pub mod Unique
