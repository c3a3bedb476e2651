-- ---- definitions to believe
pub mod Listing
pub mod Prints
-- ---- laws
pub mod Shows
pub mod Printable
pub mod Answers
