-- ---- definitions to believe
pub mod Check
pub mod Broken
-- ---- the parts of the check
pub mod Parts
-- ---- laws
pub mod Laws
pub mod Decide
pub mod BrokenLaws
