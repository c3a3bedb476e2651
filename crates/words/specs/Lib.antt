-- ---- definitions to believe
pub mod Arguments
pub mod Requests
-- ---- laws
pub mod Laws
