-- ---- definitions to believe
pub mod Node
pub mod Text
-- ---- laws
pub mod NodeLaws
pub mod Unique
pub mod RoundTrip
