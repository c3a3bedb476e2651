-- ---- definitions to believe
pub mod Line
pub mod Plain
-- ---- laws
pub mod RoundTrip
pub mod Values
pub mod OneLine
pub mod PlainLaws
