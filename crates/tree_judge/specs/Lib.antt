-- ---- definitions to believe
pub mod Reading
pub mod Text
-- ---- laws
pub mod ReadingLaws
pub mod Verdicts
pub mod RoundTrip
