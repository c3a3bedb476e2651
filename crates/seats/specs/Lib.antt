-- ---- definitions to believe
pub mod Seating
-- ---- laws
pub mod HoldLaws
pub mod SeatingLaws
