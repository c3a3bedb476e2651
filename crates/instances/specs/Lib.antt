-- ---- definitions to believe
pub mod Seats
-- ---- laws
pub mod SeatLaws
pub mod SeatOrder
