-- ---- definitions to believe
pub mod Held
pub mod Seated
-- ---- laws
pub mod HeldLaws
pub mod Circle
