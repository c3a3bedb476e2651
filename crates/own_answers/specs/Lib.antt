-- ---- laws
pub mod OwnPlan
pub mod Refusals
pub mod Own
