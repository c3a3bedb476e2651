-- ---- laws
pub mod Lag
