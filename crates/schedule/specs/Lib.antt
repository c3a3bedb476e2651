-- ---- laws
pub mod Served
