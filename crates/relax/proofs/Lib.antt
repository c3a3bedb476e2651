-- ---- laws
pub mod Anchor
