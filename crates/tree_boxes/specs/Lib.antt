-- ---- the machine's bounds and their box
pub mod Within
pub mod Bounds
-- ---- laws
pub mod Cuts
pub mod Root
