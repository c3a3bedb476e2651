-- ---- what is asked of a leaf
pub mod Counted
-- ---- laws
pub mod Chain
pub mod Leaves
