-- ---- definitions to believe
pub mod Piece
-- ---- laws
pub mod PieceLaws
