-- ---- definitions to believe
pub mod Pairs
pub mod Answers
-- ---- laws
pub mod PairLaws
pub mod Unique
pub mod Entries
