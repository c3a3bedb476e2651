-- ---- definitions to believe: the claims and their table
pub mod Claims
pub mod Table
-- ---- laws: the tests that show them
pub mod Tests
pub mod Lists
pub mod PlanTest
pub mod WalkTest
