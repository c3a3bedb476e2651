-- ---- definitions to believe
pub mod Box
pub mod Tree
pub mod Passes
pub mod At
pub mod Fault
-- ---- laws
pub mod BoxLaws
pub mod Sound
pub mod Complete
pub mod Theorems
pub mod Agree
pub mod FaultLaws
pub mod Entries
