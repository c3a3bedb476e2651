-- ---- definitions to believe
pub mod Table
pub mod Pipelined
-- ---- laws
pub mod Entries
pub mod Vacancies
pub mod Keeps
pub mod SameEntries
