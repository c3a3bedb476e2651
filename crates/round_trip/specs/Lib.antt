-- Reading undoes writing, and writing undoes reading: by kind of line, then lines, then the whole sheet.

-- ---- definitions to believe
pub mod Accepted
-- ---- laws
pub mod All
pub mod Lawful
pub mod Lines
pub mod Short
