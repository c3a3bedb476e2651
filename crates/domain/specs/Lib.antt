pub mod Domain
pub mod Rows
pub mod Split
pub mod First
pub mod Empty
