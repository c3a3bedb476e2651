pub mod Support
pub mod SupportLaws
