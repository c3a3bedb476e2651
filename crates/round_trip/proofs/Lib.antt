-- Laws: reading undoes writing, and writing undoes reading. They rest on specs/Accepted.antt, so a wrong definition there
-- fails here.
pub mod RoundTrip
pub mod Reading
