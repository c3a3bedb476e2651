-- The lemma: the claim at each row of the table holds.
pub mod Cases
