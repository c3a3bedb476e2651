pub mod Saturation
pub mod SlotLaws
