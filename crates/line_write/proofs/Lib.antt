pub mod ResetLaws
pub mod TextLaws
