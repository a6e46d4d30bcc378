-- When a cell holds no worth.
pub mod Mark
