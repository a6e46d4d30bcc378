-- Laws of a run, step by step.
pub mod RunLaws
