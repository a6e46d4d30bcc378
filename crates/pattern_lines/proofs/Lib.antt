-- Laws: a header's ranges.
pub mod Judgement
