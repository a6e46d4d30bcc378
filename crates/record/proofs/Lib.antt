-- Laws of lists, of joining, of records, of a place's worth, of steps and of prices; the claims of specs/Observed, of specs/Claims
-- and of specs/AsBefore.
pub mod ListLaws
pub mod JoinedLaws
pub mod RecordLaws
pub mod PlaceLaws
pub mod Observed
pub mod StepLaws
pub mod PriceLaws
pub mod Claims
pub mod AsBefore
