-- Lists cell by cell; what an accepted call's arguments keep; tables and reports of the code in the definitions' words; when
-- they stand still.
pub mod Lists
pub mod Meaning
pub mod Still
