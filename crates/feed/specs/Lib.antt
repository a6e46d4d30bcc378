-- Definitions: what an opening and a feed hand back.
pub mod After
