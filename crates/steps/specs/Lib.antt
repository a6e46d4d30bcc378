-- The steps of edges: what they say, and how they are made (for the code alone).
pub mod Steps
pub mod Made
