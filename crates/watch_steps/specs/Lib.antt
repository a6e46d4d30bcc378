-- What `watch` prints for both texts; then the layer below, of the code that prints it step by step.
pub mod Watch
pub mod Steps
