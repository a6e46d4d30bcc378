-- Laws: how `watch` starts, and what its steps print together.
pub mod Opening
pub mod Printed
pub mod Buffers
