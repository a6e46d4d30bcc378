-- Laws of flags: bits of a number, then what stays right of a table's flags.
pub mod Bits
pub mod Flags
