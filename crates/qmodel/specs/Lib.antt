pub mod Trace
pub mod Buffers
pub mod Kinds
pub mod OpenCalls
pub mod Operands
