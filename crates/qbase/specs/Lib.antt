pub mod ByteSet
pub mod Errno
pub mod Copying
pub mod Priority
