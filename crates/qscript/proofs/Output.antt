-- Text printed and bytes written, piece by piece.
pub mod Going
pub mod Extended
pub mod OneLine
