-- The text of a run.
pub mod Words
pub mod Buffer
pub mod OpenLine
pub mod Printed
pub mod Printer
pub mod PrintingLaws
