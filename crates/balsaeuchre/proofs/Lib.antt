pub mod MarkLaws
pub mod SeenCompletions
