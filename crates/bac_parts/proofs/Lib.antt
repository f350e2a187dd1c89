pub mod ArchiveLemmas
pub mod FileLemmas
pub mod BegunLemmas
pub mod VisitLemmas
