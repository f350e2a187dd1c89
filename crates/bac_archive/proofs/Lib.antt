mod SchemaLemmas
pub mod AroundLemmas
pub mod AskLemmas
pub mod ReadLemmas
mod KnownLemmas
pub mod NewestLemmas
pub mod RowsLemmas
mod CreateLemmas
mod EndLemmas
pub mod ReplaceLemmas
pub mod LeftLemmas
mod InsertLemmas
mod ManyLemmas
mod ChangeLemmas
pub mod PutLemmas
mod LawLemmas
pub mod SpanLemmas
pub mod OrphanLemmas
pub mod KeepLemmas
pub mod ApartLemmas
mod FallLemmas
mod PartLemmas
pub mod ItemsLemmas
mod BesideLemmas
