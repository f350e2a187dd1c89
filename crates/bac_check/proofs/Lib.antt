pub mod HoleLemmas
pub mod TallyLemmas
pub mod EachLemmas
pub mod AskedLemmas
pub mod RowLemmas
pub mod CourseLemmas
pub mod WholeLemmas
