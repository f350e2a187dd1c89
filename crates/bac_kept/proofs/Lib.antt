pub mod ItemsLemmas
pub mod RowsLemmas
pub mod PartsLemmas
pub mod ShownLemmas
pub mod RisingLemmas
pub mod LastLemmas
pub mod JsonLemmas
