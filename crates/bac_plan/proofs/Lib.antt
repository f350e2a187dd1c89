mod AskedLemmas
mod FreshLemmas
mod Grouped
mod IdLemmas
mod NamedLemmas
mod NamingLemmas
mod Polled
mod Shares
mod SiteLemmas
mod StoppedLemmas
mod Changed
mod OwnIds
pub mod Stored
mod Told
