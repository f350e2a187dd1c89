pub mod FileGhosts
pub mod FilesLemmas
mod FolderLemmas
mod PartNames
mod PartsFound
mod WaitLemmas
