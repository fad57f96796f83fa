pub mod NameEntries
