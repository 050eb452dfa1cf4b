pub mod Lines
pub mod Numbers
pub mod Parses
pub mod Readers
pub mod Sentences
pub mod Words
