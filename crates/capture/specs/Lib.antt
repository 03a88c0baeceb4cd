pub mod Hexadecimal
pub mod Packets
pub mod Shown
pub mod Translations
pub mod Vocabulary
