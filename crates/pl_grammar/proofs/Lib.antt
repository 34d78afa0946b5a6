pub mod Scan
mod Lexemes
