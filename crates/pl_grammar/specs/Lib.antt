pub mod Lexeme
pub mod Ahead
pub mod Making
pub mod Firsts
pub mod Grammar
pub mod Derives
pub mod Reading
pub mod Parses
