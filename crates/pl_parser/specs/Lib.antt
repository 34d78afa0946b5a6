-- Definitions of the libraries below that clauses here speak of, passed on.
pub use Rattle.pl_grammar.specs.Lexeme
pub use Rattle.pl_grammar_plain.specs.PlainParses
pub use Rattle.pl_lexer.specs.Spelled
pub use Rattle.pl_lexer.specs.Tokens
pub use Rattle.pl_lexer.specs.declared as pl_lexer_declared
pub use Rattle.pl_tree.specs.declared as pl_tree_declared
