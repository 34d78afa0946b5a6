-- Which program a text is, or the first rule that it breaks: its tokens come first, then its tree, then its types.
use Rattle.std.specs.Prelude.{◌≡◌, ℕ, List, Result}
use Rattle.pl_types.specs.declared.refusal.Refusal.{Refusal}
use Rattle.pl_parser.specs.pl_lexer_declared.token.Token.{Token}
use Rattle.pl_parser.specs.Tokens.{Lexes}
use Rattle.pl_parser.specs.PlainParses.{PlainParses}
use Rattle.pl_parser.specs.pl_tree_declared.tree.Tree.{Tree}
use Rattle.static_types.specs.Allow.{AllowList, class_named_of}
use Rattle.static_types.specs.typing_rules_declared.header.ContextTypes.{ContextTypes}
use Rattle.static_types.specs.Typing.{typing_of}
use Rattle.typed_tree.specs.declared.program.Program.{Program}
use Rattle.script_engine.specs.Stages.{Then}

-- which program a tree is, under a list of what is allowed
abbrev pub TypesTree : AllowList → ContextTypes → Tree → Result Program Refusal → Type 0
TypesTree allow context tree answer = answer ≡ typing_of allow context tree

-- which program the tokens of a text are
abbrev pub TypesTokens : AllowList → ContextTypes → List ℕ → List Token → Result Program Refusal → Type 0
TypesTokens allow context text tokens = Then (PlainParses text tokens) (TypesTree allow context)

-- which program a text is, where names mean the classes and the members of a list
abbrev pub IsProgramOf : AllowList → ContextTypes → List ℕ → Result Program Refusal → Type 0
IsProgramOf allow context text = Then (Lexes text (class_named_of allow)) (TypesTokens allow context text)
