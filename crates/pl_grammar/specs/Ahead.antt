-- What the tokens ahead tell, where the first does not: an automaton over classes of tokens.
-- It stops at the first token that tells, and what leads to a state that is not final begins each production that may be told.
use Rattle.std.specs.Prelude.{Bool, true, false, List, [], ◌∷◌}
use Rattle.pl_grammar.specs.declared.terminal.Terminal.{Terminal}
use Rattle.pl_grammar.specs.declared.terminal.Terminal.TheVariants as t
use Rattle.pl_grammar.specs.declared.ahead.Seen.{Seen}
use Rattle.pl_grammar.specs.declared.ahead.Seen.TheVariants as s
use Rattle.pl_grammar.specs.Lexeme.{Lexeme, class_of}

-- with one token more
abbrev pub sees : Seen → Terminal → Seen
sees s.Start t.Name = s.Word
sees s.Start t.Basic = s.Known
sees s.Start t.Class = s.Known
sees s.Start t.LeftParen = s.Round
sees s.Word t.Name = s.Typed
sees s.Word t.Arrow = s.Arrow
sees s.Word t.In = s.In
sees s.Word t.ColonColon = s.Reference
sees s.Word t.LeftBracket = s.WordOpen
sees s.WordOpen t.RightBracket = s.WordPairs
sees s.WordPairs t.LeftBracket = s.WordPairsOpen
sees s.WordPairs t.Name = s.Typed
sees s.WordPairs t.ColonColon = s.Reference
sees s.WordPairs terminal = s.Array
sees s.WordPairsOpen t.RightBracket = s.WordPairs
sees s.WordPairsOpen terminal = s.Array
sees s.Known t.LeftBracket = s.KnownOpen
sees s.Known t.Name = s.Typed
sees s.Known t.ColonColon = s.Reference
sees s.KnownOpen t.RightBracket = s.Known
sees s.Typed t.LeftParen = s.Function
sees s.Typed t.Colon = s.Each
sees s.Typed terminal = s.Declared
sees s.Round t.Name = s.RoundWord
sees s.Round t.Basic = s.RoundKnown
sees s.Round t.Class = s.RoundKnown
sees s.Round t.RightParen = s.Listed
sees s.RoundWord t.Name = s.Listed
sees s.RoundWord t.Comma = s.Listed
sees s.RoundWord t.RightParen = s.RoundWordRound
sees s.RoundWord t.LeftBracket = s.RoundWordOpen
sees s.RoundWordRound t.Arrow = s.Listed
sees s.RoundWordOpen t.RightBracket = s.Listed
sees s.RoundKnown t.LeftBracket = s.RoundKnownOpen
sees s.RoundKnown t.Name = s.Listed
sees s.RoundKnownOpen t.RightBracket = s.RoundKnown
sees s.CastStart t.LeftParen = s.CastRound
sees s.CastRound t.Basic = s.CastKnown
sees s.CastRound t.Class = s.CastKnown
sees s.CastKnown t.LeftBracket = s.CastOpen
sees s.CastKnown t.RightParen = s.Cast
sees s.CastOpen t.RightBracket = s.CastKnown
sees s.Param t.Name = s.ParamWord
sees s.Param t.Basic = s.Declared
sees s.Param t.Class = s.Declared
sees s.ParamWord t.Name = s.Declared
sees s.ParamWord t.LeftBracket = s.Declared
sees s.Declared terminal = s.Declared
sees s.Function terminal = s.Function
sees s.Each terminal = s.Each
sees s.In terminal = s.In
sees s.Arrow terminal = s.Arrow
sees s.Reference terminal = s.Reference
sees s.Array terminal = s.Array
sees s.Listed terminal = s.Listed
sees s.Cast terminal = s.Cast
sees _ terminal = s.Other

-- with all of these
abbrev pub seen : Seen → List Lexeme → Seen
seen from [] = from
seen from (lexeme ∷ lexemes) = seen (sees from (class_of lexeme)) lexemes

-- no further token changes it
abbrev pub is_final : Seen → Bool
is_final s.Declared = true
is_final s.Function = true
is_final s.Each = true
is_final s.In = true
is_final s.Arrow = true
is_final s.Reference = true
is_final s.Array = true
is_final s.Listed = true
is_final s.Cast = true
is_final s.Other = true
is_final _ = false
