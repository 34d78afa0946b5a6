-- How deep brackets nest, and how far a token reaches.
--
-- An opening bracket opens a level, and a closing one ends a level if one is open. A token stands in the innermost level that is
-- open around it, and a bracket in the level outside the one that it opens or ends. A separator is a `,`, or a `;` or a `}` that
-- `else` does not follow. A level's share at a token is the number of tokens that stand in it since its last separator before the
-- token, the token included. The reach at a token is the sum of the shares of the open levels and of the outermost.
use Rattle.std.specs.Prelude.{ℕ, ◌+◌, Bool, true, false, not, ◌&&◌, ◌||◌, nat_lt, nat_le, cond, List, [], ◌∷◌, length, sum, Option, Some, None}
use Rattle.pl_lexer.specs.declared.token.Token.{Token}
use Rattle.pl_lexer.specs.declared.token.Kind.{Kind}
use Rattle.pl_lexer.specs.declared.token.Kind.TheVariants as k
use Rattle.pl_lexer.specs.declared.token.Word.TheVariants as w
use Rattle.pl_lexer.specs.declared.token.Sign.TheVariants as g

abbrev pub opens : Kind → Bool
opens (k.Sign g.LeftParen) = true
opens (k.Sign g.LeftBracket) = true
opens (k.Sign g.LeftBrace) = true
opens _ = false

abbrev pub shuts : Kind → Bool
shuts (k.Sign g.RightParen) = true
shuts (k.Sign g.RightBracket) = true
shuts (k.Sign g.RightBrace) = true
shuts _ = false

abbrev pub is_else : List Token → Bool
is_else [] = false
is_else (t ∷ ts) = by t.kind
  where
    by : Kind → Bool
    by (k.Word w.Else) = true
    by _ = false

-- whether a token separates, before these
abbrev pub separates : Kind → List Token → Bool
separates (k.Sign g.Comma) after = true
separates (k.Sign g.Semicolon) after = not (is_else after)
separates (k.Sign g.RightBrace) after = not (is_else after)
separates _ after = false

-- the share of the innermost level, and those of the levels outside it, from the inside
pub record Shares : Type 0 where
  pub inner : ℕ
  pub outer : List ℕ

abbrev pub outside_of : ℕ → List ℕ → Shares
outside_of inner [] = record { inner = inner; outer = [] }
outside_of inner (share ∷ outer) = record { inner = share; outer = outer }

-- without the innermost level, if one is open
abbrev pub outside : Shares → Shares
outside shares = outside_of shares.inner shares.outer

-- with the token counted
abbrev pub counted : Kind → Shares → Shares
counted kind shares =
    let around : Shares = cond (shuts kind) (outside shares) shares in
    record { inner = around.inner + 1; outer = around.outer }

-- the 201st bracket that is open at once, or a reach above 1,000
abbrev pub is_deep : Kind → Shares → Bool
is_deep kind shares = (opens kind && nat_le 200 (length shares.outer)) || nat_lt 1000 (shares.inner + sum shares.outer)

-- after the token
abbrev pub left_by : Kind → List Token → Shares → Shares
left_by kind after shares =
    cond (opens kind) (record { inner = 0; outer = shares.inner ∷ shares.outer })
    (cond (separates kind after) (record { inner = 0; outer = shares.outer }) shares)

-- where the first token that breaks the rule begins
abbrev pub deep_from : Shares → List Token → Option ℕ
deep_from shares [] = None
deep_from shares (t ∷ ts) =
    let now : Shares = counted t.kind shares in
    cond (is_deep t.kind now) (Some t.start) (deep_from (left_by t.kind ts now) ts)

abbrev pub nesting_fault : List Token → Option ℕ
nesting_fault tokens = deep_from (record { inner = 0; outer = [] }) tokens
