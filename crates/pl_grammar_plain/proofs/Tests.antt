-- Tests on classes of tokens, by a look at each class.
use Rattle.std.proofs.Common.{◌≡◌, Bool, true, false, not, ◌&&◌, ◌||◌, List, [], ◌∷◌, refl, sym, subst, rules}
use denote.Enum.Bare.{same_true}
use Rattle.pl_grammar.specs.contracts.terminal.Terminal.{the_type}
use Rattle.pl_grammar.specs.declared.terminal.Terminal.{Terminal}
use Rattle.pl_grammar.specs.declared.terminal.Terminal.TheVariants as t
use Rattle.pl_grammar.specs.Lexeme.{same_terminal}

pub same_is : (a b : Terminal) → same_terminal a b ≡ true → a ≡ b
unfolding same_terminal
same_is a b e = same_true the_type (search rules) a b e

pub clash : false ≡ true → ⊥
clash e = cc

pub not_true : (b : Bool) → not b ≡ true → b ≡ false
not_true true e = absurd cc
not_true false e = refl

abbrev pub terminals : List Terminal
terminals = t.Name ∷ t.DotName ∷ t.DotInteger ∷ t.Integer ∷ t.Text ∷ t.Class ∷ t.Basic ∷ t.If ∷ t.Else ∷ t.While ∷ t.Do ∷ t.For ∷ t.In ∷ t.Jump ∷ t.Return ∷ t.New ∷ t.Try ∷ t.Catch ∷ t.Throw ∷ t.This ∷ t.Instanceof ∷ t.Constant ∷ t.LeftParen ∷ t.RightParen ∷ t.LeftBracket ∷ t.RightBracket ∷ t.LeftBrace ∷ t.RightBrace ∷ t.Dot ∷ t.Comma ∷ t.Semicolon ∷ t.Question ∷ t.Colon ∷ t.Elvis ∷ t.ColonColon ∷ t.Arrow ∷ t.Additive ∷ t.Multiplicative ∷ t.Step ∷ t.Negation ∷ t.Shift ∷ t.Relational ∷ t.Equality ∷ t.And ∷ t.Xor ∷ t.Or ∷ t.AndAnd ∷ t.OrOr ∷ t.Assign ∷ t.CompoundAssign ∷ t.End ∷ t.Known ∷ t.AnyWord ∷ []

abbrev pub every_of : List Terminal → (Terminal → Bool) → Bool
every_of [] P = true
every_of (c ∷ cs) P = P c && every_of cs P

abbrev pub every : (Terminal → Bool) → Bool
every P = every_of terminals P

abbrev is_among : Terminal → List Terminal → Bool
is_among c [] = false
is_among c (k ∷ ks) = same_terminal c k || is_among c ks

pub both_left : (a b : Bool) → a && b ≡ true → a ≡ true
both_left true b e = refl
both_left false b e = absurd cc

pub both_right : (a b : Bool) → a && b ≡ true → b ≡ true
both_right true b e = e
both_right false b e = absurd cc

pub both : (a b : Bool) → a ≡ true → b ≡ true → a && b ≡ true
both true b e f = f
both false b e f = absurd cc

every_of_holds : (cs : List Terminal) (P : Terminal → Bool) (c : Terminal) → is_among c cs ≡ true → every_of cs P ≡ true → P c ≡ true
every_of_holds [] P c i e = absurd cc
every_of_holds (k ∷ ks) P c i e =
    elim (same_terminal c k) as (λ (b : Bool). same_terminal c k ≡ b → b || is_among c ks ≡ true → P c ≡ true) [
      | true ↦ λ is j. subst (λ (q : Terminal). P q ≡ true) (sym (same_is c k is)) (both_left (P k) (every_of ks P) e)
      | false ↦ λ is j. every_of_holds ks P c j (both_right (P k) (every_of ks P) e)
    ] refl i

all_among : (c : Terminal) → is_among c terminals ≡ true
unfolding same_terminal
all_among t.Name = refl
all_among _ = refl

pub every_holds : (P : Terminal → Bool) (c : Terminal) → every P ≡ true → P c ≡ true
every_holds P c e = every_of_holds terminals P c (all_among c) e

pub every_of_is : (cs : List Terminal) (P : Terminal → Bool) → ((c : Terminal) → P c ≡ true) → every_of cs P ≡ true
every_of_is [] P h = refl
every_of_is (c ∷ cs) P h = both (P c) (every_of cs P) (h c) (every_of_is cs P h)

abbrev pub implies : Bool → Bool → Bool
implies a b = not a || b

follows_by : (a b : Bool) → implies a b ≡ true → a ≡ true → b ≡ true
follows_by true b e h = e
follows_by false b e h = absurd cc

-- one test in place of another, by a look at every token
pub tested : (a b : Terminal → Bool) (c : Terminal) → every (λ c. implies (a c) (b c)) ≡ true → a c ≡ true → b c ≡ true
tested a b c e h = follows_by (a c) (b c) (every_holds (λ c. implies (a c) (b c)) c e) h

pub same_implies : (a : Bool) → implies a a ≡ true
same_implies true = refl
same_implies false = refl
