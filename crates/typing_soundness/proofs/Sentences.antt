-- The statements of typing as trees.
use Rattle.std.proofs.Common.{◌≡◌, ℕ, List, [], ◌∷◌, map, Option, Some, None, refl, sym, ap, ◌∙◌}
use Rattle.typed_tree.specs.declared.typed.Typed.{Typed}
use Rattle.typed_tree.specs.declared.statement.StatementNode.{StatementNode}
use Rattle.typed_tree.specs.declared.statement.TypedStatement.{TypedStatement, roll-TypedStatement}
use Rattle.typed_tree.specs.declared.statement.TypedCatch.{TypedCatch}
use Rattle.typed_tree.specs.declared.statement.TypedVariable.{TypedVariable}
use Rattle.typed_tree.specs.declared.statement.StatementNode.TheVariants as n
use Rattle.typed_tree.specs.declared.statement.StatementNode.TheOpen.{StatementNode-F}
use Rattle.typed_tree.specs.declared.statement.StatementNode.TheFolds.{fold-StatementNode, fold-TypedCatch, fold-roll-TypedStatement, fold-roll-TypedCatch, fold-roll-StatementNode}
use Rattle.typing_rules.specs.declared.part.Caught.{Caught as Handler}
use Rattle.typing_rules.specs.Rules.Statements.{catch_of}
use Rattle.source_typing.specs.Tree.{Do, If, While, DoWhile, Try, Block, Break, Continue, Return, Throw, Stmts, Finish, Then, Catches, NoCatch, Catch}
use Rattle.source_typing.specs.Programs.{Before, Caught, expr_of, maybe_of, alone, alone_if, in_row, declared, begun, caught_in_row, catch_before, node_before, statement_before, before}

abbrev fold : StatementNode → Before
fold node = fold-StatementNode Before Caught Before node_before catch_before statement_before node

at_step : (at : ℕ) (does : StatementNode) → before (roll-TypedStatement (record { at = at; node = does })) ≡ fold does
unfolding before
at_step at does = fold-roll-TypedStatement Before Caught Before node_before catch_before statement_before (record { at = at; node = does })

abbrev pub before_if : Option TypedStatement → Option Before
before_if None = None
before_if (Some s) = Some (before s)

pub expression_is : (at : ℕ) (value : Typed) (rest : Stmts) → before (roll-TypedStatement (record { at = at; node = n.Expression value })) rest ≡ Then (Do (expr_of value)) rest
unfolding before
expression_is at value rest = ap (λ f. f rest) (at_step at (n.Expression value) ∙ (ap fold (sym (n.rolls-Expression value)) ∙ fold-roll-StatementNode Before Caught Before node_before catch_before statement_before (StatementNode-F.Expression value)))

pub declare_is : (at : ℕ) (xs : List TypedVariable) (rest : Stmts) → before (roll-TypedStatement (record { at = at; node = n.Declare xs })) rest ≡ declared xs rest
unfolding before
declare_is at xs rest = ap (λ f. f rest) (at_step at (n.Declare xs) ∙ (ap fold (sym (n.rolls-Declare xs)) ∙ fold-roll-StatementNode Before Caught Before node_before catch_before statement_before (StatementNode-F.Declare xs)))

pub block_is : (at : ℕ) (xs : List TypedStatement) (rest : Stmts) → before (roll-TypedStatement (record { at = at; node = n.Block xs })) rest ≡ Then (Block (in_row (map before xs) Finish)) rest
unfolding before
block_is at xs rest = ap (λ f. f rest) (at_step at (n.Block xs) ∙ (ap fold (sym (n.rolls-Block xs)) ∙ fold-roll-StatementNode Before Caught Before node_before catch_before statement_before (StatementNode-F.Block xs)))

pub if_is : (at : ℕ) (c : Typed) (a : TypedStatement) (b : Option TypedStatement) (rest : Stmts) → before (roll-TypedStatement (record { at = at; node = n.If c a b })) rest ≡ Then (If (expr_of c) (alone (before a)) (alone_if (before_if b))) rest
unfolding before
if_is at c a None rest = ap (λ f. f rest) (at_step at (n.If c a None) ∙ (ap fold (sym (n.rolls-If c a None)) ∙ fold-roll-StatementNode Before Caught Before node_before catch_before statement_before (StatementNode-F.If c a None)))
if_is at c a (Some b) rest = ap (λ f. f rest) (at_step at (n.If c a (Some b)) ∙ (ap fold (sym (n.rolls-If c a (Some b))) ∙ fold-roll-StatementNode Before Caught Before node_before catch_before statement_before (StatementNode-F.If c a (Some b))))

pub loop_is : (at : ℕ) (f : Option TypedStatement) (c u : Option Typed) (b : Option TypedStatement) (rest : Stmts) → before (roll-TypedStatement (record { at = at; node = n.Loop f c u b })) rest ≡ Then (begun (before_if f) (While (maybe_of c) (maybe_of u) (alone_if (before_if b)))) rest
unfolding before
loop_is at None c u None rest = ap (λ f. f rest) (at_step at (n.Loop None c u None) ∙ (ap fold (sym (n.rolls-Loop None c u None)) ∙ fold-roll-StatementNode Before Caught Before node_before catch_before statement_before (StatementNode-F.Loop None c u None)))
loop_is at None c u (Some b) rest = ap (λ f. f rest) (at_step at (n.Loop None c u (Some b)) ∙ (ap fold (sym (n.rolls-Loop None c u (Some b))) ∙ fold-roll-StatementNode Before Caught Before node_before catch_before statement_before (StatementNode-F.Loop None c u (Some b))))
loop_is at (Some f) c u None rest = ap (λ f. f rest) (at_step at (n.Loop (Some f) c u None) ∙ (ap fold (sym (n.rolls-Loop (Some f) c u None)) ∙ fold-roll-StatementNode Before Caught Before node_before catch_before statement_before (StatementNode-F.Loop (Some f) c u None)))
loop_is at (Some f) c u (Some b) rest = ap (λ f. f rest) (at_step at (n.Loop (Some f) c u (Some b)) ∙ (ap fold (sym (n.rolls-Loop (Some f) c u (Some b))) ∙ fold-roll-StatementNode Before Caught Before node_before catch_before statement_before (StatementNode-F.Loop (Some f) c u (Some b))))

pub do_is : (at : ℕ) (b : TypedStatement) (c : Option Typed) (rest : Stmts) → before (roll-TypedStatement (record { at = at; node = n.Do b c })) rest ≡ Then (DoWhile (alone (before b)) (maybe_of c)) rest
unfolding before
do_is at b c rest = ap (λ f. f rest) (at_step at (n.Do b c) ∙ (ap fold (sym (n.rolls-Do b c)) ∙ fold-roll-StatementNode Before Caught Before node_before catch_before statement_before (StatementNode-F.Do b c)))

-- the catches of a `try`
abbrev pub catches_in : List Handler → Catches
catches_in [] = NoCatch
catches_in (x ∷ xs) = Catch x.class x.name (alone (before x.body.statement)) (catches_in xs)

abbrev fold_catch : TypedCatch → Caught
fold_catch c = fold-TypedCatch Before Caught Before node_before catch_before statement_before c

catch_is : (x : Handler) (rest : Catches) → fold_catch (catch_of x) rest ≡ Catch x.class x.name (alone (before x.body.statement)) rest
unfolding before
catch_is x rest = ap (λ f. f rest) (fold-roll-TypedCatch Before Caught Before node_before catch_before statement_before (record { at = x.at; class = x.class; name = x.name; body = x.body.statement }))

catches_are : (xs : List Handler) → caught_in_row (map fold_catch (map catch_of xs)) ≡ catches_in xs
catches_are [] = refl
catches_are (x ∷ xs) = catch_is x (caught_in_row (map fold_catch (map catch_of xs))) ∙ ap (λ rest. Catch x.class x.name (alone (before x.body.statement)) rest) (catches_are xs)

try_folds : (at : ℕ) (b : TypedStatement) (cs : List TypedCatch) (rest : Stmts) → before (roll-TypedStatement (record { at = at; node = n.Try b cs })) rest ≡ Then (Try (alone (before b)) (caught_in_row (map fold_catch cs))) rest
unfolding before
try_folds at b cs rest = ap (λ f. f rest) (at_step at (n.Try b cs) ∙ (ap fold (sym (n.rolls-Try b cs)) ∙ fold-roll-StatementNode Before Caught Before node_before catch_before statement_before (StatementNode-F.Try b cs)))

pub try_is : (at : ℕ) (b : TypedStatement) (xs : List Handler) (rest : Stmts) → before (roll-TypedStatement (record { at = at; node = n.Try b (map catch_of xs) })) rest ≡ Then (Try (alone (before b)) (catches_in xs)) rest
try_is at b xs rest = try_folds at b (map catch_of xs) rest ∙ ap (λ cs. Then (Try (alone (before b)) cs) rest) (catches_are xs)

pub break_is : (at : ℕ) (rest : Stmts) → before (roll-TypedStatement (record { at = at; node = n.Break })) rest ≡ Then Break rest
unfolding before
break_is at rest = ap (λ f. f rest) (at_step at n.Break ∙ (ap fold (sym (n.rolls-Break)) ∙ fold-roll-StatementNode Before Caught Before node_before catch_before statement_before StatementNode-F.Break))

pub continue_is : (at : ℕ) (rest : Stmts) → before (roll-TypedStatement (record { at = at; node = n.Continue })) rest ≡ Then Continue rest
unfolding before
continue_is at rest = ap (λ f. f rest) (at_step at n.Continue ∙ (ap fold (sym (n.rolls-Continue)) ∙ fold-roll-StatementNode Before Caught Before node_before catch_before statement_before StatementNode-F.Continue))

pub return_is : (at : ℕ) (v : Option Typed) (rest : Stmts) → before (roll-TypedStatement (record { at = at; node = n.Return v })) rest ≡ Then (Return (maybe_of v)) rest
unfolding before
return_is at v rest = ap (λ f. f rest) (at_step at (n.Return v) ∙ (ap fold (sym (n.rolls-Return v)) ∙ fold-roll-StatementNode Before Caught Before node_before catch_before statement_before (StatementNode-F.Return v)))

pub throw_is : (at : ℕ) (value : Typed) (rest : Stmts) → before (roll-TypedStatement (record { at = at; node = n.Throw value })) rest ≡ Then (Throw (expr_of value)) rest
unfolding before
throw_is at value rest = ap (λ f. f rest) (at_step at (n.Throw value) ∙ (ap fold (sym (n.rolls-Throw value)) ∙ fold-roll-StatementNode Before Caught Before node_before catch_before statement_before (StatementNode-F.Throw value)))
