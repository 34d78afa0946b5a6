use Rattle.std.proofs.Common.{is_ok, sym, refl, ap, arith, Some, None, Ok}
use Rattle.std.proofs.ResultArms.{chosen}
use Rattle.std.proofs.lemmas.List.{append-nil, drop-drop}
use Rattle.pl_lexer.specs.Lexeme.{blank, token}
use Rattle.pl_lexer.specs.Tokens.{no_spelling, foreign_spelling}
use Rattle.pl_lexer.proofs.Once.{Lexes-once}
use Rattle.pl_lexer.proofs.Cuts.{part_cut_is, all_cut, breaks_here, some_behind, none_behind, part_small}
use Rattle.pl_lexer.proofs.Spelled.{all_spelled}
use Rattle.pl_lexer.proofs.cutting.lex.Goals as goal

pub returns-in-Nothing-clause-exact : goal.returns-in-Nothing-clause-exact
returns-in-Nothing-clause-exact g c =
    rw c.refused-in-Nothing.ensures (breaks_here _ _ _ _ _ _ 1 c.loop-at.invariant (no_spelling (some_behind _ _ c.loop-at-test.true) c.in-Nothing.ensures refl))

pub returns-in-Nothing-clause-only : goal.returns-in-Nothing-clause-only
returns-in-Nothing-clause-only g c = λ reading reads.
    let wrong = no_spelling (some_behind _ _ c.loop-at-test.true) c.in-Nothing.ensures refl in
    rw c.refused-in-Nothing.ensures (Lexes-once _ _ _ _ (breaks_here _ _ _ _ _ _ 1 c.loop-at.invariant wrong) reads)

pub returns-in-Foreign-clause-exact : goal.returns-in-Foreign-clause-exact
returns-in-Foreign-clause-exact g c =
    let led = c.in-Foreign.ensures in
    rw c.refused-in-Foreign.ensures (breaks_here _ _ _ _ _ _ 19 c.loop-at.invariant (foreign_spelling led.0 led.1.0 led.1.1 refl))

pub returns-in-Foreign-clause-only : goal.returns-in-Foreign-clause-only
returns-in-Foreign-clause-only g c = λ reading reads.
    let led = c.in-Foreign.ensures in
    rw c.refused-in-Foreign.ensures (Lexes-once _ _ _ _ (breaks_here _ _ _ _ _ _ 19 c.loop-at.invariant (foreign_spelling led.0 led.1.0 led.1.1 refl)) reads)

pub loop-at-preserved-in-Blank : goal.loop-at-preserved-in-Blank
loop-at-preserved-in-Blank g c = part_cut_is _ _ _ _ _ _ _ _ _ None _ c.loop-at.invariant c.in-Blank.ensures (sym (append-nil _)) (sym (drop-drop c.in-Blank.length c.loop-at.at c.args.text.now)) refl

pub loop-at-preserved : goal.loop-at-preserved
loop-at-preserved g c =
    let pushed = chosen _ _ _ _ c.push.ensures.items (ap is_ok c.in_ok-push-in-Leading.was) in
    part_cut_is _ _ _ _ _ _ _ _ _ (Some c.in-Leading.kind) _ c.loop-at.invariant c.in-Leading.ensures pushed (sym (drop-drop c.in-Leading.length c.loop-at.at c.args.text.now)) c.is_dot-dot.ensures

pub returns-clause-exact : goal.returns-clause-exact
returns-clause-exact g c = all_cut _ _ _ _ _ _ (none_behind _ _ c.loop-at-test.false) c.loop-at.invariant

pub returns-clause-only : goal.returns-clause-only
returns-clause-only g c = λ reading reads. Lexes-once _ _ (Ok c.loop-at.tokens.items) reading (all_cut _ _ _ _ _ _ (none_behind _ _ c.loop-at-test.false) c.loop-at.invariant) reads

pub returns-clause-spelled : goal.returns-clause-spelled
returns-clause-spelled g c = all_spelled _ _ _ c.utf8.text (all_cut _ _ _ _ _ _ (none_behind _ _ c.loop-at-test.false) c.loop-at.invariant)

pub loop-at-smaller-in-Blank : goal.loop-at-smaller-in-Blank
loop-at-smaller-in-Blank g c = let small = part_small (g.N.TypeNames.class_of c.args.names.now) c.loop-at.dot c.args.text.now c.loop-at.at c.in-Blank.length blank c.in-Blank.ensures in omega (arith, small.0, small.1)

pub loop-at-smaller : goal.loop-at-smaller
loop-at-smaller g c = let small = part_small (g.N.TypeNames.class_of c.args.names.now) c.loop-at.dot c.args.text.now c.loop-at.at c.in-Leading.length (token c.in-Leading.kind) c.in-Leading.ensures in omega (arith, small.0, small.1)
