use Rattle.std.proofs.Common.{rules, ◌∷◌, List, Ok, refl, arith}
use Rattle.std.proofs.lemmas.Grind.{common_steps}
use Rattle.pl_grammar.specs.Lexeme.{Lexeme}
use Rattle.pl_grammar.specs.Grammar.{TreeOf}
use Rattle.pl_grammar.specs.Reading.{and_then, read_form}
use Rattle.parse_tables.specs.Names.{form_of}
use Rattle.parse_values.specs.Values.{value_of}
use Rattle.parse_driver.specs.Control.{Whole}
use Rattle.parse_driver.proofs.Frames.{alone_read}
use Rattle.parse_driver.proofs.reader.read_phrase.Goals as goal

pub returns-in_err-begin : goal.returns-in_err-begin
returns-in_err-begin g c =
    let below = g.S.Actions.values c.args.stack.now in
    let stops = c.in_err-begin.ensures.read below (λ tree us. Ok (value_of (form_of c.args.form) tree ∷ below, us)) (λ tree us. rw c.new-control.ensures refl) in
    alone_read (read_form c.args.levels (form_of c.args.form) c.args.tokens.now) (λ tree. value_of (form_of c.args.form) tree ∷ below) c.from_residual.result c.args.tokens.now below (first_of (search rules, grind (arith, common_steps)))

pub run-requires : goal.run-requires
run-requires g c =
    let below = g.S.Actions.values c.args.stack.now in
    let next : TreeOf (form_of c.args.form) → List Lexeme → Whole = λ tree us. Ok (value_of (form_of c.args.form) tree ∷ below, us) in
    (and_then (read_form c.args.levels (form_of c.args.form) c.args.tokens.now) next, c.in_ok-begin.ensures.read below next (λ tree us. rw c.new-control.ensures refl))

pub returns : goal.returns
returns g c =
    let below = g.S.Actions.values c.args.stack.now in
    let next : TreeOf (form_of c.args.form) → List Lexeme → Whole = λ tree us. Ok (value_of (form_of c.args.form) tree ∷ below, us) in
    let read = read_form c.args.levels (form_of c.args.form) c.args.tokens.now in
    alone_read read (λ tree. value_of (form_of c.args.form) tree ∷ below) c.run.result c.run.new.tokens (g.S.Actions.values c.run.new.stack)
    (c.run.ensures (and_then read next) (c.in_ok-begin.ensures.read below next (λ tree us. rw c.new-control.ensures refl)))
