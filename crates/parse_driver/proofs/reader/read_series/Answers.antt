use Rattle.std.proofs.Common.{◌∷◌, List, length, Ok, refl}
use Rattle.pl_grammar.specs.Lexeme.{Lexeme}
use Rattle.pl_grammar.specs.Grammar.{TreeOf}
use Rattle.pl_grammar.specs.Reading.{and_then, read_form, read_repeated}
use Rattle.parse_tables.specs.Names.{series_form}
use Rattle.parse_values.specs.Values.{list_value}
use Rattle.parse_driver.specs.Control.{Whole, ComesTo}
use Rattle.parse_driver.proofs.Frames.{more_begins, alone_read}
use Rattle.parse_driver.proofs.reader.read_series.Goals as goal

pub run-requires : goal.run-requires
run-requires g c =
    let below = g.S.Actions.values c.args.stack.now in
    let next : List (TreeOf (series_form c.args.series)) → List Lexeme → Whole = λ trees us. Ok (list_value (series_form c.args.series) trees ∷ below, us) in
    (and_then (read_repeated (read_form c.args.levels) (length c.args.tokens.now) (series_form c.args.series) c.args.tokens.now) next, rw c.in_ok-push.ensures (more_begins (ComesTo c.new-control.result) (series_form c.args.series) c.count.result c.args.levels below (g.S.Actions.values c.push_none.new.self) c.args.tokens.now next c.count.ensures c.in_ok-push_none.ensures (λ trees us. rw c.new-control.ensures refl)))

pub returns : goal.returns
returns g c =
    let below = g.S.Actions.values c.args.stack.now in
    let next : List (TreeOf (series_form c.args.series)) → List Lexeme → Whole = λ trees us. Ok (list_value (series_form c.args.series) trees ∷ below, us) in
    let read = read_repeated (read_form c.args.levels) (length c.args.tokens.now) (series_form c.args.series) c.args.tokens.now in
    alone_read read (λ trees. list_value (series_form c.args.series) trees ∷ below) c.run.result c.run.new.tokens (g.S.Actions.values c.run.new.stack)
    (c.run.ensures (and_then read next) (rw c.in_ok-push.ensures (more_begins (ComesTo c.new-control.result) (series_form c.args.series) c.count.result c.args.levels below (g.S.Actions.values c.push_none.new.self) c.args.tokens.now next c.count.ensures c.in_ok-push_none.ensures (λ trees us. rw c.new-control.ensures refl))))
