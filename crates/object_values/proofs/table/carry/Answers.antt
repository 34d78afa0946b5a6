use Rattle.std.proofs.Common.{◌≡◌, Option, None, sym, ◌∙◌, subst, ap, List, [], ◌∷◌, ◌++◌, reverse, arith, append-nil}
use Rattle.std.proofs.lemmas.Result.{IfOk-at_ok}
use Rattle.indexmap.specs.IndexMap.{insert_entry}
use Rattle.object_values.specs.Values.{same_value}
use Rattle.object_values.specs.declared.value.Value.{Value}
use Rattle.object_values.specs.Pairs.{value_of, HasDistinctKeys}
use Rattle.object_values.proofs.Finding.{puts}
use Rattle.object_values.proofs.Parting.{is_absent, carried, put_last}
use Rattle.object_values.proofs.table.carry.Goals as goal

pub loop-turn-preserved : goal.loop-turn-preserved
loop-turn-preserved c =
    let from : List (Value × Value) = c.pop.new.self.entries in
    let to : List (Value × Value) = c.loop-turn.to.entries in
    let pair : Value × Value = (c.in-Some.key, c.in-Some.value) in
    let all : from ++ pair ∷ [] ++ reverse to ≡ c.args.from.now.entries ++ reverse c.args.to.now.entries =
    ap (λ (l : List (Value × Value)). l ++ reverse to) (sym c.in-Some.ensures.entries) ∙ c.loop-turn.invariant.same in
    let absent : value_of to pair.0 ≡ None = is_absent from to pair (subst HasDistinctKeys (sym all) c.requires) in
    let put : c.insert.new.self.entries ≡ to ++ pair ∷ [] =
    IfOk-at_ok (λ (before : Option Value). c.insert.new.self.entries ≡ insert_entry same_value to pair.0 pair.1) c.unwrap.ensures c.insert.ensures.entries
    ∙ puts to pair.0 pair.1 ∙ put_last to pair.0 pair.1 absent in
    record {
      same = ap (λ (l : List (Value × Value)). from ++ reverse l) put ∙ carried from to pair ∙ all;
      room = omega arith;
    }

pub unwrap-requires : goal.unwrap-requires
unwrap-requires c = c.insert.ensures.succeeds (omega arith)

pub returns-in-None : goal.returns-in-None
returns-in-None c =
    ap (λ (l : List (Value × Value)). l ++ reverse c.loop-turn.to.entries) (sym (c.in-None.ensures.entries ∙ append-nil c.pop.new.self.entries)) ∙ c.loop-turn.invariant.same

pub returns : goal.returns
returns c = c.loop-turn.invariant.same
