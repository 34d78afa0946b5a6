use Rattle.std.proofs.Common.{◌≡◌, None, sym, ◌∙◌, subst}
use Rattle.std.specs.Prelude.{map}
use Rattle.compiler_relation.specs.Stands.{entry_of}
use Rattle.codegen.specs.Symbols.{Finds, entry}
use Rattle.codegen.proofs.Places.{finds, found_none}
use Rattle.codegen.proofs.symbols.SymbolTable.find.Goals as goal

pub returns-in-Some : goal.returns-in-Some
returns-in-Some c = subst (λ es. Finds c.entry_at.result (entry_of (map entry es) c.args.name.now)) c.self.view_is
    (finds c.entry_at.result c.args.name.now c.self.inside.symbols c.in-Some.at (sym (c.self.invariant.noted c.args.name.now) ∙ sym c.in-Some.ensures) c.entry_at.ensures)

pub returns-in-None : goal.returns-in-None
returns-in-None c = subst (λ es. entry_of (map entry es) c.args.name.now ≡ None) c.self.view_is (found_none c.args.name.now c.self.inside.symbols (sym (c.self.invariant.noted c.args.name.now) ∙ sym c.in-None.ensures))
