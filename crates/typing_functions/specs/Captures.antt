-- Which names a function value copies: those of the names that its body mentions which were declared around it, each once, in the order
-- of their first mention.
use Rattle.std.specs.Prelude.{ℕ, nat_lt, List, [], ◌∷◌, ◌++◌, slice_get, Option, Some, None, if◌then◌else◌}
use Rattle.typed_tree.specs.declared.program.Named.{Named}
use Rattle.typing_rules.specs.declared.scopes.Entry.{Entry}
use Rattle.typing_rules.specs.Scopes.{find}
use Rattle.typing_rules.specs.Rules.Functions.{named, is_named}

abbrev pub entry_if : Option ℕ → List Entry → ℕ → Option Entry
entry_if None scopes base = None
entry_if (Some at) scopes base = if nat_lt at base then slice_get scopes at else None

-- a name that is among so many of the oldest in sight
abbrev pub outer : List Entry → ℕ → List ℕ → Option Entry
outer scopes base name = entry_if (find name scopes) scopes base

abbrev pub with_entry : Option Entry → List Named → List Named
with_entry None before = before
with_entry (Some e) before = before ++ named e.name e.of ∷ []

abbrev pub with_name : List Entry → ℕ → List ℕ → List Named → List Named
with_name scopes base name before = if is_named name before then before else with_entry (outer scopes base name) before

-- behind those before
abbrev pub captured : List Entry → ℕ → List (List ℕ) → List Named → List Named
captured scopes base [] before = before
captured scopes base (name ∷ names) before = captured scopes base names (with_name scopes base name before)
