-- What typing gives is well formed, and each of its statements is reached.
use Rattle.std.specs.Prelude.{◌≡◌, ◌≢◌, ℕ, List, [], ◌∷◌, Ok}
use Rattle.run_state.specs.World.{Limits}
use Rattle.pl_tree.specs.declared.tree.Tree.{Tree}
use Rattle.typed_tree.specs.declared.program.Named.{Named}
use Rattle.typed_tree.specs.declared.program.Program.{Program}
use Rattle.typing_rules.specs.declared.header.ContextTypes.{ContextTypes}
use Rattle.allowlist.specs.Allow.{AllowList}
use Rattle.typing_rules.specs.Typing.{typing_of}
use Rattle.source_typing.specs.Meaning.{meaning}
use Rattle.source_typing.specs.ProgramRules.{rules_of}
use Rattle.source_typing.specs.Programs.{program_of}
use Rattle.source_typing.specs.Tree as source
use Rattle.pl_types.specs.declared.ty.Ty.{Ty, out-Ty}
use Rattle.pl_types.specs.declared.ty.Ty.TheOpen.{Ty-F}
use Rattle.source_typing.specs.Types.{HasValues, IsNamed}
use Rattle.source_typing.specs.Agreeing.{known, WellFormed}
use Rattle.source_typing.specs.Reached.{Reached}
use Rattle.source_typing.specs.Laws.{MeaningTyped}

-- the names are distinct
abbrev pub IsNew : List ℕ → List Named → Type 0
IsNew name [] = Unit {0}
IsNew name (x ∷ xs) = (name ≢ x.name) × IsNew name xs

abbrev pub AreDistinct : List Named → Type 0
AreDistinct [] = Unit {0}
AreDistinct (x ∷ xs) = IsNew x.name xs × AreDistinct xs

abbrev pub HaveValues : List Named → Type 0
HaveValues [] = Unit {0}
HaveValues (x ∷ xs) = HasValues x.of × HaveValues xs

-- a result is void, or of a type that code may name
abbrev pub may_be_result : Ty-F Ty → Ty → Type 0
may_be_result Ty-F.Void of = Unit {0}
may_be_result other of = IsNamed of

abbrev pub MayBeResult : Ty → Type 0
MayBeResult of = may_be_result (out-Ty of) of

-- a context's variables have distinct names, none is of type void, and its result is void or of a type that code may name
pub record IsContext (context : ContextTypes) : Type 0 where
  pub distinct : AreDistinct context.variables
  pub present : HaveValues context.variables
  pub result : MayBeResult context.result

abbrev pub TypingIsSound : Type 0
TypingIsSound =
    (allow : AllowList) (context : ContextTypes) (tree : Tree) (p : Program) → IsContext context → typing_of allow context tree ≡ Ok p
    → WellFormed (known allow (program_of p))

abbrev pub TypingReaches : Type 0
TypingReaches = (allow : AllowList) (context : ContextTypes) (tree : Tree) (p : Program) → IsContext context → typing_of allow context tree ≡ Ok p → Reached (program_of p)

-- a program that typing gives, beside one of the prelude's text
abbrev pub beside : Program → source.Program → source.Programs
beside p prelude = record { script = program_of p; prelude = prelude }

-- In a program that typing gives, beside a well-formed prelude, each value is of its type, at every bound, where the store fits the two.
abbrev pub TypingKeepsTypes : Type 0
TypingKeepsTypes =
    (allow : AllowList) (context : ContextTypes) (tree : Tree) (p : Program) → IsContext context → typing_of allow context tree ≡ Ok p
    → (prelude : source.Program) (limits : Limits) → limits.ground.allowed ≡ allow → WellFormed (known limits.ground.prelude_allowed prelude) → (bound : ℕ)
    → MeaningTyped (rules_of (beside p prelude)) (beside p prelude) limits (meaning (beside p prelude) limits bound)
