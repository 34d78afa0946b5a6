-- Functions by their numbers, and the code of a function.
use Rattle.std.specs.Prelude.{◌≡◌, ◌++◌, ℕ, zero, suc, true, List, [], ◌∷◌, length, map, Option, Some, slice_get}
use Rattle.typed_tree.specs.declared.program.Program as typed
use Rattle.typed_tree.specs.declared.program.TypedFunction.{TypedFunction}
use Rattle.pl_code.specs.declared.code.FunCode.{FunCode}
use Rattle.source_meaning.specs.Tree.{Fun, Program}
use Rattle.compiler_relation.specs.Representation.{representation_of, result_of}
use Rattle.compiler_relation.specs.Stands.{ArePresent, Compiled, StmtsAt, EndAt, representations_of, scope_of, no_jumps, all_fall, end_stmts, end_end, kinds_of, locals_stmts, traps_stmts}
use Rattle.codegen.specs.Checks.{denoted}
use Rattle.pl_types.specs.declared.ty.Ty.{Ty}
use Rattle.pl_code.specs.declared.kinds.Slot.{Slot}
use Rattle.typed_tree.specs.declared.program.Named.{Named}
use Rattle.source_meaning.specs.Programs.{variable_of, fun_of}
use Rattle.source_meaning.specs.object_values_declared.object.Owner.TheVariants.{Prelude}
use Rattle.source_meaning.specs.object_values_declared.value.Value.{Value}
use Rattle.source_meaning.specs.World.{World, Limits, End}
use Rattle.compiler_relation.specs.code_meaning_declared.word.Word.{Word}
use Rattle.compiler_relation.specs.Correct.{Words, EndsAs, program_ends}
use Rattle.compiler_relation.specs.Machine.{start, codes_of}
use Rattle.codegen.specs.Labels.{settled_line}
use Rattle.codegen.specs.declared.symbols.Entry as d
use Rattle.codegen.specs.Worklist.{scope_in, entry}
use Rattle.codegen.specs.declared.config.Config.{Config}

abbrev pub function_at : typed.Program → ℕ → Option TypedFunction
function_at p zero = Some p.main
function_at p (suc number) = slice_get p.functions number

-- A function's code: its turns are limited, its parameters, its result and what its body does, and no further line, local or trap line.
pub record FunStands (funs : Program) (body : FunCode) (fun : Fun) : Type 0 where
  pub loops : body.loops ≡ true
  pub params : body.params ≡ kinds_of fun.params
  pub present : ArePresent (representations_of fun.params)
  pub result : body.result ≡ result_of fun.result
  pub locals : body.locals ≡ locals_stmts fun.body
  pub stands : StmtsAt funs body [] (representation_of fun.result) (scope_of fun.params 0 []) (length fun.params) no_jumps 0 fun.body
  pub ends : EndAt body (all_fall fun.body) (end_stmts 0 fun.body) fun.result
  pub lines : length body.lines ≡ end_end (all_fall fun.body) (end_stmts 0 fun.body) fun.result
  pub traps : body.traps ≡ traps_stmts 0 fun.body

-- nothing is written yet of a function, and its parameters are in scope
pub record Begun (fun : Fun) (c : Config) : Type 0 where
  pub result : denoted c.result ≡ representation_of fun.result
  pub params : c.params ≡ kinds_of fun.params
  pub locals : c.locals ≡ []
  pub traps : c.traps ≡ []
  pub lines : c.lines ≡ []
  pub scope : scope_in c ≡ scope_of fun.params 0 []
  pub labels : c.labels ≡ []
  pub flows : c.flows ≡ []
  pub present : ArePresent (representations_of fun.params)

-- each function has its code
abbrev pub Written : Program → List Fun → List FunCode → Type 0
Written funs [] [] = Unit {0}
Written funs [] (code ∷ codes) = ⊥
Written funs (fun ∷ rest) [] = ⊥
Written funs (fun ∷ rest) (code ∷ codes) = FunStands funs code fun × Written funs rest codes

-- the code of what is written, with its jumps settled
pub record Finished (c : Config) (of : Ty) (code : FunCode) : Type 0 where
  pub loops : code.loops ≡ true
  pub params : code.params ≡ c.params
  pub locals : code.locals ≡ c.locals
  pub result : code.result ≡ result_of of
  pub traps : code.traps ≡ c.traps
  pub lines : code.lines ≡ map (settled_line c.labels) c.lines

-- parameters that are in scope
pub record InScope (params : List Named) (old new : List Slot) (scope : List d.Entry) : Type 0 where
  pub names : map entry scope ≡ scope_of (map variable_of params) 0 []
  pub kinds : new ≡ old ++ kinds_of (map variable_of params)
  pub present : ArePresent (representations_of (map variable_of params))

-- Where a typed program ends at some bound, this code ends alike, from every start, whatever the prelude and the host are.
abbrev pub EndsAsProgram : typed.Program → List FunCode → Type 0
EndsAsProgram p code =
    (prelude : Program) (also : List FunCode) → Compiled Prelude prelude also → (limits : Limits) (args : List Value) (words : List Word)
    → Words (fun_of p.main).params args words → (w : World) (bound : ℕ) (end : End (Option Word))
    → program_ends p prelude limits bound args w ≡ Some end → EndsAs (codes_of code also) limits (start (codes_of code also) words w) end
