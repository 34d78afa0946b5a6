-- The code of a well-formed program has rows, and its runs end.
use Rattle.std.proofs.Common.{◌≡◌, ℕ, zero, suc, ◌<◌, Bool, true, false, List, [], ◌∷◌, length, Option, Some, refl, sym, ap, ◌∙◌, subst, arith}
use Rattle.std.specs.Prelude.{slice_get}
use Rattle.std.proofs.lemmas.Option.{slice_get_within}
use Rattle.pl_types.specs.declared.ty.Ty.{Ty}
use Rattle.object_values.specs.declared.object.Owner.{Owner}
use Rattle.object_values.specs.declared.object.Owner.TheVariants.{Script, Prelude}
use Rattle.pl_code.specs.declared.kinds.Plain.TheVariants as plain
use Rattle.pl_code.specs.declared.code.FunCode.{FunCode}
use Rattle.pl_code.specs.declared.code.Instruction.{Instruction}
use Rattle.pl_code.specs.declared.code.Instruction.TheVariants as i
use Rattle.allowlist.specs.Allow.{AllowList}
use Rattle.member_names.specs.Names.{TextsName}
use Rattle.run_state.specs.World.{Limits}
use Rattle.typed_tree.specs.declared.program.Program as typed
use Rattle.compiled_shapes.specs.Tree.{Fun, Program}
use Rattle.compiled_shapes.specs.Programs.{program_of}
use Rattle.compiled_shapes.specs.Falls.{all_fall}
use Rattle.compiled_shapes.specs.Representation.{representation_of}
use Rattle.compiled_shapes.specs.Parts.{default_code}
use Rattle.compiled_shapes.specs.Stands.{scope_of, no_jumps, end_all, end_stmts, EndAt, end_end, FunAt, Compiled}
use Rattle.compiled_shapes.specs.Agreeing as agreeing
use Rattle.compiled_shapes.specs.Agreeing.{Known, known, known_in, AreWellFormed, FunAgrees, WellFormed}
use Rattle.compiled_shapes.specs.Correct.{IsCodeOf, programs_of}
use Rattle.compiled_shapes.specs.Reached.{Reached}
use Rattle.compiled_shapes.specs.Laws.{CodeIsWellShaped}
use Rattle.verifier_soundness.specs.Rows.{has_row}
use Rattle.verifier_soundness.specs.Fits.{main_params, AreWellShaped}
use Rattle.verifier_soundness.specs.Laws.{AllHaveRows}
use Rattle.verifier_soundness.specs.Machine.{Codes}
use Rattle.verifier_soundness.proofs.Runs.{run_ends}
use Rattle.compiled_runs.specs.Laws.{CodeHasRows, ProgramsRun}
use Rattle.compiled_runs.proofs.Parts.{default_rows}
use Rattle.compiled_runs.proofs.Covering.{Covered, nothing, one, join, all, stmts_covered}

one_of : {X : Type 0} (o : Option X) (x y : X) → o ≡ Some x → o ≡ Some y → x ≡ y
one_of o x y a b = cc

ending : (allow : AllowList) (f : FunCode) (b : Bool) (p : ℕ) (of : Ty) → EndAt f b p of → Covered allow f p (end_end b p of)
ending allow f false p of s = nothing allow f p
ending allow f true p of s =
    join allow f p (end_all p (default_code of)) (suc (end_all p (default_code of))) (all allow f [] p (default_code of) s.0 (default_rows allow of))
    (one allow f [] (end_all p (default_code of)) (i.Plain plain.Ret) s.1 refl)

there : (xs : List Fun) (k : ℕ) → k < length xs → (x : Fun) × (slice_get xs k ≡ Some x)
there [] k h = absurd (omega arith)
there (x ∷ xs) zero h = (x, refl)
there (x ∷ xs) (suc k) h = there xs k (omega arith)

module _ (texts : TextsName) (allow : AllowList) (funs : Program) (code : List FunCode) where
  fun_covered : (text : Owner) (number : ℕ) (fun : Fun) (fa : FunAt text funs code number fun) → FunAgrees (known allow funs) fun → Covered allow fa.body 0 (length fa.body.lines)
  fun_covered text number fun fa agrees =
      let q = end_stmts 0 fun.body in
      subst (Covered allow fa.body 0) (sym fa.lines)
      (join allow fa.body 0 q (end_end (all_fall fun.body) q fun.result)
      (stmts_covered allow fa.body texts funs [] (representation_of fun.result) fun.result false (scope_of fun.params 0 []) (agreeing.scope_of fun.params []) (length fun.params) no_jumps 0 fun.body agrees.body fa.stands)
      (ending allow fa.body (all_fall fun.body) q fun.result fa.ends))

-- an instruction of a function whose lines have rows
row_of : (allow : AllowList) (f : FunCode) (line : ℕ) (instruction : Instruction) → Covered allow f 0 (length f.lines) → slice_get f.lines line ≡ Some instruction → has_row allow instruction ≡ true
row_of allow f line instruction covered here =
    let row = covered.each line (omega arith) (slice_get_within f.lines line instruction here) in
    ap (has_row allow) (sym (one_of (slice_get f.lines line) row.instruction instruction row.is here)) ∙ row.row

function_rows : TextsName → (text : Owner) (funs : Known) (code : List FunCode) → WellFormed funs → Compiled text funs.functions code → (k : ℕ) (f : FunCode) → slice_get code k ≡ Some f → Covered funs.allowed f 0 (length f.lines)
function_rows texts text funs code formed made k f at =
    let less = slice_get_within code k f at in
    let many = made.many in
    let x = there funs.functions k (omega (arith, less, many)) in
    let fa = made.each k x.0 x.1 in
    subst (λ f. Covered funs.allowed f 0 (length f.lines)) (one_of (slice_get code k) fa.body f fa.is at) (fun_covered texts funs.allowed funs.functions code text k x.0 fa (formed.each k x.0 x.1))

pub code_has_rows : TextsName → CodeHasRows
code_has_rows texts text funs code formed made = record { each = λ k line f instruction at here. row_of funs.allowed f line instruction (function_rows texts text funs code formed made k f at) here }

first_of_code : (code : List FunCode) → 0 < length code → (f : FunCode) × (slice_get code 0 ≡ Some f) × (main_params code ≡ f.params)
first_of_code [] h = absurd (omega arith)
first_of_code (f ∷ fs) h = (f, refl, refl)

some_function : (p : typed.Program) → 0 < length (program_of p)
some_function p = omega arith

-- code of either text of a run is well shaped under the list of its text, and has rows
shapes_of : CodeIsWellShaped → (p : typed.Program) (prelude : Program) (codes : Codes) (limits : Limits) → AreWellFormed (programs_of p prelude) limits → Reached (program_of p) → Reached prelude → 0 < length prelude
    → IsCodeOf p codes.script → Compiled Prelude prelude codes.prelude → AreWellShaped codes limits
shapes_of code_is_well_shaped p prelude codes limits formed reached others some made beside Script =
    code_is_well_shaped Script (known_in (programs_of p prelude) limits Script) codes.script (some_function p) formed.script reached made
shapes_of code_is_well_shaped p prelude codes limits formed reached others some made beside Prelude =
    code_is_well_shaped Prelude (known_in (programs_of p prelude) limits Prelude) codes.prelude some formed.prelude others beside

rows_of : TextsName → (p : typed.Program) (prelude : Program) (codes : Codes) (limits : Limits) → AreWellFormed (programs_of p prelude) limits → IsCodeOf p codes.script → Compiled Prelude prelude codes.prelude
    → AllHaveRows codes limits
rows_of texts p prelude codes limits formed made beside Script = code_has_rows texts Script (known_in (programs_of p prelude) limits Script) codes.script formed.script made
rows_of texts p prelude codes limits formed made beside Prelude = code_has_rows texts Prelude (known_in (programs_of p prelude) limits Prelude) codes.prelude formed.prelude beside

pub programs_run : TextsName → CodeIsWellShaped → ProgramsRun
programs_run texts code_is_well_shaped p prelude codes limits formed reached others some made beside words w params allowed =
    let well = shapes_of code_is_well_shaped p prelude codes limits formed reached others some made beside in
    let first = first_of_code codes.script (well Script).some in
    run_ends codes limits well (rows_of texts p prelude codes limits formed made beside) first.0 words w first.1 (params ∙ first.2) allowed
