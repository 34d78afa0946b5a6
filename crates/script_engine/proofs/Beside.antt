-- The prelude, which has no function yet, beside which scripts run: its program is well formed, and its code stands for it.
use Rattle.std.specs.Prelude.{slice_get}
use Rattle.std.proofs.Common.{◌≡◌, ℕ, zero, suc, [], ◌∷◌, Some, None, refl, subst, ap, ◌∙◌}
use Rattle.pl_types.specs.declared.ty.Ty.{out-Ty}
use Rattle.object_values.specs.declared.object.Owner.TheVariants.{Prelude}
use Rattle.static_types.specs.Allow.{AllowList, empty_list}
use Rattle.compiled_outcome.specs.World.{Limits}
use Rattle.typed_tree.specs.declared.program.Program.{Program}
use Rattle.pl_code.specs.declared.code.Code.{Code}
use Rattle.codegen.specs.Effects.{effect_of, flow_of, left_by}
use Rattle.codegen.specs.Faults.{is_bad_target, is_bad_member, is_bad_jump}
use Rattle.codegen.specs.Programs.{fun_of, program_of}
use Rattle.codegen.specs.Tree.{Fun}
use Rattle.compiled_outcome.specs.Agreeing.{known, AreWellFormed, FunAgrees, WellFormed}
use Rattle.compiled_outcome.specs.Stands.{Compiled, FunAt}
use Rattle.compiled_runs.specs.Laws.{CodeHasRows}
use Rattle.verified_machine.specs.Code.{Executable, TextCode}
use Rattle.verified_machine.specs.Faults.{shape_fault, function_fault, lines_fault, line_fault, instruction_fault}
use Rattle.verified_machine.specs.Meets.{starts, left_at, met}
use Rattle.verified_machine.specs.Rows.{HaveRows}
use Rattle.verified_machine.specs.Tasks.{code_under}
use Rattle.verified_machine.specs.Verified.{CodeUnder}
use Rattle.script_engine.specs.Ends.{beside}
use Rattle.script_engine.specs.Executables.{ScriptCode, executable_of}
use Rattle.script_engine.specs.Preludes.{empty_program, prelude_code, prelude_main, prelude_text}

-- ---- the prelude's program and its code

same_fun : (f g : Fun) → Some f ≡ Some g → f ≡ g
same_fun f g is = cc

no_other : (f g : Fun) (n : ℕ) → slice_get (f ∷ []) (suc n) ≡ Some g → ⊥
no_other f g n is = cc

-- what holds of its one function holds of each
pub only_main : (Holds : ℕ → Fun → Type 0) → Holds 0 (fun_of empty_program.main) → (number : ℕ) (fun : Fun) → slice_get (program_of empty_program) number ≡ Some fun → Holds number fun
only_main Holds h zero fun is = subst (Holds 0) (same_fun (fun_of empty_program.main) fun is) h
only_main Holds h (suc n) fun is = absurd (no_other (fun_of empty_program.main) fun n is)

main_stands : FunAt Prelude (program_of empty_program) prelude_code.functions 0 (fun_of empty_program.main)
unfolding out-Ty denote.Hole.Carrier.out
main_stands = record {
  body = prelude_main;
  is = refl;
  loops = refl;
  params = refl;
  present = tt;
  result = refl;
  locals = refl;
  stands = tt;
  ends = (tt, record { here = refl; traps = refl });
  lines = refl;
  traps = refl;
}

pub prelude_compiled : Compiled Prelude (program_of empty_program) prelude_code.functions
prelude_compiled = record { each = only_main (FunAt Prelude (program_of empty_program) prelude_code.functions) main_stands; many = refl }

pub prelude_formed : (allow : AllowList) → WellFormed (known allow (program_of empty_program))
prelude_formed allow = record { each = only_main (λ number fun. FunAgrees (known allow (program_of empty_program)) fun) (record { present = tt; body = tt }) }

-- a well-formed program and the prelude's
pub with_prelude : (p : Program) (limits : Limits) → WellFormed (known limits.ground.allowed (program_of p)) → AreWellFormed (beside p empty_program) limits
with_prelude p limits formed = record { script = formed; prelude = prelude_formed limits.ground.prelude_allowed }

-- ---- its code, made ready to run

pub prelude_sound : shape_fault empty_list prelude_code ≡ None
unfolding shape_fault function_fault lines_fault line_fault instruction_fault starts left_at left_by met effect_of flow_of is_bad_target is_bad_member is_bad_jump
prelude_sound = refl

-- each instruction of it has a row
pub prelude_rows : CodeHasRows → HaveRows empty_list prelude_code.functions
prelude_rows has_rows = has_rows Prelude (known empty_list (program_of empty_program)) prelude_code.functions (prelude_formed empty_list) prelude_compiled

abbrev kept_text : CodeUnder → TextCode
kept_text c = record { code = c.code; allow = c.allow }

pub prelude_is : (t : TextCode) (v : CodeUnder) (code : Code) (allow : AllowList) → code_under t ≡ v → v ≡ record { code = code; allow = allow } → code ≡ prelude_code → allow ≡ empty_list → t ≡ prelude_text
prelude_is t v code allow is same c a = ap kept_text (is ∙ same) ∙ (λ i. record { code = c i; allow = a i })

-- what is held runs beside it
pub sees : (held : Executable) (seen : ScriptCode) → record { code = held.script.code; allow = held.script.allow; frame = held.frame } ≡ seen → held.prelude ≡ prelude_text → held ≡ executable_of seen
sees held seen is beside = (λ i. record { script = held.script; prelude = beside i; frame = held.frame }) ∙ ap executable_of is
