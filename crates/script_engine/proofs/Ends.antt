-- A program's run ends in one way.
use Rattle.std.proofs.Common.{◌≡◌, ℕ, ◌≤◌, ◌+◌, List, [], Option, Some, None, refl, sym, subst, ap, ◌∙◌, arith}
use Rattle.pl_types.specs.declared.ty.Ty.{Ty}
use Rattle.static_types.specs.Allow.{AllowList}
use Rattle.object_values.specs.declared.value.Value.{Value}
use Rattle.object_values.specs.declared.object.Owner.TheVariants.{Script}
use Rattle.compiled_outcome.specs.World.{World, Limits, End, Result, Uncaught, Limited}
use Rattle.typed_tree.specs.declared.program.Program.{Program}
use Rattle.codegen.specs.Programs.{fun_of, program_of}
use Rattle.codegen.specs.Tree.{Fun}
use Rattle.codegen.specs.Meaning.{Env, Out, Done, Thrown, Over, More, Flow, Normal, Broke, Continued, Returned, default_of, entry, meaning}
use Rattle.codegen.specs.Laws.{Stays}
use Rattle.codegen.proofs.Greater.{stays_above}
use Rattle.compiled_outcome.specs.Types.{HaveAll}
use Rattle.compiled_outcome.specs.Agreeing.{known, types_in, WellFormed}
use Rattle.compiled_outcome.specs.Enough.{enough, IsEnough}
use Rattle.compiled_outcome.proofs.Enough.{comes_to_an_end}
use Rattle.script_engine.specs.Ends.{beside, given, end_of, end_in, end_at, RunsTo}
use Rattle.script_engine.specs.Preludes.{empty_program}
use Rattle.script_engine.proofs.Beside.{with_prelude}

-- what was come to at a bound is come to at every greater one
stays_end : (of : Ty) (o other : Out Flow) (end : End Value) → Stays o other → end_of of o ≡ Some end → end_of of other ≡ Some end
stays_end of (Done flow s e) other end x is = ap (end_of of) x ∙ is
stays_end of (Thrown id place s e) other end x is = ap (end_of of) x ∙ is
stays_end of (Over limit place w) other end x is = ap (end_of of) x ∙ is
stays_end of More other end x is = cc

stays_in : (p prelude : Program) (limits : Limits) (k m : ℕ) → k ≤ m → (main : Fun) (o : Option Env) (w : World) (end : End Value)
    → end_in p prelude limits k main o w ≡ Some end → end_in p prelude limits m main o w ≡ Some end
stays_in p prelude limits k m h main None w end is = cc
stays_in p prelude limits k m h main (Some e) w end is =
    stays_end main.result _ _ end ((stays_above (beside p prelude) limits k m h).stmts main.body (record { text = Script; depth = 0 }) (record { world = w; turns = 0 }) e) is

pub ends_once : (p prelude : Program) (limits : Limits) (args : List Value) (w : World) (end other : End Value) → RunsTo p prelude limits args w end → RunsTo p prelude limits args w other → end ≡ other
ends_once p prelude limits args w end other a b =
    let main = fun_of p.main in
    let from = entry main.params args [] in
    let first : end_at p prelude limits (a.bound + b.bound) args w ≡ Some end = stays_in p prelude limits a.bound (a.bound + b.bound) (omega arith) main from w end a.is in
    let second : end_at p prelude limits (a.bound + b.bound) args w ≡ Some other = stays_in p prelude limits b.bound (a.bound + b.bound) (omega arith) main from w other b.is in
    cc

record Comes (of : Ty) (o : Out Flow) : Type 0 where
  end : End Value
  is : end_of of o ≡ Some end

comes : (of : Ty) (o : Out Flow) → IsEnough of o → Comes of o
comes of (Done Normal s e) x = record { end = Result (given of (default_of of)) s.world; is = refl }
comes of (Done Broke s e) x = absurd x
comes of (Done Continued s e) x = absurd x
comes of (Done (Returned value) s e) x = record { end = Result (given of value) s.world; is = refl }
comes of (Thrown id place s e) x = record { end = Uncaught id place s.world; is = refl }
comes of (Over limit place w) x = record { end = Limited limit place w; is = refl }
comes of More x = absurd x

pub ends_some : (allow : AllowList) (p : Program) → WellFormed (known allow (program_of p)) → (limits : Limits) → limits.ground.allowed ≡ allow → (args : List Value) → HaveAll (types_in (fun_of p.main).params) args → (w : World)
    → (end : End Value) × RunsTo p empty_program limits args w end
ends_some allow p formed limits allowed args have w =
    let funs = beside p empty_program in
    let main = fun_of p.main in
    let bound = enough funs w in
    let held = with_prelude p limits (subst (λ list. WellFormed (known list (program_of p))) (sym allowed) formed) in
    let ran = comes_to_an_end funs limits held main refl args have w bound (omega arith) in
    let last = comes main.result ((meaning funs limits bound).stmts (record { text = Script; depth = 0 }) (record { world = w; turns = 0 }) ran.0 main.body) ran.2 in
    (last.end, record { bound = bound; is = ap (λ o. end_in p empty_program limits bound main o w) ran.1 ∙ last.is })
