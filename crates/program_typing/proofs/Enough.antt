-- The bound of a whole program.
use Rattle.std.proofs.Common.{◌≡◌, ℕ, zero, suc, ◌+◌, ◌*◌, ◌≤◌, false, List, [], ◌∷◌, Some, subst, arith}
use Rattle.std.specs.Prelude.{slice_get}
use Rattle.std.proofs.Math.Nat.{mul-le-mul_left, mul-le-mul_right}
use Rattle.pl_types.specs.declared.ty.Ty.{Ty}
use Rattle.object_values.specs.declared.value.Value.{Value}
use Rattle.object_values.specs.declared.object.Owner.{Owner}
use Rattle.object_values.specs.declared.object.Owner.TheVariants.{Script, Prelude}
use Rattle.source_meaning.specs.World.{World, Limits}
use Rattle.source_meaning.specs.Tree.{Fun, Program, Programs, functions_in}
use Rattle.source_meaning.specs.Meaning.{Env, Out, Done, Thrown, Over, More, Flow, Normal, Broke, Continued, Returned, entry, meaning}
use Rattle.program_typing.specs.Types.{HaveAll}
use Rattle.program_typing.specs.Agreeing.{Scope, types_in, scope_of, known_in, WellFormed, AreWellFormed}
use Rattle.program_typing.specs.Enough.{stmts_size, size_of, enough, IsEnough}
use Rattle.program_typing.proofs.Scopes.{enters}
use Rattle.program_typing.proofs.Never.{Fine, FlowHas, all_good}

-- each body is smaller than its program
holds : (funs : Program) (number : ℕ) (f : Fun) → slice_get funs number ≡ Some f → stmts_size f.body ≤ size_of funs
holds [] number f is = cc
holds (g ∷ funs) zero f is = let same : g ≡ f = cc in subst (λ (f : Fun). stmts_size f.body ≤ suc (stmts_size g.body + size_of funs)) same (omega arith)
holds (g ∷ funs) (suc number) f is = omega (arith, holds funs number f is)

spends : (most k k' : ℕ) → suc k ≤ k' → k * suc most + suc most ≤ k' * suc most
spends most k k' h = omega (arith, mul-le-mul_right (suc most) h)

whole : (k most n : ℕ) → (k + 1) * (most + 8) ≤ n → k * suc most + most ≤ n
whole k most n h =
    let few : k * suc most ≤ k * (most + 8) = mul-le-mul_left k (omega arith) in
    let all : (k + 1) * (most + 8) ≡ k * (most + 8) + (most + 8) = omega arith in
    omega (arith, few, all, h)

ends : (of : Ty) (g : Scope) (k : ℕ) (o : Out Flow) → Fine (FlowHas of false) g k o → IsEnough of o
ends of g k (Done Normal s e) x = tt
ends of g k (Done Broke s e) x = cc
ends of g k (Done Continued s e) x = cc
ends of g k (Done (Returned value) s e) x = x.0
ends of g k (Thrown id place s e) x = tt
ends of g k (Over limit place w) x = tt
ends of g k More x = x

-- of whichever text
all_formed : (funs : Programs) (limits : Limits) → AreWellFormed funs limits → (text : Owner) → WellFormed (known_in funs limits text)
all_formed funs limits formed Script = formed.script
all_formed funs limits formed Prelude = formed.prelude

all_hold : (funs : Programs) (text : Owner) (number : ℕ) (f : Fun) → slice_get (functions_in funs text) number ≡ Some f → stmts_size f.body ≤ size_of funs.script + size_of funs.prelude
all_hold funs Script number f is = omega (arith, holds funs.script number f is)
all_hold funs Prelude number f is = omega (arith, holds funs.prelude number f is)

pub comes_to_an_end : (funs : Programs) (limits : Limits) → AreWellFormed funs limits → (main : Fun) → slice_get funs.script 0 ≡ Some main
    → (args : List Value) → HaveAll (types_in main.params) args → (w : World) (bound : ℕ) → enough funs w ≤ bound
    → (e : Env) × (entry main.params args [] ≡ Some e)
    × IsEnough main.result ((meaning funs limits bound).stmts (record { text = Script; depth = 0 }) (record { world = w; turns = 0 }) e main.body)
comes_to_an_end funs limits formed main is args have w bound h =
    let most = size_of funs.script + size_of funs.prelude in
    let start = enters main.params args [] [] have tt in
    let good = all_good funs limits (all_formed funs limits formed) most (λ k. k * suc most) (all_hold funs) (λ k k' h. mul-le-mul_right (suc most) h) (spends most) bound in
    let size = all_hold funs Script 0 main is in
    let ran = good.stmts main.body (record { text = Script; depth = 0 }) (record { world = w; turns = 0 }) start.env (scope_of main.params []) main.result false (formed.script.each 0 main is).body start.bound
    (omega (arith, size, whole w.ticks most bound h)) in
    (start.env, start.is, ends main.result (scope_of main.params []) w.ticks _ ran.by)
