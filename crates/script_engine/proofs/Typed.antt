-- What a run of a text's program gives is of the result's type, and so is what a run of its script gives.
use Rattle.std.proofs.Common.{◌≡◌, ℕ, true, List, [], map, Option, Some, None, refl, sym, subst}
use Rattle.std.specs.Prelude.{unwrap_or}
use Rattle.pl_types.specs.declared.primitive.Primitive.{Primitive}
use Rattle.pl_types.specs.declared.ty.Ty.{Ty, out-Ty}
use Rattle.pl_types.specs.declared.ty.Ty.TheOpen.{Ty-F}
use Rattle.static_types.specs.Allow.{AllowList}
use Rattle.object_values.specs.declared.object.Object.{Object}
use Rattle.object_values.specs.declared.value.Value.{Value}
use Rattle.object_heap.specs.Fits.{kinds, is_primitive, Rules}
use Rattle.object_heap.specs.Objects.{Kind}
use Rattle.object_heap.specs.Store.{Store}
use Rattle.object_heap.specs.declared.outcome.End as left_end
use Rattle.object_heap.specs.declared.outcome.End.TheVariants as l
use Rattle.object_heap.specs.declared.outcome.Outcome.{Outcome}
use Rattle.compiled_outcome.specs.World.{World, Limits, End}
use Rattle.script_engine.specs.Seen.{limits_of}
use Rattle.verified_machine.specs.machine_declared.configuration.Limits.{Limits as run_limits}
use Rattle.typed_tree.specs.declared.program.Program.{Program}
use Rattle.codegen.specs.Operating.{in_box}
use Rattle.codegen.specs.Programs.{fun_of, program_of, variable_of}
use Rattle.codegen.specs.Meaning.{Env, Out, Done, Thrown, Over, More, Flow, entry, returned}
use Rattle.compiled_outcome.specs.Agreeing.{Scope, known, types_in, scope_of, WellFormed, AreWellFormed}
use Rattle.typing_soundness.specs.Typing.{is_typed_layer}
use Rattle.typing_soundness.specs.Outs.{AreTyped, FlowTyped, OutTyped}
use Rattle.typing_soundness.specs.ProgramRules.{FitsProgram, rules_of}
use Rattle.typing_soundness.proofs.SourceTypingValues.{MadeTyped, returned_typed, all_are}
use Rattle.typing_soundness.proofs.Operations.{MadeOf, box_made, all_have}
use Rattle.typing_soundness.proofs.Meanings.{results_are_typed}
use Rattle.script_engine.specs.declared.compiling.Script.{Script}
use Rattle.script_engine.specs.Ends.{beside, given_layer, end_with, end_of, end_in, RunsTo}
use Rattle.script_engine.specs.Laws.{ProgramsAreTyped}
use Rattle.script_engine.specs.Preludes.{empty_program}
use Rattle.script_engine.specs.Running.{RunsAsItsProgram, world_at, world_left, end_seen}
use Rattle.script_engine.specs.Typed.{EndIsOf, ValueIsOf, GivesTyped}
use Rattle.script_engine.proofs.Beside.{with_prelude}
use Rattle.script_engine.proofs.Compiled.{formed_from, variables_from, result_from}

-- ---- its program

-- what is put in its box stays of its type
boxed_typed : (p : Primitive) (value : Value) (boxed : Option Value) → MadeOf p boxed → is_primitive p value ≡ true → is_primitive p (unwrap_or boxed value) ≡ true
boxed_typed p value None b h = h
boxed_typed p value (Some boxed) b h = b

given_layer_typed : (ks : List Kind) (layer : Ty-F Ty) (value : Value) → is_typed_layer ks layer value ≡ true → is_typed_layer ks layer (given_layer layer value) ≡ true
given_layer_typed ks Ty-F.Void value h = refl
given_layer_typed ks Ty-F.Null value h = h
given_layer_typed ks Ty-F.Def value h = h
given_layer_typed ks (Ty-F.Prim p) value h = boxed_typed p value (in_box p value) (box_made p value) h
given_layer_typed ks (Ty-F.Class class) value h = h
given_layer_typed ks (Ty-F.Array elem) value h = h

-- an end whose value is of a type, if it is one
abbrev EndsTyped : Ty → Option (End Value) → Type 0
EndsTyped of None = Unit {0}
EndsTyped of (Some end) = EndIsOf of end

ends_with : (of : Ty) (value : Option Value) (w : World) → MadeTyped w.store.objects of value → EndsTyped of (end_with of value w)
ends_with of None w h = tt
ends_with of (Some value) w h = given_layer_typed (kinds w.store.objects) (out-Ty of) value h.is

ends_of : (rules : Rules) (start : List Object) (g : Scope) (of : Ty) (o : Out Flow) → OutTyped (FlowTyped of) rules start g o → EndsTyped of (end_of of o)
ends_of rules start g of (Done flow s e) h = ends_with of (returned of flow) s.world (returned_typed s.world.store.objects of flow h.2)
ends_of rules start g of (Thrown id place s e) h = tt
ends_of rules start g of (Over limit place w) h = tt
ends_of rules start g of More h = tt

ends_in : (p : Program) (limits : Limits) → AreWellFormed (beside p empty_program) limits → (bound : ℕ) (w : World) (args : List Value) → FitsProgram (beside p empty_program) w.store
    → AreTyped w.store.objects (types_in (fun_of p.main).params) args → (e : Option Env) → entry (fun_of p.main).params args [] ≡ e
    → EndsTyped (fun_of p.main).result (end_in p empty_program limits bound (fun_of p.main) e w)
ends_in p limits formed bound w args f h None entered = tt
ends_in p limits formed bound w args f h (Some e) entered =
    let main = fun_of p.main in
    ends_of (rules_of (beside p empty_program)) w.store.objects (scope_of main.params []) main.result _ (results_are_typed (beside p empty_program) limits bound formed main refl w args f h e entered)

-- the run of a well-formed program
formed_gives : (allow : AllowList) (p : Program) → WellFormed (known allow (program_of p)) → (limits : Limits) → limits.ground.allowed ≡ allow → (args : List Value) (w : World) (end : End Value)
    → FitsProgram (beside p empty_program) w.store → AreTyped w.store.objects (types_in (fun_of p.main).params) args → RunsTo p empty_program limits args w end → EndIsOf (fun_of p.main).result end
formed_gives allow p formed limits allowed args w end f h run =
    let held = with_prelude p limits (subst (λ list. WellFormed (known list (program_of p))) (sym allowed) formed) in
    subst (EndsTyped (fun_of p.main).result) run.is (ends_in p limits held run.bound w args f h (entry (fun_of p.main).params args []) refl)

pub programs_are_typed : ProgramsAreTyped
programs_are_typed allow context text p good is limits allowed args w end f h run =
    let args_typed : AreTyped w.store.objects (types_in (fun_of p.main).params) args = subst (λ xs. AreTyped w.store.objects (types_in xs) args) (sym (variables_from allow context text p is)) h in
    subst (λ of. EndIsOf of end) (result_from allow context text p is) (formed_gives allow p (formed_from allow context text p good is) limits allowed args w end f args_typed run)

-- ---- its script

seen_typed : (of : Ty) (o : Outcome) (left : ℕ) (end : left_end.End) → EndIsOf of (end_seen end (world_left o left)) → ValueIsOf of o.heap.objects end
seen_typed of o left (l.Value value) h = h
seen_typed of o left (l.Thrown id place) h = tt
seen_typed of o left (l.Limit which place) h = tt

pub scripts_give : (script : Script) (store : Store) (args : List Value) (limits : run_limits) (o : Outcome) → RunsAsItsProgram script store args limits o → GivesTyped script store args o
scripts_give script store args limits o runs allow context p is f h =
    let ran = runs allow context p is (all_have store.objects (types_in (map variable_of context.variables)) args (all_are store.objects (types_in (map variable_of context.variables)) args h)) in
    let main = fun_of p.main in
    let args_typed : AreTyped store.objects (types_in main.params) args = subst (λ xs. AreTyped store.objects (types_in xs) args) (sym is.variables) h in
    let of_main = formed_gives allow p is.formed (limits_of limits allow) refl args (world_at store limits) (end_seen o.end (world_left o ran.left)) f args_typed ran.ends in
    let of_context = subst (λ of. EndIsOf of (end_seen o.end (world_left o ran.left))) is.result of_main in
    subst (λ of. ValueIsOf of o.heap.objects o.end) (sym is.kept) (seen_typed context.result o ran.left o.end of_context)
