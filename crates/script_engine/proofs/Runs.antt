-- A run of a script is that of its program.
use Rattle.std.specs.Prelude.{pos, slice_get}
use Rattle.std.specs.Ordering.{int_eq}
use Rattle.std.proofs.Common.{◌≡◌, ℕ, ◌+◌, ◌-◌, ◌≤◌, ◌<◌, Bool, true, false, not, List, [], ◌∷◌, map, Option, Some, None, option_map, IsTrue, inl, inr, ◌⊎◌, refl, sym, subst, ap, ◌∙◌, arith}
use Rattle.std.proofs.lemmas.Bool.{cases_order}
use Rattle.pl_types.specs.declared.ty.Ty.{Ty, out-Ty}
use Rattle.pl_types.specs.declared.primitive.Primitive.{Primitive}
use Rattle.pl_types.specs.declared.primitive.Primitive.TheVariants as prim
use Rattle.pl_types.specs.declared.ty.Ty.TheOpen.{Ty-F}
use Rattle.object_values.specs.declared.value.Value.{Value}
use Rattle.object_values.specs.declared.value.Value.TheVariants as v
use Rattle.object_heap.specs.Store.{Store}
use Rattle.object_heap.specs.declared.outcome.End as left_end
use Rattle.object_heap.specs.declared.outcome.End.TheVariants as l
use Rattle.object_heap.specs.declared.outcome.Outcome.{Outcome}
use Rattle.compiled_outcome.specs.World as run
use Rattle.compiled_outcome.specs.World.{World, Limit, Arose, End, Result, Uncaught, Limited}
use Rattle.typed_tree.specs.declared.program.Program.{Program}
use Rattle.codegen.specs.Programs.{fun_of, program_of, variable_of}
use Rattle.codegen.specs.Tree.{Variable, Fun}
use Rattle.codegen.specs.Types.{default_of, default_of_layer, default_of_primitive}
use Rattle.codegen.specs.Meaning.{Env, Out, Done, Thrown, Over, More, Flow, Normal, Broke, Continued, Returned, entry, returned, meaning}
use Rattle.object_values.specs.declared.object.Owner.TheVariants.{Script as script_text}
use Rattle.compiled_outcome.specs.Types.{Has, HasLayer, HasPrimitive, HaveAll}
use Rattle.compiled_outcome.specs.Agreeing.{known, types_in, WellFormed}
use Rattle.compiled_outcome.specs.Enough.{enough, FlowOut, IsEnough}
use Rattle.compiled_outcome.proofs.Enough.{comes_to_an_end}
use Rattle.compiled_outcome.specs.Representation.{representation_of, representation_of_layer, low, kind_of, kind_of_layer, kind_of_primitive}
use Rattle.compiled_outcome.specs.Stands.{kinds_of}
use Rattle.compiled_outcome.specs.Correct as code
use Rattle.compiled_outcome.specs.Correct.{EndsAs}
use Rattle.compiled_outcome.specs.Outcome.{CodeEndsAsPrograms}
use Rattle.verified_machine.specs.code_meaning_declared.word.Word.{Word}
use Rattle.verified_machine.specs.Words.{bit, unboxed}
use Rattle.verified_machine.specs.Machine as code_config
use Rattle.verified_machine.specs.Machine.{Next, Goes, Ends, start, after}
use Rattle.verified_machine.specs.machine_declared.configuration.Limits.{Limits}
use Rattle.verified_machine.specs.machine_declared.configuration.RunEnd as run_end
use Rattle.verified_machine.specs.machine_declared.configuration.RunEnd.TheVariants as r
use Rattle.verified_machine.specs.Code.{Executable, codes_in}
use Rattle.verified_machine.specs.Seen.{limits_in, limit_of, ended}
use Rattle.verified_machine.specs.Activations.{Activation, later, is_over, counted}
use Rattle.verified_machine.proofs.Turning.{comes_to_its_end}
use Rattle.script_engine.specs.declared.compiling.Script.{Script}
use Rattle.script_engine.specs.Ends.{beside, end_of, end_in, end_with, given, given_layer}
use Rattle.script_engine.specs.Codes.{begins, functions_in, script_codes}
use Rattle.script_engine.specs.Executables.{executable_of}
use Rattle.script_engine.specs.Preludes.{empty_program}
use Rattle.script_engine.specs.Seen.{limits_of}
use Rattle.script_engine.proofs.Beside.{prelude_compiled, with_prelude}
use Rattle.script_engine.specs.Running.{value_by, value_of, word_in, words_in, params_of, end_left, end_seen, world_left, world_at, begun, Comes, IsOutcome, RunsAsItsProgram, TakesTyped}
use Rattle.script_engine.specs.Compiling.{IsScriptOf}
use Rattle.script_engine.proofs.Left.{comes_with}
use Rattle.verified_machine.specs.Tasks.{ending, most_left, rest_from}
use Rattle.verified_machine.specs.Fits.{main_params}
use Rattle.verified_machine.specs.Fits.{kind_of as word_kind, kinds_of as word_kinds}
use Rattle.pl_code.specs.declared.code.FunCode.{FunCode}
use Rattle.pl_code.specs.declared.kinds.Slot.{Slot}
use Rattle.static_types.specs.typing_rules_declared.header.ContextTypes.{ContextTypes}
use Rattle.static_types.specs.Allow.{AllowList}

-- an activation of code that gives this type left this
record LeftBy (of : Ty) (a : Activation) (o : Outcome) : Type 0 where
  left : ℕ
  end : run_end.RunEnd
  read : end_left of end ≡ Some o.end
  stands : a.now ≡ Some (ended end (world_left o left))
  ticks : o.ticks ≡ a.limits.ticks - left

-- ---- where a run of code stands that has ended

not_going : (c : code_config.Config) → IsTrue (is_over (Some (Goes c))) → ⊥
not_going c over = cc

first_or_last : (n m : ℕ) → (n ≤ m) ⊎ (m < n)
first_or_last n m = elim (cases_order n m) [
  | inl e ↦ inl (omega arith)
  | inr lt ↦ elim lt [ inl below ↦ inl (omega arith) | inr above ↦ inr above ]
]

ends_there : (a : Activation) (from : Next) (end : End (Option Word)) → a.now ≡ Some from → EndsAs (codes_in a.executable) (limits_in a.executable a.limits) from end → (q : ℕ)
    → IsTrue (is_over (later q a).now) → (later q a).now ≡ Some (Ends end)
ends_there a from end stands ran q over = elim (first_or_last ran.steps q) [
  | inl within ↦ comes_to_its_end a from ran.steps q end stands ran.ends within
  | inr early ↦
      (let c = ran.before q early in
      let goes : (later q a).now ≡ Some (Goes c.0) = ap (option_map (after (codes_in a.executable) (limits_in a.executable a.limits) q)) stands ∙ ap (λ n. Some n) c.1 in
      absurd (not_going c.0 (subst (λ now. IsTrue (is_over now)) goes over)))
]

-- ---- the end with its value

boolean_read : (flag : Bool) → v.Bool (not (int_eq (bit flag) (pos 0))) ≡ v.Bool flag
boolean_read true = refl
boolean_read false = refl

read_primitive : (p : Primitive) (value : Value) → HasPrimitive p value → value_by (Ty-F.Prim p) (Some (unboxed value)) ≡ given_layer (Ty-F.Prim p) value
read_primitive prim.Boolean value has = subst (λ x. value_by (Ty-F.Prim prim.Boolean) (Some (unboxed x)) ≡ given_layer (Ty-F.Prim prim.Boolean) x) (sym has.1) (boolean_read has.0)
read_primitive prim.Byte value has = subst (λ x. value_by (Ty-F.Prim prim.Byte) (Some (unboxed x)) ≡ given_layer (Ty-F.Prim prim.Byte) x) (sym has.1) refl
read_primitive prim.Short value has = subst (λ x. value_by (Ty-F.Prim prim.Short) (Some (unboxed x)) ≡ given_layer (Ty-F.Prim prim.Short) x) (sym has.1) refl
read_primitive prim.Char value has = subst (λ x. value_by (Ty-F.Prim prim.Char) (Some (unboxed x)) ≡ given_layer (Ty-F.Prim prim.Char) x) (sym has.1) refl
read_primitive prim.Int value has = subst (λ x. value_by (Ty-F.Prim prim.Int) (Some (unboxed x)) ≡ given_layer (Ty-F.Prim prim.Int) x) (sym has.1) refl
read_primitive prim.Long value has = subst (λ x. value_by (Ty-F.Prim prim.Long) (Some (unboxed x)) ≡ given_layer (Ty-F.Prim prim.Long) x) (sym has.1) refl

-- a value of a type that is read, by its word
read_back : (l : Ty-F Ty) (value : Value) → HasLayer l value → value_by l (low (representation_of_layer l) value) ≡ given_layer l value
read_back Ty-F.Void value has = refl
read_back Ty-F.Null value has = refl
read_back Ty-F.Def value has = refl
read_back (Ty-F.Prim p) value has = read_primitive p value has
read_back (Ty-F.Class class) value has = refl
read_back (Ty-F.Array of) value has = refl

default_has_primitive : (p : Primitive) → HasPrimitive p (default_of_primitive p)
default_has_primitive prim.Boolean = (false, refl)
default_has_primitive prim.Byte = (pos 0, refl)
default_has_primitive prim.Short = (pos 0, refl)
default_has_primitive prim.Char = (0, refl)
default_has_primitive prim.Int = (pos 0, refl)
default_has_primitive prim.Long = (pos 0, refl)

default_has : (l : Ty-F Ty) → HasLayer l (default_of_layer l)
default_has Ty-F.Void = tt
default_has Ty-F.Null = tt
default_has Ty-F.Def = tt
default_has (Ty-F.Prim p) = default_has_primitive p
default_has (Ty-F.Class class) = tt
default_has (Ty-F.Array of) = tt

same_given : (x y : Value) → Some x ≡ Some y → x ≡ y
same_given x y is = cc

-- what a function gives is of its type
given_has : (of : Ty) (flow : Flow) → FlowOut of flow → (x : Value) → returned of flow ≡ Some x → Has of x
given_has of Normal out x is = subst (Has of) (same_given (default_of of) x is) (default_has (out-Ty of))
given_has of Broke out x is = absurd out
given_has of Continued out x is = absurd out
given_has of (Returned value) out x is = subst (Has of) (same_given value x is) out

result_at : (value other : Value) (s w : World) → value ≡ other → s ≡ w → Some (Result value s) ≡ Some (Result other w)
result_at value other s w v e = ap (λ x. Some (Result x s)) v ∙ ap (λ x. Some (Result other x)) e

with_value : (of : Ty) (value : Option Value) → ((x : Value) → value ≡ Some x → Has of x) → (s w : World) (word : Option Word)
    → code.end_with of value s ≡ Some (Result word w) → end_with of value s ≡ Some (Result (value_of of word) w)
with_value of None has s w word is = cc
with_value of (Some value) has s w word is =
    let words : low (representation_of of) value ≡ word = cc in
    let worlds : s ≡ w = cc in
    let back : value_of of (low (representation_of of) value) ≡ given of value = read_back (out-Ty of) value (has value refl) in
    result_at (given of value) (value_of of word) s w (sym back ∙ ap (value_of of) words) worlds

pub value_end : (of : Ty) (o : Out Flow) → IsEnough of o → (word : Option Word) (w : World) → code.end_of of o ≡ Some (Result word w)
    → end_of of o ≡ Some (Result (value_of of word) w)
value_end of (Done flow s e) enough word w is = with_value of (returned of flow) (given_has of flow enough) s.world w word is
value_end of (Thrown id place s e) enough word w is = cc
value_end of (Over limit place s) enough word w is = cc
value_end of More enough word w is = cc

not_thrown : (of : Ty) (value : Option Value) (s w : World) (id : ℕ) (place : Arose) → code.end_with of value s ≡ Some (Uncaught id place w) → ⊥
not_thrown of None s w id place is = cc
not_thrown of (Some value) s w id place is = cc

abbrev uncaught : ℕ → Arose → World → Option (End Value)
uncaught id place w = Some (Uncaught id place w)

thrown_at : (id other : ℕ) (place there : Arose) (s w : World) → id ≡ other → place ≡ there → s ≡ w → uncaught id place s ≡ uncaught other there w
thrown_at id other place there s w i p e = ap (λ x. uncaught x place s) i ∙ ap (λ x. uncaught other x s) p ∙ ap (uncaught other there) e

pub thrown_end : (of : Ty) (o : Out Flow) (id : ℕ) (place : Arose) (w : World) → code.end_of of o ≡ Some (Uncaught id place w) → end_of of o ≡ Some (Uncaught id place w)
thrown_end of (Done flow s e) id place w is = absurd (not_thrown of (returned of flow) s.world w id place is)
thrown_end of (Thrown i p s e) id place w is =
    let ids : i ≡ id = cc in
    let places : p ≡ place = cc in
    let worlds : s.world ≡ w = cc in
    thrown_at i id p place s.world w ids places worlds
thrown_end of (Over limit p s) id place w is = cc
thrown_end of More id place w is = cc

not_limited : (of : Ty) (value : Option Value) (s w : World) (limit : Limit) (place : Arose) → code.end_with of value s ≡ Some (Limited limit place w) → ⊥
not_limited of None s w limit place is = cc
not_limited of (Some value) s w limit place is = cc

abbrev limited : Limit → Arose → World → Option (End Value)
limited limit place w = Some (Limited limit place w)

limited_at : (limit other : Limit) (place there : Arose) (s w : World) → limit ≡ other → place ≡ there → s ≡ w → limited limit place s ≡ limited other there w
limited_at limit other place there s w l p e = ap (λ x. limited x place s) l ∙ ap (λ x. limited other x s) p ∙ ap (limited other there) e

pub limited_end : (of : Ty) (o : Out Flow) (limit : Limit) (place : Arose) (w : World) → code.end_of of o ≡ Some (Limited limit place w) → end_of of o ≡ Some (Limited limit place w)
limited_end of (Done flow s e) limit place w is = absurd (not_limited of (returned of flow) s.world w limit place is)
limited_end of (Thrown id p s e) limit place w is = cc
limited_end of (Over l p s) limit place w is =
    let ls : l ≡ limit = cc in
    let places : p ≡ place = cc in
    let worlds : s ≡ w = cc in
    limited_at l limit p place s w ls places worlds
limited_end of More limit place w is = cc

-- the same of the whole run, which began in an environment

abbrev pub main_out : Program → run.Limits → ℕ → Fun → World → Env → Out Flow
main_out p limits bound main begun e =
    (meaning (beside p empty_program) limits bound).stmts (record { text = script_text; depth = 0 }) (record { world = begun; turns = 0 }) e main.body

end_read : (p : Program) (limits : run.Limits) (bound : ℕ) (main : Fun) (o : Option Env) (begun : World)
    → ((e : Env) → o ≡ Some e → IsEnough main.result (main_out p limits bound main begun e)) → (end : run_end.RunEnd) (left : left_end.End) (w : World)
    → end_left main.result end ≡ Some left → (whole : End (Option Word)) → code.source_in (beside p empty_program) limits bound main o begun ≡ Some whole → Ends whole ≡ ended end w
    → end_in p empty_program limits bound main o begun ≡ Some (end_seen left w)
end_read p limits bound main None begun enough end left w seen whole is same = cc
end_read p limits bound main (Some e) begun enough (r.Result word) left w seen whole is same =
    let ends : whole ≡ Result word w = cc in
    value_end main.result (main_out p limits bound main begun e) (enough e refl) word w (is ∙ ap (λ x. Some x) ends)
    ∙ ap (λ x. Some (end_seen x w)) (let given : l.Value (value_of main.result word) ≡ left = cc in given)
end_read p limits bound main (Some e) begun enough (r.Thrown id place) left w seen whole is same =
    let ends : whole ≡ Uncaught id place w = cc in
    thrown_end main.result (main_out p limits bound main begun e) id place w (is ∙ ap (λ x. Some x) ends)
    ∙ ap (λ x. Some (end_seen x w)) (let given : l.Thrown id place ≡ left = cc in given)
end_read p limits bound main (Some e) begun enough (r.Limit which place) left w seen whole is same =
    let ends : whole ≡ Limited (limit_of which) place w = cc in
    limited_end main.result (main_out p limits bound main begun e) (limit_of which) place w (is ∙ ap (λ x. Some x) ends)
    ∙ ap (λ x. Some (end_seen x w)) (let given : l.Limit which place ≡ left = cc in given)
end_read p limits bound main (Some e) begun enough r.Stuck left w seen whole is same = cc

-- ---- arguments

word_match_primitive : (p : Primitive) (value : Value) (word : Word) → Some word ≡ Some (unboxed value) → word ≡ word_in (kind_of_primitive p) value
word_match_primitive prim.Boolean value word is = cc
word_match_primitive prim.Byte value word is = cc
word_match_primitive prim.Short value word is = cc
word_match_primitive prim.Char value word is = cc
word_match_primitive prim.Int value word is = cc
word_match_primitive prim.Long value word is = cc

word_match : (l : Ty-F Ty) (value : Value) (word : Word) → Some word ≡ low (representation_of_layer l) value → word ≡ word_in (kind_of_layer l) value
word_match Ty-F.Void value word is = cc
word_match Ty-F.Null value word is = cc
word_match Ty-F.Def value word is = cc
word_match (Ty-F.Prim p) value word is = word_match_primitive p value word is
word_match (Ty-F.Class class) value word is = cc
word_match (Ty-F.Array of) value word is = cc

one_more : (word word' : Word) (words words' : List Word) → word ≡ word' → words ≡ words' → word ∷ words ≡ word' ∷ words'
one_more word word' words words' w e = ap (λ x. x ∷ words) w ∙ ap (λ x. word' ∷ x) e

words_match : (params : List Variable) (args : List Value) (words : List Word) → map Some words ≡ code.words_of params args → words ≡ words_in (kinds_of params) args
words_match [] args [] are = refl
words_match [] args (word ∷ words) are = cc
words_match (x ∷ params) [] [] are = refl
words_match (x ∷ params) [] (word ∷ words) are = cc
words_match (x ∷ params) (value ∷ args) [] are = cc
words_match (x ∷ params) (value ∷ args) (word ∷ words) are =
    let first : Some word ≡ low (representation_of x.of) value = cc in
    let rest : map Some words ≡ code.words_of params args = cc in
    one_more word (word_in (kind_of x.of) value) words (words_in (kinds_of params) args) (word_match (out-Ty x.of) value word first) (words_match params args words rest)

-- ---- a script's run

same_env : (o : Option Env) (e e' : Env) → o ≡ Some e → o ≡ Some e' → e ≡ e'
same_env o e e' is is' = cc

-- How the code of a script of a program ends on arguments beside the prelude's, and how the program does at a bound that is enough.
pub record BothEnd (p : Program) (script : Script) (limits : run.Limits) (args : List Value) (w : World) : Type 0 where
  pub end : End (Option Word)
  pub code_ends : EndsAs (functions_in (script_codes script)) limits (begins (script_codes script) args w) end
  pub bound : ℕ
  pub comes : (e : Env) → entry (fun_of p.main).params args [] ≡ Some e → IsEnough (fun_of p.main).result (main_out p limits bound (fun_of p.main) w e)
  pub is : code.source_in (beside p empty_program) limits bound (fun_of p.main) (entry (fun_of p.main).params args []) w ≡ Some end

pub both_end : CodeEndsAsPrograms → (allow : AllowList) (context : ContextTypes) (p : Program) (script : Script) → IsScriptOf allow context p script → (limits : run.Limits) → limits.ground.allowed ≡ allow
    → (args : List Value) → HaveAll (types_in (map variable_of context.variables)) args → (w : World) → BothEnd p script limits args w
both_end outcomes allow context p script is limits allowed args have w =
    let main = fun_of p.main in
    let functions = script.executable.code.functions in
    let have' : HaveAll (types_in main.params) args = subst (λ ps. HaveAll (types_in ps) args) (sym is.variables) have in
    let formed = with_prelude p limits (subst (λ list. WellFormed (known list (program_of p))) (sym allowed) is.formed) in
    let codes = functions_in (script_codes script) in
    let out = outcomes p (program_of empty_program) codes limits formed is.code prelude_compiled args have' w in
    let first = is.code.each 0 main refl in
    let kinds : params_of (slice_get functions 0) ≡ kinds_of main.params = ap params_of first.is ∙ first.params in
    let words : out.words ≡ words_in (params_of (slice_get functions 0)) args = words_match main.params args out.words out.are.are ∙ ap (λ ks. words_in ks args) (sym kinds) in
    let bound = enough (beside p empty_program) w in
    let ran = comes_to_an_end (beside p empty_program) limits formed main refl args have' w bound (omega arith) in
    record {
      end = out.end;
      code_ends = subst (λ ws. EndsAs codes limits (start codes ws w) out.end) words out.code_ends;
      bound = bound;
      comes = λ e h. subst (λ x. IsEnough main.result (main_out p limits bound main w x)) (same_env (entry main.params args []) ran.0 e ran.1 h) ran.2;
      is = out.ends.always bound (omega arith);
    }

runs_as_its_program : CodeEndsAsPrograms → (script : Script) (store : Store) (args : List Value) (limits : Limits) (a : Activation) (q : ℕ) (o : Outcome)
    → a ≡ begun script store args limits → IsTrue (is_over (later q a).now) → LeftBy script.result (later q a) o → RunsAsItsProgram script store args limits o
runs_as_its_program outcomes script store args limits a q o from_start over by allow context p is have =
    let main = fun_of p.main in
    let gives : script.result ≡ main.result = is.kept ∙ sym is.result in
    let w = world_at store limits in
    let kept = limits_of limits script.executable.allow in
    let both = both_end outcomes allow context p script is kept is.allowed args have w in
    let from = begins (script_codes script) args w in
    let b : Activation = begun script store args limits in
    let stands : (later q b).now ≡ Some (Ends both.end) = ends_there b from both.end refl both.code_ends q (subst (λ x. IsTrue (is_over (later q x).now)) from_start over) in
    let there : Some (Ends both.end) ≡ Some (ended by.end (world_left o by.left)) = sym stands ∙ sym (ap (λ x. (later q x).now) from_start) ∙ by.stands in
    let same : Ends both.end ≡ ended by.end (world_left o by.left) = cc in
    subst (λ list. IsOutcome list p empty_program store args limits o) is.allowed (record {
      left = by.left;
      ends = record {
        bound = both.bound;
        is = end_read p kept both.bound main (entry main.params args []) w both.comes by.end o.end (world_left o by.left) (subst (λ of. end_left of by.end ≡ Some o.end) gives by.read) both.end both.is same;
      };
      ticks = by.ticks ∙ ap (λ x. (later q x).limits.ticks - by.left) from_start;
    })

-- .. and so does what it comes to
pub ending_runs : CodeEndsAsPrograms → (script : Script) (store : Store) (args : List Value) (limits : Limits) (o : Outcome)
    → Comes script.result (ending (begun script store args limits)) o → RunsAsItsProgram script store args limits o
ending_runs outcomes script store args limits o comes =
    let a = begun script store args limits in
    let codes = functions_in (script_codes script) in
    let from = begins (script_codes script) args (world_at store limits) in
    let kept = limits_of limits script.executable.allow in
    let k = most_left codes kept from in
    let n = after codes kept k from in
    let ends = comes_with script.result limits.ticks (counted (0 + rest_from codes kept (Some from))) o n comes in
    runs_as_its_program outcomes script store args limits a k o refl ends.over (record { left = ends.left; end = ends.end; read = ends.read; stands = ap (λ x. Some x) ends.stands; ticks = ends.ticks })

-- where a run stands that the machine has begun
pub begun_so : (script : Script) (store : Store) (args : List Value) (limits : Limits) (held : Executable) (kinds : List Slot) (words : List Word) (a : Activation) → held ≡ executable_of script.executable
    → kinds ≡ params_of (slice_get script.executable.code.functions 0) → words ≡ words_in kinds args
    → a ≡ record { executable = held; limits = limits; now = Some (start (codes_in held) words (world_at store limits)); steps = 0 } → a ≡ begun script store args limits
begun_so script store args limits held kinds words a same are given is =
    let taken : words ≡ words_in (params_of (slice_get script.executable.code.functions 0)) args = given ∙ ap (λ ks. words_in ks args) are in
    is ∙ (λ i. record { executable = same i; limits = limits; now = Some (start (codes_in (same i)) (taken i) (world_at store limits)); steps = 0 })

-- ---- arguments

primitive_kind : (p : Primitive) (value : Value) → HasPrimitive p value → word_kind (word_in (kind_of_primitive p) value) ≡ kind_of_primitive p
primitive_kind prim.Boolean value has = ap (λ x. word_kind (unboxed x)) has.1
primitive_kind prim.Byte value has = ap (λ x. word_kind (unboxed x)) has.1
primitive_kind prim.Short value has = ap (λ x. word_kind (unboxed x)) has.1
primitive_kind prim.Char value has = ap (λ x. word_kind (unboxed x)) has.1
primitive_kind prim.Int value has = ap (λ x. word_kind (unboxed x)) has.1
primitive_kind prim.Long value has = ap (λ x. word_kind (unboxed x)) has.1

layer_kind : (l : Ty-F Ty) (value : Value) → HasLayer l value → word_kind (word_in (kind_of_layer l) value) ≡ kind_of_layer l
layer_kind Ty-F.Void value has = refl
layer_kind Ty-F.Null value has = refl
layer_kind Ty-F.Def value has = refl
layer_kind (Ty-F.Prim p) value has = primitive_kind p value has
layer_kind (Ty-F.Class class) value has = refl
layer_kind (Ty-F.Array of) value has = refl

-- the words of arguments of the parameters' types are of the parameters' kinds
arguments_fit : (params : List Variable) (args : List Value) → HaveAll (types_in params) args → word_kinds (words_in (kinds_of params) args) ≡ kinds_of params
arguments_fit [] [] have = refl
arguments_fit [] (value ∷ args) have = absurd have
arguments_fit (x ∷ params) [] have = absurd have
arguments_fit (x ∷ params) (value ∷ args) have =
    ap (λ k. k ∷ word_kinds (words_in (kinds_of params) args)) (layer_kind (out-Ty x.of) value have.0)
    ∙ ap (λ ks. kind_of x.of ∷ ks) (arguments_fit params args have.1)

pub first_params : (code : List FunCode) (f : FunCode) → slice_get code 0 ≡ Some f → main_params code ≡ f.params
first_params [] f is = cc
first_params (g ∷ code) f is = cc

pub takes_typed : (allow : AllowList) (context : ContextTypes) (p : Program) (script : Script) → IsScriptOf allow context p script → TakesTyped context script
takes_typed allow context p script is args have =
    let main = fun_of p.main in
    let functions = script.executable.code.functions in
    let first = is.code.each 0 main refl in
    let have' : HaveAll (types_in main.params) args = subst (λ ps. HaveAll (types_in ps) args) (sym is.variables) have in
    let kinds : params_of (slice_get functions 0) ≡ kinds_of main.params = ap params_of first.is ∙ first.params in
    ap (λ ks. word_kinds (words_in ks args)) kinds
    ∙ arguments_fit main.params args have'
    ∙ sym (first_params functions first.body first.is ∙ first.params)
