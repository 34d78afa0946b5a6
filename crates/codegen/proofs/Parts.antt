-- Parts and parameters from one on.
use Rattle.std.proofs.Common.{◌≡◌, ◌≢◌, ℕ, zero, suc, ◌+◌, List, [], ◌∷◌, ◌++◌, length, drop, Some, None, Ok, Result, refl, sym, ap, ◌∙◌, subst, add-one, arith}
use Rattle.std.specs.Prelude.{map, slice_get}
use Rattle.pl_types.specs.declared.conversion.Cast.{Cast}
use Rattle.typed_tree.specs.declared.operation.Operation.TheVariants as operation
use Rattle.typed_tree.specs.declared.program.Named.{Named}
use Rattle.typed_tree.specs.declared.program.Program as typed
use Rattle.typed_tree.specs.declared.program.TypedFunction.{TypedFunction}
use Rattle.typed_tree.specs.declared.typed.Typed.{Typed}
use Rattle.pl_types.specs.declared.ty.Ty.{Ty}
use Rattle.source_meaning.specs.Tree.{Exprs, None', One, Fun, Program, type_of}
use Rattle.allowlist.specs.Allow.{AllowList}
use Rattle.program_typing.specs.Agreeing.{Known, known, types_of, types_in, Calls, Applies}
use Rattle.program_typing.specs.Types.{IsNamed}
use Rattle.source_meaning.specs.Programs.{expr_of, exprs_of, fun_of, variable_of, program_of}
use Rattle.compiler_relation.specs.Representation.{Representation, Unboxed, Boxed, representation_of}
use Rattle.compiler_relation.specs.Stands.{AllRepresented, CastFits, representations, representations_of, count, Fitting}
use Rattle.compiler_relation.specs.Parts.{cast_takes}
use Rattle.allowlist.specs.declared.member.MemberKind.TheVariants as kinds
use Rattle.codegen.specs.Checks.{denoted}
use Rattle.codegen.specs.Functions.{function_at}
use Rattle.codegen.specs.Worklist.{Item, Value, Values, Back, Wanted, As, Wants, Taken, indexed, wanted, parts_from, representations_in, member_takes}
use Rattle.codegen.specs.Sound.{Keeps, Refuses}
use Rattle.codegen.specs.declared.work_item.Wanted as dw
use Rattle.codegen.specs.declared.work_item.Wanted.TheVariants as w
use Rattle.codegen.specs.declared.config.Config.{Config}
use Rattle.codegen.proofs.Fitting.{is_boxed, flag_representation, casts_fit, cast_given}
use Rattle.codegen.proofs.Plans.{values_end, values_more}
use Rattle.codegen.proofs.Steps.{instead, never}
use Rattle.codegen.specs.declared.error.CodeError.{CodeError}

pub drop_at : {A : Type 0} (at : ℕ) (all : List A) (one : A) → slice_get all at ≡ Some one → drop at all ≡ one ∷ drop (suc at) all
drop_at zero [] one is = absurd cc
drop_at zero (x ∷ all) one is = ap (λ t. t ∷ all) cc
drop_at (suc at) [] one is = absurd cc
drop_at (suc at) (x ∷ all) one is = drop_at at all one is

pub drop_one : {A : Type 0} (at : ℕ) (all : List A) (one : A) → slice_get all at ≡ Some one → drop at all ≡ one ∷ drop (at + 1) all
drop_one at all one is = drop_at at all one is ∙ ap (λ n. one ∷ drop n all) (sym (add-one at))

pub drop_end : {A : Type 0} (at : ℕ) (all : List A) → slice_get all at ≡ None → drop at all ≡ []
drop_end zero [] is = refl
drop_end zero (x ∷ all) is = absurd cc
drop_end (suc at) [] is = refl
drop_end (suc at) (x ∷ all) is = drop_end at all is

module _ (funs : Program) (todo : List Item) (c : Config) where
  pub values_go : (parts : List Typed) (at : ℕ) (x : Typed) (wanted behind : Wanted) → slice_get parts at ≡ Some x → Taken wanted behind (representation_of (type_of (expr_of x)))
      → Back funs (Values (parts_from at parts) wanted ∷ todo) c (Value (expr_of x) ∷ Values (parts_from (at + 1) parts) behind ∷ todo) c
  values_go parts at x wanted behind is e =
      subst (λ (ps : List Typed). Back funs (Values (exprs_of (map expr_of ps)) wanted ∷ todo) c (Value (expr_of x) ∷ Values (parts_from (at + 1) parts) behind ∷ todo) c) (sym (drop_one at parts x is))
      (values_more funs todo c (expr_of x) (parts_from (at + 1) parts) wanted behind e)

  pub values_stop : (parts : List Typed) (at : ℕ) (wanted : Wanted) → slice_get parts at ≡ None → Wants wanted [] → Back funs (Values (parts_from at parts) wanted ∷ todo) c todo c
  values_stop parts at wanted is e =
      subst (λ (ps : List Typed). Back funs (Values (exprs_of (map expr_of ps)) wanted ∷ todo) c todo c) (sym (drop_end at parts is)) (values_end funs todo c wanted e)

pub taken_param : (params : List Named) (at : ℕ) (x : Named) (k : Representation) → slice_get params at ≡ Some x → k ≡ representation_of x.of → Taken (As (representations_in (drop at params))) (As (representations_in (drop (at + 1) params))) k
taken_param params at x k is e = record { by = λ ks h. ap (λ l. k ∷ l) h ∙ ap (λ l. l ∷ representations_in (drop (at + 1) params)) e ∙ sym (ap representations_in (drop_one at params x is)) }

pub last_param : (params : List Named) (at : ℕ) → slice_get params at ≡ None → Wants (As (representations_in (drop at params))) []
last_param params at is = sym (ap representations_in (drop_end at params is))

-- ---- operations

params_lie : (params : List Named) → representations_in params ≡ representations_of (map variable_of params)
params_lie [] = refl
params_lie (x ∷ xs) = ap (λ l. representation_of x.of ∷ l) (params_lie xs)

fun_at : (p : typed.Program) (number : ℕ) (f : TypedFunction) (g : Fun) → function_at p number ≡ Some f → slice_get (program_of p) number ≡ Some g → g ≡ fun_of f
fun_at p zero f g is e = let h : p.main ≡ f = cc in let k : fun_of p.main ≡ g = cc in sym k ∙ ap fun_of h
fun_at p (suc number) f g is e = nested p.functions number is e
  where
    nested : (fs : List TypedFunction) (n : ℕ) → slice_get fs n ≡ Some f → slice_get (map fun_of fs) n ≡ Some g → g ≡ fun_of f
    nested [] n is e = absurd cc
    nested (x ∷ fs) zero is e = let h : x ≡ f = cc in let k : fun_of x ≡ g = cc in sym k ∙ ap fun_of h
    nested (x ∷ fs) (suc n) is e = nested fs n is e

pub call_fits : (p : typed.Program) (number : ℕ) (f : TypedFunction) (ks : List Representation) (of : Ty) → function_at p number ≡ Some f → representation_of of ≡ representation_of f.result → Wants (As (representations_in f.parameters)) ks
    → Fitting (program_of p) (operation.Function number) ks of
call_fits p number f ks of is e h = λ g at.
    let same = fun_at p number f g is at in
    (h ∙ params_lie f.parameters ∙ sym (ap (λ (g : Fun). representations_of g.params) same), e ∙ sym (ap (λ (g : Fun). representation_of g.result) same))

-- ---- casts, and questions whether a value is of a type

-- one operand is represented as the cast takes it
pub cast_fits : (funs : Program) (by : Cast) (of : Ty) (given gives : Representation) → gives ≡ representation_of of → CastFits by of given gives
    → (ks : List Representation) → AllRepresented given ks → Fitting funs (operation.Cast by) ks of
cast_fits funs by of given gives r h [] lie = tt
cast_fits funs by of given gives r h (k ∷ []) lie = subst (λ (k : Representation). CastFits by of k (representation_of of)) (sym lie.0) (subst (λ (k : Representation). CastFits by of given k) r h)
cast_fits funs by of given gives r h (k ∷ j ∷ ks) lie = tt

pub cast_lies : (funs : Known) (by : Cast) (ofs : List Ty) (of : Ty) (given gives : Representation) → given ≡ cast_takes by gives → gives ≡ representation_of of → Applies funs (operation.Cast by) ofs of
    → AllRepresented given (map representation_of ofs) × CastFits by of given gives
cast_lies funs by [] of given gives e r x = absurd x
cast_lies funs by (from ∷ []) of given gives e r x =
    let same : given ≡ representation_of from = e ∙ ap (cast_takes by) r ∙ cast_given by from of x in
    ((sym same, tt), subst (λ (k : Representation). CastFits by of k gives) (sym same) (subst (λ (k : Representation). CastFits by of (representation_of from) k) (sym r) (casts_fit by from of x)))
cast_lies funs by (from ∷ other ∷ ofs) of given gives e r x = absurd x

pub record AskRepresented (is : Ty) (ofs : List Ty) (of : Ty) : Type 0 where
  pub operands : AllRepresented Boxed (map representation_of ofs)
  pub gives : representation_of of ≡ Unboxed
  pub named : IsNamed is

pub ask_representation : (funs : Known) (is : Ty) (ofs : List Ty) (of : Ty) → Applies funs (operation.InstanceOf is) ofs of → AskRepresented is ofs of
ask_representation funs is [] of x = absurd x
ask_representation funs is (from ∷ []) of x = record { operands = (is_boxed from x.0, tt); gives = flag_representation of x.2; named = x.1 }
ask_representation funs is (from ∷ other ∷ ofs) of x = absurd x

-- ---- parts of a well-formed program

pub parts_go : (parts : List Typed) (at : ℕ) (x : Typed) → slice_get parts at ≡ Some x → parts_from at parts ≡ One (expr_of x) (parts_from (at + 1) parts)
parts_go parts at x is = ap (λ (ps : List Typed). exprs_of (map expr_of ps)) (drop_one at parts x is)

pub parts_stop : (parts : List Typed) (at : ℕ) → slice_get parts at ≡ None → parts_from at parts ≡ None'
parts_stop parts at is = ap (λ (ps : List Typed). exprs_of (map expr_of ps)) (drop_end at parts is)

others_lie : (params : List Named) (at : ℕ) (k : Representation) (ks : List Representation) → k ∷ ks ≡ representations_in (drop at params) → ks ≡ representations_in (drop (suc at) params)
others_lie [] zero k ks e = absurd cc
others_lie [] (suc at) k ks e = absurd cc
others_lie (x ∷ params) zero k ks e = cc
others_lie (x ∷ params) (suc at) k ks e = others_lie params at k ks e

rest_lie : (ls : List Representation) (at : ℕ) (k : Representation) (ks : List Representation) → k ∷ ks ≡ drop at ls → ks ≡ drop (suc at) ls
rest_lie [] zero k ks e = absurd cc
rest_lie [] (suc at) k ks e = absurd cc
rest_lie (x ∷ ls) zero k ks e = cc
rest_lie (x ∷ ls) (suc at) k ks e = rest_lie ls at k ks e

pub wanted_of_others : (kind : dw.Wanted) (at : ℕ) (k : Representation) (ks : List Representation) → Wants (wanted at kind) (k ∷ ks) → Wants (wanted (at + 1) kind) ks
wanted_of_others (w.All one) at k ks h = h.1
wanted_of_others (w.As params) at k ks h = others_lie params.now at k ks h ∙ ap (λ n. representations_in (drop n params.now)) (sym (add-one at))
wanted_of_others (w.Member kind params) at k ks h = rest_lie (member_takes kind params.now) at k ks h ∙ ap (λ n. drop n (member_takes kind params.now)) (sym (add-one at))
wanted_of_others w.Indexed at k ks h = rest_lie indexed at k ks h ∙ ap (λ n. drop n indexed) (sym (add-one at))
wanted_of_others (w.Setter params one) at k ks h =
    rest_lie (member_takes kinds.Instance params.now) at k (ks ++ denoted one ∷ []) h ∙ ap (λ n. drop n (member_takes kinds.Instance params.now)) (sym (add-one at))

pub refuses_param : (params : List Named) (at : ℕ) (x : Named) (k : Representation) → slice_get params at ≡ Some x → k ≢ representation_of x.of → Refuses (As (representations_in (drop at params))) k
refuses_param params at x k is n = record { by = λ ks h. let e : k ∷ ks ≡ representation_of x.of ∷ representations_in (drop (at + 1) params) = h ∙ ap representations_in (drop_one at params x is) in n cc }

pub refuses_more : (params : List Named) (at : ℕ) (k : Representation) → slice_get params at ≡ None → Refuses (As (representations_in (drop at params))) k
refuses_more params at k is = record { by = λ ks h. let e : k ∷ ks ≡ [] = h ∙ ap representations_in (drop_end at params is) in absurd cc }

pub some_param : (params : List Named) (at : ℕ) (x : Named) → slice_get params at ≡ Some x → Wants (As (representations_in (drop at params))) [] → ⊥
some_param params at x is h = let e : [] ≡ representation_of x.of ∷ representations_in (drop (at + 1) params) = h ∙ ap representations_in (drop_one at params x is) in absurd cc

-- ---- calls of a well-formed program

pub function_there : (p : typed.Program) (number : ℕ) (g : Fun) → slice_get (program_of p) number ≡ Some g → function_at p number ≡ None → ⊥
function_there p zero g is e = absurd cc
function_there p (suc number) g is e = nested p.functions number is e
  where
    nested : (fs : List TypedFunction) (n : ℕ) → slice_get (map fun_of fs) n ≡ Some g → slice_get fs n ≡ None → ⊥
    nested [] n is e = absurd cc
    nested (x ∷ fs) zero is e = absurd cc
    nested (x ∷ fs) (suc n) is e = nested fs n is e

params_typed : (params : List Named) → map representation_of (types_in (map variable_of params)) ≡ representations_in params
params_typed [] = refl
params_typed (x ∷ xs) = ap (λ l. representation_of x.of ∷ l) (params_typed xs)

pub call_gives : (allow : AllowList) (p : typed.Program) (number : ℕ) (f : TypedFunction) (ofs : List Ty) (of : Ty) → function_at p number ≡ Some f → Calls (known allow (program_of p)) number ofs of → representation_of of ≡ representation_of f.result
call_gives allow p number f ofs of is x = ap representation_of (x.gives ∙ ap (λ (g : Fun). g.result) (fun_at p number f x.fun is x.is))

pub call_takes : (allow : AllowList) (p : typed.Program) (number : ℕ) (f : TypedFunction) (ofs : List Ty) (of : Ty) → function_at p number ≡ Some f → Calls (known allow (program_of p)) number ofs of → Wants (As (representations_in f.parameters)) (map representation_of ofs)
call_takes allow p number f ofs of is x =
    ap (map representation_of) (x.takes ∙ ap (λ (g : Fun). types_in g.params) (fun_at p number f x.fun is x.is)) ∙ params_typed f.parameters

-- ---- steps over the parts of a well-formed program

module _ (funs : Program) (todo : List Item) (c : Config) where
  pub keeps_part : (parts : List Typed) (at : ℕ) (x : Typed) (kind : dw.Wanted) → slice_get parts at ≡ Some x
      → Keeps funs (Values (parts_from at parts) (wanted at kind) ∷ todo) c (Ok tt) (Value (expr_of x) ∷ Values (parts_from (at + 1) parts) (wanted (at + 1) kind) ∷ todo) c
  keeps_part parts at x kind is =
      subst (λ (es : Exprs). Keeps funs (Values es (wanted at kind) ∷ todo) c (Ok tt) (Value (expr_of x) ∷ Values (parts_from (at + 1) parts) (wanted (at + 1) kind) ∷ todo) c) (sym (parts_go parts at x is))
      (instead funs (Values (One (expr_of x) (parts_from (at + 1) parts)) (wanted at kind) ∷ todo) (Value (expr_of x) ∷ Values (parts_from (at + 1) parts) (wanted (at + 1) kind) ∷ todo) c
      (λ allow of s. (s.0.0.0, ((s.0.0.1, wanted_of_others kind at (representation_of (type_of (expr_of x))) (representations (parts_from (at + 1) parts)) s.0.1), s.1))) refl)

  pub keeps_no_part : (parts : List Typed) (at : ℕ) (kind : dw.Wanted) → slice_get parts at ≡ None → Keeps funs (Values (parts_from at parts) (wanted at kind) ∷ todo) c (Ok tt) todo c
  keeps_no_part parts at kind is =
      subst (λ (es : Exprs). Keeps funs (Values es (wanted at kind) ∷ todo) c (Ok tt) todo c) (sym (parts_stop parts at is)) (instead funs (Values None' (wanted at kind) ∷ todo) todo c (λ allow of s. s.1) refl)

  pub keeps_unfit : (parts : List Typed) (at : ℕ) (x : Typed) (kind : dw.Wanted) (result : Result Unit CodeError) (todo' : List Item) (c' : Config) → slice_get parts at ≡ Some x
      → Refuses (wanted at kind) (representation_of (type_of (expr_of x))) → Keeps funs (Values (parts_from at parts) (wanted at kind) ∷ todo) c result todo' c'
  keeps_unfit parts at x kind result todo' c' is n =
      subst (λ (es : Exprs). Keeps funs (Values es (wanted at kind) ∷ todo) c result todo' c') (sym (parts_go parts at x is))
      (never funs (Values (One (expr_of x) (parts_from (at + 1) parts)) (wanted at kind) ∷ todo) todo' c result c' (λ allow of s. n.by (representations (parts_from (at + 1) parts)) s.0.1))

  pub keeps_unended : (parts : List Typed) (at : ℕ) (kind : dw.Wanted) (result : Result Unit CodeError) (todo' : List Item) (c' : Config) → slice_get parts at ≡ None
      → (Wants (wanted at kind) [] → ⊥) → Keeps funs (Values (parts_from at parts) (wanted at kind) ∷ todo) c result todo' c'
  keeps_unended parts at kind result todo' c' is n =
      subst (λ (es : Exprs). Keeps funs (Values es (wanted at kind) ∷ todo) c result todo' c') (sym (parts_stop parts at is))
      (never funs (Values None' (wanted at kind) ∷ todo) todo' c result c' (λ allow of s. n s.0.1))

-- ---- how many parts there are

pub parts_counted : (parts : List Typed) → count (exprs_of (map expr_of parts)) ≡ length parts
parts_counted [] = refl
parts_counted (x ∷ parts) = ap suc (parts_counted parts)

pub types_counted : (parts : List Typed) → length (types_of (exprs_of (map expr_of parts))) ≡ length parts
types_counted [] = refl
types_counted (x ∷ parts) = ap suc (types_counted parts)

pub alone : (parts : List Typed) (x : Typed) → slice_get parts 0 ≡ Some x → slice_get parts 1 ≡ None → parts ≡ x ∷ []
alone [] x is e = absurd cc
alone (y ∷ []) x is e = ap (λ y. y ∷ []) cc
alone (y ∷ z ∷ parts) x is e = absurd cc

pub both : (parts : List Typed) (x y : Typed) → slice_get parts 0 ≡ Some x → slice_get parts 1 ≡ Some y → length parts ≡ 2 → parts ≡ x ∷ y ∷ []
both [] x y is e many = absurd cc
both (v ∷ []) x y is e many = absurd cc
both (v ∷ w ∷ []) x y is e many = let first : v ≡ x = cc in let second : w ≡ y = cc in λ k. first k ∷ second k ∷ []
both (v ∷ w ∷ z ∷ parts) x y is e many = absurd (omega arith)
