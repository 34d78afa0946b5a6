-- Loops over elements agree: an iterator is put into the scope of what typing gave, under a name that was not in sight there.
use Rattle.std.proofs.Common.{◌≡◌, ℕ, Bool, true, false, [], ◌∷◌, length, Option, Some, None, Ok, refl, sym, ap, ◌∙◌, subst}
use Rattle.std.specs.Prelude.{if◌then◌else◌}
use Rattle.pl_types.specs.declared.classes.TheConstants.{ITERATOR}
use Rattle.pl_types.specs.declared.rules.TheConstants.{BAD_CAST}
use Rattle.pl_types.specs.declared.ty.Ty.{Ty, out-Ty}
use Rattle.pl_types.specs.declared.ty.Ty.TheOpen.{Ty-F}
use Rattle.pl_types.specs.declared.ty.Ty.TheVariants as t
use Rattle.pl_tree.specs.declared.tree.Spelled.{Spelled}
use Rattle.typed_tree.specs.declared.operation.Operation.TheVariants as o
use Rattle.typed_tree.specs.declared.operation.Operator.TheVariants as operator
use Rattle.typed_tree.specs.declared.statement.TypedVariable.{TypedVariable}
use Rattle.typed_tree.specs.declared.typed.Typed.{Typed}
use Rattle.typing_rules.specs.declared.part.Each.{Each}
use Rattle.typing_rules.specs.declared.part.Form.TheVariants as f
use Rattle.typing_rules.specs.declared.part.Part.{Part}
use Rattle.typing_rules.specs.declared.part.Step.{Step}
use Rattle.typing_rules.specs.declared.state.State.{State}
use Rattle.typing_rules.specs.Scopes.{find}
use Rattle.typing_rules.specs.State.{closed, variable as new_entry, declared as declares_name}
use Rattle.typing_rules.specs.Outcomes.{refuse, bind}
use Rattle.typing_rules.specs.Doing.{Answer, Doing, and_then}
use Rattle.typing_rules.specs.Rules.Nodes.{boolean, plain, type_of_part}
use Rattle.typing_rules.specs.Rules.Loops.{iterator_name, iterator_type, iterator, iterated, has_next, next, element_layer, goes_to, each, taken, each_if, each_of, turn, each_loop}
use Rattle.typing_rules.specs.Typing.{Reading, looping, for_each}
use Rattle.source_typing.specs.Tree.{Name, Stmt, While, Block, Stmts, Finish, Then, Declare, Missing, Given, Variable, type_of}
use Rattle.source_typing.specs.Programs.{expr_of, alone, before}
use Rattle.source_typing.specs.Types.{IsReference}
use Rattle.source_typing.specs.Agreeing.{Known as Script, Scope, variable_of, StmtsAgree}
use Rattle.source_typing.specs.Reached.{MayFollow, StmtsReached}
use Rattle.source_typing.specs.Falls.{all_fall}
use Rattle.typing_soundness.proofs.Nodes.{local_is, applied_is}
use Rattle.typing_soundness.proofs.Types.{IsBuilt, built_aim, built_values, reference_by, class_built, class_reference}
use Rattle.typing_soundness.proofs.Parts.{passed, accepted, settled, TypedIs, PartIs, node_is, part_of, def_part, cast_at_is}
use Rattle.typing_soundness.proofs.Names.{in_sight, older, same_name}
use Rattle.typing_soundness.proofs.Values.{Value, ruled, PartAt, ReadingIs}
use Rattle.typing_soundness.proofs.Sentences as sentence
use Rattle.typing_soundness.proofs.Inserting.{Here, Behind, stmts_inserted}
use Rattle.typing_soundness.proofs.Steps.{closes, sight_grows, not_found, Bodies, StepAt, step_at}
use Rattle.typing_soundness.proofs.Compounds.{looping_is, Declared, declared_by, declared_grew}

-- ---- what has elements is a reference

elements_of : (l : Ty-F Ty) (of to : Ty) → out-Ty of ≡ l → goes_to (element_layer l) to ≡ true → IsReference of
elements_of Ty-F.Void of to is h = cc
elements_of Ty-F.Null of to is h = cc
elements_of Ty-F.Def of to is h = reference_by of Ty-F.Def is tt
elements_of (Ty-F.Prim p) of to is h = cc
elements_of (Ty-F.Class c) of to is h = reference_by of (Ty-F.Class c) is tt
elements_of (Ty-F.Array u) of to is h = reference_by of (Ty-F.Array u) is tt

-- ---- what the rule gives

record EachIs (s : State) (at : ℕ) (name : Name) (to : Ty) (x : Part) (e : Each) : Type 0 where
  value : Typed
  cast : taken at to ≡ Ok value
  is : each at name to x.typed value ≡ e
  reference : IsReference (type_of_part x)
  unseen : find iterator_name s.scopes ≡ None

goes_if : (c : Bool) (s : State) (number at : ℕ) (name : Name) (to : Ty) (x : Part) (e : Each) → goes_to (element_layer (out-Ty (type_of_part x))) to ≡ c
    → (if c then bind (taken at to) (λ value. accepted (each at name to x.typed value)) else refuse number x.at) ≡ accepted e → find iterator_name s.scopes ≡ None
    → EachIs s at name to x e
goes_if false s number at name to x e is given none = cc
goes_if true s number at name to x e is given none =
    let a = passed (taken at to) (λ value. accepted (each at name to x.typed value)) e given in
    record {
      value = a.given;
      cast = a.first;
      is = settled (λ e. each at name to x.typed a.given ≡ e) (each at name to x.typed a.given) e a.then' refl;
      reference = elements_of (out-Ty (type_of_part x)) (type_of_part x) to refl is;
      unseen = none;
    }

each_found : (found : Option ℕ) (s : State) (at : ℕ) (name : Name) (to : Ty) (x : Part) (e : Each) → find iterator_name s.scopes ≡ found → each_if found at name to x ≡ Ok e
    → EachIs s at name to x e
each_found (Some i) s at name to x e is given = cc
each_found None s at name to x e is given = goes_if (goes_to (element_layer (out-Ty (type_of_part x))) to) s BAD_CAST at name to x e refl given is

each_is : (s : State) (at : ℕ) (name : Name) (to : Ty) (x : Part) (e : Each) → each_of at name to x s ≡ Ok e → EachIs s at name to x e
each_is s at name to x e given = each_found (find iterator_name s.scopes) s at name to x e refl given

-- ---- the tree of a loop

abbrev it : Variable
it = record { name = iterator_name; of = iterator_type }

abbrev inside : Name → Ty → Typed → Step → Stmts
inside name to value body = Declare name to (Given (expr_of value)) (alone (before body.statement))

abbrev one_turn : Name → Ty → Typed → Step → Stmts
one_turn name to value body = Then (Block (inside name to value body)) Finish

abbrev loop : ℕ → Name → Ty → Typed → Step → Stmt
loop at name to value body = While (Given (expr_of (has_next at))) Missing (one_turn name to value body)

abbrev whole : ℕ → Name → Ty → Typed → Typed → Step → Stmts
whole at name to x value body = Declare iterator_name iterator_type (Given (expr_of (iterated at x))) (Then (loop at name to value body) Finish)

abbrev variable : ℕ → Name → Ty → Typed → TypedVariable
variable at name of x = record { at = at; name = name; of = of; value = Some x }

turn_is : (at : ℕ) (name : Name) (to : Ty) (x value : Typed) (body : Step) → before (turn at (each at name to x value).element body) Finish ≡ one_turn name to value body
turn_is at name to x value body =
    sentence.block_is at ((each at name to x value).element.statement ∷ body.statement ∷ []) Finish
    ∙ ap (λ (b : Stmts). Then (Block b) Finish) (sentence.declare_is at (variable at name to value ∷ []) (before body.statement Finish))

loop_is : (at : ℕ) (name : Name) (to : Ty) (x value : Typed) (body : Step) (rest : Stmts)
    → before (each_loop at (each at name to x value).first (each at name to x value).element body).statement rest ≡ Then (Block (whole at name to x value body)) rest
loop_is at name to x value body rest =
    sentence.loop_is at (Some (each at name to x value).first.statement) (Some (has_next at)) None (Some (turn at (each at name to x value).element body)) rest
    ∙ (ap (λ (b : Stmts). Then (Block b) rest)
    (sentence.declare_is at (variable at iterator_name iterator_type (iterated at x) ∷ [])
    (Then (While (Given (expr_of (has_next at))) Missing (before (turn at (each at name to x value).element body) Finish)) Finish))
    ∙ ap (λ (b : Stmts). Then (Block (Declare iterator_name iterator_type (Given (expr_of (iterated at x))) (Then (While (Given (expr_of (has_next at))) Missing b) Finish))) rest)
    (turn_is at name to x value body))

module _ (funs : Script) where
  -- ---- its parts

  iterated_is : (g : Scope) (at : ℕ) (x : Part) → PartIs funs g x → IsReference (type_of_part x) → TypedIs funs g (iterated at x.typed) iterator_type
  iterated_is g at x h r =
      node_is funs g at iterator_type _ _ (applied_is at iterator_type (o.Operator operator.Iterate) (x.typed ∷ [])) refl
      ((h.typed.agrees, tt), (subst IsReference (sym h.typed.is) r, refl))

  module _ (g : Scope) (at : ℕ) where
    iterator_is : TypedIs funs (it ∷ g) (iterator at) iterator_type
    iterator_is =
        node_is funs (it ∷ g) at iterator_type _ _ (local_is at iterator_type iterator_name) refl
        (record { variable = it; is = same_name iterator_name it (variable_of g iterator_name); has = refl })

    on_iterator : IsReference (type_of (expr_of (iterator at)))
    on_iterator = subst IsReference (sym iterator_is.is) (class_reference ITERATOR)

    has_next_is : TypedIs funs (it ∷ g) (has_next at) boolean
    has_next_is = node_is funs (it ∷ g) at boolean _ _ (applied_is at boolean (o.Operator operator.HasNext) (iterator at ∷ [])) refl ((iterator_is.agrees, tt), (on_iterator, refl))

    next_is : TypedIs funs (it ∷ g) (next at) t.Def
    next_is = node_is funs (it ∷ g) at t.Def _ _ (applied_is at t.Def (o.Operator operator.Next) (iterator at ∷ [])) refl ((iterator_is.agrees, tt), (on_iterator, refl))

    element_is : (to : Ty) (value : Typed) → IsBuilt to → taken at to ≡ Ok value → TypedIs funs (it ∷ g) value to
    element_is to value b e = cast_at_is funs (it ∷ g) at to (plain at (next at)) false value (built_aim to b) e (part_of funs (it ∷ g) at f.Other (next at) t.Def def_part next_is)

  -- ---- the body, which typing did not see the iterator in

  unseen_variable : (s : State) → find iterator_name s.scopes ≡ None → variable_of (in_sight s.scopes) iterator_name ≡ None
  unseen_variable s none = older iterator_name s.scopes [] (not_found iterator_name s.scopes none)

  body_is : (s t : State) (name : Spelled) (to : Ty) (xs : Stmts) → Declared funs s t name to → find iterator_name s.scopes ≡ None → StmtsAgree funs t.result true (in_sight t.scopes) xs
      → StmtsAgree funs s.result true (record { name = name.spelling; of = to } ∷ it ∷ in_sight s.scopes) xs
  body_is s t name to xs made none h =
      let y : Variable = record { name = name.spelling; of = to } in
      let known = subst (λ (u : State). StmtsAgree funs u.result true (in_sight u.scopes) xs) made.is h in
      let first = subst (λ g. StmtsAgree funs s.result true g xs) (sight_grows s.scopes (new_entry name.spelling to) []) known in
      stmts_inserted funs it xs s.result true (y ∷ in_sight s.scopes) (y ∷ it ∷ in_sight s.scopes) (Behind y (Here (unseen_variable s none))) first

  -- ---- the statement

  falling_on : (b : Bool) → MayFollow b Finish
  falling_on true = tt
  falling_on false = tt

  loop_at : (s t : State) (at : ℕ) (name : Spelled) (to : Ty) (x : Part) (e : Each) (y : Step) → EachIs s at name.spelling to x e → IsBuilt to → PartAt funs s x → Declared funs s t name to
      → StmtsAgree funs t.result true (in_sight t.scopes) (alone (before y.statement)) → StmtsReached (alone (before y.statement)) → StepAt funs s (each_loop at e.first e.element y)
  loop_at s t at name to x e y is b h made agrees reached =
      let g = in_sight s.scopes in
      let value = is.value in
      let first = iterated_is g at x h is.reference in
      let more = has_next_is g at in
      let element = element_is g at to value b is.cast in
      let body = body_is s t name to (alone (before y.statement)) made is.unseen agrees in
      subst (λ (e : Each). StepAt funs s (each_loop at e.first e.element y)) is.is
      (step_at funs s (each_loop at (each at name.spelling to x.typed value).first (each at name.spelling to x.typed value).element y) (Block (whole at name.spelling to x.typed value y))
      (loop_is at name.spelling to x.typed value y) (
        (first.agrees, first.is),
        built_values iterator_type (class_built ITERATOR refl),
        (((more.agrees, more.is), tt, (((element.agrees, element.is), built_values to b, body), tt)), tt),
      )
      ((reached, falling_on (all_fall (inside name.spelling to value y)), tt), tt, tt) (λ e. refl))

  pub each_step : (at : ℕ) {type : Doing Ty} (name : Spelled) (over : Reading) {body : Doing Step} → Value (λ s of. IsBuilt of) type → ReadingIs funs over → Bodies funs body
      → Value (StepAt funs) (for_each at type name over body)
  each_step at {type = type} name over {body = body} ht hx hb = record {
    by = λ s next r d e.
        let last : Step → State → Answer = λ x t. next x (closed (length s.scopes) t) in
        let of = ht.by s
        (λ of t. over.value t (λ x t. and_then (each_of at name.spelling of x t) (λ e. and_then (declares_name name.at name.spelling of t) (λ t. looping body t (λ y t. last (each_loop at e.first e.element y) t))))) r d e in
        let x = hx.value.by s
        (λ x t. and_then (each_of at name.spelling of.given x t) (λ e. and_then (declares_name name.at name.spelling of.given t) (λ t. looping body t (λ y t. last (each_loop at e.first e.element y) t)))) r d of.goes in
        let e' = ruled (each_of at name.spelling of.given x.given s) (λ e. and_then (declares_name name.at name.spelling of.given s) (λ t. looping body t (λ y t. last (each_loop at e.first e.element y) t))) r x.goes in
        let u = ruled (declares_name name.at name.spelling of.given s) (λ t. looping body t (λ y t. last (each_loop at e'.given.first e'.given.element y) t)) r e'.goes in
        let made = declared_by funs (find name.spelling s.scopes) s u.given name of.given refl u.has d in
        let y = (looping_is funs (λ (y : Step). alone (before y.statement)) (λ (y : Step). y.escapes) hb).by u.given (λ y t. last (each_loop at e'.given.first e'.given.element y) t) r made.known u.goes in
        record {
          given = each_loop at e'.given.first e'.given.element y.given;
          has = loop_at s u.given at name of.given x.given e'.given y.given (each_is s at name.spelling of.given x.given e'.given e'.has) of.has x.has made y.has.0 y.has.1.reached;
          goes = subst (λ t. next (each_loop at e'.given.first e'.given.element y.given) t ≡ Ok r) (closes s u.given (declared_grew funs s u.given name of.given made)) y.goes;
        };
  }
