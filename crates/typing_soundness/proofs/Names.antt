-- Names in sight, what is written to them, and calls.
use Rattle.std.proofs.Common.{◌≡◌, ◌≢◌, ℕ, zero, suc, ◌+◌, Bool, true, false, ◌&&◌, List, [], ◌∷◌, map, length, Option, Some, None, Ok, refl, sym, ap, ◌∙◌, subst, arith, eqb-true}
use Rattle.std.specs.Prelude.{pos, slice_get, get_or, ◌==◌, nat_lt, ◌||◌, if◌then◌else◌}
use Rattle.std.specs.Str.{bytes_eq}
use Rattle.std.proofs.lemmas.Slice.Eq.{bytes_eq-Decides}
use Rattle.std.proofs.lemmas.List.Quantifiers.{position-Some}
use Rattle.std.proofs.lemmas.Option.{get_or_from_slice_get}
use Rattle.std.proofs.lemmas.Bool.{and_parts}
use Rattle.pl_types.specs.declared.primitive.Primitive.{Primitive}
use Rattle.pl_types.specs.declared.primitive.Primitive.TheVariants as prim
use Rattle.pl_types.specs.declared.ty.Ty.{Ty}
use Rattle.pl_types.specs.declared.ty.Ty.TheVariants as t
use Rattle.pl_types.specs.declared.conversion.Cast.{Cast}
use Rattle.pl_types.specs.Casts.{cast_of}
use Rattle.pl_types.specs.Classes.{class_is_below}
use Rattle.pl_tree.specs.declared.operator.BinaryOperator.{BinaryOperator}
use Rattle.pl_tree.specs.declared.operator.Step.{Step as TreeStep}
use Rattle.pl_tree.specs.declared.operator.Step.TheVariants as step
use Rattle.typed_tree.specs.declared.operation.Constant.TheVariants as k
use Rattle.typed_tree.specs.declared.operation.Operation.{Operation}
use Rattle.typed_tree.specs.declared.operation.Operation.TheVariants as o
use Rattle.typed_tree.specs.declared.operation.Operator.{Operator}
use Rattle.typed_tree.specs.declared.operation.Target.{Target}
use Rattle.typed_tree.specs.declared.operation.Target.TheVariants as target
use Rattle.typed_tree.specs.declared.operation.Change.{Change}
use Rattle.typed_tree.specs.declared.operation.Gives.{Gives}
use Rattle.typed_tree.specs.declared.operation.Gives.TheVariants as gv
use Rattle.typed_tree.specs.declared.program.Named.{Named}
use Rattle.typed_tree.specs.declared.typed.Node.TheVariants as n
use Rattle.typed_tree.specs.declared.typed.Typed.{Typed}
use Rattle.typing_rules.specs.declared.header.Header.{Header}
use Rattle.typing_rules.specs.declared.part.Form.TheVariants as f
use Rattle.typing_rules.specs.declared.part.Location.{Location}
use Rattle.typing_rules.specs.declared.part.Part.{Part}
use Rattle.typing_rules.specs.declared.part.Place.{Place}
use Rattle.typing_rules.specs.declared.part.Place.TheVariants as place
use Rattle.typing_rules.specs.declared.rules.plans.Plan.{Plan}
use Rattle.typing_rules.specs.declared.scopes.Entry.{Entry}
use Rattle.typing_rules.specs.declared.state.State.{State}
use Rattle.typing_rules.specs.Scopes.{find}
use Rattle.typing_rules.specs.Outcomes.{refuse}
use Rattle.typing_rules.specs.Rules.Types.{is_built}
use Rattle.typing_rules.specs.Rules.Nodes.{typed, part, plain, type_of_part}
use Rattle.typing_rules.specs.Rules.Casts.{cast_to}
use Rattle.typing_rules.specs.Rules.Operators.{operand, unboxed_of, plan_between, side_of, relation_between, dynamic_between, type_given, reference}
use Rattle.typing_rules.specs.Rules.Places.{entry_if, local_if, local, is_fixed, written_to, written_if, written_at, written, set, change, change_by, change_between, change_of, joining_of, type_after, changed_by, changed, joined_if, compound, assigned, assign_of, one, counted, operator_of, step_of}
use Rattle.typing_rules.specs.Typing.{read_at}
use Rattle.typing_rules.specs.Rules.Calls.{function_of, arguments, called, called_if, call_of}
use Rattle.source_typing.specs.Tree.{Name, Assign, Modify, Variable, Fun, type_of}
use Rattle.source_typing.specs.Programs.{exprs_of, expr_of}
use Rattle.source_typing.specs.Types.{Takes, Casts}
use Rattle.source_typing.specs.Agreeing.{Known as Script, Scope, variable_of, IsVariable, types_of, types_in as variable_types, IsKnownBefore, Changes, Writes, Reads, IsPlace, ExprAgrees, ExprsAgree, scope_of}
use Rattle.typing_soundness.proofs.Nodes.{local_is, applied_is, assign_is, change_is}
use Rattle.typing_soundness.proofs.Types.{IsBuilt, built_part, built_aim, IsOfPart, prim_part, IsAim, prim_aim, def_aim}
use Rattle.typing_soundness.proofs.Casts.{part_casts, known_from_unboxed, known_to_def}
use Rattle.typing_soundness.proofs.Plans.{PlanFits, IsWide, plans_fit, add_right, subtract_right, IsUnboxed, left_unboxed}
use Rattle.typing_soundness.proofs.Parts.{passed, accepted, settled, TypedIs, PartIs, Relates, relations_fit, dynamics_fit, node_is, part_of, constant_typed, operand_is, cast_is, reference_is}

-- ---- names in sight

abbrev pub seen : Entry → Variable
seen e = record { name = e.name; of = e.of }

-- the names that typing has in sight
abbrev pub in_sight : List Entry → Scope
in_sight es = scope_of (map seen es) []

abbrev pub Fresh : Name → List Entry → Type 0
Fresh x [] = Unit {0}
Fresh x (e ∷ es) = (e.name ≢ x) × Fresh x es

abbrev pub Distinct : List Entry → Type 0
Distinct [] = Unit {0}
Distinct (e ∷ es) = Fresh e.name es × Distinct es

-- what is known while a body is typed: the names are distinct, and its result is a type to which parts are cast
abbrev pub Known : State → Type 0
Known s = Distinct s.scopes × IsAim s.result

other_name : (x y : Name) (v : Variable) (o : Option Variable) → y ≢ x → (if bytes_eq x y then Some v else o) ≡ o
other_name x y v o h = pick (bytes_eq x y) refl
  where
    pick : (c : Bool) → bytes_eq x y ≡ c → (if c then Some v else o) ≡ o
    pick true is = absurd (h (sym ((bytes_eq-Decides x y).0 is)))
    pick false is = refl

pub same_name : (x : Name) (v : Variable) (o : Option Variable) → (if bytes_eq x x then Some v else o) ≡ Some v
same_name x v o = ap (λ (c : Bool). if c then Some v else o) ((bytes_eq-Decides x x).1 refl)

pub older : (x : Name) (es : List Entry) (g : Scope) → Fresh x es → variable_of (scope_of (map seen es) g) x ≡ variable_of g x
older x [] g h = refl
older x (e ∷ es) g h = older x es (seen e ∷ g) h.1 ∙ other_name x e.name (seen e) (variable_of g x) h.0

pub sees : (es : List Entry) (g : Scope) (i : ℕ) (e : Entry) → Distinct es → slice_get es i ≡ Some e → variable_of (scope_of (map seen es) g) e.name ≡ Some (seen e)
sees [] g i e d is = cc
sees (e' ∷ es) g zero e d is =
    let same : e' ≡ e = cc in
    subst (λ (e : Entry). variable_of (scope_of (map seen es) (seen e' ∷ g)) e.name ≡ Some (seen e)) same
    (older e'.name es (seen e' ∷ g) d.0 ∙ same_name e'.name (seen e') (variable_of g e'.name))
sees (e' ∷ es) g (suc i) e d is = sees es (seen e' ∷ g) i e d.1 is

-- an entry's name is in sight with its type
pub entry_seen : (es : List Entry) (i : ℕ) (e : Entry) (of : Ty) → Distinct es → slice_get es i ≡ Some e → of ≡ e.of → IsVariable (in_sight es) e.name of
entry_seen es i e of d is has = record { variable = seen e; is = sees es [] i e d is; has = has }

-- names of types that are built
abbrev pub AllBuilt : List Named → Type 0
AllBuilt [] = Unit {0}
AllBuilt (x ∷ xs) = IsBuilt x.of × AllBuilt xs

module _ (funs : Script) where
  local_if_built : (c : Bool) (es : List Entry) (i : ℕ) (e : Entry) (number at : ℕ) (x : Part) → is_built e.of ≡ c → Distinct es
      → slice_get es i ≡ Some e
      → (if c then accepted (plain at (typed at e.of (n.Local e.name))) else refuse number at) ≡ accepted x → PartIs funs (in_sight es) x
  local_if_built false es i e number at x b d is given = cc
  local_if_built true es i e number at x b d is given =
      settled (PartIs funs (in_sight es)) _ x given
      (part_of funs (in_sight es) at f.Other _ e.of (built_part e.of (record { is = b }))
      (node_is funs (in_sight es) at e.of _ _ (local_is at e.of e.name) refl (entry_seen es i e e.of d is refl)))

  local_at : (es : List Entry) (i : ℕ) (o : Option Entry) (at : ℕ) (x : Part) → Distinct es → slice_get es i ≡ o → local_if o at ≡ Ok x → PartIs funs (in_sight es) x
  local_at es i None at x d is given = cc
  local_at es i (Some e) at x d is given = local_if_built (is_built e.of) es i e _ at x refl d is given

  local_found : (es : List Entry) (o : Option ℕ) (at : ℕ) (x : Part) → Distinct es → local_if (entry_if o es) at ≡ Ok x → PartIs funs (in_sight es) x
  local_found es None at x d given = cc
  local_found es (Some i) at x d given = local_at es i (slice_get es i) at x d refl given

  -- a name's value
  pub local_part : (at : ℕ) (name : Name) (s : State) (x : Part) → Known s → local at name s ≡ Ok x → PartIs funs (in_sight s.scopes) x
  local_part at name s x d given = local_found s.scopes (find name s.scopes) at x d.0 given

  -- ---- what is written to

  abbrev types_in : List Typed → List Ty
  types_in parts = types_of (exprs_of (map expr_of parts))

  -- what reads a place, where something is read: then what is read is of the type that is written
  abbrev pub ReadsBy : Option ℕ → Option Operation → List Ty → Ty → Ty → Type 0
  ReadsBy None read ofs gives takes = Unit {0}
  ReadsBy (Some at) read ofs gives takes = Reads funs read ofs gives × (gives ≡ takes)

  -- a place agrees with its parts
  pub record PlacedIs (by : Option ℕ) (g : Scope) (read : Option Operation) (write : Operation) (parts : List Typed) (gives takes : Ty) : Type 0 where
    pub agree : ExprsAgree funs g (exprs_of (map expr_of parts))
    pub short : IsPlace (types_in parts)
    pub reads : ReadsBy by read (types_in parts) gives takes
    pub writes : Writes funs write (types_in parts) takes

  abbrev pub TargetIs : Option ℕ → Scope → Target → List Typed → Ty → Ty → Type 0
  TargetIs by g (target.Local name) parts gives takes = IsVariable g name takes × (gives ≡ takes)
  TargetIs by g (target.Place read write) parts gives takes = PlacedIs by g read write parts gives takes

  pub record LocationIs (by : Option ℕ) (g : Scope) (w : Location) : Type 0 where
    pub target : TargetIs by g w.target w.parts w.gives w.takes
    pub built : IsBuilt w.takes

  abbrev pub PlaceIs : Option ℕ → Scope → Place → Type 0
  PlaceIs by g (place.Written w) = LocationIs by g w
  PlaceIs by g place.Fixed = Unit {0}

  written_entry_to : (by : Option ℕ) (fixed : Bool) (es : List Entry) (i : ℕ) (e : Entry) → Distinct es → slice_get es i ≡ Some e → IsBuilt e.of
      → PlaceIs by (in_sight es) (written_to fixed e)
  written_entry_to by true es i e d is b = tt
  written_entry_to by false es i e d is b = record { target = (entry_seen es i e e.of d is refl, refl); built = b }

  written_if_built : (by : Option ℕ) (c fixed : Bool) (es : List Entry) (i : ℕ) (e : Entry) (number at : ℕ) (x : Place) → is_built e.of ≡ c → Distinct es
      → slice_get es i ≡ Some e
      → (if c then accepted (written_to fixed e) else refuse number at) ≡ accepted x → PlaceIs by (in_sight es) x
  written_if_built by false fixed es i e number at x b d is given = cc
  written_if_built by true fixed es i e number at x b d is given =
      settled (PlaceIs by (in_sight es)) (written_to fixed e) x given (written_entry_to by fixed es i e d is (record { is = b }))

  written_entry : (by : Option ℕ) (es : List Entry) (at base i : ℕ) (o : Option Entry) (x : Place) → Distinct es → slice_get es i ≡ o → written_if at base i o ≡ Ok x → PlaceIs by (in_sight es) x
  written_entry by es at base i None x d is given = cc
  written_entry by es at base i (Some e) x d is given =
      written_if_built by (is_built e.of) (is_fixed e.standing || nat_lt i base) es i e _ at x refl d is given

  written_found : (by : Option ℕ) (o : Option ℕ) (at : ℕ) (s : State) (x : Place) → Distinct s.scopes → written_at o at s ≡ Ok x → PlaceIs by (in_sight s.scopes) x
  written_found by None at s x d given = cc
  written_found by (Some i) at s x d given = written_entry by s.scopes at s.base i (slice_get s.scopes i) x d refl given

  pub written_place : (by : Option ℕ) (at : ℕ) (name : Name) (s : State) (x : Place) → Known s → written at name s ≡ Ok x → PlaceIs by (in_sight s.scopes) x
  written_place by at name s x d given = written_found by (find name s.scopes) at s x d.0 given

  module _ (g : Scope) where
    set_agrees : (by : Option ℕ) (at : ℕ) (to : Target) (parts : List Typed) (gives takes : Ty) (y : Typed) → TargetIs by g to parts gives takes → TypedIs funs g y takes
        → ExprAgrees funs g (Assign at takes to (exprs_of (map expr_of parts)) (expr_of y))
    set_agrees by at (target.Local name) parts gives takes y v h = (h.agrees, v.0, h.is)
    set_agrees by at (target.Place read write) parts gives takes y v h = (v.agree, h.agrees, h.is, v.short, v.writes)

    set_is : (by : Option ℕ) (at : ℕ) (w : Location) (x y : Part) → LocationIs by g w → set at w x ≡ Ok y → PartIs funs g x → PartIs funs g y
    set_is by at w x y v e h =
        let a = passed (cast_to w.takes x) _ y e in
        let value = cast_is funs g w.takes x a.given (built_aim w.takes v.built) a.first h in
        settled (PartIs funs g) _ y a.then' (part_of funs g at f.Deed _ w.takes (built_part w.takes v.built)
        (node_is funs g at w.takes _ _ (assign_is at w.takes w.target w.parts a.given) refl (set_agrees by at w.target w.parts w.gives w.takes a.given v.target value)))

    -- ---- changes

    same_type : (at : ℕ) (to : Target) (parts : List Typed) (gives takes : Ty) → TargetIs (Some at) g to parts gives takes → gives ≡ takes
    same_type at (target.Local name) parts gives takes v = v.1
    same_type at (target.Place read write) parts gives takes v = v.reads.1

    change_agrees : (by at : ℕ) (to : Target) (parts : List Typed) (gives takes : Ty) (x : Change) (y : Typed) (given : Gives) → TargetIs (Some by) g to parts gives takes
        → ExprAgrees funs g (expr_of y) → Changes x takes (type_of (expr_of y)) → ExprAgrees funs g (Modify at takes to (exprs_of (map expr_of parts)) x (expr_of y) given)
    change_agrees by at (target.Local name) parts gives takes x y given v h c = (h, v.0, c)
    change_agrees by at (target.Place read write) parts gives takes x y given v h c =
        (v.agree, h, c, v.short, subst (Reads funs read (types_in parts)) v.reads.1 v.reads.0, v.writes)

    -- the casts before and after what changes what is written to
    changes : (before after : Option Cast) (operator : Operator) (left result of : Ty) (x : Change) (right : Ty) → change_by before operator after ≡ Some x
        → ((c : Cast) → before ≡ Some c → IsKnownBefore c × Casts c of left)
        → ((c : Cast) → after ≡ Some c → Casts c result of)
        → Takes operator (left ∷ right ∷ []) result → Changes x of right
    changes None after operator left result of x right e b a t = cc
    changes (Some before) None operator left result of x right e b a t = cc
    changes (Some before) (Some after) operator left result of x right e b a t =
        let same : change before operator after ≡ x = cc in
        subst (λ x. Changes x of right) same (record {
          left = left;
          result = result;
          known = (b before refl).0;
          before = (b before refl).1;
          does = t;
          after = a after refl;
        })

    changes_between : (operator : Operator) (left result : Ty) (w : Location) (x : Change) (right : Ty) → change_between operator left result w ≡ Some x → w.gives ≡ w.takes → IsBuilt w.takes
        → ((c : Cast) → cast_of class_is_below w.takes left true ≡ Some c → IsKnownBefore c × Casts c w.takes left)
        → Takes operator (left ∷ right ∷ []) result → Changes x w.takes right
    changes_between operator left result w x right e same b known t =
        changes (cast_of class_is_below w.gives left true) (cast_of class_is_below result w.takes true) operator left result w.takes x right e
        (λ c found. known c (ap (λ of. cast_of class_is_below of left true) (sym same) ∙ found))
        (λ c found. part_casts result w.takes true c (built_aim w.takes b) found) t

    type_given_after : (given : Gives) (w : Location) → w.gives ≡ w.takes → type_after given w ≡ w.takes
    type_given_after gv.Old w same = same
    type_given_after gv.New w same = refl

    changed_if : (by : ℕ) (found : Option Change) (at : ℕ) (w : Location) (y : Typed) (right : Ty) (given : Gives) (z : Part) → LocationIs (Some by) g w
        → changed_by found at w y given ≡ Ok z → TypedIs funs g y right → ((x : Change) → found ≡ Some x → Changes x w.takes (type_of (expr_of y)))
        → PartIs funs g z
    changed_if by None at w y right given z v e h c = cc
    changed_if by (Some x) at w y right given z v e h c =
        let same = type_given_after given w (same_type by w.target w.parts w.gives w.takes v.target) in
        settled (PartIs funs g) _ z e
        (subst (λ (of : Ty). PartIs funs g (part at f.Deed (typed at of (n.Change w.target w.parts x y given)))) (sym same)
        (part_of funs g at f.Deed _ w.takes (built_part w.takes v.built)
        (node_is funs g at w.takes _ _ (change_is at w.takes w.target w.parts x y given) refl (change_agrees by at w.target w.parts w.gives w.takes x y given v.target h.agrees (c x refl)))))

    changed_is : (by at : ℕ) (w : Location) (plan : Plan) (y : Typed) (given : Gives) (z : Part) → LocationIs (Some by) g w → PlanFits plan → IsUnboxed w.gives
        → changed at w plan y given ≡ Ok z → TypedIs funs g y (t.Prim plan.right) → PartIs funs g z
    changed_is by at w plan y given z v fits p e h =
        let same = same_type by w.target w.parts w.gives w.takes v.target in
        let unboxed : unboxed_of w.takes ≡ Some p.primitive = subst (λ of. unboxed_of of ≡ Some p.primitive) same p.is in
        changed_if by (change_of plan w) at w y (t.Prim plan.right) given z v e h (λ x found.
        changes_between plan.operator (t.Prim plan.left) (t.Prim plan.result) w x _ found same v.built
        (λ c found. (known_from_unboxed w.takes p.primitive plan.left true c unboxed found, part_casts w.takes (t.Prim plan.left) true c (prim_aim plan.left) found))
        (subst (λ right. Takes plan.operator (t.Prim plan.left ∷ right ∷ []) (t.Prim plan.result)) (sym h.is) fits.does))

    joined_is : (by : ℕ) (found : Option Operator) (at : ℕ) (w : Location) (x : Part) (given : Gives) (z : Part) → LocationIs (Some by) g w → ((r : Operator) → found ≡ Some r → Relates r)
        → joined_if found at w x given ≡ Ok z → PartIs funs g x → PartIs funs g z
    joined_is by None at w x given z v relates e h = cc
    joined_is by (Some relation) at w x given z v relates e h =
        let same = same_type by w.target w.parts w.gives w.takes v.target in
        let a = passed (reference x) (λ y. changed_by (joining_of relation w) at w y given) z e in
        let right = reference_is funs g x a.given a.first h in
        changed_if by (joining_of relation w) at w a.given t.Def given z v a.then' right (λ x found.
        changes_between relation t.Def (type_given relation) w x _ found same v.built
        (λ c found. (known_to_def w.takes true c found, part_casts w.takes t.Def true c def_aim found))
        (subst (λ right. Takes relation (t.Def ∷ right ∷ []) (type_given relation)) (sym right.is) (relates relation refl).does))

    compound_is : (by : ℕ) (found : Option Plan) (operator : BinaryOperator) (at : ℕ) (w : Location) (x z : Part) → LocationIs (Some by) g w
        → ((p : Plan) → found ≡ Some p → PlanFits p × IsUnboxed w.gives) → compound found operator at w x ≡ Ok z → PartIs funs g x
        → PartIs funs g z
    compound_is by None operator at w x z v fits e h =
        joined_is by (relation_between operator w.gives (type_of_part x)) at w x gv.New z v (relations_fit operator (side_of w.gives) (side_of (type_of_part x))) e h
    compound_is by (Some plan) operator at w x z v fits e h =
        let a = passed (operand at plan.right x) (λ y. changed at w plan y gv.New) z e in
        let fit = fits plan refl in
        changed_is by at w plan a.given gv.New z v fit.0 fit.1 a.then' (operand_is funs g at plan.right x a.given a.first h)

    assigned_is : (operator : Option BinaryOperator) (at : ℕ) (w : Location) (x z : Part) → LocationIs (read_at at operator) g w → assigned operator at w x ≡ Ok z
        → PartIs funs g x → PartIs funs g z
    assigned_is None at w x z v e h = set_is None at w x z v e h
    assigned_is (Some operator) at w x z v e h =
        compound_is at (plan_between operator w.gives (type_of_part x)) operator at w x z v
        (λ p found. (plans_fit operator w.gives (type_of_part x) p found, left_unboxed operator w.gives (type_of_part x) p found)) e h

    -- an assignment
    pub assign_part : (p : Place) (at : ℕ) (operator : Option BinaryOperator) (x z : Part) → PlaceIs (read_at at operator) g p → assign_of at operator p x ≡ Ok z → PartIs funs g x → PartIs funs g z
    assign_part place.Fixed at operator x z v e h = cc
    assign_part (place.Written w) at operator x z v e h = assigned_is operator at w x z v e h

    one_is : (at : ℕ) (q : Primitive) → IsWide q → TypedIs funs g (one at q) (t.Prim q)
    one_is at prim.Int w = constant_typed funs g at (t.Prim prim.Int) (k.Int (pos 1)) refl
    one_is at prim.Long w = constant_typed funs g at (t.Prim prim.Long) (k.Long (pos 1)) refl
    one_is at prim.Boolean w = absurd w
    one_is at prim.Byte w = absurd w
    one_is at prim.Short w = absurd w
    one_is at prim.Char w = absurd w

    counted_is : (by : ℕ) (found : Option Plan) (at : ℕ) (s : TreeStep) (w : Location) (given : Gives) (z : Part) → LocationIs (Some by) g w
        → ((p : Plan) → found ≡ Some p → PlanFits p × IsUnboxed w.gives) → ((p : Plan) → found ≡ Some p → IsWide p.right)
        → counted found at s w given ≡ Ok z → PartIs funs g z
    counted_is by None at s w given z v fits wide e =
        joined_is by (dynamic_between (operator_of s) w.gives (t.Prim prim.Int)) at w (plain at (one at prim.Int)) given z v
        (dynamics_fit (operator_of s) (side_of w.gives) (side_of (t.Prim prim.Int))) e
        (part_of funs g at f.Other (one at prim.Int) (t.Prim prim.Int) (prim_part prim.Int) (one_is at prim.Int tt))
    counted_is by (Some plan) at s w given z v fits wide e =
        let fit = fits plan refl in
        changed_is by at w plan _ given z v fit.0 fit.1 e (one_is at plan.right (wide plan refl))

    step_right : (s : TreeStep) (p q : Ty) (x : Plan) → plan_between (operator_of s) p q ≡ Some x → IsWide x.right
    step_right step.Increment p q x e = add_right p q x e
    step_right step.Decrement p q x e = subtract_right p q x e

    -- `++` and `--`
    pub step_part : (p : Place) (at : ℕ) (s : TreeStep) (given : Gives) (z : Part) → PlaceIs (Some at) g p → step_of at s given p ≡ Ok z → PartIs funs g z
    step_part place.Fixed at s given z v e = cc
    step_part (place.Written w) at s given z v e =
        counted_is at (plan_between (operator_of s) w.gives (t.Prim prim.Int)) at s w given z v
        (λ p found. (plans_fit (operator_of s) w.gives (t.Prim prim.Int) p found, left_unboxed (operator_of s) w.gives (t.Prim prim.Int) p found)) (step_right s w.gives (t.Prim prim.Int)) e

    -- ---- calls

    abbrev pub AllParts : List Part → Type 0
    AllParts [] = Unit {0}
    AllParts (x ∷ xs) = PartIs funs g x × AllParts xs

    abbrev of_names : List Named → List Ty
    of_names ts = map (λ (x : Named). x.of) ts

    record ArgumentsAre (ts : List Named) (ys : List Typed) : Type 0 where
      agree : ExprsAgree funs g (exprs_of (map expr_of ys))
      types : types_of (exprs_of (map expr_of ys)) ≡ of_names ts

    arguments_are : (ts : List Named) (xs : List Part) (ys : List Typed) → AllBuilt ts → length ts ≡ length xs → arguments ts xs ≡ Ok ys → AllParts xs
        → ArgumentsAre ts ys
    arguments_are [] [] ys b l e h = settled (ArgumentsAre []) [] ys e (record { agree = tt; types = refl })
    arguments_are [] (x ∷ xs) ys b l e h = absurd (omega (arith, l))
    arguments_are (p ∷ ts) [] ys b l e h = absurd (omega (arith, l))
    arguments_are (p ∷ ts) (x ∷ xs) ys b l e h =
        let a = passed (cast_to p.of x) _ ys e in
        let others = passed (arguments ts xs) _ ys a.then' in
        let first = cast_is funs g p.of x a.given (built_aim p.of b.0) a.first h.0 in
        let rest = arguments_are ts xs others.given b.1 (omega (arith, l)) others.first h.1 in
        settled (ArgumentsAre (p ∷ ts)) (a.given ∷ others.given) ys others.then' (record {
          agree = (first.agrees, rest.agree);
          types = ap (λ of. of ∷ types_of (exprs_of (map expr_of others.given))) first.is ∙ ap (λ ofs. p.of ∷ ofs) rest.types;
        })

  -- the functions of the program are those of the headers
  pub record Head (number : ℕ) (h : Header) : Type 0 where
    pub fun : Fun
    pub is : slice_get funs.functions (suc number) ≡ Some fun
    pub takes : variable_types fun.params ≡ map (λ (x : Named). x.of) h.parameters
    pub gives : fun.result ≡ h.result
    pub built : IsOfPart h.result
    pub all_built : AllBuilt h.parameters

  pub record Heads (hs : List Header) : Type 0 where
    pub each : (number : ℕ) (h : Header) → slice_get hs number ≡ Some h → Head number h

  module _ (g : Scope) where
    called_is : (hs : List Header) (o' : Option Header) (at number : ℕ) (xs : List Part) (z : Part) → Heads hs → slice_get hs number ≡ o' → ((h : Header) → o' ≡ Some h → length h.parameters ≡ length xs)
        → called o' at number xs ≡ Ok z → AllParts g xs → PartIs funs g z
    called_is hs None at number xs z heads is l e h = cc
    called_is hs (Some head) at number xs z heads is l e h =
        let a = passed (arguments head.parameters xs) _ z e in
        let fun = heads.each number head is in
        let given = arguments_are g head.parameters xs a.given fun.all_built (l head refl) a.first h in
        let one : suc number ≡ number + 1 = omega arith in
        settled (PartIs funs g) _ z a.then' (part_of funs g at f.Deed _ head.result fun.built
        (node_is funs g at head.result _ _ (applied_is at head.result (o.Function (number + 1)) a.given) refl
        (given.agree, record { fun = fun.fun; is = subst (λ k. slice_get funs.functions k ≡ Some fun.fun) one fun.is; takes = given.types ∙ sym fun.takes; gives = sym fun.gives })))

    called_found : (hs : List Header) (found : Option ℕ) (name : Name) (at : ℕ) (xs : List Part) (z : Part) → Heads hs → function_of hs name (length xs) ≡ found
        → called_if hs at found xs ≡ Ok z → AllParts g xs → PartIs funs g z
    called_found hs None name at xs z heads is e h = cc
    called_found hs (Some number) name at xs z heads is e h =
        called_is hs (slice_get hs number) at number xs z heads refl (λ head here.
        let found = position-Some (λ (h : Header). bytes_eq h.name name && (length h.parameters == length xs)) hs number head is in
        let same : get_or hs number head ≡ head = get_or_from_slice_get hs number head head here in
        let holds = subst (λ (h : Header). (bytes_eq h.name name && (length h.parameters == length xs)) ≡ true) same found.1 in
        eqb-true (length head.parameters) (length xs) (and_parts (bytes_eq head.name name) (length head.parameters == length xs) holds).1) e h

    pub call_part : (hs : List Header) (at : ℕ) (name : Name) (xs : List Part) (z : Part) → Heads hs → call_of hs at name xs ≡ Ok z → AllParts g xs → PartIs funs g z
    call_part hs at name xs z heads e h = called_found hs (function_of hs name (length xs)) name at xs z heads refl e h
