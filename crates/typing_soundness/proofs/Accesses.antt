-- What is read in brackets, behind a dot and by a number agrees, where its parts do.
use Rattle.std.proofs.Common.{◌≡◌, ℕ, ◌<◌, ◌^◌, Bool, true, false, List, [], ◌∷◌, Option, Some, None, Ok, refl, sym, ◌∙◌, subst, codes}
use Rattle.std.specs.Prelude.{pos, nat_lt, if◌then◌else◌}
use Rattle.std.proofs.lemmas.Bool.{ltb-true}
use Rattle.pl_types.specs.declared.classes.TheConstants.{INTEGER, STRING}
use Rattle.pl_types.specs.declared.conversion.Cast.TheVariants as cast
use Rattle.pl_types.specs.declared.primitive.Primitive.TheVariants as prim
use Rattle.pl_types.specs.declared.ty.Ty.{Ty, out-Ty}
use Rattle.pl_types.specs.declared.ty.Ty.TheVariants as t
use Rattle.pl_types.specs.declared.ty.Ty.TheOpen.{Ty-F}
use Rattle.pl_types.specs.Casts.{cast_of, cast_between}
use Rattle.pl_types.specs.Classes.{class_is_below}
use Rattle.pl_tree.specs.declared.operator.Access.{Access}
use Rattle.pl_tree.specs.declared.operator.Access.TheVariants as through
use Rattle.allowlist.specs.declared.member.MemberKind.TheVariants as kind
use Rattle.allowlist.specs.Allow.{member_of}
use Rattle.typed_tree.specs.declared.operation.Operation.{Operation}
use Rattle.typed_tree.specs.declared.operation.Operation.TheVariants as o
use Rattle.typed_tree.specs.declared.operation.Operator.TheVariants as operator
use Rattle.typed_tree.specs.declared.typed.Node.TheVariants as n
use Rattle.typed_tree.specs.declared.typed.Typed.{Typed}
use Rattle.typing_rules.specs.declared.part.Form.TheVariants as f
use Rattle.typing_rules.specs.declared.part.Part.{Part}
use Rattle.typing_rules.specs.Outcomes.{refuse, bind}
use Rattle.typing_rules.specs.Rules.Nodes.{applied, plain, type_of_part}
use Rattle.typing_rules.specs.Rules.Digits.{magnitude}
use Rattle.typing_rules.specs.Rules.Literals.{int_literal}
use Rattle.typing_rules.specs.Rules.Members.{instance_call, plainly, guards, read_named}
use Rattle.typing_rules.specs.Rules.Types.{is_built_class}
use Rattle.typing_rules.specs.Rules.Accesses.{is_list, is_map, stands, position, boxed, boxed_position, key, get_of, got, element_node, element_of_array, element_of_list, element_of_def, indexed_layer, index_of, text_part, def_name, length_of, is_length, named_layer, read_of, number_at, numbered_layer, numbered_of}
use Rattle.source_typing.specs.Types.{Casts, TakesTo}
use Rattle.source_typing.specs.Agreeing.{Known as Script, Scope, Applies}
use Rattle.typing_soundness.proofs.Nodes.{applied_is, text_is}
use Rattle.typing_soundness.proofs.Types.{array_by, built_listed, built_part, prim_part, prim_aim, def_aim, part_layer, IsOfPart, element_built, built_named, def_reference, class_reference, reference_by}
use Rattle.typing_soundness.proofs.Parts.{passed, accepted, settled, string_part, def_part, TypedIs, PartIs, node_is, part_of, int_is, cast_at_is}
use Rattle.typing_soundness.proofs.Members.{wants, callable, found_allowed, found_receives, instance_is, named_read, accessed_part, def_is_reference, def_whole}

-- an int in its box
wraps : cast_of class_is_below (t.Prim prim.Int) (t.Class INTEGER) false ≡ Some (cast.Wrap prim.Int prim.Int)
unfolding cast_of cast_between out-Ty denote.Hole.Carrier.out
wraps = refl

pub boxes : Casts (cast.Wrap prim.Int prim.Int) (t.Prim prim.Int) (t.Class INTEGER)
boxes = (refl, class_reference INTEGER, tt, record { written = false; is = wraps })

module _ (funs : Script) (g : Scope) where
  -- ---- indexes

  pub position_is : (by : Option ℕ) (i : Part) (y : Typed) → position by i ≡ Ok y → PartIs funs g i → TypedIs funs g y (t.Prim prim.Int)
  position_is by i y e h = cast_at_is funs g (stands by i) (t.Prim prim.Int) i false y (prim_aim prim.Int) e h

  pub key_is : (by : Option ℕ) (i : Part) (y : Typed) → key by i ≡ Ok y → PartIs funs g i → TypedIs funs g y t.Def
  key_is by i y e h = cast_at_is funs g (stands by i) t.Def i false y def_aim e h

  boxed_is : (at : ℕ) (y : Typed) → TypedIs funs g y (t.Prim prim.Int) → TypedIs funs g (boxed at y) (t.Class INTEGER)
  boxed_is at y h =
      node_is funs g at (t.Class INTEGER) _ _ (applied_is at (t.Class INTEGER) (o.Cast (cast.Wrap prim.Int prim.Int)) (y ∷ [])) refl
      ((h.agrees, tt), subst (λ from. Casts (cast.Wrap prim.Int prim.Int) from (t.Class INTEGER)) (sym h.is) boxes)

  pub boxed_position_is : (by : Option ℕ) (i : Part) (y : Typed) → boxed_position by i ≡ Ok y → PartIs funs g i → TypedIs funs g y (t.Class INTEGER)
  boxed_position_is by i y e h =
      let a = passed (position by i) _ y e in
      settled (λ (y : Typed). TypedIs funs g y (t.Class INTEGER)) (boxed (stands by i) a.given) y a.then' (boxed_is (stands by i) a.given (position_is by i a.given a.first h))

  -- a part of a type that is this one
  pub of_type : (x : Part) (of : Ty) → type_of_part x ≡ of → PartIs funs g x → TypedIs funs g x.typed of
  of_type x of same h = subst (TypedIs funs g x.typed) same h.typed

  pub two_types : (P : List Ty → Type 0) (a b p q : Ty) → a ≡ p → b ≡ q → P (p ∷ q ∷ []) → P (a ∷ b ∷ [])
  two_types P a b p q x y h = subst (λ (a : Ty). P (a ∷ b ∷ [])) (sym x) (subst (λ (b : Ty). P (p ∷ b ∷ [])) (sym y) h)

  pub one_type : (P : List Ty → Type 0) (a p : Ty) → a ≡ p → P (p ∷ []) → P (a ∷ [])
  one_type P a p x h = subst (λ (a : Ty). P (a ∷ [])) (sym x) h

  element_is : (at : ℕ) (of a b : Ty) (operation : Operation) (x : Part) (y : Typed) → IsOfPart of → TypedIs funs g x.typed a → TypedIs funs g y b → Applies funs operation (a ∷ b ∷ []) of
      → PartIs funs g (element_node at of operation x y)
  element_is at of a b operation x y p hx hy applies =
      part_of funs g at f.Other _ of p
      (node_is funs g at of _ _ (applied_is at of operation (x.typed ∷ y ∷ [])) refl
      ((hx.agrees, (hy.agrees, tt)), two_types (λ ofs. Applies funs operation ofs of) _ _ a b hx.is hy.is applies))

  -- a class of a part is one that scripts may have
  pub class_small : (x : Part) (c : ℕ) → out-Ty (type_of_part x) ≡ Ty-F.Class c → PartIs funs g x → c < 55
  class_small x c is h = ltb-true c 55 (built_listed c (class_built_by (type_of_part x) c is h.built))
    where
      class_built_by : (of : Ty) (c : ℕ) → out-Ty of ≡ Ty-F.Class c → IsOfPart of → is_built_class c ≡ true
      class_built_by of c e b = subst part_layer e b.layer

  -- ---- `get` of a list or a map

  pub got_is : (access : Access) (at c : ℕ) (x i y : Part) → out-Ty (type_of_part x) ≡ Ty-F.Class c → got funs.allowed access at c x i ≡ Ok y → PartIs funs g x → PartIs funs g i → PartIs funs g y
  got_is access at c x i y is e hx hi =
      let a = passed (get_of funs.allowed at c) _ y e in
      let b = passed (instance_call funs.allowed access at a.given x (i ∷ [])) _ y a.then' in
      let found = (wants funs.allowed kind.Instance at (member_of funs.allowed c (codes "get") 1) a.given a.first).is in
      let called = instance_is funs g access at c a.given x b.given (i ∷ []) (callable funs g kind.Instance at 1 _ a.given a.first (found_allowed funs.allowed c (codes "get") 1 a.given)) is
      (found_receives funs.allowed c (codes "get") 1 a.given found) b.first hx (hi, tt) in
      settled (PartIs funs g) (plainly b.given) y b.then' (record { typed = called.typed; built = called.built })

  -- ---- elements in brackets

  array_index : (at : ℕ) (u : Ty) (x i y : Part) → out-Ty (type_of_part x) ≡ Ty-F.Array u → element_of_array at u x i ≡ Ok y → PartIs funs g x → PartIs funs g i → PartIs funs g y
  array_index at u x i y is e hx hi =
      let a = passed (position None i) _ y e in
      let built = element_built (type_of_part x) u is hx.built in
      settled (PartIs funs g) _ y a.then' (element_is at u (t.Array u) (t.Prim prim.Int) (o.Operator operator.Element) x a.given (built_part u built)
      (of_type x (t.Array u) (array_by (type_of_part x) u is) hx) (position_is None i a.given a.first hi) (refl, refl, built_named u built))

  list_index : (at c : ℕ) (x i y : Part) → out-Ty (type_of_part x) ≡ Ty-F.Class c → element_of_list funs.allowed at c x i ≡ Ok y → PartIs funs g x → PartIs funs g i → PartIs funs g y
  list_index at c x i y is e hx hi =
      let a = passed (get_of funs.allowed at c) _ y e in
      let b = passed (boxed_position None i) _ y a.then' in
      settled (PartIs funs g) _ y b.then' (element_is at t.Def (type_of_part x) (t.Class INTEGER) o.DefIndex x b.given def_part hx.typed (boxed_position_is None i b.given b.first hi)
      ((reference_by (type_of_part x) (Ty-F.Class c) is tt, class_reference INTEGER), refl))

  def_index : (at : ℕ) (x i y : Part) → out-Ty (type_of_part x) ≡ Ty-F.Def → element_of_def at x i ≡ Ok y → PartIs funs g x → PartIs funs g i → PartIs funs g y
  def_index at x i y is e hx hi =
      let a = passed (key None i) _ y e in
      settled (PartIs funs g) _ y a.then' (element_is at t.Def (type_of_part x) t.Def o.DefIndex x a.given def_part hx.typed (key_is None i a.given a.first hi)
      ((reference_by (type_of_part x) Ty-F.Def is tt, def_reference), refl))

  class_index : (maps lists : Bool) (number at c : ℕ) (x i y : Part) → out-Ty (type_of_part x) ≡ Ty-F.Class c
      → (if maps then got funs.allowed through.Plain at c x i else (if lists then element_of_list funs.allowed at c x i else refuse number at)) ≡ Ok y
      → PartIs funs g x → PartIs funs g i → PartIs funs g y
  class_index true lists number at c x i y is e hx hi = got_is through.Plain at c x i y is e hx hi
  class_index false true number at c x i y is e hx hi = list_index at c x i y is e hx hi
  class_index false false number at c x i y is e hx hi = cc

  index_by : (l : Ty-F Ty) (at : ℕ) (x i y : Part) → out-Ty (type_of_part x) ≡ l → indexed_layer funs.allowed l at x i ≡ Ok y → PartIs funs g x → PartIs funs g i → PartIs funs g y
  index_by (Ty-F.Array u) at x i y is e hx hi = array_index at u x i y is e hx hi
  index_by (Ty-F.Class c) at x i y is e hx hi = class_index (is_map c) (is_list c) _ at c x i y is e hx hi
  index_by Ty-F.Def at x i y is e hx hi = def_index at x i y is e hx hi
  index_by Ty-F.Void at x i y is e hx hi = cc
  index_by Ty-F.Null at x i y is e hx hi = cc
  index_by (Ty-F.Prim p) at x i y is e hx hi = cc

  pub index_part : (at : ℕ) (x i y : Part) → index_of funs.allowed at x i ≡ Ok y → PartIs funs g x → PartIs funs g i → PartIs funs g y
  index_part at x i y e hx hi = index_by (out-Ty (type_of_part x)) at x i y refl e hx hi

  -- ---- names

  pub text_key : (at : ℕ) (name : List ℕ) → PartIs funs g (text_part at name)
  text_key at name = part_of funs g at f.Literal _ (t.Class STRING) string_part (node_is funs g at (t.Class STRING) (n.Text name) _ (text_is at (t.Class STRING) name) refl refl)

  def_named : (access : Access) (at : ℕ) (name : List ℕ) (x y : Part) → out-Ty (type_of_part x) ≡ Ty-F.Def → accepted (def_name access at name x) ≡ accepted y → PartIs funs g x → PartIs funs g y
  def_named access at name x y is e hx =
      settled (PartIs funs g) _ y e (accessed_part funs g access f.Other at t.Def (o.DefName name) x.typed [] def_part hx.typed tt (def_is_reference funs g x is hx, refl) tt (def_whole funs g))

  length_if : (c : Bool) (number at : ℕ) (u : Ty) (x y : Part) → out-Ty (type_of_part x) ≡ Ty-F.Array u
      → (if c then refuse number at else accepted (plain at (applied at (t.Prim prim.Int) (o.Operator operator.Length) (x.typed ∷ [])))) ≡ accepted y → PartIs funs g x → PartIs funs g y
  length_if true number at u x y is e hx = cc
  length_if false number at u x y is e hx =
      settled (PartIs funs g) _ y e (part_of funs g at f.Other _ (t.Prim prim.Int) (prim_part prim.Int)
      (node_is funs g at (t.Prim prim.Int) _ _ (applied_is at (t.Prim prim.Int) (o.Operator operator.Length) (x.typed ∷ [])) refl
      ((hx.typed.agrees, tt), one_type (λ ofs. TakesTo operator.Length ofs (t.Prim prim.Int)) _ (t.Array u) (hx.typed.is ∙ array_by (type_of_part x) u is) ((u, refl), refl))))

  array_named : (c : Bool) (number : ℕ) (access : Access) (at : ℕ) (u : Ty) (x y : Part) → out-Ty (type_of_part x) ≡ Ty-F.Array u
      → (if c then length_of access at x else refuse number at) ≡ Ok y → PartIs funs g x → PartIs funs g y
  array_named true number access at u x y is e hx = length_if (guards access) _ at u x y is e hx
  array_named false number access at u x y is e hx = cc

  class_named' : (maps : Bool) (c : ℕ) (access : Access) (at : ℕ) (name : List ℕ) (x y : Part) → out-Ty (type_of_part x) ≡ Ty-F.Class c
      → (if maps then got funs.allowed access at c x (text_part at name) else read_named funs.allowed access at name c x) ≡ Ok y → PartIs funs g x → PartIs funs g y
  class_named' true c access at name x y is e hx = got_is access at c x (text_part at name) y is e hx (text_key at name)
  class_named' false c access at name x y is e hx = named_read funs g c access at name x y is e hx

  read_by : (l : Ty-F Ty) (access : Access) (at : ℕ) (name : List ℕ) (x y : Part) → out-Ty (type_of_part x) ≡ l → named_layer funs.allowed l access at name x ≡ Ok y → PartIs funs g x → PartIs funs g y
  read_by (Ty-F.Class c) access at name x y is e hx = class_named' (is_map c) c access at name x y is e hx
  read_by (Ty-F.Array u) access at name x y is e hx = array_named (is_length name) _ access at u x y is e hx
  read_by Ty-F.Def access at name x y is e hx = def_named access at name x y is e hx
  read_by Ty-F.Void access at name x y is e hx = cc
  read_by Ty-F.Null access at name x y is e hx = cc
  read_by (Ty-F.Prim p) access at name x y is e hx = cc

  pub read_part : (access : Access) (at : ℕ) (name : List ℕ) (x y : Part) → read_of funs.allowed access at name x ≡ Ok y → PartIs funs g x → PartIs funs g y
  read_part access at name x y e hx = read_by (out-Ty (type_of_part x)) access at name x y refl e hx

  -- ---- numbers

  number_if : (c : Bool) (number at : ℕ) (x y : Part) → (if c then accepted x else refuse number at) ≡ accepted y → PartIs funs g x → PartIs funs g y
  number_if true number at x y e h = settled (PartIs funs g) x y e h
  number_if false number at x y e h = cc

  pub number_is : (at : ℕ) (digits : List ℕ) (i : Part) → number_at at digits ≡ Ok i → PartIs funs g i
  number_is at digits i e = number_if (nat_lt (magnitude digits) (2 ^ 31)) _ at (int_literal at (pos (magnitude digits))) i e (int_is funs g at (pos (magnitude digits)))

  class_numbered : (maps lists : Bool) (number c : ℕ) (access : Access) (at : ℕ) (digits : List ℕ) (x y : Part) → out-Ty (type_of_part x) ≡ Ty-F.Class c
      → (if maps then got funs.allowed access at c x (text_part at digits)
      else (if lists then bind (number_at at digits) (λ i. got funs.allowed access at c x i) else refuse number at)) ≡ Ok y → PartIs funs g x → PartIs funs g y
  class_numbered true lists number c access at digits x y is e hx = got_is access at c x (text_part at digits) y is e hx (text_key at digits)
  class_numbered false true number c access at digits x y is e hx =
      let a = passed (number_at at digits) (λ i. got funs.allowed access at c x i) y e in
      got_is access at c x a.given y is a.then' hx (number_is at digits a.given a.first)
  class_numbered false false number c access at digits x y is e hx = cc

  numbered_by : (l : Ty-F Ty) (access : Access) (at : ℕ) (digits : List ℕ) (x y : Part) → out-Ty (type_of_part x) ≡ l → numbered_layer funs.allowed l access at digits x ≡ Ok y → PartIs funs g x
      → PartIs funs g y
  numbered_by (Ty-F.Class c) access at digits x y is e hx = class_numbered (is_map c) (is_list c) _ c access at digits x y is e hx
  numbered_by Ty-F.Def access at digits x y is e hx = def_named access at digits x y is e hx
  numbered_by Ty-F.Void access at digits x y is e hx = cc
  numbered_by Ty-F.Null access at digits x y is e hx = cc
  numbered_by (Ty-F.Prim p) access at digits x y is e hx = cc
  numbered_by (Ty-F.Array u) access at digits x y is e hx = cc

  pub numbered_part : (access : Access) (at : ℕ) (digits : List ℕ) (x y : Part) → numbered_of funs.allowed access at digits x ≡ Ok y → PartIs funs g x → PartIs funs g y
  numbered_part access at digits x y e hx = numbered_by (out-Ty (type_of_part x)) access at digits x y refl e hx
