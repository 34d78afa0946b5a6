-- Places: what the copies of their parts, and what writes them, take and leave.
use Rattle.std.proofs.Common.{◌≡◌, true, List, [], ◌∷◌, ◌++◌, length, refl, sym, ap, ◌∙◌, subst}
use Rattle.std.proofs.lemmas.Bool.{and_parts}
use Rattle.pl_types.specs.declared.primitive.Primitive.TheVariants as prim
use Rattle.pl_types.specs.declared.ty.Ty.{Ty, out-Ty}
use Rattle.pl_types.specs.declared.ty.Ty.TheVariants as t
use Rattle.pl_types.specs.declared.ty.Ty.TheOpen.{Ty-F}
use Rattle.allowlist.specs.declared.member.MemberKind.TheVariants as kind
use Rattle.allowlist.specs.Allow.{AllowList}
use Rattle.member_names.specs.Names.{TextsName}
use Rattle.pl_code.specs.declared.kinds.Plain.TheVariants as plain
use Rattle.pl_code.specs.declared.kinds.Slot.{Slot}
use Rattle.pl_code.specs.declared.code.FunCode.{FunCode}
use Rattle.pl_code.specs.declared.code.Instruction.TheVariants as i
use Rattle.instruction_types.specs.Effects.{left_by, effect_of, flow_of}
use Rattle.instruction_types.specs.Faults.{is_bad_target, is_bad_member}
use Rattle.typed_tree.specs.declared.operation.Operation.{Operation}
use Rattle.typed_tree.specs.declared.operation.Operation.TheVariants as operation
use Rattle.typed_tree.specs.declared.operation.Operator.TheVariants as operator
use Rattle.typed_tree.specs.declared.operation.Gives.{Gives}
use Rattle.typed_tree.specs.declared.operation.Gives.TheVariants as gives
use Rattle.program_typing.specs.Tree.{Program}
use Rattle.compiler_relation.specs.Representation.{kind_of}
use Rattle.compiler_relation.specs.Parts.{write_code, kept_under, copies, kept_before, kept_behind}
use Rattle.program_typing.specs.Types.{is_reference_layer, has_values_layer, HasValues, TakesElement, TakesReference, TakesReferences}
use Rattle.program_typing.specs.Agreeing.{known, MemberAgrees, Writes, IsPlace}
use Rattle.compiled_shapes.proofs.Runs.{Passes, Straight}
use Rattle.compiled_shapes.proofs.Parts.{push, push_types, kept}
use Rattle.compiled_shapes.proofs.Steps.{push_value, only, dup_passes}
use Rattle.compiled_shapes.proofs.Members.{are_there, is_there_layer, there_has_values, shaped_at, setter_straight}
use Rattle.compiled_shapes.proofs.Containers.{named_values, put_straight}
use Rattle.compiled_shapes.proofs.Accesses.{put_name_straight, put_index_straight}

-- ---- parts that have values

abbrev pub AllHaveValues : List Ty → Type 0
AllHaveValues [] = Unit {0}
AllHaveValues (of ∷ ofs) = HasValues of × AllHaveValues ofs

reference_values : (l : Ty-F Ty) → is_reference_layer l → has_values_layer l
reference_values Ty-F.Void h = absurd h
reference_values Ty-F.Null h = tt
reference_values Ty-F.Def h = tt
reference_values (Ty-F.Prim p) h = absurd h
reference_values (Ty-F.Class class) h = tt
reference_values (Ty-F.Array of) h = tt

reference_has : (ofs : List Ty) → TakesReference ofs → AllHaveValues ofs
reference_has [] h = absurd h
reference_has (a ∷ []) h = (reference_values (out-Ty a) h, tt)
reference_has (a ∷ other ∷ ofs) h = absurd h

references_have : (ofs : List Ty) → TakesReferences ofs → AllHaveValues ofs
references_have [] h = absurd h
references_have (a ∷ []) h = absurd h
references_have (a ∷ b ∷ []) h = (reference_values (out-Ty a) h.0, (reference_values (out-Ty b) h.1, tt))
references_have (a ∷ b ∷ other ∷ ofs) h = absurd h

there_values : (ofs : List Ty) → are_there ofs ≡ true → AllHaveValues ofs
there_values [] h = tt
there_values (of ∷ ofs) h =
    let parts = and_parts (is_there_layer (out-Ty of)) (are_there ofs) h in
    (there_has_values (out-Ty of) parts.0, there_values ofs parts.1)

array_values : (of : Ty) → HasValues (t.Array of)
unfolding out-Ty denote.Hole.Carrier.out
array_values of = tt

int_values : HasValues (t.Prim prim.Int)
unfolding out-Ty denote.Hole.Carrier.out
int_values = tt

element_values : (ofs : List Ty) (of : Ty) → TakesElement ofs of → AllHaveValues ofs × HasValues of
element_values [] of h = absurd h
element_values (array ∷ []) of h = absurd h
element_values (array ∷ at ∷ []) of h =
    ((subst HasValues (sym h.0) (array_values of), (subst HasValues (sym h.1) int_values, tt)), named_values of h.2)
element_values (array ∷ at ∷ other ∷ ofs) of h = absurd h

module _ (allow : AllowList) (funs : Program) where
  setter_values : (m : Rattle.typed_tree.specs.declared.operation.Member.Member) (ofs : List Ty) (of given : Ty) → IsPlace ofs
      → MemberAgrees (known allow funs) kind.Instance m (ofs ++ of ∷ []) given → AllHaveValues ofs × HasValues of
  setter_values m [] of given place h = absurd place
  setter_values m (a ∷ []) of given place h =
      let there = there_values (of ∷ []) (ap are_there h.takes.1 ∙ (shaped_at m.number h.member h.is).0) in
      ((reference_values (out-Ty a) h.takes.0, tt), there.0)
  setter_values m (a ∷ b ∷ []) of given place h =
      let there = there_values (b ∷ of ∷ []) (ap are_there h.takes.1 ∙ (shaped_at m.number h.member h.is).0) in
      ((reference_values (out-Ty a) h.takes.0, (there.0, tt)), there.1.0)
  setter_values m (a ∷ b ∷ c ∷ ofs) of given place h = absurd place

  pub place_values : (write : Operation) (ofs : List Ty) (of : Ty) → IsPlace ofs → Writes (known allow funs) write ofs of → AllHaveValues ofs × HasValues of
  place_values (operation.Instance m) ofs of place h = setter_values m ofs of h.given place h.agrees
  place_values (operation.Operator operator.PutElement) ofs of place h = element_values ofs of h
  place_values (operation.PutDefName name) ofs of place h = (reference_has ofs h.0, reference_values (out-Ty of) h.1)
  place_values operation.PutDefIndex ofs of place h = (references_have ofs h.0, reference_values (out-Ty of) h.1)
  place_values other ofs of place h = absurd h

last_of : (ofs : List Ty) (of : Ty) (s : List Slot) → push_types (ofs ++ of ∷ []) s ≡ push of (push_types ofs s)
last_of [] of s = refl
last_of (x ∷ ofs) of s = last_of ofs of (push x s)

one_lies : (a of : Ty) (s : List Slot) → HasValues a → HasValues of → push of (push a s) ≡ kind_of of ∷ kind_of a ∷ s
one_lies a of s ha h = push_value of (push a s) h ∙ ap (λ s. kind_of of ∷ s) (push_value a s ha)

two_lie : (a b of : Ty) (s : List Slot) → HasValues a → HasValues b → HasValues of → push of (push b (push a s)) ≡ kind_of of ∷ kind_of b ∷ kind_of a ∷ s
two_lie a b of s ha hb h = push_value of (push b (push a s)) h ∙ ap (λ s. kind_of of ∷ s) (one_lies a b s ha hb)

module _ (allow : AllowList) (functions : List FunCode) (f : FunCode) where
  -- ---- copies

  under_one_passes : (k j : Slot) (s : List Slot) → Passes allow functions f (i.Plain plain.DupX1) (k ∷ j ∷ s) (k ∷ j ∷ k ∷ s)
  unfolding is_bad_target is_bad_member flow_of effect_of left_by
  under_one_passes k j s = record { flow = refl; target = refl; member = refl; leaves = refl }

  under_two_passes : (k j j' : Slot) (s : List Slot) → Passes allow functions f (i.Plain plain.DupX2) (k ∷ j ∷ j' ∷ s) (k ∷ j ∷ j' ∷ k ∷ s)
  unfolding is_bad_target is_bad_member flow_of effect_of left_by
  under_two_passes k j j' s = record { flow = refl; target = refl; member = refl; leaves = refl }

  two_passes : (k j : Slot) (s : List Slot) → Passes allow functions f (i.Plain plain.Dup2) (k ∷ j ∷ s) (k ∷ j ∷ k ∷ j ∷ s)
  unfolding is_bad_target is_bad_member flow_of effect_of left_by
  two_passes k j s = record { flow = refl; target = refl; member = refl; leaves = refl }

  pub under_straight : (ofs : List Ty) (of : Ty) (s : List Slot) → IsPlace ofs → AllHaveValues ofs → HasValues of
      → Straight allow functions f (kept_under (length ofs)) (push of (push_types ofs s)) (push of (push_types ofs (push of s)))
  under_straight [] of s place values h = absurd place
  under_straight (a ∷ []) of s place values h =
      only allow functions f (under_one_passes (kind_of of) (kind_of a) s) (one_lies a of s values.0 h)
      (one_lies a of (push of s) values.0 h ∙ ap (λ s. kind_of of ∷ kind_of a ∷ s) (push_value of s h))
  under_straight (a ∷ b ∷ []) of s place values h =
      only allow functions f (under_two_passes (kind_of of) (kind_of b) (kind_of a) s) (two_lie a b of s values.0 values.1.0 h)
      (two_lie a b of (push of s) values.0 values.1.0 h ∙ ap (λ s. kind_of of ∷ kind_of b ∷ kind_of a ∷ s) (push_value of s h))
  under_straight (a ∷ b ∷ c ∷ ofs) of s place values h = absurd place

  pub copies_straight : (ofs : List Ty) (s : List Slot) → IsPlace ofs → AllHaveValues ofs
      → Straight allow functions f (copies (length ofs)) (push_types ofs s) (push_types ofs (push_types ofs s))
  copies_straight [] s place values = absurd place
  copies_straight (a ∷ []) s place values =
      only allow functions f (dup_passes allow functions f (kind_of a) s) (push_value a s values.0) (one_lies a a s values.0 values.0)
  copies_straight (a ∷ b ∷ []) s place values =
      only allow functions f (two_passes (kind_of b) (kind_of a) s) (one_lies a b s values.0 values.1.0)
      (one_lies a b (push b (push a s)) values.0 values.1.0 ∙ ap (λ s. kind_of b ∷ kind_of a ∷ s) (one_lies a b s values.0 values.1.0))
  copies_straight (a ∷ b ∷ c ∷ ofs) s place values = absurd place

  pub before_place : (gives : Gives) (ofs : List Ty) (of : Ty) (s : List Slot) → IsPlace ofs → AllHaveValues ofs → HasValues of
      → Straight allow functions f (kept_before (length ofs) gives) (push of (push_types ofs s)) (push of (push_types ofs (kept gives of s)))
  before_place gives.Old ofs of s place values h = under_straight ofs of s place values h
  before_place gives.New ofs of s place values h = refl

  pub behind_place : (gives : Gives) (ofs : List Ty) (of : Ty) (s : List Slot) → IsPlace ofs → AllHaveValues ofs → HasValues of
      → Straight allow functions f (kept_behind (length ofs) gives) (push of (push_types ofs (kept gives of s))) (push of (push_types ofs (push of s)))
  behind_place gives.Old ofs of s place values h = refl
  behind_place gives.New ofs of s place values h = under_straight ofs of s place values h

  -- ---- writes

  pub write_straight : (texts : TextsName) (funs : Program) (write : Operation) (ofs : List Ty) (of : Ty) (s : List Slot) → Writes (known allow funs) write ofs of
      → Straight allow functions f (write_code write of) (push of (push_types ofs s)) s
  write_straight texts funs (operation.Instance m) ofs of s h =
      subst (λ j. Straight allow functions f (write_code (operation.Instance m) of) j s) (last_of ofs of s)
      (setter_straight allow functions f texts funs m (ofs ++ of ∷ []) h.given s h.agrees)
  write_straight texts funs (operation.Operator operator.PutElement) ofs of s h = put_straight allow functions f ofs of s h
  write_straight texts funs (operation.PutDefName name) ofs of s h = put_name_straight allow functions f name ofs of s h.0 h.1
  write_straight texts funs operation.PutDefIndex ofs of s h = put_index_straight allow functions f ofs of s h.0 h.1
  write_straight texts funs other ofs of s h = absurd h
