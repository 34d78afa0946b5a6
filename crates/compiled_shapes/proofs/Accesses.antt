-- What instructions take and leave that find a member, a name or an index when the code runs.
use Rattle.std.proofs.Common.{◌≡◌, ℕ, suc, ◌+◌, ◌-◌, List, [], ◌∷◌, ◌++◌, length, refl, sym, ap, ◌∙◌, arith}
use Rattle.std.specs.Prelude.{replicate}
use Rattle.pl_types.specs.declared.ty.Ty.{Ty}
use Rattle.pl_types.specs.declared.ty.Ty.TheVariants as t
use Rattle.pl_code.specs.declared.kinds.Plain.TheVariants as plain
use Rattle.pl_code.specs.declared.kinds.Quoting.TheVariants as quoting
use Rattle.pl_code.specs.declared.kinds.Slot.{Slot}
use Rattle.pl_code.specs.declared.kinds.Slot.TheVariants.{R}
use Rattle.pl_code.specs.declared.code.FunCode.{FunCode}
use Rattle.pl_code.specs.declared.code.Instruction.TheVariants as i
use Rattle.allowlist.specs.Allow.{AllowList}
use Rattle.instruction_types.specs.Effects.{left_by, one, effect_of, flow_of}
use Rattle.instruction_types.specs.Faults.{is_bad_target, is_bad_member}
use Rattle.program_typing.specs.Types.{IsReference, AreReferences, TakesReference, TakesReferences}
use Rattle.program_typing.specs.Agreeing.{FindsMethod}
use Rattle.compiled_shapes.proofs.Runs.{Passes, Straight}
use Rattle.compiled_shapes.proofs.Parts.{push, push_types}
use Rattle.compiled_shapes.proofs.Steps.{push_reference, two_references, only}
use Rattle.compiled_shapes.proofs.Containers.{lie_alike, references_push, push_def, exchanged}

one_more : (n : ℕ) → suc n ≡ (suc n - 1) + 1
one_more n = omega arith

module _ (allow : AllowList) (functions : List FunCode) (f : FunCode) where
  method_passes : (name : List ℕ) (n : ℕ) (s : List Slot) → Passes allow functions f (i.DefCall name n) (replicate (n + 1) R ++ s) (R ∷ s)
  unfolding is_bad_target is_bad_member flow_of effect_of
  method_passes name n s = record { flow = refl; target = refl; member = refl; leaves = exchanged (replicate (n + 1) R) (one R) s }

  name_passes : (name : List ℕ) (s : List Slot) → Passes allow functions f (i.Quoted quoting.GetName name) (R ∷ s) (R ∷ s)
  unfolding is_bad_target is_bad_member flow_of effect_of left_by
  name_passes name s = record { flow = refl; target = refl; member = refl; leaves = refl }

  put_name_passes : (name : List ℕ) (s : List Slot) → Passes allow functions f (i.Quoted quoting.PutName name) (R ∷ R ∷ s) s
  unfolding is_bad_target is_bad_member flow_of effect_of left_by
  put_name_passes name s = record { flow = refl; target = refl; member = refl; leaves = refl }

  index_passes : (s : List Slot) → Passes allow functions f (i.Plain plain.GetIndex) (R ∷ R ∷ s) (R ∷ s)
  unfolding is_bad_target is_bad_member flow_of effect_of left_by
  index_passes s = record { flow = refl; target = refl; member = refl; leaves = refl }

  put_index_passes : (s : List Slot) → Passes allow functions f (i.Plain plain.PutIndex) (R ∷ R ∷ R ∷ s) s
  unfolding is_bad_target is_bad_member flow_of effect_of left_by
  put_index_passes s = record { flow = refl; target = refl; member = refl; leaves = refl }

  -- ---- calls

  lie_for : (from : Ty) (ofs : List Ty) (s : List Slot) → IsReference from → AreReferences ofs
      → push_types (from ∷ ofs) s ≡ replicate ((suc (length ofs) - 1) + 1) R ++ s
  lie_for from ofs s h hs = lie_alike R (from ∷ ofs) s (references_push (from ∷ ofs) (h, hs)) ∙ ap (λ n. replicate n R ++ s) (one_more (length ofs))

  pub method_straight : (name : List ℕ) (ofs : List Ty) (of : Ty) (s : List Slot) → FindsMethod ofs → of ≡ t.Def
      → Straight allow functions f (i.DefCall name (length ofs - 1) ∷ []) (push_types ofs s) (push of s)
  method_straight name [] of s h is = absurd h
  method_straight name (from ∷ ofs) of s h is =
      only allow functions f (method_passes name (length (from ∷ ofs) - 1) s) (lie_for from ofs s h.0 h.1) (push_def of s is)

  -- behind a receiver
  pub method_behind : (name : List ℕ) (from : Ty) (ofs : List Ty) (s : List Slot) → IsReference from → AreReferences ofs
      → Straight allow functions f (i.DefCall name (suc (length ofs) - 1) ∷ []) (push_types ofs (R ∷ s)) (R ∷ s)
  method_behind name from ofs s h hs =
      only allow functions f (method_passes name (suc (length ofs) - 1) s) (sym (ap (push_types ofs) (push_reference from s h)) ∙ lie_for from ofs s h hs) refl

  -- ---- names and indexes

  pub name_straight : (name : List ℕ) (ofs : List Ty) (of : Ty) (s : List Slot) → TakesReference ofs → of ≡ t.Def
      → Straight allow functions f (i.Quoted quoting.GetName name ∷ []) (push_types ofs s) (push of s)
  name_straight name [] of s h is = absurd h
  name_straight name (a ∷ []) of s h is = only allow functions f (name_passes name s) (push_reference a s h) (push_def of s is)
  name_straight name (a ∷ other ∷ ofs) of s h is = absurd h

  -- behind a receiver, and no further part
  pub name_behind : (name : List ℕ) (from : Ty) (ofs : List Ty) (s : List Slot) → TakesReference (from ∷ ofs)
      → Straight allow functions f (i.Quoted quoting.GetName name ∷ []) (push_types ofs (R ∷ s)) (R ∷ s)
  name_behind name from [] s h = only allow functions f (name_passes name s) refl refl
  name_behind name from (other ∷ ofs) s h = absurd h

  pub index_straight : (ofs : List Ty) (of : Ty) (s : List Slot) → TakesReferences ofs → of ≡ t.Def
      → Straight allow functions f (i.Plain plain.GetIndex ∷ []) (push_types ofs s) (push of s)
  index_straight [] of s h is = absurd h
  index_straight (a ∷ []) of s h is = absurd h
  index_straight (a ∷ b ∷ []) of s h is = only allow functions f (index_passes s) (two_references a b s h.0 h.1) (push_def of s is)
  index_straight (a ∷ b ∷ other ∷ ofs) of s h is = absurd h

  pub put_name_straight : (name : List ℕ) (ofs : List Ty) (of : Ty) (s : List Slot) → TakesReference ofs → IsReference of
      → Straight allow functions f (i.Quoted quoting.PutName name ∷ []) (push of (push_types ofs s)) s
  put_name_straight name [] of s h is = absurd h
  put_name_straight name (a ∷ []) of s h is = only allow functions f (put_name_passes name s) (two_references a of s h is) refl
  put_name_straight name (a ∷ other ∷ ofs) of s h is = absurd h

  pub put_index_straight : (ofs : List Ty) (of : Ty) (s : List Slot) → TakesReferences ofs → IsReference of
      → Straight allow functions f (i.Plain plain.PutIndex ∷ []) (push of (push_types ofs s)) s
  put_index_straight [] of s h is = absurd h
  put_index_straight (a ∷ []) of s h is = absurd h
  put_index_straight (a ∷ b ∷ []) of s h is =
      only allow functions f (put_index_passes s) (ap (push of) (two_references a b s h.0 h.1) ∙ push_reference of (R ∷ R ∷ s) is) refl
  put_index_straight (a ∷ b ∷ other ∷ ofs) of s h is = absurd h
