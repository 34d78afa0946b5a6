-- Kinds and lists of kinds that are the same.
use Rattle.std.proofs.Common.{◌≡◌, Bool, true, false, ◌&&◌, List, [], ◌∷◌, refl, ap, ◌∙◌}
use Rattle.pl_code.specs.declared.kinds.Slot.{Slot}
use Rattle.pl_code.specs.declared.kinds.Slot.TheVariants.{I, J, R}
use Rattle.instruction_types.specs.Effects.{same_slots}
use Rattle.verifier_table.specs.Shapes.{same_kinds}

pub slot_itself : (a : Slot) → same_slots a a ≡ true
slot_itself I = refl
slot_itself J = refl
slot_itself R = refl

pub one_slot : (a b : Slot) → same_slots a b ≡ true → a ≡ b
one_slot I I h = refl
one_slot I J h = cc
one_slot I R h = cc
one_slot J I h = cc
one_slot J J h = refl
one_slot J R h = cc
one_slot R I h = cc
one_slot R J h = cc
one_slot R R h = refl

pub kinds_themselves : (ks : List Slot) → same_kinds ks ks ≡ true
kinds_themselves [] = refl
kinds_themselves (k ∷ ks) = ap (λ t. t && same_kinds ks ks) (slot_itself k) ∙ kinds_themselves ks

heads : (j k : Slot) (js ks : List Slot) (t : Bool) → same_slots j k ≡ t → (t && same_kinds js ks) ≡ true → (same_kinds js ks ≡ true → js ≡ ks) → j ∷ js ≡ k ∷ ks
heads j k js ks true e h ih = (λ i. one_slot j k e i ∷ ih h i)
heads j k js ks false e h ih = cc

pub one_list : (js ks : List Slot) → same_kinds js ks ≡ true → js ≡ ks
one_list [] [] h = refl
one_list [] (k ∷ ks) h = cc
one_list (j ∷ js) [] h = cc
one_list (j ∷ js) (k ∷ ks) h = heads j k js ks (same_slots j k) refl h (one_list js ks)
