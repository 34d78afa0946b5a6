-- One part or two of a place, represented as is wanted.
use Rattle.std.proofs.Common.{◌≡◌, ◌≢◌, List, [], ◌∷◌, length, Some, None, refl, sym, subst}
use Rattle.std.specs.Prelude.{slice_get}
use Rattle.typed_tree.specs.declared.typed.Typed.{Typed}
use Rattle.source_meaning.specs.Tree.{Exprs, type_of}
use Rattle.source_meaning.specs.Programs.{expr_of}
use Rattle.compiler_relation.specs.Representation.{Representation, representation_of}
use Rattle.compiler_relation.specs.Stands.{AreOneOrTwo, representations}
use Rattle.codegen.specs.Operands.{Lies, representations_of}
use Rattle.codegen.specs.Worklist.{Wants, Taken, wanted, parts_from}
use Rattle.codegen.specs.Sound.{Refuses}
use Rattle.codegen.specs.declared.work_item.Wanted.{Wanted}
use Rattle.codegen.proofs.Parts.{alone, both, parts_go, parts_stop, wanted_of_others}

abbrev represented : Typed → Representation
represented x = representation_of (type_of (expr_of x))

pub none_lies : (parts : List Typed) → slice_get parts 0 ≡ None → AreOneOrTwo (representations_of parts) → ⊥
none_lies [] is few = few
none_lies (x ∷ parts) is few = absurd cc

pub too_many : (parts : List Typed) (y : Typed) → slice_get parts 1 ≡ Some y → length parts ≢ 2 → AreOneOrTwo (representations_of parts) → ⊥
too_many [] y is n few = few
too_many (x ∷ []) y is n few = absurd cc
too_many (x ∷ z ∷ []) y is n few = n refl
too_many (x ∷ z ∷ other ∷ parts) y is n few = few

module _ (parts : List Typed) (kind : Wanted) (x : Typed) (is : slice_get parts 0 ≡ Some x) where
  pub one_lies : slice_get parts 1 ≡ None → Taken (wanted 0 kind) (wanted 1 kind) (represented x) → Wants (wanted 1 kind) [] → Lies (representations_of parts) (wanted 0 kind) 1
  one_lies ends taken h =
      subst (λ (parts : List Typed). Lies (representations_of parts) (wanted 0 kind) 1) (sym (alone parts x is ends)) (record { few = tt; wants = taken.by [] h; many = refl })

  pub two_lie : (y : Typed) → slice_get parts 1 ≡ Some y → length parts ≡ 2 → Taken (wanted 0 kind) (wanted 1 kind) (represented x) → Taken (wanted 1 kind) (wanted 2 kind) (represented y)
      → Wants (wanted 2 kind) [] → Lies (representations_of parts) (wanted 0 kind) 2
  two_lie y second many first' second' h =
      subst (λ (parts : List Typed). Lies (representations_of parts) (wanted 0 kind) 2) (sym (both parts x y is second many))
      (record { few = tt; wants = first'.by (represented y ∷ []) (second'.by [] h); many = refl })

  wants_first : Wants (wanted 0 kind) (representations_of parts) → Wants (wanted 0 kind) (represented x ∷ representations (parts_from 1 parts))
  wants_first h = subst (λ (es : Exprs). Wants (wanted 0 kind) (representations es)) (parts_go parts 0 x is) h

  wants_others : Wants (wanted 0 kind) (representations_of parts) → Wants (wanted 1 kind) (representations (parts_from 1 parts))
  wants_others h = wanted_of_others kind 0 (represented x) (representations (parts_from 1 parts)) (wants_first h)

  wants_second : (y : Typed) → slice_get parts 1 ≡ Some y → Wants (wanted 0 kind) (representations_of parts) → Wants (wanted 1 kind) (represented y ∷ representations (parts_from 2 parts))
  wants_second y second h = subst (λ (es : Exprs). Wants (wanted 1 kind) (representations es)) (parts_go parts 1 y second) (wants_others h)

  pub first_refused : Refuses (wanted 0 kind) (represented x) → Wants (wanted 0 kind) (representations_of parts) → ⊥
  first_refused n h = n.by (representations (parts_from 1 parts)) (wants_first h)

  pub one_unended : slice_get parts 1 ≡ None → (Wants (wanted 1 kind) [] → ⊥) → Wants (wanted 0 kind) (representations_of parts) → ⊥
  one_unended ends n h = n (subst (λ (es : Exprs). Wants (wanted 1 kind) (representations es)) (parts_stop parts 1 ends) (wants_others h))

  pub second_refused : (y : Typed) → slice_get parts 1 ≡ Some y → Refuses (wanted 1 kind) (represented y) → Wants (wanted 0 kind) (representations_of parts) → ⊥
  second_refused y second n h = n.by (representations (parts_from 2 parts)) (wants_second y second h)

  pub two_unended : (y : Typed) → slice_get parts 1 ≡ Some y → length parts ≡ 2 → (Wants (wanted 2 kind) [] → ⊥) → Wants (wanted 0 kind) (representations_of parts) → ⊥
  two_unended y second many n h =
      n (wanted_of_others kind 1 (represented y) []
      (wanted_of_others kind 0 (represented x) (represented y ∷ []) (subst (λ (parts : List Typed). Wants (wanted 0 kind) (representations_of parts)) (both parts x y is second many) h)))
