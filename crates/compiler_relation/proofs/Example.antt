-- The small program's code stands.
use Rattle.std.proofs.Common.{◌≡◌, ◌≢◌, ℕ, zero, suc, [], ◌∷◌, Some, refl, subst}
use Rattle.std.specs.Prelude.{slice_get}
use Rattle.pl_types.specs.declared.ty.Ty as ty
use Rattle.object_values.specs.declared.object.Owner.TheVariants.{Script}
use Rattle.pl_code.specs.declared.code.Instruction.{Instruction}
use Rattle.pl_types.specs.declared.conversion.Cast.TheVariants as cast
use Rattle.arithmetic.specs.declared.operator.Op.TheVariants as op
use Rattle.typed_tree.specs.declared.operation.Operator.TheVariants as operator
use Rattle.source_meaning.specs.Tree.{Fun}
use Rattle.compiler_relation.specs.Representation.{Unboxed, Absent}
use Rattle.compiler_relation.specs.Stands.{Entry, At, ChangeFits, FunAt}
use Rattle.compiler_relation.specs.Example.{int, x, main, code, IsExample}

abbrev here : {line : ℕ} {instruction : Instruction} → slice_get code.lines line ≡ Some instruction → At code [] line instruction
here is = record { here = is; traps = refl }

abbrev entry : Entry
entry = record { name = x; of = int; local = 0 }

unboxed_some : Unboxed ≢ Absent
unboxed_some e = cc

change_fits : ChangeFits (record { before = cast.Keep; operator = operator.Int op.Add; after = cast.Keep }) int Unboxed
unfolding ty.out-Ty denote.Hole.Carrier.out
change_fits = record {
  present = unboxed_some;
  before = record { takes = refl; representation = refl; asks = tt };
  right = refl;
  after = record { takes = refl; representation = refl; asks = tt };
  does = tt;
}

main_stands : FunAt Script (main ∷ []) (code ∷ []) 0 main
unfolding ty.out-Ty denote.Hole.Carrier.out
main_stands = record {
  body = code;
  is = refl;
  loops = refl;
  params = refl;
  present = tt;
  result = refl;
  locals = refl;
  stands = (
    ((here refl, refl), refl),
    unboxed_some,
    record { is = refl },
    here refl,
    (
      (
        here refl,
        (((entry, record { is = refl }, refl, here refl, tt, tt, (here refl, refl), (here refl, tt), tt, (here refl, tt), here refl, change_fits), (here refl, tt)), tt),
        tt,
        ((((entry, record { is = refl }, refl, here refl), ((here refl, refl), tt)), (here refl, tt), ((refl, (refl, tt)), refl, tt)), refl),
        here refl,
      ),
      ((((((entry, record { is = refl }, refl, here refl), ((here refl, refl), tt)), (here refl, tt), ((refl, (refl, tt)), refl, tt)), refl), here refl), tt),
    ),
  );
  ends = tt;
  lines = refl;
  traps = refl;
}

only_main : (number : ℕ) (fun : Fun) → slice_get (main ∷ []) number ≡ Some fun → FunAt Script (main ∷ []) (code ∷ []) number fun
only_main zero fun is = let same : main ≡ fun = cc in subst (λ fun. FunAt Script (main ∷ []) (code ∷ []) 0 fun) same main_stands
only_main (suc number) fun is = cc

pub stands : IsExample
stands = record { each = only_main; many = refl }
