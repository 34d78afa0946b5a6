-- Runs of programs by their own rules.
use Rattle.std.proofs.Common.{◌≡◌, true, List, [], ◌∷◌, length, map, refl}
use Rattle.std.proofs.lemmas.Bool.{and_parts, false≢true}
use Rattle.pl_types.specs.declared.ty.Ty.{Ty, out-Ty}
use Rattle.pl_types.specs.declared.ty.Ty.TheOpen.{Ty-F}
use Rattle.object_values.specs.declared.object.Object.{Object}
use Rattle.object_values.specs.declared.value.Value.{Value}
use Rattle.object_heap.specs.Fits.{AllFit, has_layer, has_type, have_types, kinds}
use Rattle.object_heap.specs.Objects.{Kind}
use Rattle.codegen.specs.Programs.{variable_of}
use Rattle.compiled_outcome.specs.Agreeing.{types_in}
use Rattle.typing_soundness.specs.Outs.{AreTyped}
use Rattle.typing_soundness.specs.Typing.{is_typed_layer}
use Rattle.typing_soundness.proofs.SourceTypingValues.{all_there}
use Rattle.script_engine.specs.Preludes.{empty_program}
use Rattle.script_engine.specs.Keeping.{ProgramsKeepTheirRules}
use Rattle.script_engine.proofs.Fitting.{programs_fit}
use Rattle.script_engine.proofs.Typed.{programs_are_typed}

pub programs_keep : ProgramsKeepTheirRules
programs_keep allow context text p good is limits allowed args w end f h run = (
  programs_fit p empty_program limits args w end f (all_there w.store.objects (types_in (map variable_of context.variables)) args h) run,
  programs_are_typed allow context text p good is limits allowed args w end f h run,
)

-- ---- arguments of types that a store gives

typed_layer : (ks : List Kind) (layer : Ty-F Ty) (value : Value) → has_layer ks layer value ≡ true → is_typed_layer ks layer value ≡ true
typed_layer ks Ty-F.Void value h = refl
typed_layer ks Ty-F.Null value h = absurd (false≢true h)
typed_layer ks Ty-F.Def value h = h
typed_layer ks (Ty-F.Prim p) value h = h
typed_layer ks (Ty-F.Class class) value h = h
typed_layer ks (Ty-F.Array elem) value h = h

pub all_typed : (objects : List Object) (ofs : List Ty) (values : List Value) → AllFit (length objects) values → have_types (kinds objects) ofs values ≡ true → AreTyped objects ofs values
all_typed objects [] [] f h = tt
all_typed objects [] (value ∷ values) f h = absurd (false≢true h)
all_typed objects (of ∷ ofs) [] f h = absurd (false≢true h)
all_typed objects (of ∷ ofs) (value ∷ values) f h =
    let both = and_parts (has_type (kinds objects) of value) (have_types (kinds objects) ofs values) h in
    (record { there = f.0; is = typed_layer (kinds objects) (out-Ty of) value both.0 }, all_typed objects ofs values f.1 both.1)
