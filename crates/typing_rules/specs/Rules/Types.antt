-- Types as they are written. Built are the primitive types, def, the classes but those of functions, and arrays of these. Those classes
-- are the ones from Object to Collections, the boxes and the containers among them, those of exceptions, and ScriptDocValues.
use Rattle.std.specs.Prelude.{ℕ, zero, suc, nat_le, nat_lt, Bool, true, false, ◌&&◌, ◌||◌, List, [], ◌∷◌, length, codes, bytes_eq, if◌then◌else◌, Ok}
use Rattle.pl_types.specs.declared.classes.TheConstants.{COLLECTIONS, EXCEPTION, SCRIPT_DOC_VALUES, PRELUDE}
use Rattle.pl_types.specs.declared.ty.Ty.{Ty}
use Rattle.pl_types.specs.declared.ty.Ty.TheFolds.{fold-Ty}
use Rattle.pl_types.specs.declared.ty.Ty.TheOpen.{Ty-F}
use Rattle.pl_types.specs.declared.ty.Ty.TheVariants as t
use Rattle.pl_types.specs.declared.rules.TheConstants.{UNKNOWN_TYPE, BAD_CAST, OUT_OF_PROFILE}
use Rattle.pl_tree.specs.declared.tree.TypeName.{TypeName}
use Rattle.pl_tree.specs.declared.tree.TypeBase.{TypeBase}
use Rattle.pl_tree.specs.declared.tree.TypeBase.TheVariants as b
use Rattle.typing_rules.specs.Outcomes.{Out, refuse, bind}

-- the classes that are built: those up to Collections, and those from Exception to ScriptDocValues
abbrev pub is_built_class : ℕ → Bool
is_built_class c = nat_le c COLLECTIONS || (nat_le EXCEPTION c && nat_le c SCRIPT_DOC_VALUES)

-- a type over what is said of its element
abbrev pub built_layer : Ty-F Bool → Bool
built_layer (Ty-F.Prim p) = true
built_layer Ty-F.Def = true
built_layer (Ty-F.Class c) = is_built_class c
built_layer (Ty-F.Array element) = element
built_layer _ = false

-- the types of variables that are built
abbrev pub is_built : Ty → Bool
is_built = fold-Ty Bool built_layer

-- a name in a type's place means no class
abbrev pub base_of : ℕ → TypeBase → Out Ty
base_of at b.Def = Ok t.Def
base_of at (b.Primitive p) = Ok (t.Prim p)
base_of at (b.Class c) = if is_built_class c then Ok (t.Class c) else refuse OUT_OF_PROFILE at
base_of at (b.Name name) = refuse UNKNOWN_TYPE at

-- arrays of so many dimensions
abbrev pub arrays : ℕ → Ty → Ty
arrays zero of = of
arrays (suc n) of = t.Array (arrays n of)

abbrev pub type_of : TypeName → Out Ty
type_of of = bind (base_of of.at of.base) (λ base. Ok (arrays (length of.brackets) base))

abbrev pub is_empty : List ℕ → Bool
is_empty [] = true
is_empty (b ∷ brackets) = false

abbrev pub void_base : TypeBase → Bool
void_base (b.Name name) = bytes_eq name (codes "void")
void_base base = false

-- whether a type is the name `void`
abbrev pub names_void : TypeName → Bool
names_void of = void_base of.base && is_empty of.brackets

-- the result of a function may be the name `void`
abbrev pub result_of : TypeName → Out Ty
result_of of = if names_void of then Ok t.Void else type_of of

-- ---- the class of a catch: any that scripts may name, also one that no exception is of

abbrev pub caught_base : ℕ → TypeBase → Out ℕ
caught_base at b.Def = refuse BAD_CAST at
caught_base at (b.Primitive p) = refuse BAD_CAST at
caught_base at (b.Class c) = if nat_lt c PRELUDE then Ok c else refuse OUT_OF_PROFILE at
caught_base at (b.Name name) = refuse UNKNOWN_TYPE at

abbrev pub caught_class : TypeName → Out ℕ
caught_class of = bind (caught_base of.at of.base) (λ c. if is_empty of.brackets then Ok c else refuse BAD_CAST of.at)
