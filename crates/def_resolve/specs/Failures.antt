-- What is thrown where nothing is found, or where what is found cannot be called.
use Rattle.std.specs.Prelude.{ℕ, ◌++◌, Option, Some, None, List, [], codes, decimal, option_map, slice_get}
use Rattle.pl_types.specs.Classes.{full_name}
use Rattle.pl_types.specs.Texts.{short_text}
use Rattle.pl_types.specs.declared.classes.TheConstants.{ILLEGAL_ARGUMENT_EXCEPTION, ILLEGAL_STATE_EXCEPTION, INDEX_OUT_OF_BOUNDS_EXCEPTION, NULL_POINTER_EXCEPTION}
use Rattle.pl_units.specs.Utf16.{units}
use Rattle.object_values.specs.declared.object.Object.{Object}
use Rattle.object_values.specs.declared.object.Object.TheVariants as o
use Rattle.object_values.specs.declared.value.Value.{Value}
use Rattle.object_values.specs.declared.value.Value.TheVariants as v
use Rattle.object_heap.specs.Effects.{Effect, throws}
use Rattle.object_heap.specs.Fits.{class_of_kind}
use Rattle.object_heap.specs.Objects.{Kind, AnArray, kind_of}
use Rattle.object_heap.specs.Parts.{asked, size_of}
use Rattle.object_heap.specs.Store.{Store}
use Rattle.def_resolve.specs.declared.access.Purpose.{Purpose}
use Rattle.def_resolve.specs.declared.access.Purpose.TheVariants.{Read, Write}
use Rattle.def_resolve.specs.declared.failure.Indexed.{Indexed}
use Rattle.def_resolve.specs.declared.failure.Indexed.TheVariants as indexed
use Rattle.def_resolve.specs.Resolution.{class_of}

-- an exception, by its class and the bytes of its message
pub record Failure : Type 0 where
  pub class : ℕ
  pub message : Option (List ℕ)

-- ---- classes in full

-- where there is none it is a function value's that has taken no interface
abbrev pub name_of_class : Option ℕ → List ℕ
name_of_class None = codes "lambda"
name_of_class (Some class) = full_name class

-- of an array it is the type, whose classes have short names here too
abbrev pub name_of_kind : Kind → List ℕ
name_of_kind (AnArray elem) = short_text elem ++ codes "[]"
name_of_kind kind = name_of_class (class_of_kind kind)

abbrev pub name_of_object : Object → List ℕ
name_of_object object = name_of_kind (kind_of object)

abbrev pub name_of : List Object → Value → List ℕ
name_of objects v.Null = codes "null"
name_of objects (v.Ref id) = asked name_of_object [] (slice_get objects id)
name_of objects value = name_of_class (class_of objects value)

-- ---- failures

abbrev pub null_failure : Failure
null_failure = record { class = NULL_POINTER_EXCEPTION; message = None }

abbrev pub argument_failure : List ℕ → Failure
argument_failure message = record { class = ILLEGAL_ARGUMENT_EXCEPTION; message = Some message }

-- null has no members, no names behind a dot and no indices
abbrev pub unless_null : Value → Failure → Failure
unless_null v.Null failure = null_failure
unless_null value failure = failure

-- no member
abbrev pub method_message : List Object → Value → List ℕ → ℕ → List ℕ
method_message objects receiver name arity = codes "dynamic method [" ++ name_of objects receiver ++ codes ", " ++ name ++ codes "/" ++ decimal arity ++ codes "] not found"

unfoldable pub no_method : List Object → Value → List ℕ → ℕ → Failure
no_method objects receiver name arity = unless_null receiver (argument_failure (method_message objects receiver name arity))

-- nothing to read or to write behind a dot
abbrev pub accessor_begin : Purpose → List ℕ
accessor_begin Read = codes "dynamic getter ["
accessor_begin Write = codes "dynamic setter ["

abbrev pub accessor_message : Purpose → List Object → Value → List ℕ → List ℕ
accessor_message purpose objects receiver name = accessor_begin purpose ++ name_of objects receiver ++ codes ", " ++ name ++ codes "] not found"

unfoldable pub no_accessor : Purpose → List Object → Value → List ℕ → Failure
no_accessor purpose objects receiver name = unless_null receiver (argument_failure (accessor_message purpose objects receiver name))

-- An index: of a list and of a map, whose members the list of what is allowed leaves out, and of what has no indices.
abbrev pub no_item : Purpose → List Object → Value → Failure
no_item Read objects receiver = no_method objects receiver (codes "get") 1
no_item Write objects receiver = no_method objects receiver (codes "set") 2

abbrev pub no_key : Purpose → List Object → Value → Failure
no_key Read objects receiver = no_method objects receiver (codes "get") 1
no_key Write objects receiver = no_method objects receiver (codes "put") 2

abbrev pub not_indexed : Failure
not_indexed = argument_failure (codes "not a list, map or array")

-- which of them an object is
abbrev pub indexed_as : Option Object → Indexed
indexed_as (Some (o.List class items guard changes)) = indexed.List
indexed_as (Some (o.Map class pairs guard changes)) = indexed.Map
indexed_as other = indexed.Neither

abbrev pub no_index_of : Purpose → List Object → Value → Indexed → Failure
no_index_of purpose objects receiver indexed.List = no_item purpose objects receiver
no_index_of purpose objects receiver indexed.Map = no_key purpose objects receiver
no_index_of purpose objects receiver indexed.Neither = not_indexed

unfoldable pub no_index : Purpose → List Object → Value → Failure
no_index purpose objects (v.Ref id) = no_index_of purpose objects (v.Ref id) (indexed_as (slice_get objects id))
no_index purpose objects value = unless_null value not_indexed

-- a place of a list that no int reaches, by the name that it is
abbrev pub beyond_message : List Object → ℕ → List ℕ → List ℕ
beyond_message objects id name = codes "Index " ++ name ++ codes " out of bounds for length " ++ decimal (size_of objects id)

unfoldable pub beyond_list : List Object → ℕ → List ℕ → Failure
beyond_list objects id name = record { class = INDEX_OUT_OF_BOUNDS_EXCEPTION; message = Some (beyond_message objects id name) }

-- a function value that takes no interface where it is wanted, and one whose script has ended
unfoldable pub does_not_fit : Failure
does_not_fit = argument_failure (codes "function does not fit")

unfoldable pub is_gone : Failure
is_gone = record { class = ILLEGAL_STATE_EXCEPTION; message = Some (codes "function is gone") }

-- ---- what a failure does

abbrev pub fails : Store → Failure → Effect
fails store failure = throws store failure.class (option_map units failure.message)
