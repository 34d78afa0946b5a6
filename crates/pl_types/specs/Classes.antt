-- The classes of the catalogue, in its order, and the two hidden ones: names and parents. A class's number is its place.
use Rattle.std.specs.Prelude.{◌≡◌, ◌==◌, ℕ, zero, suc, Bool, true, List, [], ◌∷◌, codes, flat_map, slice_index_or}
use Rattle.std.specs.List.{list_any}
use Rattle.pl_types.specs.declared.classes.TheConstants.{OBJECT, COMPARABLE, CHAR_SEQUENCE, NUMBER, BYTE, SHORT, INTEGER, LONG, CHARACTER, BOOLEAN, MATH, STRING, STRING_BUILDER, ITERABLE, COLLECTION, LIST, ARRAY_LIST, SET, HASH_SET, LINKED_HASH_SET, MAP, HASH_MAP, LINKED_HASH_MAP, ENTRY, ITERATOR, COLLECTIONS, COMPARATOR, FUNCTION, BI_FUNCTION, UNARY_OPERATOR, BINARY_OPERATOR, PREDICATE, BI_PREDICATE, CONSUMER, BI_CONSUMER, OBJ_INT_CONSUMER, SUPPLIER, TO_INT_FUNCTION, TO_LONG_FUNCTION, EXCEPTION, RUNTIME_EXCEPTION, ARITHMETIC_EXCEPTION, CLASS_CAST_EXCEPTION, CONCURRENT_MODIFICATION_EXCEPTION, ILLEGAL_ARGUMENT_EXCEPTION, ILLEGAL_STATE_EXCEPTION, INDEX_OUT_OF_BOUNDS_EXCEPTION, NEGATIVE_ARRAY_SIZE_EXCEPTION, NO_SUCH_ELEMENT_EXCEPTION, NULL_POINTER_EXCEPTION, UNSUPPORTED_OPERATION_EXCEPTION, NUMBER_FORMAT_EXCEPTION, ARRAY_INDEX_OUT_OF_BOUNDS_EXCEPTION, STRING_INDEX_OUT_OF_BOUNDS_EXCEPTION, SCRIPT_DOC_VALUES, PRELUDE, STATIC_IMPORT}

pub record ClassRow : Type 0 where
  pub full : List ℕ
  pub short : List ℕ
  pub parents : List ℕ

abbrev pub row : List ℕ → List ℕ → List ℕ → ClassRow
row full short parents = record { full = full; short = short; parents = parents }

-- Each class with its full name, its short name and the numbers of its parents, in order.
unfoldable pub class_table : List ClassRow
class_table =
    row (codes "java.lang.Object") (codes "Object") ([])
    ∷ row (codes "java.lang.Comparable") (codes "Comparable") (0 ∷ [])
    ∷ row (codes "java.lang.CharSequence") (codes "CharSequence") (0 ∷ [])
    ∷ row (codes "java.lang.Number") (codes "Number") (0 ∷ [])
    ∷ row (codes "java.lang.Byte") (codes "Byte") (3 ∷ 1 ∷ [])
    ∷ row (codes "java.lang.Short") (codes "Short") (3 ∷ 1 ∷ [])
    ∷ row (codes "java.lang.Integer") (codes "Integer") (3 ∷ 1 ∷ [])
    ∷ row (codes "java.lang.Long") (codes "Long") (3 ∷ 1 ∷ [])
    ∷ row (codes "java.lang.Character") (codes "Character") (1 ∷ [])
    ∷ row (codes "java.lang.Boolean") (codes "Boolean") (1 ∷ [])
    ∷ row (codes "java.lang.Math") (codes "Math") (0 ∷ [])
    ∷ row (codes "java.lang.String") (codes "String") (2 ∷ 1 ∷ [])
    ∷ row (codes "java.lang.StringBuilder") (codes "StringBuilder") (2 ∷ [])
    ∷ row (codes "java.lang.Iterable") (codes "Iterable") (0 ∷ [])
    ∷ row (codes "java.util.Collection") (codes "Collection") (13 ∷ [])
    ∷ row (codes "java.util.List") (codes "List") (14 ∷ [])
    ∷ row (codes "java.util.ArrayList") (codes "ArrayList") (15 ∷ [])
    ∷ row (codes "java.util.Set") (codes "Set") (14 ∷ [])
    ∷ row (codes "java.util.HashSet") (codes "HashSet") (17 ∷ [])
    ∷ row (codes "java.util.LinkedHashSet") (codes "LinkedHashSet") (18 ∷ [])
    ∷ row (codes "java.util.Map") (codes "Map") (0 ∷ [])
    ∷ row (codes "java.util.HashMap") (codes "HashMap") (20 ∷ [])
    ∷ row (codes "java.util.LinkedHashMap") (codes "LinkedHashMap") (21 ∷ [])
    ∷ row (codes "java.util.Map$Entry") (codes "Map$Entry") (0 ∷ [])
    ∷ row (codes "java.util.Iterator") (codes "Iterator") (0 ∷ [])
    ∷ row (codes "java.util.Collections") (codes "Collections") (0 ∷ [])
    ∷ row (codes "java.util.Comparator") (codes "Comparator") (0 ∷ [])
    ∷ row (codes "java.util.function.Function") (codes "Function") (0 ∷ [])
    ∷ row (codes "java.util.function.BiFunction") (codes "BiFunction") (0 ∷ [])
    ∷ row (codes "java.util.function.UnaryOperator") (codes "UnaryOperator") (27 ∷ [])
    ∷ row (codes "java.util.function.BinaryOperator") (codes "BinaryOperator") (28 ∷ [])
    ∷ row (codes "java.util.function.Predicate") (codes "Predicate") (0 ∷ [])
    ∷ row (codes "java.util.function.BiPredicate") (codes "BiPredicate") (0 ∷ [])
    ∷ row (codes "java.util.function.Consumer") (codes "Consumer") (0 ∷ [])
    ∷ row (codes "java.util.function.BiConsumer") (codes "BiConsumer") (0 ∷ [])
    ∷ row (codes "java.util.function.ObjIntConsumer") (codes "ObjIntConsumer") (0 ∷ [])
    ∷ row (codes "java.util.function.Supplier") (codes "Supplier") (0 ∷ [])
    ∷ row (codes "java.util.function.ToIntFunction") (codes "ToIntFunction") (0 ∷ [])
    ∷ row (codes "java.util.function.ToLongFunction") (codes "ToLongFunction") (0 ∷ [])
    ∷ row (codes "java.lang.Exception") (codes "Exception") (0 ∷ [])
    ∷ row (codes "java.lang.RuntimeException") (codes "RuntimeException") (39 ∷ [])
    ∷ row (codes "java.lang.ArithmeticException") (codes "ArithmeticException") (40 ∷ [])
    ∷ row (codes "java.lang.ClassCastException") (codes "ClassCastException") (40 ∷ [])
    ∷ row (codes "java.util.ConcurrentModificationException") (codes "ConcurrentModificationException") (40 ∷ [])
    ∷ row (codes "java.lang.IllegalArgumentException") (codes "IllegalArgumentException") (40 ∷ [])
    ∷ row (codes "java.lang.IllegalStateException") (codes "IllegalStateException") (40 ∷ [])
    ∷ row (codes "java.lang.IndexOutOfBoundsException") (codes "IndexOutOfBoundsException") (40 ∷ [])
    ∷ row (codes "java.lang.NegativeArraySizeException") (codes "NegativeArraySizeException") (40 ∷ [])
    ∷ row (codes "java.util.NoSuchElementException") (codes "NoSuchElementException") (40 ∷ [])
    ∷ row (codes "java.lang.NullPointerException") (codes "NullPointerException") (40 ∷ [])
    ∷ row (codes "java.lang.UnsupportedOperationException") (codes "UnsupportedOperationException") (40 ∷ [])
    ∷ row (codes "java.lang.NumberFormatException") (codes "NumberFormatException") (44 ∷ [])
    ∷ row (codes "java.lang.ArrayIndexOutOfBoundsException") (codes "ArrayIndexOutOfBoundsException") (46 ∷ [])
    ∷ row (codes "java.lang.StringIndexOutOfBoundsException") (codes "StringIndexOutOfBoundsException") (46 ∷ [])
    ∷ row (codes "org.elasticsearch.index.fielddata.ScriptDocValues") (codes "ScriptDocValues") (15 ∷ [])
    ∷ row (codes "Prelude") (codes "Prelude") (0 ∷ [])
    ∷ row (codes "static_import") (codes "static_import") (0 ∷ [])
    ∷ []

abbrev pub no_class : ClassRow
no_class = row [] [] []

-- The row of a class; a number that is no class's has one with no names and no parents.
unfoldable pub class_row : ℕ → ClassRow
class_row class = slice_index_or class_table class no_class

unfoldable pub full_name : ℕ → List ℕ
full_name class = (class_row class).full

unfoldable pub short_name : ℕ → List ℕ
short_name class = (class_row class).short

unfoldable pub parents_of : ℕ → List ℕ
parents_of class = (class_row class).parents

-- whether a list has a number
abbrev pub has : List ℕ → ℕ → Bool
has xs x = list_any (λ y. y == x) xs

-- One class is another or comes below it by its parents.
pub data Descends : ℕ → ℕ → Type 0 where
  itself : {a : ℕ} → Descends a a
  by_parent : {a parent b : ℕ} → has (parents_of a) parent ≡ true → Descends parent b → Descends a b

-- A class and what stands above it at most so many steps, depth first: the class, then each parent in order with what is above it.
abbrev pub lineage_within : ℕ → ℕ → List ℕ
lineage_within zero class = class ∷ []
lineage_within (suc steps) class = class ∷ flat_map (lineage_within steps) (parents_of class)

-- No class stands more than five steps below Object.
unfoldable pub lineage_of : ℕ → List ℕ
lineage_of class = lineage_within 5 class

-- whether one class is another or comes below it, as a test
unfoldable pub class_is_below : ℕ → ℕ → Bool
class_is_below a b = has (lineage_of a) b

-- the named classes, in the order of the table
abbrev pub class_numbers : List ℕ
class_numbers =
    OBJECT ∷ COMPARABLE ∷ CHAR_SEQUENCE ∷ NUMBER ∷ BYTE ∷ SHORT ∷ INTEGER ∷ LONG ∷ CHARACTER ∷ BOOLEAN ∷ MATH ∷ STRING ∷ STRING_BUILDER ∷ ITERABLE ∷ COLLECTION ∷ LIST ∷ ARRAY_LIST ∷ SET ∷ HASH_SET ∷ LINKED_HASH_SET ∷ MAP ∷ HASH_MAP ∷ LINKED_HASH_MAP ∷ ENTRY ∷ ITERATOR ∷ COLLECTIONS ∷ COMPARATOR ∷ FUNCTION ∷ BI_FUNCTION ∷ UNARY_OPERATOR ∷ BINARY_OPERATOR ∷ PREDICATE ∷ BI_PREDICATE ∷ CONSUMER ∷ BI_CONSUMER ∷ OBJ_INT_CONSUMER ∷ SUPPLIER ∷ TO_INT_FUNCTION ∷ TO_LONG_FUNCTION ∷ EXCEPTION ∷ RUNTIME_EXCEPTION ∷ ARITHMETIC_EXCEPTION ∷ CLASS_CAST_EXCEPTION ∷ CONCURRENT_MODIFICATION_EXCEPTION ∷ ILLEGAL_ARGUMENT_EXCEPTION ∷ ILLEGAL_STATE_EXCEPTION ∷ INDEX_OUT_OF_BOUNDS_EXCEPTION ∷ NEGATIVE_ARRAY_SIZE_EXCEPTION ∷ NO_SUCH_ELEMENT_EXCEPTION ∷ NULL_POINTER_EXCEPTION ∷ UNSUPPORTED_OPERATION_EXCEPTION ∷ NUMBER_FORMAT_EXCEPTION ∷ ARRAY_INDEX_OUT_OF_BOUNDS_EXCEPTION ∷ STRING_INDEX_OUT_OF_BOUNDS_EXCEPTION ∷ SCRIPT_DOC_VALUES ∷ PRELUDE ∷ STATIC_IMPORT ∷ []
