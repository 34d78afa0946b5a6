-- The members of the catalogue's classes, in its order: a member's number is its place. The last ones are those of the hidden
-- class of the prelude's own calls.
use Rattle.std.specs.Prelude.{ℕ, List, [], ◌∷◌, codes}
use Rattle.pl_types.specs.declared.classes.TheConstants.{OBJECT, COMPARABLE, CHAR_SEQUENCE, NUMBER, BYTE, SHORT, INTEGER, LONG, CHARACTER, BOOLEAN, MATH, STRING, STRING_BUILDER, ITERABLE, COLLECTION, LIST, ARRAY_LIST, SET, HASH_SET, LINKED_HASH_SET, MAP, HASH_MAP, LINKED_HASH_MAP, ENTRY, ITERATOR, COLLECTIONS, COMPARATOR, FUNCTION, BI_FUNCTION, UNARY_OPERATOR, PREDICATE, BI_PREDICATE, CONSUMER, BI_CONSUMER, OBJ_INT_CONSUMER, SUPPLIER, TO_INT_FUNCTION, TO_LONG_FUNCTION, EXCEPTION, RUNTIME_EXCEPTION, ARITHMETIC_EXCEPTION, CLASS_CAST_EXCEPTION, CONCURRENT_MODIFICATION_EXCEPTION, ILLEGAL_ARGUMENT_EXCEPTION, ILLEGAL_STATE_EXCEPTION, INDEX_OUT_OF_BOUNDS_EXCEPTION, NEGATIVE_ARRAY_SIZE_EXCEPTION, NO_SUCH_ELEMENT_EXCEPTION, NULL_POINTER_EXCEPTION, UNSUPPORTED_OPERATION_EXCEPTION, NUMBER_FORMAT_EXCEPTION, ARRAY_INDEX_OUT_OF_BOUNDS_EXCEPTION, STRING_INDEX_OUT_OF_BOUNDS_EXCEPTION, SCRIPT_DOC_VALUES, PRELUDE}
use Rattle.pl_types.specs.declared.primitive.Primitive.TheVariants as prim
use Rattle.pl_types.specs.declared.ty.Ty.{Ty}
use Rattle.pl_types.specs.declared.ty.Ty.TheVariants.{Void, Def, Prim, Class, Array}
use Rattle.allowlist.specs.declared.member.MemberType.{MemberType}
use Rattle.allowlist.specs.declared.member.MemberKind.{MemberKind}
use Rattle.allowlist.specs.declared.member.MemberKind.TheVariants.{Constructor, Static, Instance, Field}
use Rattle.allowlist.specs.declared.member.Origin.{Origin}
use Rattle.allowlist.specs.declared.member.Origin.TheVariants.{Java, Augmented, Prelude, AugmentedPrelude}

abbrev pub boolean : Ty
boolean = Prim prim.Boolean

abbrev pub byte : Ty
byte = Prim prim.Byte

abbrev pub short : Ty
short = Prim prim.Short

abbrev pub char : Ty
char = Prim prim.Char

abbrev pub int : Ty
int = Prim prim.Int

abbrev pub long : Ty
long = Prim prim.Long

abbrev pub string : Ty
string = Class STRING

abbrev pub integer_box : Ty
integer_box = Class INTEGER

abbrev pub long_box : Ty
long_box = Class LONG

abbrev pub char_sequence : Ty
char_sequence = Class CHAR_SEQUENCE

abbrev pub iterable : Ty
iterable = Class ITERABLE

abbrev pub string_builder : Ty
string_builder = Class STRING_BUILDER

abbrev pub iterator : Ty
iterator = Class ITERATOR

abbrev pub consumer : Ty
consumer = Class CONSUMER

abbrev pub predicate : Ty
predicate = Class PREDICATE

abbrev pub list : Ty
list = Class LIST

abbrev pub obj_int_consumer : Ty
obj_int_consumer = Class OBJ_INT_CONSUMER

abbrev pub function : Ty
function = Class FUNCTION

abbrev pub map : Ty
map = Class MAP

abbrev pub collection : Ty
collection = Class COLLECTION

abbrev pub unary_operator : Ty
unary_operator = Class UNARY_OPERATOR

abbrev pub comparator : Ty
comparator = Class COMPARATOR

abbrev pub set : Ty
set = Class SET

abbrev pub bi_function : Ty
bi_function = Class BI_FUNCTION

abbrev pub bi_consumer : Ty
bi_consumer = Class BI_CONSUMER

abbrev pub bi_predicate : Ty
bi_predicate = Class BI_PREDICATE

abbrev pub member : MemberKind → Origin → ℕ → Ty → List ℕ → List Ty → MemberType
member kind origin owner gives name params = record { owner = owner; name = name; kind = kind; origin = origin; params = params; result = gives }

abbrev pub constructor : ℕ → List Ty → MemberType
constructor owner params = member Constructor Java owner (Class owner) [] params

abbrev pub field : ℕ → List ℕ → Ty → MemberType
field owner name gives = member Field Java owner gives name []

abbrev pub static : ℕ → Ty → List ℕ → List Ty → MemberType
static = member Static Java

abbrev pub instance : ℕ → Ty → List ℕ → List Ty → MemberType
instance = member Instance Java

-- a member of the language's own, which is no member of Java's class
abbrev pub augmented : ℕ → Ty → List ℕ → List Ty → MemberType
augmented = member Instance Augmented

-- a member that the prelude has
abbrev pub in_prelude : ℕ → Ty → List ℕ → List Ty → MemberType
in_prelude = member Instance Prelude

abbrev pub static_in_prelude : ℕ → Ty → List ℕ → List Ty → MemberType
static_in_prelude = member Static Prelude

abbrev pub augmented_in_prelude : ℕ → Ty → List ℕ → List Ty → MemberType
augmented_in_prelude = member Instance AugmentedPrelude

unfoldable pub catalogue : List MemberType
catalogue =
    instance OBJECT boolean (codes "equals") (Def ∷ [])
    ∷ instance OBJECT string (codes "toString") ([])
    ∷ instance COMPARABLE int (codes "compareTo") (Def ∷ [])
    ∷ instance CHAR_SEQUENCE char (codes "charAt") (int ∷ [])
    ∷ instance CHAR_SEQUENCE int (codes "length") ([])
    ∷ instance NUMBER byte (codes "byteValue") ([])
    ∷ instance NUMBER short (codes "shortValue") ([])
    ∷ instance NUMBER int (codes "intValue") ([])
    ∷ instance NUMBER long (codes "longValue") ([])
    ∷ field BYTE (codes "MAX_VALUE") byte
    ∷ field BYTE (codes "MIN_VALUE") byte
    ∷ static BYTE int (codes "toUnsignedInt") (byte ∷ [])
    ∷ field SHORT (codes "MAX_VALUE") short
    ∷ field SHORT (codes "MIN_VALUE") short
    ∷ field INTEGER (codes "MAX_VALUE") int
    ∷ field INTEGER (codes "MIN_VALUE") int
    ∷ static INTEGER int (codes "bitCount") (int ∷ [])
    ∷ static INTEGER int (codes "compare") (int ∷ int ∷ [])
    ∷ static INTEGER int (codes "max") (int ∷ int ∷ [])
    ∷ static INTEGER int (codes "min") (int ∷ int ∷ [])
    ∷ static INTEGER int (codes "parseInt") (string ∷ [])
    ∷ static INTEGER int (codes "signum") (int ∷ [])
    ∷ static INTEGER string (codes "toBinaryString") (int ∷ [])
    ∷ static INTEGER string (codes "toHexString") (int ∷ [])
    ∷ static INTEGER string (codes "toString") (int ∷ [])
    ∷ static INTEGER integer_box (codes "valueOf") (int ∷ [])
    ∷ field LONG (codes "MAX_VALUE") long
    ∷ field LONG (codes "MIN_VALUE") long
    ∷ static LONG int (codes "bitCount") (long ∷ [])
    ∷ static LONG int (codes "compare") (long ∷ long ∷ [])
    ∷ static LONG long (codes "max") (long ∷ long ∷ [])
    ∷ static LONG long (codes "min") (long ∷ long ∷ [])
    ∷ static LONG long (codes "parseLong") (string ∷ [])
    ∷ static LONG int (codes "signum") (long ∷ [])
    ∷ static LONG string (codes "toBinaryString") (long ∷ [])
    ∷ static LONG string (codes "toHexString") (long ∷ [])
    ∷ static LONG string (codes "toString") (long ∷ [])
    ∷ static LONG long_box (codes "valueOf") (long ∷ [])
    ∷ field CHARACTER (codes "MAX_VALUE") char
    ∷ field CHARACTER (codes "MIN_VALUE") char
    ∷ instance CHARACTER char (codes "charValue") ([])
    ∷ static CHARACTER boolean (codes "isDigit") (char ∷ [])
    ∷ static CHARACTER boolean (codes "isLetter") (char ∷ [])
    ∷ static CHARACTER boolean (codes "isLetterOrDigit") (char ∷ [])
    ∷ static CHARACTER boolean (codes "isLowerCase") (char ∷ [])
    ∷ static CHARACTER boolean (codes "isUpperCase") (char ∷ [])
    ∷ static CHARACTER boolean (codes "isWhitespace") (char ∷ [])
    ∷ static CHARACTER char (codes "toLowerCase") (char ∷ [])
    ∷ static CHARACTER char (codes "toUpperCase") (char ∷ [])
    ∷ instance BOOLEAN boolean (codes "booleanValue") ([])
    ∷ static BOOLEAN int (codes "compare") (boolean ∷ boolean ∷ [])
    ∷ static BOOLEAN boolean (codes "parseBoolean") (string ∷ [])
    ∷ static MATH long (codes "abs") (long ∷ [])
    ∷ static MATH long (codes "floorDiv") (long ∷ long ∷ [])
    ∷ static MATH long (codes "floorMod") (long ∷ long ∷ [])
    ∷ static MATH long (codes "max") (long ∷ long ∷ [])
    ∷ static MATH long (codes "min") (long ∷ long ∷ [])
    ∷ static MATH int (codes "toIntExact") (long ∷ [])
    ∷ static STRING string (codes "join") (char_sequence ∷ iterable ∷ [])
    ∷ static STRING string (codes "valueOf") (Def ∷ [])
    ∷ instance STRING string (codes "concat") (string ∷ [])
    ∷ instance STRING boolean (codes "contains") (char_sequence ∷ [])
    ∷ instance STRING boolean (codes "endsWith") (string ∷ [])
    ∷ instance STRING boolean (codes "equalsIgnoreCase") (string ∷ [])
    ∷ instance STRING int (codes "indexOf") (string ∷ [])
    ∷ instance STRING int (codes "indexOf") (string ∷ int ∷ [])
    ∷ instance STRING boolean (codes "isEmpty") ([])
    ∷ instance STRING int (codes "lastIndexOf") (string ∷ [])
    ∷ instance STRING string (codes "replace") (char_sequence ∷ char_sequence ∷ [])
    ∷ augmented STRING (Array string) (codes "splitOnToken") (string ∷ [])
    ∷ augmented STRING (Array string) (codes "splitOnToken") (string ∷ int ∷ [])
    ∷ instance STRING boolean (codes "startsWith") (string ∷ [])
    ∷ instance STRING boolean (codes "startsWith") (string ∷ int ∷ [])
    ∷ instance STRING string (codes "substring") (int ∷ [])
    ∷ instance STRING string (codes "substring") (int ∷ int ∷ [])
    ∷ instance STRING (Array char) (codes "toCharArray") ([])
    ∷ instance STRING string (codes "toLowerCase") ([])
    ∷ instance STRING string (codes "toUpperCase") ([])
    ∷ instance STRING string (codes "trim") ([])
    ∷ constructor STRING_BUILDER ([])
    ∷ constructor STRING_BUILDER (char_sequence ∷ [])
    ∷ instance STRING_BUILDER string_builder (codes "append") (Def ∷ [])
    ∷ instance STRING_BUILDER string_builder (codes "deleteCharAt") (int ∷ [])
    ∷ instance STRING_BUILDER int (codes "indexOf") (string ∷ [])
    ∷ instance STRING_BUILDER string_builder (codes "insert") (int ∷ Def ∷ [])
    ∷ instance STRING_BUILDER Void (codes "setLength") (int ∷ [])
    ∷ instance ITERABLE iterator (codes "iterator") ([])
    ∷ in_prelude ITERABLE Void (codes "forEach") (consumer ∷ [])
    ∷ augmented_in_prelude ITERABLE boolean (codes "any") (predicate ∷ [])
    ∷ augmented ITERABLE list (codes "asList") ([])
    ∷ augmented_in_prelude ITERABLE int (codes "count") (predicate ∷ [])
    ∷ augmented_in_prelude ITERABLE Def (codes "each") (consumer ∷ [])
    ∷ augmented_in_prelude ITERABLE Def (codes "eachWithIndex") (obj_int_consumer ∷ [])
    ∷ augmented_in_prelude ITERABLE boolean (codes "every") (predicate ∷ [])
    ∷ augmented_in_prelude ITERABLE list (codes "findResults") (function ∷ [])
    ∷ augmented_in_prelude ITERABLE map (codes "groupBy") (function ∷ [])
    ∷ augmented ITERABLE string (codes "join") (string ∷ [])
    ∷ instance COLLECTION boolean (codes "add") (Def ∷ [])
    ∷ instance COLLECTION boolean (codes "addAll") (collection ∷ [])
    ∷ instance COLLECTION Void (codes "clear") ([])
    ∷ instance COLLECTION boolean (codes "contains") (Def ∷ [])
    ∷ instance COLLECTION boolean (codes "containsAll") (collection ∷ [])
    ∷ instance COLLECTION boolean (codes "isEmpty") ([])
    ∷ instance COLLECTION boolean (codes "remove") (Def ∷ [])
    ∷ instance COLLECTION boolean (codes "removeAll") (collection ∷ [])
    ∷ instance COLLECTION boolean (codes "retainAll") (collection ∷ [])
    ∷ instance COLLECTION int (codes "size") ([])
    ∷ instance COLLECTION (Array Def) (codes "toArray") ([])
    ∷ in_prelude COLLECTION boolean (codes "removeIf") (predicate ∷ [])
    ∷ augmented_in_prelude COLLECTION list (codes "collect") (function ∷ [])
    ∷ augmented_in_prelude COLLECTION Def (codes "find") (predicate ∷ [])
    ∷ augmented_in_prelude COLLECTION list (codes "findAll") (predicate ∷ [])
    ∷ augmented_in_prelude COLLECTION list (codes "split") (predicate ∷ [])
    ∷ instance LIST Void (codes "add") (int ∷ Def ∷ [])
    ∷ instance LIST boolean (codes "addAll") (int ∷ collection ∷ [])
    ∷ instance LIST Def (codes "get") (int ∷ [])
    ∷ augmented LIST int (codes "getLength") ([])
    ∷ instance LIST int (codes "indexOf") (Def ∷ [])
    ∷ instance LIST int (codes "lastIndexOf") (Def ∷ [])
    ∷ instance LIST Def (codes "remove") (int ∷ [])
    ∷ in_prelude LIST Void (codes "replaceAll") (unary_operator ∷ [])
    ∷ instance LIST Def (codes "set") (int ∷ Def ∷ [])
    ∷ in_prelude LIST Void (codes "sort") (comparator ∷ [])
    ∷ constructor ARRAY_LIST ([])
    ∷ constructor ARRAY_LIST (collection ∷ [])
    ∷ constructor HASH_SET ([])
    ∷ constructor HASH_SET (collection ∷ [])
    ∷ constructor LINKED_HASH_SET ([])
    ∷ constructor LINKED_HASH_SET (collection ∷ [])
    ∷ instance MAP Void (codes "clear") ([])
    ∷ instance MAP boolean (codes "containsKey") (Def ∷ [])
    ∷ instance MAP boolean (codes "containsValue") (Def ∷ [])
    ∷ instance MAP set (codes "entrySet") ([])
    ∷ instance MAP Def (codes "get") (Def ∷ [])
    ∷ instance MAP Def (codes "getOrDefault") (Def ∷ Def ∷ [])
    ∷ instance MAP boolean (codes "isEmpty") ([])
    ∷ instance MAP set (codes "keySet") ([])
    ∷ instance MAP Def (codes "put") (Def ∷ Def ∷ [])
    ∷ instance MAP Void (codes "putAll") (map ∷ [])
    ∷ instance MAP Def (codes "putIfAbsent") (Def ∷ Def ∷ [])
    ∷ instance MAP Def (codes "remove") (Def ∷ [])
    ∷ instance MAP boolean (codes "remove") (Def ∷ Def ∷ [])
    ∷ instance MAP Def (codes "replace") (Def ∷ Def ∷ [])
    ∷ instance MAP int (codes "size") ([])
    ∷ instance MAP collection (codes "values") ([])
    ∷ in_prelude MAP Def (codes "compute") (Def ∷ bi_function ∷ [])
    ∷ in_prelude MAP Def (codes "computeIfAbsent") (Def ∷ function ∷ [])
    ∷ in_prelude MAP Def (codes "computeIfPresent") (Def ∷ bi_function ∷ [])
    ∷ in_prelude MAP Void (codes "forEach") (bi_consumer ∷ [])
    ∷ in_prelude MAP Def (codes "merge") (Def ∷ Def ∷ bi_function ∷ [])
    ∷ in_prelude MAP Void (codes "replaceAll") (bi_function ∷ [])
    ∷ augmented_in_prelude MAP list (codes "collect") (bi_function ∷ [])
    ∷ augmented_in_prelude MAP int (codes "count") (bi_predicate ∷ [])
    ∷ augmented_in_prelude MAP Def (codes "each") (bi_consumer ∷ [])
    ∷ augmented_in_prelude MAP boolean (codes "every") (bi_predicate ∷ [])
    ∷ augmented_in_prelude MAP Def (codes "find") (bi_predicate ∷ [])
    ∷ augmented_in_prelude MAP map (codes "findAll") (bi_predicate ∷ [])
    ∷ augmented_in_prelude MAP list (codes "findResults") (bi_function ∷ [])
    ∷ augmented_in_prelude MAP map (codes "groupBy") (bi_function ∷ [])
    ∷ constructor HASH_MAP ([])
    ∷ constructor HASH_MAP (map ∷ [])
    ∷ constructor LINKED_HASH_MAP ([])
    ∷ constructor LINKED_HASH_MAP (map ∷ [])
    ∷ instance ENTRY Def (codes "getKey") ([])
    ∷ instance ENTRY Def (codes "getValue") ([])
    ∷ instance ENTRY Def (codes "setValue") (Def ∷ [])
    ∷ instance ITERATOR boolean (codes "hasNext") ([])
    ∷ instance ITERATOR Def (codes "next") ([])
    ∷ instance ITERATOR Void (codes "remove") ([])
    ∷ static COLLECTIONS list (codes "emptyList") ([])
    ∷ static COLLECTIONS map (codes "emptyMap") ([])
    ∷ static COLLECTIONS Def (codes "max") (collection ∷ [])
    ∷ static COLLECTIONS Def (codes "min") (collection ∷ [])
    ∷ static COLLECTIONS Void (codes "reverse") (list ∷ [])
    ∷ static COLLECTIONS list (codes "singletonList") (Def ∷ [])
    ∷ static COLLECTIONS Void (codes "sort") (list ∷ [])
    ∷ static_in_prelude COLLECTIONS Void (codes "sort") (list ∷ comparator ∷ [])
    ∷ static COLLECTIONS Void (codes "swap") (list ∷ int ∷ int ∷ [])
    ∷ instance COMPARATOR int (codes "compare") (Def ∷ Def ∷ [])
    ∷ in_prelude COMPARATOR comparator (codes "reversed") ([])
    ∷ in_prelude COMPARATOR comparator (codes "thenComparing") (comparator ∷ [])
    ∷ static_in_prelude COMPARATOR comparator (codes "comparing") (function ∷ [])
    ∷ static_in_prelude COMPARATOR comparator (codes "naturalOrder") ([])
    ∷ static_in_prelude COMPARATOR comparator (codes "reverseOrder") ([])
    ∷ instance FUNCTION Def (codes "apply") (Def ∷ [])
    ∷ instance BI_FUNCTION Def (codes "apply") (Def ∷ Def ∷ [])
    ∷ instance PREDICATE boolean (codes "test") (Def ∷ [])
    ∷ instance BI_PREDICATE boolean (codes "test") (Def ∷ Def ∷ [])
    ∷ instance CONSUMER Void (codes "accept") (Def ∷ [])
    ∷ instance BI_CONSUMER Void (codes "accept") (Def ∷ Def ∷ [])
    ∷ instance OBJ_INT_CONSUMER Void (codes "accept") (Def ∷ int ∷ [])
    ∷ instance SUPPLIER Def (codes "get") ([])
    ∷ instance TO_INT_FUNCTION int (codes "applyAsInt") (Def ∷ [])
    ∷ instance TO_LONG_FUNCTION long (codes "applyAsLong") (Def ∷ [])
    ∷ constructor EXCEPTION ([])
    ∷ constructor EXCEPTION (string ∷ [])
    ∷ instance EXCEPTION string (codes "getMessage") ([])
    ∷ constructor RUNTIME_EXCEPTION ([])
    ∷ constructor RUNTIME_EXCEPTION (string ∷ [])
    ∷ constructor ARITHMETIC_EXCEPTION ([])
    ∷ constructor ARITHMETIC_EXCEPTION (string ∷ [])
    ∷ constructor CLASS_CAST_EXCEPTION ([])
    ∷ constructor CLASS_CAST_EXCEPTION (string ∷ [])
    ∷ constructor CONCURRENT_MODIFICATION_EXCEPTION ([])
    ∷ constructor CONCURRENT_MODIFICATION_EXCEPTION (string ∷ [])
    ∷ constructor ILLEGAL_ARGUMENT_EXCEPTION ([])
    ∷ constructor ILLEGAL_ARGUMENT_EXCEPTION (string ∷ [])
    ∷ constructor ILLEGAL_STATE_EXCEPTION ([])
    ∷ constructor ILLEGAL_STATE_EXCEPTION (string ∷ [])
    ∷ constructor INDEX_OUT_OF_BOUNDS_EXCEPTION ([])
    ∷ constructor INDEX_OUT_OF_BOUNDS_EXCEPTION (string ∷ [])
    ∷ constructor NEGATIVE_ARRAY_SIZE_EXCEPTION ([])
    ∷ constructor NEGATIVE_ARRAY_SIZE_EXCEPTION (string ∷ [])
    ∷ constructor NO_SUCH_ELEMENT_EXCEPTION ([])
    ∷ constructor NO_SUCH_ELEMENT_EXCEPTION (string ∷ [])
    ∷ constructor NULL_POINTER_EXCEPTION ([])
    ∷ constructor NULL_POINTER_EXCEPTION (string ∷ [])
    ∷ constructor UNSUPPORTED_OPERATION_EXCEPTION ([])
    ∷ constructor UNSUPPORTED_OPERATION_EXCEPTION (string ∷ [])
    ∷ constructor NUMBER_FORMAT_EXCEPTION ([])
    ∷ constructor NUMBER_FORMAT_EXCEPTION (string ∷ [])
    ∷ constructor ARRAY_INDEX_OUT_OF_BOUNDS_EXCEPTION ([])
    ∷ constructor ARRAY_INDEX_OUT_OF_BOUNDS_EXCEPTION (string ∷ [])
    ∷ constructor STRING_INDEX_OUT_OF_BOUNDS_EXCEPTION ([])
    ∷ constructor STRING_INDEX_OUT_OF_BOUNDS_EXCEPTION (string ∷ [])
    ∷ instance SCRIPT_DOC_VALUES Def (codes "getValue") ([])
    ∷ static PRELUDE int (codes "compare") (Def ∷ Def ∷ [])
    ∷ static PRELUDE Void (codes "order") (list ∷ (Array Def) ∷ list ∷ [])
    ∷ []
