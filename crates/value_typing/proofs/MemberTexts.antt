-- What members of texts, builders and exceptions give is of their types, where that is a reference.
use Rattle.std.proofs.Common.{◌≡◌, ℕ, ◌==◌, nat_le, ◌-◌, true, false, ℤ, Option, Some, None, List, [], ◌∷◌, ◌++◌, length, refl, sym, ap, ◌∙◌, subst, slice_get, if◌then◌else◌}
use Rattle.std.specs.Prelude.{◌+◌, pos}
use Rattle.std.proofs.lemmas.Bool.{or_right}
use Rattle.pl_types.specs.declared.classes.TheConstants.{OBJECT, STRING, STRING_BUILDER}
use Rattle.pl_types.specs.declared.primitive.Primitive.TheVariants as prim
use Rattle.pl_types.specs.declared.ty.Ty.{Ty, out-Ty}
use Rattle.pl_types.specs.declared.ty.Ty.TheVariants as ty
use Rattle.pl_types.specs.declared.ty.Ty.TheOpen.{Ty-F}
use Rattle.pl_types.specs.declared.ty.Ty.TheViews.{outs-Array}
use Rattle.object_values.specs.declared.object.Object.{Object}
use Rattle.object_values.specs.declared.object.Object.TheVariants as o
use Rattle.object_values.specs.declared.value.Value.{Value}
use Rattle.object_values.specs.declared.value.Value.TheVariants as v
use Rattle.object_heap.specs.Effects.{Effect, Gives, after_paying, throws}
use Rattle.object_heap.specs.Fits.{kinds, passes, class_is_of, class_of_kind, kind_is_of, is_array_of, Rules, Fits}
use Rattle.object_heap.specs.Objects.{Kind, AnArray, ABuilder, AnException, kind_of, with_units, renewed_by}
use Rattle.object_heap.specs.Parts.{units_of, message_of}
use Rattle.object_heap.specs.Store.{Store, charge, paid, with_change}
use Rattle.object_heap.proofs.Fitting.{length-kinds}
use Rattle.object_heap.proofs.TypeLemmas.{types_refl}
use Rattle.value_walks.specs.Texts.{Node, Text, Wrote, TooDeep, TooLarge, text_of}
use Rattle.value_walks.specs.declared.TheConstants.{VISITS}
use Rattle.api_text.specs.declared.member.Member.{Member}
use Rattle.api_text.specs.declared.member.Member.TheVariants as m
use Rattle.api_text.specs.declared.outcome.ExceptionClass.{ExceptionClass}
use Rattle.api_text.specs.declared.outcome.Outcome.{Outcome}
use Rattle.api_text.specs.declared.outcome.Outcome.TheVariants as outcome
use Rattle.container_calls.specs.Arguments.{object_in, int_at, text_at, object_at, sequence_at}
use Rattle.api_text.specs.Arguments.{with_one, with_two, with_three}
use Rattle.api_text.specs.Builders as builders
use Rattle.api_text.specs.Exceptions as exceptions
use Rattle.api_text.specs.Joining as joining
use Rattle.api_text.specs.Making as making
use Rattle.api_text.specs.Members as texts
use Rattle.api_text.specs.Outcomes.{effect, gives_new, number_of, says, followed_by}
use Rattle.api_text.specs.Sequences.{place_before, place_within}
use Rattle.api_text.proofs.Keeping.{settled as settled_fits}
use Rattle.container_calls.specs.Laws.{EffectLeaves}
use Rattle.container_calls.proofs.There.{kinds-added}
use Rattle.value_typing.specs.Typing.{is_typed_layer, is_typed}
use Rattle.value_typing.proofs.Typing.{types_stay, below_itself}
use Rattle.value_typing.proofs.Casts.{string_layer}
use Rattle.value_typing.proofs.Effects.{EffectTyped, after_pay, thrown_typed, ThrowsThere, thrown_there, paid_there}
use Rattle.value_typing.proofs.MemberTables.{string, builder, text_reference, gives_receiver, text_row, receiver_row}

-- ---- a new object

-- a new object of a kind is of a type
abbrev pub NewIsOf : Ty-F Ty → Kind → Type 0
NewIsOf l kind = (others : List Kind) → is_typed_layer (others ++ kind ∷ []) l (v.Ref (length others)) ≡ true

pub at_end : (ks : List Kind) (kind : Kind) → slice_get (ks ++ kind ∷ []) (length ks) ≡ Some kind
at_end [] kind = refl
at_end (x ∷ ks) kind = at_end ks kind

pub new_of_class : (class : ℕ) (kind : Kind) → class_of_kind kind ≡ Some class → NewIsOf (Ty-F.Class class) kind
new_of_class class kind e others =
    subst (λ (found : Option Kind). passes (kind_is_of class) found ≡ true) (sym (at_end others kind))
    (or_right (class == OBJECT) (class_is_of class (class_of_kind kind)) (ap (class_is_of class) e ∙ below_itself class))

new_array : (elem : Ty) → NewIsOf (Ty-F.Array elem) (AnArray elem)
new_array elem others = subst (λ (found : Option Kind). passes (is_array_of elem) found ≡ true) (sym (at_end others (AnArray elem))) (types_refl elem)

new_builder : NewIsOf (out-Ty builder) ABuilder
unfolding out-Ty denote.Hole.Carrier.out
new_builder = new_of_class STRING_BUILDER ABuilder refl

new_exception : (class : ExceptionClass) → NewIsOf (out-Ty (ty.Class (number_of class))) (AnException (number_of class))
unfolding out-Ty denote.Hole.Carrier.out
new_exception class = new_of_class (number_of class) (AnException (number_of class)) refl

pub new_array_of : (elem : Ty) → NewIsOf (out-Ty (ty.Array elem)) (AnArray elem)
new_array_of elem = subst (λ (l : Ty-F Ty). NewIsOf l (AnArray elem)) (sym (outs-Array elem)) (new_array elem)

new_chars : NewIsOf (out-Ty (ty.Array (ty.Prim prim.Char))) (AnArray (ty.Prim prim.Char))
new_chars = new_array_of (ty.Prim prim.Char)

new_texts : NewIsOf (out-Ty (ty.Array string)) (AnArray string)
new_texts = new_array_of string

-- ---- what is said to come of a member

abbrev pub TextTyped : List Object → Ty → Outcome → Type 0
TextTyped objects of (outcome.Gives value) = is_typed objects of value ≡ true
TextTyped objects of (outcome.Makes text) = (others : List Kind) → is_typed_layer others (out-Ty of) (v.Str text) ≡ true
TextTyped objects of (outcome.NewBuilder units) = NewIsOf (out-Ty of) ABuilder
TextTyped objects of (outcome.NewException class message) = NewIsOf (out-Ty of) (AnException (number_of class))
TextTyped objects of (outcome.Chars items) = NewIsOf (out-Ty of) (AnArray (ty.Prim prim.Char))
TextTyped objects of (outcome.Texts items made) = NewIsOf (out-Ty of) (AnArray (ty.Class STRING))
TextTyped objects of (outcome.Extends id more) = is_typed objects of (v.Ref id) ≡ true
TextTyped objects of (outcome.Becomes id units value) = is_typed objects of value ≡ true
TextTyped objects of (outcome.Throws class message) = Unit {0}
TextTyped objects of outcome.NoRoom = Unit {0}
TextTyped objects of outcome.NoMemory = ⊥

-- what is paid is typed where it is for any room
pub paid_typed : (l : Ty-F Ty) (store : Store) (objects : List Object) (made : ℕ) (next : Store → Effect)
    → ((room : ℕ) → EffectTyped l (next (record { objects = objects; room = room }))) → EffectTyped l (after_paying (paid store objects made) next)
unfolding paid
paid_typed l store objects made next h =
    elim (nat_le (charge store objects made) store.room) as (λ b. EffectTyped l (after_paying (if b then Some (record { objects = objects; room = store.room - charge store objects made }) else None) next))
    [ true ↦ h (store.room - charge store objects made) | false ↦ tt ]

pub new_typed : (l : Ty-F Ty) (store : Store) (object : Object) (made : ℕ) → NewIsOf l (kind_of object) → EffectTyped l (gives_new store object made)
new_typed l store object made h =
    paid_typed l store (store.objects ++ object ∷ []) made (λ paid. Gives (v.Ref (length store.objects)) paid) (λ room.
    subst (λ (ks : List Kind). is_typed_layer ks l (v.Ref (length store.objects)) ≡ true) (sym (kinds-added store.objects (object ∷ [])))
    (subst (λ (n : ℕ). is_typed_layer (kinds store.objects ++ kind_of object ∷ []) l (v.Ref n) ≡ true) (length-kinds store.objects) (h (kinds store.objects))))

-- a value that is there already stays of its type
changed_typed : (of : Ty) (objects : List Object) (paid : Option Store) (value : Value) → is_typed objects of value ≡ true
    → EffectLeaves objects (after_paying paid (λ store. Gives value store)) → EffectTyped (out-Ty of) (after_paying paid (λ store. Gives value store))
changed_typed of objects None value h l = tt
changed_typed of objects (Some store) value h l = types_stay objects store.objects of value l h

pub text_settled : (of : Ty) (store : Store) (x : Outcome) → TextTyped store.objects of x → EffectLeaves store.objects (effect store x) → EffectTyped (out-Ty of) (effect store x)
text_settled of store (outcome.Gives value) h l = h
text_settled of store (outcome.Makes text) h l = after_pay (out-Ty of) (paid store store.objects (length text + 1)) (λ paid. Gives (v.Str text) paid) (λ paid. h (kinds paid.objects))
text_settled of store (outcome.NewBuilder units) h l = new_typed (out-Ty of) store (o.Builder units) 0 h
text_settled of store (outcome.NewException class message) h l = new_typed (out-Ty of) store (o.Exc (number_of class) message) 0 h
text_settled of store (outcome.Chars items) h l = new_typed (out-Ty of) store (o.Array (ty.Prim prim.Char) items) 0 h
text_settled of store (outcome.Texts items made) h l = new_typed (out-Ty of) store (o.Array (ty.Class STRING) items) made h
text_settled of store (outcome.Extends id more) h l =
    changed_typed of store.objects (paid store (with_change store.objects id (with_units more)) 0) (v.Ref id) h l
text_settled of store (outcome.Becomes id units value) h l =
    changed_typed of store.objects (paid store (with_change store.objects id (renewed_by (o.Builder units))) 0) value h l
text_settled of store (outcome.Throws class message) h l = thrown_typed (out-Ty of) store (number_of class) message
text_settled of store outcome.NoRoom h l = tt
text_settled of store outcome.NoMemory h l = absurd h

pub text_throws : (rules : Rules) (store : Store) (x : Outcome) → Fits rules store.objects → ThrowsThere (effect store x)
text_throws rules store (outcome.Gives value) f = tt
text_throws rules store (outcome.Makes text) f = paid_there (paid store store.objects (length text + 1)) (v.Str text)
text_throws rules store (outcome.NewBuilder units) f = paid_there (paid store (store.objects ++ o.Builder units ∷ []) 0) (v.Ref (length store.objects))
text_throws rules store (outcome.NewException class message) f = paid_there (paid store (store.objects ++ o.Exc (number_of class) message ∷ []) 0) (v.Ref (length store.objects))
text_throws rules store (outcome.Chars items) f = paid_there (paid store (store.objects ++ o.Array (ty.Prim prim.Char) items ∷ []) 0) (v.Ref (length store.objects))
text_throws rules store (outcome.Texts items made) f = paid_there (paid store (store.objects ++ o.Array (ty.Class STRING) items ∷ []) made) (v.Ref (length store.objects))
text_throws rules store (outcome.Extends id more) f = paid_there (paid store (with_change store.objects id (with_units more)) 0) (v.Ref id)
text_throws rules store (outcome.Becomes id units value) f = paid_there (paid store (with_change store.objects id (renewed_by (o.Builder units))) 0) value
text_throws rules store (outcome.Throws class message) f = thrown_there rules (throws store (number_of class) message) (settled_fits rules store (outcome.Throws class message) f tt)
text_throws rules store outcome.NoRoom f = tt
text_throws rules store outcome.NoMemory f = tt

-- ---- what each comes to

module _ (objects : List Object) where
  one_typed : {A : Type 0} → (of : Ty) (f : A → Outcome) (a : Option A) → ((x : A) → TextTyped objects of (f x)) → TextTyped objects of (with_one f a)
  one_typed of f None h = tt
  one_typed of f (Some x) h = h x

  two_typed : {A B : Type 0} → (of : Ty) (f : A → B → Outcome) (a : Option A) (b : Option B) → ((x : A) (y : B) → a ≡ Some x → TextTyped objects of (f x y))
      → TextTyped objects of (with_two f a b)
  two_typed of f None b h = tt
  two_typed of f (Some x) None h = tt
  two_typed of f (Some x) (Some y) h = h x y refl

  three_typed : {A B C : Type 0} → (of : Ty) (f : A → B → C → Outcome) (a : Option A) (b : Option B) (c : Option C) → ((x : A) (y : B) (z : C) → a ≡ Some x → TextTyped objects of (f x y z))
      → TextTyped objects of (with_three f a b c)
  three_typed of f None b c h = tt
  three_typed of f (Some x) None c h = tt
  three_typed of f (Some x) (Some y) None h = tt
  three_typed of f (Some x) (Some y) (Some z) h = h x y z refl

  says_typed : (of : Ty) (class : ExceptionClass) (message : List ℕ) → TextTyped objects of (says class message)
  unfolding says
  says_typed of class message = tt

  follows : (of : Ty) (walk : Text) (next : List ℕ → Outcome) → ((text : List ℕ) → TextTyped objects of (next text)) → TextTyped objects of (followed_by walk next)
  follows of (Wrote text visits) next h = h text
  follows of TooDeep next h = says_typed of _ _
  follows of TooLarge next h = says_typed of _ _

  made : (text : List ℕ) → TextTyped objects string (outcome.Makes text)
  made text others = string_layer others text

  joined_typed : (all : List Object) (elements : List Node) (f : List (List ℕ) → List ℕ) → TextTyped objects string (joining.with_texts all elements (λ texts. outcome.Makes (f texts)))
  joined_typed all [] f = made (f [])
  joined_typed all (element ∷ elements) f =
      follows string (joining.element_text all element) (λ text. joining.with_texts all elements (λ texts. outcome.Makes (f (text ∷ texts))))
      (λ text. joined_typed all elements (λ texts. f (text ∷ texts)))

  split_typed : (text : List ℕ) (token : Option (List ℕ)) (limit : ℤ) → TextTyped objects (ty.Array string) (making.split text token limit)
  split_typed text None limit = new_texts
  split_typed text (Some token) limit = new_texts

  rest_typed : (text : List ℕ) (start : ℤ) (first : Option ℕ) → TextTyped objects string (making.rest_from text start first)
  rest_typed text start None = says_typed string _ _
  rest_typed text start (Some first) = made _

  cut_to_typed : (text : List ℕ) (start : ℕ) (stop : ℤ) (last : Option ℕ) → TextTyped objects string (making.cut_to text start stop last)
  cut_to_typed text start stop None = says_typed string _ _
  cut_to_typed text start stop (Some last) = made _

  cut_from_typed : (text : List ℕ) (start stop : ℤ) (first : Option ℕ) → TextTyped objects string (making.cut_from text start stop first)
  cut_from_typed text start stop None = says_typed string _ _
  cut_from_typed text start stop (Some first) = cut_to_typed text first stop (place_within first (length text) stop)

  message_typed : (message : Option (List ℕ)) → TextTyped objects string (exceptions.message_given message)
  unfolding out-Ty denote.Hole.Carrier.out
  message_typed None = refl
  message_typed (Some message) = made message

  abbrev pub IsBuilder : ℕ → Type 0
  IsBuilder id = is_typed objects builder (v.Ref id) ≡ true

  put_typed : (id : ℕ) (units : List ℕ) (at : ℤ) (text : List ℕ) (place : Option ℕ) → IsBuilder id → TextTyped objects builder (builders.put_in id units at text place)
  put_typed id units at text None h = says_typed builder _ _
  put_typed id units at text (Some place) h = h

  deleted_typed : (id : ℕ) (units : List ℕ) (at : ℤ) (place : Option ℕ) → IsBuilder id → TextTyped objects builder (builders.deleted_in id units at place)
  deleted_typed id units at None h = says_typed builder _ _
  deleted_typed id units at (Some place) h = h

  -- the receiver of a member that gives its receiver is a builder
  abbrev pub HasReceiver : Member → List Value → Type 0
  HasReceiver member arguments = gives_receiver member ≡ true → (id : ℕ) → object_at arguments 0 ≡ Some id → IsBuilder id

  -- a type is the one that a row has
  in_row : (a b : Ty) (x : Outcome) → Some a ≡ Some b → TextTyped objects a x → TextTyped objects b x
  in_row a b x e h = let same : a ≡ b = cc in subst (λ (of : Ty). TextTyped objects of x) same h

  text_told : (member : Member) (of : Ty) (arguments : List Value) → text_reference member ≡ Some of → HasReceiver member arguments → TextTyped objects of (texts.does objects member arguments)
  text_told m.Join of arguments e r =
      in_row string of (texts.does objects m.Join arguments) e
      (two_typed {A = List ℕ} {B = ℕ} string (joining.joined_of objects) (sequence_at objects arguments 0) (object_at arguments 1)
      (λ between id x. joined_typed objects (joining.elements_of objects id) (joining.joined between)))
  text_told m.ValueOf of arguments e r =
      in_row string of (texts.does objects m.ValueOf arguments) e
      (one_typed {A = Value} string (making.to_text objects) (slice_get arguments 0) (λ value. follows string (text_of objects value VISITS) outcome.Makes made))
  text_told m.Concat of arguments e r =
      in_row string of (texts.does objects m.Concat arguments) e
      (two_typed {A = List ℕ} {B = List ℕ} string making.both (text_at arguments 0) (text_at arguments 1) (λ a b x. made _))
  text_told m.Replace of arguments e r =
      in_row string of (texts.does objects m.Replace arguments) e
      (three_typed {A = List ℕ} {B = List ℕ} {C = List ℕ} string making.with_replaced (text_at arguments 0) (sequence_at objects arguments 1) (sequence_at objects arguments 2) (λ a b c x. made _))
  text_told m.SplitOnToken of arguments e r =
      in_row (ty.Array string) of (texts.does objects m.SplitOnToken arguments) e
      (one_typed {A = List ℕ} (ty.Array string) (λ text. making.split text (text_at arguments 1) (pos 0)) (text_at arguments 0) (λ text. split_typed text (text_at arguments 1) (pos 0)))
  text_told m.SplitOnTokenLimited of arguments e r =
      in_row (ty.Array string) of (texts.does objects m.SplitOnTokenLimited arguments) e
      (two_typed {A = List ℕ} {B = ℤ} (ty.Array string) (λ text limit. making.split text (text_at arguments 1) limit) (text_at arguments 0) (int_at arguments 2)
      (λ text limit x. split_typed text (text_at arguments 1) limit))
  text_told m.SubstringFrom of arguments e r =
      in_row string of (texts.does objects m.SubstringFrom arguments) e
      (two_typed {A = List ℕ} {B = ℤ} string making.part_from (text_at arguments 0) (int_at arguments 1) (λ text start x. rest_typed text start (place_within 0 (length text) start)))
  text_told m.Substring of arguments e r =
      in_row string of (texts.does objects m.Substring arguments) e
      (three_typed {A = List ℕ} {B = ℤ} {C = ℤ} string making.part_between (text_at arguments 0) (int_at arguments 1) (int_at arguments 2)
      (λ text start stop x. cut_from_typed text start stop (place_within 0 (length text) start)))
  text_told m.ToCharArray of arguments e r =
      in_row (ty.Array (ty.Prim prim.Char)) of (texts.does objects m.ToCharArray arguments) e
      (one_typed {A = List ℕ} (ty.Array (ty.Prim prim.Char)) making.chars_of (text_at arguments 0) (λ text. new_chars))
  text_told m.ToLowerCase of arguments e r =
      in_row string of (texts.does objects m.ToLowerCase arguments) e (one_typed {A = List ℕ} string making.lowered (text_at arguments 0) (λ text. made _))
  text_told m.ToUpperCase of arguments e r =
      in_row string of (texts.does objects m.ToUpperCase arguments) e (one_typed {A = List ℕ} string making.raised (text_at arguments 0) (λ text. made _))
  text_told m.Trim of arguments e r =
      in_row string of (texts.does objects m.Trim arguments) e (one_typed {A = List ℕ} string making.trimmed (text_at arguments 0) (λ text. made _))
  text_told m.NewBuilder of arguments e r = in_row builder of (texts.does objects m.NewBuilder arguments) e new_builder
  text_told m.NewBuilderOf of arguments e r =
      in_row builder of (texts.does objects m.NewBuilderOf arguments) e (one_typed {A = List ℕ} builder builders.copied (sequence_at objects arguments 0) (λ units. new_builder))
  text_told m.Append of arguments e r =
      in_row builder of (texts.does objects m.Append arguments) e
      (two_typed {A = ℕ} {B = Value} builder (builders.appended objects) (object_at arguments 0) (slice_get arguments 1)
      (λ id value x. follows builder (text_of objects value VISITS) (outcome.Extends id) (λ text. r refl id x)))
  text_told m.DeleteCharAt of arguments e r =
      in_row builder of (texts.does objects m.DeleteCharAt arguments) e
      (two_typed {A = ℕ} {B = ℤ} builder (builders.deleted objects) (object_at arguments 0) (int_at arguments 1)
      (λ id at x. deleted_typed id (units_of objects id) at (place_before (length (units_of objects id)) at) (r refl id x)))
  text_told m.Insert of arguments e r =
      in_row builder of (texts.does objects m.Insert arguments) e
      (three_typed {A = ℕ} {B = ℤ} {C = Value} builder (builders.inserted objects) (object_at arguments 0) (int_at arguments 1) (slice_get arguments 2)
      (λ id at value x. follows builder (text_of objects value VISITS) (builders.put_at id (units_of objects id) at)
      (λ text. put_typed id (units_of objects id) at text (place_within 0 (length (units_of objects id)) at) (r refl id x))))
  text_told (m.NewException class) of arguments e r = in_row (ty.Class (number_of class)) of (texts.does objects (m.NewException class) arguments) e (new_exception class)
  text_told (m.NewExceptionSaying class) of arguments e r =
      in_row (ty.Class (number_of class)) of (texts.does objects (m.NewExceptionSaying class) arguments) e (new_exception class)
  text_told m.GetMessage of arguments e r =
      in_row string of (texts.does objects m.GetMessage arguments) e
      (one_typed {A = ℕ} string (exceptions.message_in objects) (object_at arguments 0) (λ id. message_typed (message_of objects id)))
  text_told other of arguments e r = cc

-- a builder that a call is made on
abbrev pub FirstIsBuilder : List Object → List Value → Type 0
FirstIsBuilder objects arguments = (id : ℕ) → object_at arguments 0 ≡ Some id → is_typed objects builder (v.Ref id) ≡ true

pub text_found_typed : (store : Store) (found : Option Member) (of : Ty) (arguments : List Value) → text_row found ≡ Some of → (receiver_row found ≡ true → FirstIsBuilder store.objects arguments)
    → EffectLeaves store.objects (effect store (texts.does_found store.objects found arguments)) → EffectTyped (out-Ty of) (effect store (texts.does_found store.objects found arguments))
text_found_typed store None of arguments e r l = cc
text_found_typed store (Some member) of arguments e r l = text_settled of store (texts.does store.objects member arguments) (text_told store.objects member of arguments e r) l

pub object_is : (first : Value) (id : ℕ) → object_in (Some first) ≡ Some id → first ≡ v.Ref id
object_is (v.Ref a) id e = let same : a ≡ id = cc in ap v.Ref same
object_is v.Null id e = cc
object_is (v.Bool a) id e = cc
object_is (v.Byte a) id e = cc
object_is (v.Short a) id e = cc
object_is (v.Char a) id e = cc
object_is (v.Int a) id e = cc
object_is (v.Long a) id e = cc
object_is (v.Str a) id e = cc
