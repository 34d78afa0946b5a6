-- Members: what the instructions of calls take and leave, by the types of the catalogue.
use Rattle.std.proofs.Common.{◌≡◌, ℕ, zero, suc, Bool, true, false, not, ◌&&◌, List, [], ◌∷◌, ◌++◌, reverse, map, length, Some, is_some, refl, sym, ap, ◌∙◌, subst, option_map, append_assoc, if◌then◌else◌}
use Rattle.std.specs.Prelude.{slice_get}
use Rattle.std.specs.List.{list_all}
use Rattle.std.proofs.lemmas.Bool.{and_parts, false≢true}
use Rattle.std.proofs.lemmas.Option.{get_or_from_slice_get}
use Rattle.pl_types.specs.declared.ty.Ty.{Ty, out-Ty}
use Rattle.pl_types.specs.declared.ty.Ty.TheOpen.{Ty-F}
use Rattle.pl_code.specs.declared.kinds.Slot.{Slot}
use Rattle.pl_code.specs.declared.kinds.Slot.TheVariants.{I, J, R}
use Rattle.pl_code.specs.declared.code.FunCode.{FunCode}
use Rattle.pl_code.specs.declared.code.Instruction.TheVariants as i
use Rattle.pl_code.specs.declared.kinds.Plain.TheVariants as plain
use Rattle.allowlist.specs.declared.member.MemberKind.{MemberKind}
use Rattle.allowlist.specs.declared.member.MemberKind.TheVariants as kind
use Rattle.allowlist.specs.declared.member.MemberType.{MemberType}
use Rattle.allowlist.specs.Allow.{AllowList}
use Rattle.allowlist.specs.Catalogue.{catalogue, constructor}
use Rattle.allowlist.specs.Index.{member_at}
use Rattle.instruction_types.specs.Types.{kind_of_type}
use Rattle.instruction_types.specs.Types.{kind_of_layer as kinds_of_catalogue}
use Rattle.instruction_types.specs.Members.{method_of, constructor_of, field_of, has_receiver, argument_kinds, member_takes}
use Rattle.instruction_types.specs.Effects.{Exchanges, left_by, one, invokes, makes, reads, effect_of, flow_of}
use Rattle.instruction_types.specs.Faults.{is_bad_target, is_bad_member, is_reference}
use Rattle.verifier.specs.Meets.{left_in}
use Rattle.member_names.specs.Names.{text_of, named_by, TextsName}
use Rattle.typed_tree.specs.declared.operation.Member.{Member}
use Rattle.typed_tree.specs.declared.operation.Operation.{Operation}
use Rattle.typed_tree.specs.declared.operation.Operation.TheVariants as operation
use Rattle.program_typing.specs.Tree.{Program}
use Rattle.compiler_relation.specs.Representation.{representation_of_layer, representation_of, kind_of_layer, kind_of}
use Rattle.compiler_relation.specs.Parts.{operation_code, member_code, without_null}
use Rattle.program_typing.specs.Types.{IsReference, has_values_layer}
use Rattle.program_typing.specs.Agreeing.{known, TakesTypes, MemberAgrees, Guards, is_primitive_layer}
use Rattle.compiled_shapes.proofs.Runs.{Passes, Straight}
use Rattle.compiled_shapes.proofs.Parts.{push, push_types}
use Rattle.compiled_shapes.proofs.Accesses.{method_behind, name_behind}
use Rattle.compiled_shapes.proofs.Steps.{push_layer, push_reference, push_value, boxed, taken_own, reverse_cons, only, pop_passes}

-- ---- the catalogue

abbrev pub is_there_layer : Ty-F Ty → Bool
is_there_layer Ty-F.Void = false
is_there_layer other = true

abbrev pub are_there : List Ty → Bool
are_there [] = true
are_there (of ∷ ofs) = is_there_layer (out-Ty of) && are_there ofs

-- a constructor makes a reference, and a field has no parameters
abbrev pub is_shaped_so : MemberKind → List Ty → Ty → Bool
is_shaped_so kind.Constructor params result = is_reference (kind_of result)
is_shaped_so kind.Field [] result = true
is_shaped_so kind.Field (of ∷ ofs) result = false
is_shaped_so kind.Static params result = true
is_shaped_so kind.Instance params result = true

abbrev is_shaped : MemberType → Bool
is_shaped m = are_there m.params && is_shaped_so m.kind m.params m.result

all_shaped : list_all is_shaped catalogue ≡ true
unfolding catalogue out-Ty denote.Hole.Carrier.out
all_shaped = refl

each_is : (test : MemberType → Bool) (ms : List MemberType) (n : ℕ) (m : MemberType) → list_all test ms ≡ true → slice_get ms n ≡ Some m
    → test m ≡ true
each_is test [] n m h is = cc
each_is test (x ∷ xs) zero m h is = let same : x ≡ m = cc in subst (λ m. test m ≡ true) same (and_parts (test x) (list_all test xs) h).0
each_is test (x ∷ xs) (suc n) m h is = each_is test xs n m (and_parts (test x) (list_all test xs) h).1 is

pub shaped_at : (number : ℕ) (m : MemberType) → slice_get catalogue number ≡ Some m
    → (are_there m.params ≡ true) × (is_shaped_so m.kind m.params m.result ≡ true)
shaped_at number m is = and_parts (are_there m.params) (is_shaped_so m.kind m.params m.result) (each_is is_shaped catalogue number m all_shaped is)

stands_at : (number : ℕ) (m : MemberType) → slice_get catalogue number ≡ Some m → member_at number ≡ m
stands_at number m is = get_or_from_slice_get catalogue number m (constructor 0 []) is

-- ---- kinds

boxed_kind : (l : Ty-F Ty) → is_primitive_layer l ≡ false → kind_of_layer l ≡ R
boxed_kind Ty-F.Void h = refl
boxed_kind Ty-F.Null h = refl
boxed_kind Ty-F.Def h = refl
boxed_kind (Ty-F.Prim p) h = cc
boxed_kind (Ty-F.Class class) h = refl
boxed_kind (Ty-F.Array of) h = refl

pub there_has_values : (l : Ty-F Ty) → is_there_layer l ≡ true → has_values_layer l
there_has_values Ty-F.Void h = absurd (false≢true h)
there_has_values Ty-F.Null h = tt
there_has_values Ty-F.Def h = tt
there_has_values (Ty-F.Prim p) h = tt
there_has_values (Ty-F.Class class) h = tt
there_has_values (Ty-F.Array of) h = tt

same_kind_layer : (l : Ty-F Ty) → kinds_of_catalogue l ≡ kind_of_layer l
same_kind_layer Ty-F.Void = refl
same_kind_layer Ty-F.Null = refl
same_kind_layer Ty-F.Def = refl
same_kind_layer (Ty-F.Prim p) = boxed p
same_kind_layer (Ty-F.Class class) = refl
same_kind_layer (Ty-F.Array of) = refl

same_kind : (of : Ty) → kind_of_type of ≡ kind_of of
unfolding kind_of_type
same_kind of = same_kind_layer (out-Ty of)

same_kinds : (ofs : List Ty) → map kind_of_type ofs ≡ map kind_of ofs
same_kinds [] = refl
same_kinds (of ∷ ofs) = ap (λ k. k ∷ map kind_of_type ofs) (same_kind of) ∙ ap (λ ks. kind_of of ∷ ks) (same_kinds ofs)

pushed_arguments : (ofs : List Ty) (s : List Slot) → are_there ofs ≡ true → push_types ofs s ≡ reverse (map kind_of ofs) ++ s
pushed_arguments [] s h = refl
pushed_arguments (of ∷ ofs) s h =
    let parts = and_parts (is_there_layer (out-Ty of)) (are_there ofs) h in
    pushed_arguments ofs (push of s) parts.1
    ∙ ap (λ t. reverse (map kind_of ofs) ++ t) (push_value of s (there_has_values (out-Ty of) parts.0))
    ∙ reverse_cons (kind_of of) (map kind_of ofs) s

arguments_lie : (ofs : List Ty) (s : List Slot) → are_there ofs ≡ true → push_types ofs s ≡ argument_kinds ofs ++ s
unfolding argument_kinds
arguments_lie ofs s h = pushed_arguments ofs s h ∙ ap (λ ks. reverse ks ++ s) (sym (same_kinds ofs))

abbrev is_method : MemberKind → Bool
is_method kind.Static = true
is_method kind.Instance = true
is_method other = false

-- what a method takes
method_takes : (sort : MemberKind) (m : MemberType) (ofs : List Ty) (s : List Slot) → m.kind ≡ sort → are_there m.params ≡ true
    → TakesTypes sort m.params ofs → is_method sort ≡ true → push_types ofs s ≡ member_takes m ++ s
unfolding member_takes
method_takes kind.Constructor m ofs s sorted h x method = absurd (false≢true method)
method_takes kind.Field m ofs s sorted h x method = absurd (false≢true method)
method_takes kind.Static m ofs s sorted h x method =
    ap (λ ofs. push_types ofs s) x
    ∙ arguments_lie m.params s h
    ∙ sym (append_assoc (argument_kinds m.params) [] s)
    ∙ sym (ap (λ sort. (argument_kinds m.params ++ (if has_receiver sort then R ∷ [] else [])) ++ s) sorted)
method_takes kind.Instance m [] s sorted h x method = absurd x
method_takes kind.Instance m (of ∷ ofs) s sorted h x method =
    ap (push_types ofs) (push_reference of s x.0)
    ∙ ap (λ ofs. push_types ofs (R ∷ s)) x.1
    ∙ arguments_lie m.params (R ∷ s) h
    ∙ sym (append_assoc (argument_kinds m.params) (R ∷ []) s)
    ∙ sym (ap (λ sort. (argument_kinds m.params ++ (if has_receiver sort then R ∷ [] else [])) ++ s) sorted)

is_reference-is : (k : Slot) → is_reference k ≡ true → k ≡ R
is_reference-is I h = cc
is_reference-is J h = cc
is_reference-is R h = refl

-- a constructor makes a reference, and a field takes nothing
made_kind : (m : MemberType) → m.kind ≡ kind.Constructor → is_shaped_so m.kind m.params m.result ≡ true → kind_of m.result ≡ R
made_kind m sorted h = is_reference-is (kind_of m.result) (sym (ap (λ sort. is_shaped_so sort m.params m.result) sorted) ∙ h)

no_parameters : (params : List Ty) (result : Ty) → is_shaped_so kind.Field params result ≡ true → params ≡ []
no_parameters [] result h = refl
no_parameters (of ∷ ofs) result h = absurd (false≢true h)

module _ (allow : AllowList) (functions : List FunCode) (f : FunCode) where
  -- ---- instructions

  invoke_passes : (m : Member) (member : MemberType) (ofs : List Ty) (s : List Slot) → method_of allow m.text ≡ Some m.number
      → member_at m.number ≡ member → push_types ofs s ≡ member_takes member ++ s → Passes allow functions f (i.Invoke m.text) (push_types ofs s) (kind_of member.result ∷ s)
  unfolding is_bad_target is_bad_member flow_of effect_of invokes left_by
  invoke_passes m member ofs s names at takes = record {
    flow = refl;
    target = refl;
    member = ap (λ o. not (is_some o)) names;
    leaves =
        ap (λ o. left_in (option_map (invokes allow) o) (push_types ofs s)) names
        ∙ ap (λ (m : MemberType). left_by (Exchanges (member_takes m) (one (kind_of_type m.result))) (push_types ofs s)) at
        ∙ ap (left_by (Exchanges (member_takes member) (one (kind_of_type member.result)))) takes
        ∙ ap (option_map (λ left. one (kind_of_type member.result) ++ left)) (taken_own (member_takes member) s)
        ∙ ap (λ k. Some (k ∷ s)) (same_kind member.result);
  }

  new_passes : (m : Member) (member : MemberType) (s : List Slot) → constructor_of allow m.text ≡ Some m.number → member_at m.number ≡ member
      → are_there member.params ≡ true → Passes allow functions f (i.New m.text) (push_types member.params s) (R ∷ s)
  unfolding is_bad_target is_bad_member flow_of effect_of makes left_by
  new_passes m member s names at h = record {
    flow = refl;
    target = refl;
    member = ap (λ o. not (is_some o)) names;
    leaves =
        ap (λ o. left_in (option_map (makes allow) o) (push_types member.params s)) names
        ∙ ap (λ (m : MemberType). left_by (Exchanges (argument_kinds m.params) (one R)) (push_types member.params s)) at
        ∙ ap (left_by (Exchanges (argument_kinds member.params) (one R))) (arguments_lie member.params s h)
        ∙ ap (option_map (λ left. one R ++ left)) (taken_own (argument_kinds member.params) s);
  }

  field_passes : (m : Member) (member : MemberType) (s : List Slot) → field_of allow m.text ≡ Some m.number → member_at m.number ≡ member
      → Passes allow functions f (i.Field m.text) s (kind_of member.result ∷ s)
  unfolding is_bad_target is_bad_member flow_of effect_of reads left_by
  field_passes m member s names at = record {
    flow = refl;
    target = refl;
    member = ap (λ o. not (is_some o)) names;
    leaves =
        ap (λ o. left_in (option_map (reads allow) o) s) names
        ∙ ap (λ (m : MemberType). left_by (Exchanges [] (one (kind_of_type m.result))) s) at
        ∙ ap (λ k. Some (k ∷ s)) (same_kind member.result);
  }

  -- the null that a method leaves which gives nothing is dropped
  null_layer : (l : Ty-F Ty) (s : List Slot) → Straight allow functions f (without_null (representation_of_layer l)) (kind_of_layer l ∷ s) (push_layer l s)
  null_layer Ty-F.Void s = only allow functions f (pop_passes allow functions f R s) refl refl
  null_layer Ty-F.Null s = refl
  null_layer Ty-F.Def s = refl
  null_layer (Ty-F.Prim p) s = refl
  null_layer (Ty-F.Class class) s = refl
  null_layer (Ty-F.Array of) s = refl

  pub null_straight : (of : Ty) (s : List Slot) → Straight allow functions f (without_null (representation_of of)) (kind_of of ∷ s) (push of s)
  null_straight of s = null_layer (out-Ty of) s

  module _ (texts : TextsName) (funs : Program) where
    -- the text of a call names its member in code
    named : (sort : MemberKind) (m : Member) (ofs : List Ty) (of : Ty) → MemberAgrees (known allow funs) sort m ofs of
        → named_by sort allow m.text ≡ Some m.number
    named sort m ofs of h =
        ap (named_by sort allow) h.text
        ∙ ap (λ sort. named_by sort allow (text_of h.member)) (sym h.sort)
        ∙ texts allow m.number h.member h.is h.allowed

    method_passes : (sort : MemberKind) (m : Member) (ofs : List Ty) (of : Ty) (s : List Slot) → MemberAgrees (known allow funs) sort m ofs of
        → is_method sort ≡ true → method_of allow m.text ≡ Some m.number → Passes allow functions f (i.Invoke m.text) (push_types ofs s) (kind_of of ∷ s)
    method_passes sort m ofs of s h method names =
        subst (λ of. Passes allow functions f (i.Invoke m.text) (push_types ofs s) (kind_of of ∷ s)) (sym h.gives)
        (invoke_passes m h.member ofs s names (stands_at m.number h.member h.is)
        (method_takes sort h.member ofs s h.sort (shaped_at m.number h.member h.is).0 h.takes method))

    -- what a member gives that writes a place is dropped
    pub setter_straight : (m : Member) (ofs : List Ty) (given : Ty) (s : List Slot) → MemberAgrees (known allow funs) kind.Instance m ofs given
        → Straight allow functions f (i.Invoke m.text ∷ i.Plain plain.Pop ∷ []) (push_types ofs s) s
    setter_straight m ofs given s h =
        let passes = method_passes kind.Instance m ofs given s h refl (named kind.Instance m ofs given h) in
        (kind_of given ∷ s, passes, only allow functions f (pop_passes allow functions f (kind_of given) s) refl refl)

    pub instance_straight : (m : Member) (n : ℕ) (ofs : List Ty) (of : Ty) (s : List Slot) → MemberAgrees (known allow funs) kind.Instance m ofs of
        → Straight allow functions f (operation_code (operation.Instance m) of n) (push_types ofs s) (push of s)
    instance_straight m n ofs of s h =
        let passes = method_passes kind.Instance m ofs of s h refl (named kind.Instance m ofs of h) in
        (kind_of of ∷ s, passes, null_straight of s)

    pub static_straight : (m : Member) (n : ℕ) (ofs : List Ty) (of : Ty) (s : List Slot) → MemberAgrees (known allow funs) kind.Static m ofs of
        → Straight allow functions f (operation_code (operation.Static m) of n) (push_types ofs s) (push of s)
    static_straight m n ofs of s h =
        let passes = method_passes kind.Static m ofs of s h refl (named kind.Static m ofs of h) in
        (kind_of of ∷ s, passes, null_straight of s)

    pub constructor_straight : (m : Member) (n : ℕ) (ofs : List Ty) (of : Ty) (s : List Slot) → MemberAgrees (known allow funs) kind.Constructor m ofs of
        → Straight allow functions f (operation_code (operation.Constructor m) of n) (push_types ofs s) (push of s)
    constructor_straight m n ofs of s h =
        let shaped = shaped_at m.number h.member h.is in
        let whole : R ≡ kind_of of = sym (ap kind_of h.gives ∙ made_kind h.member h.sort shaped.1) in
        let passes = new_passes m h.member s (named kind.Constructor m ofs of h) (stands_at m.number h.member h.is) shaped.0 in
        let taken : Passes allow functions f (i.New m.text) (push_types ofs s) (R ∷ s) =
        subst (λ ofs. Passes allow functions f (i.New m.text) (push_types ofs s) (R ∷ s)) (sym h.takes) passes in
        (kind_of of ∷ s, subst (λ k. Passes allow functions f (i.New m.text) (push_types ofs s) (k ∷ s)) whole taken, null_straight of s)

    pub field_straight : (m : Member) (n : ℕ) (ofs : List Ty) (of : Ty) (s : List Slot) → MemberAgrees (known allow funs) kind.Field m ofs of
        → Straight allow functions f (operation_code (operation.Field m) of n) (push_types ofs s) (push of s)
    field_straight m n ofs of s h =
        let shaped = (shaped_at m.number h.member h.is).1 in
        let bare : is_shaped_so kind.Field h.member.params h.member.result ≡ true =
        sym (ap (λ sort. is_shaped_so sort h.member.params h.member.result) h.sort) ∙ shaped in
        let none : ofs ≡ [] = h.takes ∙ no_parameters h.member.params h.member.result bare in
        let passes = field_passes m h.member s (named kind.Field m ofs of h) (stands_at m.number h.member h.is) in
        let gives : Passes allow functions f (i.Field m.text) s (kind_of of ∷ s) =
        subst (λ of. Passes allow functions f (i.Field m.text) s (kind_of of ∷ s)) (sym h.gives) passes in
        let reads : Passes allow functions f (i.Field m.text) (push_types ofs s) (kind_of of ∷ s) =
        subst (λ ofs. Passes allow functions f (i.Field m.text) (push_types ofs s) (kind_of of ∷ s)) (sym none) gives in
        (kind_of of ∷ s, reads, null_straight of s)

    -- ---- calls that a null receiver leaves out

    pub guard_takes : (o : Operation) (from of : Ty) (ofs : List Ty) → Guards (known allow funs) o (from ∷ ofs) of → IsReference from
    guard_takes (operation.Instance m) from of ofs h = h.agrees.takes.0
    guard_takes (operation.DefCall name) from of ofs h = h.agrees.0.0
    guard_takes (operation.DefName name) from of [] h = h.agrees.0
    guard_takes (operation.DefName name) from of (other ∷ ofs) h = absurd h.agrees.0
    guard_takes other from of ofs h = absurd h.sort

    pub guard_kind : (o : Operation) (ofs : List Ty) (of : Ty) → Guards (known allow funs) o ofs of → kind_of of ≡ R
    guard_kind o ofs of h = boxed_kind (out-Ty of) h.whole

    -- the call, behind a receiver
    pub guarded_straight : (o : Operation) (from of : Ty) (ofs : List Ty) (s : List Slot) → Guards (known allow funs) o (from ∷ ofs) of
        → Straight allow functions f (member_code o (suc (length ofs))) (push_types ofs (R ∷ s)) (R ∷ s)
    guarded_straight (operation.Instance m) from of ofs s h =
        let passes = method_passes kind.Instance m (from ∷ ofs) of s h.agrees refl (named kind.Instance m (from ∷ ofs) of h.agrees) in
        let receiver = push_reference from s (guard_takes (operation.Instance m) from of ofs h) in
        let taken : Passes allow functions f (i.Invoke m.text) (push_types ofs (R ∷ s)) (kind_of of ∷ s) =
        subst (λ t. Passes allow functions f (i.Invoke m.text) (push_types ofs t) (kind_of of ∷ s)) receiver passes in
        let given : Passes allow functions f (i.Invoke m.text) (push_types ofs (R ∷ s)) (R ∷ s) =
        subst (λ k. Passes allow functions f (i.Invoke m.text) (push_types ofs (R ∷ s)) (k ∷ s)) (guard_kind (operation.Instance m) (from ∷ ofs) of h) taken in
        only allow functions f given refl refl
    guarded_straight (operation.DefCall name) from of ofs s h = method_behind allow functions f name from ofs s h.agrees.0.0 h.agrees.0.1
    guarded_straight (operation.DefName name) from of ofs s h = name_behind allow functions f name from ofs s h.agrees.0
    guarded_straight other from of ofs s h = absurd h.sort

    pub guard_null : (o : Operation) (ofs : List Ty) (of : Ty) (s : List Slot) → Guards (known allow funs) o ofs of
        → Straight allow functions f (without_null (representation_of of)) (R ∷ s) (push of s)
    guard_null o ofs of s h =
        subst (λ k. Straight allow functions f (without_null (representation_of of)) (k ∷ s) (push of s)) (guard_kind o ofs of h) (null_straight of s)
