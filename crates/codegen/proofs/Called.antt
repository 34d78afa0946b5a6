-- Members that are called, made or read: how their parts are represented, and what well-formed programs have.
use Rattle.std.proofs.Common.{◌≡◌, ◌≢◌, ℕ, zero, suc, ◌+◌, ◌≤◌, arith, length, true, false, List, [], ◌∷◌, ◌++◌, drop, Some, None, refl, sym, ap, ◌∙◌, subst}
use Rattle.std.specs.Prelude.{map, slice_get}
use Rattle.std.specs.Option.{option_map}
use Rattle.std.specs.Str.{bytes_eq}
use Rattle.std.proofs.lemmas.Slice.Eq.{bytes_eq-Decides}
use Rattle.pl_types.specs.declared.ty.Ty.{Ty, out-Ty}
use Rattle.pl_types.specs.declared.ty.Ty.TheOpen.{Ty-F}
use Rattle.pl_code.specs.declared.code.Instruction.TheVariants as i
use Rattle.pl_code.specs.declared.kinds.Numbered.TheVariants as numbered
use Rattle.pl_code.specs.declared.kinds.Plain.TheVariants as plain
use Rattle.allowlist.specs.declared.member.MemberKind.{MemberKind}
use Rattle.allowlist.specs.declared.member.MemberKind.TheVariants as kinds
use Rattle.allowlist.specs.declared.member.MemberType.{MemberType}
use Rattle.std.proofs.lemmas.Option.{slice_get_within, get_or_from_slice_get}
use Rattle.std.proofs.lemmas.List.{length-map}
use Rattle.allowlist.specs.Catalogue.{catalogue, constructor}
use Rattle.allowlist.specs.Index.{member_at}
use Rattle.member_names.specs.Names.{TextsHaveForms, text_of, has_form}
use Rattle.typed_tree.specs.declared.operation.Member.{Member}
use Rattle.typed_tree.specs.declared.operation.Operation.{Operation}
use Rattle.typed_tree.specs.declared.operation.Operation.TheVariants as operation
use Rattle.typed_tree.specs.declared.typed.Typed.{Typed}
use Rattle.source_meaning.specs.Tree.{Exprs, Guarded, Program, type_of}
use Rattle.source_meaning.specs.Programs.{expr_of, exprs_of}
use Rattle.program_typing.specs.Agreeing.{Known, Scope, TakesTypes, MemberAgrees, Applies, IsGuarded, ExprAgrees, ExprsAgree, types_of, is_primitive_layer}
use Rattle.compiler_relation.specs.Representation.{Representation, Unboxed, Boxed, representation_of, representation_of_layer}
use Rattle.compiler_relation.specs.Parts.{without_null}
use Rattle.compiler_relation.specs.Stands.{AllRepresented, MemberFits, GuardFits, count, representations}
use Rattle.codegen.specs.Called.{IsMember, IsCalled, IsFound, member_operation}
use Rattle.codegen.specs.Worklist.{Item, Value, Values, Put, Operate, Call, Jump, Bind, All, As, Before, Wants, Taken, Back, parts_from, member_takes}
use Rattle.codegen.specs.Sound.{Refuses, Spells}
use Rattle.codegen.specs.declared.config.Config.{Config}
use Rattle.codegen.proofs.Fitting.{is_boxed, def_representation, all_references, types_lie}
use Rattle.codegen.proofs.Parts.{drop_one, drop_end, parts_go, parts_counted}
use Rattle.codegen.proofs.Plans.{guarded_plan, found_plan}

-- ---- how parts are represented

pub mapped_at : {A B : Type 0} (f : A → B) (xs : List A) (at : ℕ) → slice_get (map f xs) at ≡ option_map f (slice_get xs at)
mapped_at f [] at = refl
mapped_at f (x ∷ xs) zero = refl
mapped_at f (x ∷ xs) (suc at) = mapped_at f xs at

module _ (ks : List Representation) (at : ℕ) (k : Representation) where
  pub taken_at : (one : Representation) → slice_get ks at ≡ Some one → k ≡ one → Taken (As (drop at ks)) (As (drop (at + 1) ks)) k
  taken_at one is e = record { by = λ others h. ap (λ l. k ∷ l) h ∙ ap (λ l. l ∷ drop (at + 1) ks) e ∙ sym (drop_one at ks one is) }

  pub refuses_at : (one : Representation) → slice_get ks at ≡ Some one → k ≢ one → Refuses (As (drop at ks)) k
  refuses_at one is n = record { by = λ others h. let e : k ∷ others ≡ one ∷ drop (at + 1) ks = h ∙ drop_one at ks one is in n cc }

  pub refuses_behind : slice_get ks at ≡ None → Refuses (As (drop at ks)) k
  refuses_behind is = record { by = λ others h. let e : k ∷ others ≡ [] = h ∙ drop_end at ks is in absurd cc }

module _ (ks : List Representation) (at : ℕ) (k last : Representation) where
  pub taken_before : (one : Representation) → slice_get ks at ≡ Some one → k ≡ one → Taken (Before (drop at ks) last) (Before (drop (at + 1) ks) last) k
  taken_before one is e = record { by = λ others h. ap (λ l. k ∷ l) h ∙ ap (λ l. l ∷ drop (at + 1) ks) e ∙ sym (drop_one at ks one is) }

  pub refuses_before : (one : Representation) → slice_get ks at ≡ Some one → k ≢ one → Refuses (Before (drop at ks) last) k
  refuses_before one is n = record { by = λ others h. let e : k ∷ (others ++ last ∷ []) ≡ one ∷ drop (at + 1) ks = h ∙ drop_one at ks one is in n cc }

  pub refuses_past : slice_get ks at ≡ None → Refuses (Before (drop at ks) last) k
  refuses_past is = record { by = λ others h. let e : k ∷ (others ++ last ∷ []) ≡ [] = h ∙ drop_end at ks is in absurd cc }

-- one is left where there is one at the last place, and none where it is past it
one_left : (ks : List Representation) (at : ℕ) (last : Representation) → length ks ≡ suc at → slice_get ks at ≡ Some last → drop at ks ≡ last ∷ []
one_left [] at last same is = absurd (omega arith)
one_left (k ∷ []) zero last same is = ap (λ k. k ∷ []) cc
one_left (k ∷ j ∷ ks) zero last same is = absurd (omega arith)
one_left (k ∷ ks) (suc at) last same is = one_left ks at last (omega arith) is

as_many : (ks : List Representation) (at : ℕ) (last : Representation) → last ∷ [] ≡ drop at ks → length ks ≡ suc at
as_many [] zero last is = absurd cc
as_many [] (suc at) last is = absurd cc
as_many (k ∷ []) zero last is = refl
as_many (k ∷ j ∷ ks) zero last is = absurd cc
as_many (k ∷ ks) (suc at) last is = ap suc (as_many ks at last is)

receiver_and : (params : List Ty) → length (member_takes kinds.Instance params) ≡ suc (length params)
receiver_and params = ap suc (length-map params representation_of)

module _ (params : List Ty) (at : ℕ) where
  pub value_is_left : (last value : Representation) → slice_get (member_takes kinds.Instance params) at ≡ Some last → length params ≡ at → last ≡ value
      → Wants (Before (drop at (member_takes kinds.Instance params)) value) []
  value_is_left last value is many same =
      sym (one_left (member_takes kinds.Instance params) at last (receiver_and params ∙ ap suc many) is ∙ ap (λ k. k ∷ []) same)

  pub value_is_other : (last value : Representation) → slice_get (member_takes kinds.Instance params) at ≡ Some last → last ≢ value
      → Wants (Before (drop at (member_takes kinds.Instance params)) value) [] → ⊥
  value_is_other last value is n h =
      let e : value ∷ [] ≡ last ∷ drop (at + 1) (member_takes kinds.Instance params) = h ∙ drop_one at (member_takes kinds.Instance params) last is in n cc

  pub no_value_left : (value : Representation) → slice_get (member_takes kinds.Instance params) at ≡ None → Wants (Before (drop at (member_takes kinds.Instance params)) value) [] → ⊥
  no_value_left value is h = let e : value ∷ [] ≡ [] = h ∙ drop_end at (member_takes kinds.Instance params) is in absurd cc

  pub others_left : (value : Representation) → length params ≢ at → Wants (Before (drop at (member_takes kinds.Instance params)) value) [] → ⊥
  others_left value n h =
      let e = as_many (member_takes kinds.Instance params) at value h in
      n (omega (arith, e, receiver_and params))

pub last_at : (ks : List Representation) (at : ℕ) → slice_get ks at ≡ None → Wants (As (drop at ks)) []
last_at ks at is = sym (drop_end at ks is)

pub some_at : (ks : List Representation) (at : ℕ) (one : Representation) → slice_get ks at ≡ Some one → Wants (As (drop at ks)) [] → ⊥
some_at ks at one is h = let e : [] ≡ one ∷ drop (at + 1) ks = h ∙ drop_one at ks one is in absurd cc

-- ---- the catalogue

pub not_beyond : (count n : ℕ) (member : MemberType) → length catalogue ≤ count → count ≤ n → slice_get catalogue n ≡ Some member → ⊥
not_beyond count n member whole h is = let under = slice_get_within catalogue n member is in omega (arith, h, under, whole)

at_number : (n : ℕ) (member : MemberType) → slice_get catalogue n ≡ Some member → member_at n ≡ member
at_number n member is = get_or_from_slice_get catalogue n member (constructor 0 []) is

-- a text that is written of the member of a number
pub named_so : (n : ℕ) (member : MemberType) (written text : List ℕ) → slice_get catalogue n ≡ Some member → written ≡ text_of (member_at n) → bytes_eq written text ≡ true → text ≡ text_of member
named_so n member written text is e same = sym ((bytes_eq-Decides written text).0 same) ∙ e ∙ ap text_of (at_number n member is)

pub other_text : (kind : MemberKind) (m : Member) (member : MemberType) → IsMember kind m member → (written : List ℕ) → written ≡ text_of (member_at m.number) → bytes_eq written m.text ≡ false → ⊥
other_text kind m member h written e n = let same = (bytes_eq-Decides written m.text).1 (e ∙ ap text_of (at_number m.number member h.is) ∙ sym h.text) in let bad : true ≡ false = sym same ∙ n in absurd cc

-- ---- calls that fit

pub member_fits : (kind : MemberKind) (m : Member) (ks : List Representation) (of : Ty) (member : MemberType) → IsCalled kind m of member → ks ≡ member_takes kind member.params → MemberFits kind m ks of
member_fits kind m ks of member h e = record { member = member; is = h.named.is; sort = h.named.sort; text = h.named.text; parts = e; gives = h.gives }

guard_fits : (funs : Program) (m : Member) (k : Representation) (ks : List Representation) (of : Ty) (member : MemberType) → IsCalled kinds.Instance m of member → representation_of of ≢ Unboxed → k ≡ Boxed → ks ≡ map representation_of member.params
    → GuardFits funs (operation.Instance m) (k ∷ ks) of
guard_fits funs m k ks of member h n w e = record { sort = tt; fits = member_fits kinds.Instance m (k ∷ ks) of member h (ap (λ k. k ∷ ks) w ∙ ap (λ ks. Boxed ∷ ks) e); whole = n }

boxed_whole : (of : Ty) → representation_of of ≡ Boxed → representation_of of ≢ Unboxed
boxed_whole of gives e = let bad : Boxed ≡ Unboxed = sym gives ∙ e in absurd cc

pub forms : TextsHaveForms → (kind : MemberKind) (m : Member) (member : MemberType) → IsMember kind m member → has_form kind m.text ≡ true
forms law kind m member h = ap (has_form kind) h.text ∙ subst (λ (k : MemberKind). has_form k (text_of member) ≡ true) h.sort (law m.number member h.is)

module _ (funs : Program) (todo : List Item) (c : Config) where
  pub guarded_back : (at : ℕ) (of : Ty) (m : Member) (parts : List Typed) (x : Typed) (member : MemberType) (representation : Representation) (end : ℕ) → slice_get parts 0 ≡ Some x → representation ≡ representation_of of
      → IsCalled kinds.Instance m of member → representation_of of ≢ Unboxed → representation_of (type_of (expr_of x)) ≡ Boxed
      → Back funs (Value (Guarded at of (operation.Instance m) (exprs_of (map expr_of parts))) ∷ todo) c
      (Value (expr_of x) ∷ Put (i.Plain plain.Dup ∷ []) ∷ Jump numbered.IfNull end ∷ Values (parts_from 1 parts) (As (drop 1 (member_takes kinds.Instance member.params))) ∷ Call kinds.Instance m.text ∷ Bind end ∷ Put (without_null representation) ∷ todo) c
  guarded_back at of m parts x member representation end is e h n w =
      subst (λ (es : Exprs). Back funs (Value (Guarded at of (operation.Instance m) es) ∷ todo) c
      (Value (expr_of x) ∷ Put (i.Plain plain.Dup ∷ []) ∷ Jump numbered.IfNull end ∷ Values (parts_from 1 parts) (As (drop 1 (member_takes kinds.Instance member.params))) ∷ Call kinds.Instance m.text ∷ Bind end ∷ Put (without_null representation) ∷ todo) c)
      (sym (parts_go parts 0 x is))
      (guarded_plan funs todo c at of m (expr_of x) (parts_from 1 parts) (As (drop 1 (member_takes kinds.Instance member.params))) representation end e
      (λ t. guard_fits funs m (representation_of (type_of (expr_of x))) (representations (parts_from 1 parts)) of member h n w t))

-- ---- calls of a well-formed program

types_taken : (kind : MemberKind) (params ofs : List Ty) → TakesTypes kind params ofs → map representation_of ofs ≡ member_takes kind params
types_taken kinds.Instance params [] x = absurd x
types_taken kinds.Instance params (of ∷ ofs) x = ap (λ k. k ∷ map representation_of ofs) (is_boxed of x.0) ∙ ap (λ ofs. Boxed ∷ map representation_of ofs) x.1
types_taken kinds.Constructor params ofs x = ap (map representation_of) x
types_taken kinds.Static params ofs x = ap (map representation_of) x
types_taken kinds.Field params ofs x = ap (map representation_of) x

pub same_member : (n : ℕ) (a b : MemberType) → slice_get catalogue n ≡ Some a → slice_get catalogue n ≡ Some b → b ≡ a
same_member n a b p q = let h : Some a ≡ Some b = sym p ∙ q in cc

pub agrees_named : (funs : Known) (kind : MemberKind) (m : Member) (ofs : List Ty) (of : Ty) (a : MemberAgrees funs kind m ofs of) → IsMember kind m a.member
agrees_named funs kind m ofs of a = record { is = a.is; sort = a.sort; text = a.text }

pub agrees_called : (funs : Known) (kind : MemberKind) (m : Member) (ofs : List Ty) (of : Ty) (a : MemberAgrees funs kind m ofs of) → IsCalled kind m of a.member
agrees_called funs kind m ofs of a = record { named = agrees_named funs kind m ofs of a; gives = ap representation_of a.gives }

pub takes_lie : (funs : Known) (kind : MemberKind) (m : Member) (ofs : List Ty) (of : Ty) (member : MemberType) → IsMember kind m member → MemberAgrees funs kind m ofs of → map representation_of ofs ≡ member_takes kind member.params
takes_lie funs kind m ofs of member h a = types_taken kind a.member.params ofs a.takes ∙ ap (λ (x : MemberType). member_takes kind x.params) (same_member m.number member a.member h.is a.is)

pub agrees_member : (funs : Known) (kind : MemberKind) (m : Member) (ofs : List Ty) (of : Ty) → Applies funs (member_operation kind m) ofs of → MemberAgrees funs kind m ofs of
agrees_member funs kinds.Constructor m ofs of x = x
agrees_member funs kinds.Static m ofs of x = x
agrees_member funs kinds.Instance m ofs of x = x
agrees_member funs kinds.Field m ofs of x = x

-- ---- calls of a well-formed program that a null receiver leaves out

no_number : (l : Ty-F Ty) → is_primitive_layer l ≡ false → representation_of_layer l ≢ Unboxed
no_number Ty-F.Void h e = cc
no_number Ty-F.Null h e = cc
no_number Ty-F.Def h e = cc
no_number (Ty-F.Prim p) h e = absurd cc
no_number (Ty-F.Class class) h e = cc
no_number (Ty-F.Array of) h e = cc

-- the receiver and the arguments
pub record Receives (funs : Known) (g : Scope) (m : Member) (x : Typed) (parts : List Typed) (of : Ty) : Type 0 where
  pub receiver : ExprAgrees funs g (expr_of x)
  pub others : ExprsAgree funs g (parts_from 1 parts)
  pub agrees : MemberAgrees funs kinds.Instance m (type_of (expr_of x) ∷ types_of (parts_from 1 parts)) of
  pub whole : representation_of of ≢ Unboxed

pub receives : (funs : Known) (g : Scope) (at : ℕ) (of : Ty) (m : Member) (parts : List Typed) (x : Typed) → slice_get parts 0 ≡ Some x
    → ExprAgrees funs g (Guarded at of (operation.Instance m) (exprs_of (map expr_of parts))) → Receives funs g m x parts of
receives funs g at of m [] x is h = absurd h
receives funs g at of m (y ∷ parts) x is h =
    let same : y ≡ x = cc in
    subst (λ (x : Typed). Receives funs g m x (y ∷ parts) of) same (record { receiver = h.0; others = h.1; agrees = h.2.agrees; whole = no_number (out-Ty of) h.2.whole })

module _ (funs : Known) (g : Scope) (m : Member) (x : Typed) (parts : List Typed) (of : Ty) (k : Receives funs g m x parts of) where
  pub receiver_representation : representation_of (type_of (expr_of x)) ≡ Boxed
  receiver_representation = is_boxed (type_of (expr_of x)) k.agrees.takes.0

  pub others_lie : (member : MemberType) → IsMember kinds.Instance m member → representations (parts_from 1 parts) ≡ drop 1 (member_takes kinds.Instance member.params)
  others_lie member h =
      let all = takes_lie funs kinds.Instance m (type_of (expr_of x) ∷ types_of (parts_from 1 parts)) of member h k.agrees in
      types_lie (parts_from 1 parts) ∙ ap (drop 1) all

pub not_received : (funs : Known) (g : Scope) (at : ℕ) (of : Ty) (o : Operation) (parts : List Typed) → slice_get parts 0 ≡ None → ExprAgrees funs g (Guarded at of o (exprs_of (map expr_of parts))) → ⊥
not_received funs g at of o [] is h = h
not_received funs g at of o (x ∷ parts) is h = cc

-- ---- calls whose member is found when the code runs

found_fits : (funs : Program) (does : Operation) (k : Representation) (ks : List Representation) (of : Ty) → IsFound does → k ≡ Boxed → AllRepresented Boxed ks → representation_of of ≡ Boxed → GuardFits funs does (k ∷ ks) of
found_fits funs (operation.DefCall name) k ks of found w lie gives = record { sort = tt; fits = (tt, (w, lie), gives); whole = boxed_whole of gives }
found_fits funs (operation.DefName name) k ks of found w lie gives = record { sort = tt; fits = ((w, lie), gives); whole = boxed_whole of gives }
found_fits funs other k ks of found w lie gives = absurd found

module _ (funs : Program) (todo : List Item) (c : Config) where
  pub found_back : (at : ℕ) (of : Ty) (does : Operation) (parts : List Typed) (x : Typed) (representation : Representation) (end n : ℕ) → slice_get parts 0 ≡ Some x → representation ≡ representation_of of
      → IsFound does → n ≡ length parts → representation_of of ≡ Boxed → representation_of (type_of (expr_of x)) ≡ Boxed
      → Back funs (Value (Guarded at of does (exprs_of (map expr_of parts))) ∷ todo) c
      (Value (expr_of x) ∷ Put (i.Plain plain.Dup ∷ []) ∷ Jump numbered.IfNull end ∷ Values (parts_from 1 parts) (All Boxed) ∷ Operate does of n ∷ Bind end ∷ Put (without_null representation) ∷ todo) c
  found_back at of does parts x representation end n is e found many gives w =
      subst (λ (es : Exprs). Back funs (Value (Guarded at of does es) ∷ todo) c
      (Value (expr_of x) ∷ Put (i.Plain plain.Dup ∷ []) ∷ Jump numbered.IfNull end ∷ Values (parts_from 1 parts) (All Boxed) ∷ Operate does of n ∷ Bind end ∷ Put (without_null representation) ∷ todo) c)
      (sym (parts_go parts 0 x is))
      (found_plan funs todo c at of does (expr_of x) (parts_from 1 parts) (All Boxed) representation end n found e
      (many ∙ sym (parts_counted parts) ∙ ap count (parts_go parts 0 x is))
      (λ lie. found_fits funs does (representation_of (type_of (expr_of x))) (representations (parts_from 1 parts)) of found w lie gives))

-- the receiver and the others
pub record Finds (funs : Known) (g : Scope) (does : Operation) (x : Typed) (parts : List Typed) (of : Ty) : Type 0 where
  pub receiver : ExprAgrees funs g (expr_of x)
  pub others : ExprsAgree funs g (parts_from 1 parts)
  pub agrees : Applies funs does (type_of (expr_of x) ∷ types_of (parts_from 1 parts)) of

pub finds : (funs : Known) (g : Scope) (at : ℕ) (of : Ty) (does : Operation) (parts : List Typed) (x : Typed) → slice_get parts 0 ≡ Some x
    → ExprAgrees funs g (Guarded at of does (exprs_of (map expr_of parts))) → Finds funs g does x parts of
finds funs g at of does [] x is h = absurd h
finds funs g at of does (y ∷ parts) x is h =
    let same : y ≡ x = cc in
    subst (λ (x : Typed). Finds funs g does x (y ∷ parts) of) same (record { receiver = h.0; others = h.1; agrees = h.2.agrees })

found_receiver : (funs : Known) (does : Operation) (from of : Ty) (ofs : List Ty) → IsFound does → Applies funs does (from ∷ ofs) of → representation_of from ≡ Boxed
found_receiver funs (operation.DefCall name) from of ofs found x = is_boxed from x.0.0
found_receiver funs (operation.DefName name) from of [] found x = is_boxed from x.0
found_receiver funs (operation.DefName name) from of (other ∷ ofs) found x = absurd x.0
found_receiver funs other from of ofs found x = absurd found

found_others : (funs : Known) (does : Operation) (from of : Ty) (ofs : List Ty) → IsFound does → Applies funs does (from ∷ ofs) of → AllRepresented Boxed (map representation_of ofs)
found_others funs (operation.DefCall name) from of ofs found x = all_references ofs x.0.1
found_others funs (operation.DefName name) from of [] found x = tt
found_others funs (operation.DefName name) from of (other ∷ ofs) found x = absurd x.0
found_others funs other from of ofs found x = absurd found

found_gives : (funs : Known) (does : Operation) (ofs : List Ty) (of : Ty) → IsFound does → Applies funs does ofs of → representation_of of ≡ Boxed
found_gives funs (operation.DefCall name) ofs of found x = ap representation_of x.1 ∙ def_representation
found_gives funs (operation.DefName name) ofs of found x = ap representation_of x.1 ∙ def_representation
found_gives funs other ofs of found x = absurd found

found_spells : (funs : Known) (does : Operation) (ofs : List Ty) (of : Ty) → IsFound does → Applies funs does ofs of → Spells does of
found_spells funs (operation.DefCall name) ofs of found x = x.2
found_spells funs (operation.DefName name) ofs of found x = tt
found_spells funs other ofs of found x = absurd found

module _ (funs : Known) (g : Scope) (does : Operation) (x : Typed) (parts : List Typed) (of : Ty) (found : IsFound does) (k : Finds funs g does x parts of) where
  pub finds_receiver : representation_of (type_of (expr_of x)) ≡ Boxed
  finds_receiver = found_receiver funs does (type_of (expr_of x)) of (types_of (parts_from 1 parts)) found k.agrees

  pub finds_others : AllRepresented Boxed (representations (parts_from 1 parts))
  finds_others = subst (AllRepresented Boxed) (sym (types_lie (parts_from 1 parts))) (found_others funs does (type_of (expr_of x)) of (types_of (parts_from 1 parts)) found k.agrees)

  pub finds_gives : representation_of of ≡ Boxed
  finds_gives = found_gives funs does (type_of (expr_of x) ∷ types_of (parts_from 1 parts)) of found k.agrees

  pub finds_spells : Spells does of
  finds_spells = found_spells funs does (type_of (expr_of x) ∷ types_of (parts_from 1 parts)) of found k.agrees

-- what may be left out, and is no member of a value
pub is_found : (o : Operation) → ((m : Member) → o ≡ operation.Instance m → ⊥) → IsGuarded o → IsFound o
is_found (operation.Instance m) n s = absurd (n m refl)
is_found (operation.DefCall name) n s = tt
is_found (operation.DefName name) n s = tt
is_found other n s = s

pub left_is_found : (funs : Known) (g : Scope) (at : ℕ) (of : Ty) (o : Operation) (parts : List Typed) → ((m : Member) → o ≡ operation.Instance m → ⊥) → ExprAgrees funs g (Guarded at of o (exprs_of (map expr_of parts))) → IsFound o
left_is_found funs g at of o [] n h = absurd h
left_is_found funs g at of o (x ∷ parts) n h = is_found o n h.2.sort
