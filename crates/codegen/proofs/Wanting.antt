-- How the parts of operations and places are represented: where they fit, and of well-formed programs.
use Rattle.std.proofs.Common.{◌≡◌, ◌≢◌, ℕ, suc, arith, length, true, List, [], ◌∷◌, ◌++◌, map, Ok, refl, sym, ap, ◌∙◌, subst}
use Rattle.pl_types.specs.declared.ty.Ty.{Ty}
use Rattle.pl_types.specs.declared.ty.Ty.TheVariants as t
use Rattle.pl_types.specs.Texts.{is_known}
use Rattle.allowlist.specs.declared.member.MemberKind.{MemberKind}
use Rattle.allowlist.specs.declared.member.MemberKind.TheVariants as kinds
use Rattle.allowlist.specs.declared.member.MemberType.{MemberType}
use Rattle.member_names.specs.Names.{TextsHaveForms}
use Rattle.source_meaning.specs.Types.{element_of}
use Rattle.typed_tree.specs.declared.operation.Member.{Member}
use Rattle.typed_tree.specs.declared.operation.Operator.{Operator}
use Rattle.typed_tree.specs.declared.operation.Operator.TheVariants as operator
use Rattle.typed_tree.specs.declared.operation.Operation.{Operation}
use Rattle.typed_tree.specs.declared.operation.Operation.TheVariants as operation
use Rattle.source_meaning.specs.Tree.{Exprs, None', One, Program}
use Rattle.program_typing.specs.Types.{IsNamed, IsReference, AreReferences, TakesReference, TakesReferences, TakesTo}
use Rattle.program_typing.specs.Agreeing.{Known, known, MemberAgrees, FindsMethod, Applies, Writes, IsPlace, types_of}
use Rattle.compiler_relation.specs.Representation.{Representation, Boxed, Absent, representation_of}
use Rattle.compiler_relation.specs.Parts as code
use Rattle.compiler_relation.specs.Stands.{AllRepresented, ArePresent, Asks, HasReceiver, Fitting, MemberFits, WriteFits, AreOneOrTwo, representations}
use Rattle.compiler_relation.proofs.Nodes.Members.{params_present}
use Rattle.codegen.specs.Called.{IsMember, member_operation}
use Rattle.codegen.specs.Checks.{denoted}
use Rattle.codegen.specs.Operands.{OperandsFit, AreOperands, PlaceWanted, ArePlace, IsAlike}
use Rattle.codegen.specs.Sound.{SpellsOperator, Spells, SpellsWrite}
use Rattle.codegen.specs.Worklist.{Wanted, Wants, member_takes}
use Rattle.codegen.specs.declared.work_item.Wanted.TheVariants as w
use Rattle.codegen.specs.declared.representation.Representation as d
use Rattle.codegen.proofs.Called.{forms, agrees_named, takes_lie}
use Rattle.codegen.proofs.Fitting.{is_boxed, def_representation, all_references, alike_takes, alike_fits, named_element, element_is, element_lies, casts_name, types_lie}

-- ---- operators

module _ (funs : Program) (o : Operator) (of : Ty) (count : ℕ) (r : d.Representation) (takes : denoted r ≡ code.operator_takes o) where
  pub alike_operands : IsAlike o → representation_of of ≡ code.operator_gives o → Asks o of count → OperandsFit funs (operation.Operator o) of count (w.All r)
  alike_operands a gives asks = record {
    by = λ ks many h. alike_fits o a ks of (subst (λ k. AllRepresented k ks) takes h) gives (subst (Asks o of) (sym many) asks);
  }

  pub alike_are : IsAlike o → AreOperands funs (operation.Operator o) of count (Ok (w.All r))
  alike_are a = record { by = λ allow ofs many x. subst (λ k. AllRepresented k (map representation_of ofs)) (sym takes) (alike_takes o a ofs of x) }

pub array_operands : (funs : Program) (of elem : Ty) (count : ℕ) (r : d.Representation) → elem ≡ element_of of → denoted r ≡ representation_of elem → representation_of of ≡ Boxed
    → is_known elem ≡ true → representation_of elem ≢ Absent → OperandsFit funs (operation.Operator operator.ArrayOf) of count (w.All r)
array_operands funs of elem count r is lie gives known present = record {
  by = λ ks many h. (
    subst (λ k. AllRepresented k ks) (lie ∙ ap representation_of is) h,
    gives,
    record { known = subst (λ e. is_known e ≡ true) is known; present = subst (λ e. representation_of e ≢ Absent) is present },
  );
}

-- ---- members

pub member_fitting : (funs : Program) (kind : MemberKind) (m : Member) (ks : List Representation) (of : Ty) → MemberFits kind m ks of → Fitting funs (member_operation kind m) ks of
member_fitting funs kinds.Constructor m ks of h = h
member_fitting funs kinds.Static m ks of h = h
member_fitting funs kinds.Instance m ks of h = h
member_fitting funs kinds.Field m ks of h = h

pub setter_fits : (m : Member) (of : Ty) (member : MemberType) (r : d.Representation) → denoted r ≡ representation_of of → IsMember kinds.Instance m member
    → (ks : List Representation) → (ks ++ denoted r ∷ []) ≡ member_takes kinds.Instance member.params → WriteFits (operation.Instance m) ks of
setter_fits m of member r lie h ks e = record {
  given = member.result;
  fits = record { member = member; is = h.is; sort = h.sort; text = h.text; parts = ap (λ k. ks ++ k ∷ []) (sym lie) ∙ e; gives = refl };
}

map_both : (xs ys : List Ty) → map representation_of (xs ++ ys) ≡ map representation_of xs ++ map representation_of ys
map_both [] ys = refl
map_both (x ∷ xs) ys = ap (λ ks. representation_of x ∷ ks) (map_both xs ys)

pub setter_lies : (funs : Known) (m : Member) (of : Ty) (member : MemberType) (r : d.Representation) → denoted r ≡ representation_of of → IsMember kinds.Instance m member
    → (ofs : List Ty) → Writes funs (operation.Instance m) ofs of → (map representation_of ofs ++ denoted r ∷ []) ≡ member_takes kinds.Instance member.params
setter_lies funs m of member r lie h ofs x =
    ap (λ k. map representation_of ofs ++ k ∷ []) lie ∙ sym (map_both ofs (of ∷ [])) ∙ takes_lie funs kinds.Instance m (ofs ++ of ∷ []) x.given member h x.agrees

-- ---- places of a well-formed program

last_present : (ofs : List Ty) (of : Ty) → ArePresent (map representation_of (ofs ++ of ∷ [])) → representation_of of ≢ Absent
last_present [] of present = present.0
last_present (a ∷ ofs) of present = last_present ofs of present.1

setter_present : (funs : Known) (m : Member) (ofs : List Ty) (of given : Ty) → IsPlace ofs → MemberAgrees funs kinds.Instance m (ofs ++ of ∷ []) given → representation_of of ≢ Absent
setter_present funs m [] of given place a = absurd place
setter_present funs m (x ∷ ofs) of given place a =
    last_present ofs of (subst (λ params. ArePresent (map representation_of params)) (sym a.takes.1) (params_present m.number a.member a.is))

is_there : (of : Ty) → IsReference of → representation_of of ≢ Absent
is_there of r e = let bad : Boxed ≡ Absent = sym (is_boxed of r) ∙ e in absurd cc

pub written_present : (funs : Known) (does : Operation) (ofs : List Ty) (of : Ty) → IsPlace ofs → Writes funs does ofs of → representation_of of ≢ Absent
written_present funs (operation.Operator operator.PutElement) ofs of place x = (named_element of (element_lies ofs of x).1).present
written_present funs (operation.Instance m) ofs of place x = setter_present funs m ofs of x.given place x.agrees
written_present funs (operation.PutDefName name) ofs of place x = is_there of x.1
written_present funs operation.PutDefIndex ofs of place x = is_there of x.1
written_present funs other ofs of place x = absurd x

pub few_parts : (parts : Exprs) → IsPlace (types_of parts) → AreOneOrTwo (representations parts)
few_parts None' place = absurd place
few_parts (One a None') place = tt
few_parts (One a (One b None')) place = tt
few_parts (One a (One b (One c parts))) place = absurd place

-- what is wanted of types is wanted of the parts
pub parts_want : (parts : Exprs) (kinds : Wanted) → Wants kinds (map representation_of (types_of parts)) → Wants kinds (representations parts)
parts_want parts kinds h = subst (Wants kinds) (sym (types_lie parts)) h

-- ---- names

operator_spells : (o : Operator) (ofs : List Ty) (of : Ty) → TakesTo o ofs of → SpellsOperator o of
operator_spells operator.NewArray ofs of x = x.3
operator_spells operator.ArrayOf ofs of x = subst IsNamed (sym (element_is of x.0 x.1)) x.3
operator_spells operator.Element ofs of x = (element_lies ofs of x).1
operator_spells operator.PutElement ofs of x = absurd x
operator_spells other ofs of x = tt

pub applies_spell : TextsHaveForms → (funs : Known) (does : Operation) (ofs : List Ty) (of : Ty) → Applies funs does ofs of → Spells does of
applies_spell law funs (operation.Operator o) ofs of x = operator_spells o ofs of x
applies_spell law funs (operation.Cast c) [] of x = absurd x
applies_spell law funs (operation.Cast c) (from ∷ []) of x = casts_name c from of x
applies_spell law funs (operation.Cast c) (from ∷ other ∷ ofs) of x = absurd x
applies_spell law funs (operation.InstanceOf is) [] of x = absurd x
applies_spell law funs (operation.InstanceOf is) (from ∷ []) of x = x.1
applies_spell law funs (operation.InstanceOf is) (from ∷ other ∷ ofs) of x = absurd x
applies_spell law funs (operation.Function number) ofs of x = tt
applies_spell law funs (operation.Instance m) ofs of x = forms law kinds.Instance m x.member (agrees_named funs kinds.Instance m ofs of x)
applies_spell law funs (operation.Static m) ofs of x = forms law kinds.Static m x.member (agrees_named funs kinds.Static m ofs of x)
applies_spell law funs (operation.Constructor m) ofs of x = forms law kinds.Constructor m x.member (agrees_named funs kinds.Constructor m ofs of x)
applies_spell law funs (operation.Field m) ofs of x = forms law kinds.Field m x.member (agrees_named funs kinds.Field m ofs of x)
applies_spell law funs (operation.DefCall name) ofs of x = x.2
applies_spell law funs (operation.DefName name) ofs of x = tt
applies_spell law funs operation.DefIndex ofs of x = tt
applies_spell law funs other ofs of x = absurd x

pub writes_spell : TextsHaveForms → (funs : Known) (does : Operation) (ofs : List Ty) (of : Ty) → Writes funs does ofs of → SpellsWrite does of
writes_spell law funs (operation.Operator operator.PutElement) ofs of x = (element_lies ofs of x).1
writes_spell law funs (operation.Instance m) ofs of x =
    forms law kinds.Instance m x.agrees.member (agrees_named funs kinds.Instance m (ofs ++ of ∷ []) x.given x.agrees)
writes_spell law funs (operation.PutDefName name) ofs of x = tt
writes_spell law funs operation.PutDefIndex ofs of x = tt
writes_spell law funs other ofs of x = absurd x

-- ---- what is found for a receiver when the code runs

one_reference : (ofs : List Ty) → TakesReference ofs → AreReferences ofs
one_reference [] h = absurd h
one_reference (a ∷ []) h = (h, tt)
one_reference (a ∷ other ∷ ofs) h = absurd h

two_references : (ofs : List Ty) → TakesReferences ofs → AreReferences ofs
two_references [] h = absurd h
two_references (a ∷ []) h = absurd h
two_references (a ∷ b ∷ []) h = (h.0, (h.1, tt))
two_references (a ∷ b ∷ other ∷ ofs) h = absurd h

method_references : (ofs : List Ty) → FindsMethod ofs → AreReferences ofs
method_references [] h = absurd h
method_references (from ∷ ofs) h = h

pub def_lies : (of : Ty) → of ≡ t.Def → representation_of of ≡ Boxed
def_lies of is = ap representation_of is ∙ def_representation

some_receiver : (ks : List Representation) (count : ℕ) → length ks ≡ count → count ≢ 0 → HasReceiver ks
some_receiver [] count many some = absurd (some (sym many))
some_receiver (k ∷ ks) count many some = tt

pub finds_some : (ofs : List Ty) (count : ℕ) → FindsMethod ofs → length ofs ≡ count → count ≡ 0 → ⊥
finds_some [] count h many none = absurd h
finds_some (from ∷ ofs) count h many none = let bad : suc (length ofs) ≡ 0 = many ∙ none in omega (arith, bad)

module _ (funs : Program) (of : Ty) (count : ℕ) (r : d.Representation) (lie : denoted r ≡ Boxed) where
  boxed_parts : (ks : List Representation) → AllRepresented (denoted r) ks → AllRepresented Boxed ks
  boxed_parts ks h = subst (λ k. AllRepresented k ks) lie h

  parts_boxed : (ks : List Representation) → AllRepresented Boxed ks → AllRepresented (denoted r) ks
  parts_boxed ks h = subst (λ k. AllRepresented k ks) (sym lie) h

  pub method_operands : (name : List ℕ) → count ≢ 0 → representation_of of ≡ Boxed → OperandsFit funs (operation.DefCall name) of count (w.All r)
  method_operands name some gives = record { by = λ ks many h. (some_receiver ks count many some, boxed_parts ks h, gives) }

  pub method_are : (name : List ℕ) → AreOperands funs (operation.DefCall name) of count (Ok (w.All r))
  method_are name = record { by = λ allow ofs many x. parts_boxed (map representation_of ofs) (all_references ofs (method_references ofs x.0)) }

  pub name_operands : (name : List ℕ) → representation_of of ≡ Boxed → OperandsFit funs (operation.DefName name) of count (w.All r)
  name_operands name gives = record { by = λ ks many h. (boxed_parts ks h, gives) }

  pub name_are : (name : List ℕ) → AreOperands funs (operation.DefName name) of count (Ok (w.All r))
  name_are name = record { by = λ allow ofs many x. parts_boxed (map representation_of ofs) (all_references ofs (one_reference ofs x.0)) }

  pub index_operands : representation_of of ≡ Boxed → OperandsFit funs operation.DefIndex of count (w.All r)
  index_operands gives = record { by = λ ks many h. (boxed_parts ks h, gives) }

  pub index_are : AreOperands funs operation.DefIndex of count (Ok (w.All r))
  index_are = record { by = λ allow ofs many x. parts_boxed (map representation_of ofs) (all_references ofs (two_references ofs x.0)) }

  pub put_name_wanted : (name : List ℕ) → representation_of of ≡ Boxed → PlaceWanted (operation.PutDefName name) of (w.All r)
  put_name_wanted name gives = record { by = λ ks h. (boxed_parts ks h, gives) }

  pub put_name_are : (name : List ℕ) → ArePlace funs (operation.PutDefName name) of (Ok (w.All r))
  put_name_are name = record { by = λ allow ofs x. parts_boxed (map representation_of ofs) (all_references ofs (one_reference ofs x.0)) }

  pub put_index_wanted : representation_of of ≡ Boxed → PlaceWanted operation.PutDefIndex of (w.All r)
  put_index_wanted gives = record { by = λ ks h. (boxed_parts ks h, gives) }

  pub put_index_are : ArePlace funs operation.PutDefIndex of (Ok (w.All r))
  put_index_are = record { by = λ allow ofs x. parts_boxed (map representation_of ofs) (all_references ofs (two_references ofs x.0)) }
