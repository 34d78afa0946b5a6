-- Calls of members that rules give agree, where their parts do.
use Rattle.std.proofs.Common.{◌≡◌, ℕ, suc, ◌+◌, Bool, true, false, ◌&&◌, List, [], ◌∷◌, ◌++◌, map, length, Option, Some, None, Ok, refl, sym, ap, ◌∙◌, subst, arith, eqb-true, ◌⊎◌, inl, inr, codes}
use Rattle.std.specs.Prelude.{slice_get, ◌==◌, ◌||◌, not, if◌then◌else◌}
use Rattle.std.specs.List.{list_all}
use Rattle.std.specs.Str.{bytes_eq}
use Rattle.std.proofs.lemmas.Bool.{and_parts, and_from, or_cases}
use Rattle.std.proofs.lemmas.Option.{get_or_from_slice_get}
use Rattle.pl_types.specs.declared.conversion.Cast.TheVariants as cast
use Rattle.pl_types.specs.declared.ty.Ty.{Ty, out-Ty}
use Rattle.pl_types.specs.declared.ty.Ty.TheVariants as ty
use Rattle.pl_types.specs.declared.ty.Ty.TheOpen.{Ty-F}
use Rattle.pl_types.specs.Classes.{class_is_below}
use Rattle.pl_types.proofs.Shapes.{class_up}
use Rattle.pl_tree.specs.declared.operator.Access.{Access}
use Rattle.pl_tree.specs.declared.operator.Access.TheVariants as through
use Rattle.allowlist.specs.declared.member.MemberKind.{MemberKind}
use Rattle.allowlist.specs.declared.member.MemberKind.TheVariants as kind
use Rattle.allowlist.specs.declared.member.MemberType.{MemberType}
use Rattle.allowlist.specs.Allow.{AllowList, flag, is_called, has_name, first_member, own_member, member_of, members_in}
use Rattle.allowlist.specs.Catalogue.{catalogue, constructor}
use Rattle.allowlist.specs.Index.{member_in}
use Rattle.allowlist.proofs.Unique.{found_is_allowed, found_above}
use Rattle.source_typing.specs.ContainerCallsMembers.{container_ranges}
use Rattle.source_typing.proofs.Owners.{holds_of_all, holds_at, if_then, then_holds}
use Rattle.source_typing.specs.Members.{is_built}
use Rattle.source_typing.proofs.Built.{built_range, of_built}
use Rattle.listing_parts.specs.Names.{is_word}
use Rattle.typed_tree.specs.declared.operation.Operation.{Operation}
use Rattle.typed_tree.specs.declared.operation.Operation.TheVariants as o
use Rattle.typed_tree.specs.declared.typed.Typed.{Typed}
use Rattle.typing_rules.specs.declared.part.Form.{Form}
use Rattle.typing_rules.specs.declared.part.Form.TheVariants as f
use Rattle.typing_rules.specs.declared.part.Part.{Part}
use Rattle.typing_rules.specs.Outcomes.{refuse, bind}
use Rattle.typing_rules.specs.Rules.Nodes.{typed, applied, part, type_in, type_of_part, is_void, is_void_layer}
use Rattle.typing_rules.specs.Rules.Types.{is_built_class, is_built as built_type}
use Rattle.typing_rules.specs.Rules.Casts.{cast_to, cast_each}
use Rattle.typing_rules.specs.Rules.Operators.{primitive_layer, primitive_of, is_primitive}
use Rattle.typing_rules.specs.Rules.Members.{is_open, is_open_member, is_open_at, is_kind, wanted, member, cast_all, member_arguments, guards, gives_primitive, nullable, result, accessed, instance_node, instance_call, names_prelude, called_layer, method_of, static_node, static_call, static_layer, static_of, constructed, new_layer, new_of, or_else, capital, getter, plainly, read_named, field_node, field_layer, field_of}
use Rattle.source_typing.specs.Tree.{type_of}
use Rattle.source_typing.specs.Programs.{exprs_of, expr_of}
use Rattle.source_typing.specs.Types.{IsReference, AreReferences, AreAll, IsGiven}
use Rattle.source_typing.specs.Agreeing.{Known as Script, Scope, types_of, TakesTypes, Applies, is_primitive_layer, is_primitive as gives_number, ReceiverIsOf, MemberAgrees, IsGuarded, ExprsAgree}
use Rattle.typing_soundness.proofs.Nodes.{applied_is, guarded_is}
use Rattle.typing_soundness.proofs.Types.{def_layer, class_by, part_layer, IsOfPart, built_part, is_built_by, built_out, IsAim, part_aim, def_aim, def_reference, reference_by}
use Rattle.typing_soundness.proofs.Parts.{passed, accepted, settled, def_part, TypedIs, PartIs, node_is, part_of, cast_is}
use Rattle.typing_soundness.proofs.Names.{AllParts}

-- ---- types that members name

void_or_built : (of : Ty) → is_open of ≡ true → (is_void of ≡ true) ⊎ (built_type of ≡ true)
void_or_built of e = or_cases (is_void of) (built_type of) e

void_open : (l : Ty-F Ty) → is_void_layer l ≡ true → part_layer l
void_open Ty-F.Void e = tt
void_open Ty-F.Null e = cc
void_open Ty-F.Def e = cc
void_open (Ty-F.Prim p) e = cc
void_open (Ty-F.Class c) e = cc
void_open (Ty-F.Array u) e = cc

open_part : (of : Ty) → is_open of ≡ true → IsOfPart of
open_part of e = pick (void_or_built of e)
  where
    pick : (is_void of ≡ true) ⊎ (built_type of ≡ true) → IsOfPart of
    pick (inl void) = record { layer = void_open (out-Ty of) void }
    pick (inr built) = built_part of (record { is = built })

-- what is asked of a type that is open, by its outermost layer
abbrev shallow_layer : Ty-F Ty → Bool
shallow_layer Ty-F.Null = false
shallow_layer (Ty-F.Class c) = is_built_class c
shallow_layer other = true

abbrev is_shallow : Ty → Bool
is_shallow of = shallow_layer (out-Ty of)

void_shallow : (l : Ty-F Ty) → is_void_layer l ≡ true → shallow_layer l ≡ true
void_shallow Ty-F.Void e = refl
void_shallow Ty-F.Null e = cc
void_shallow Ty-F.Def e = refl
void_shallow (Ty-F.Prim p) e = refl
void_shallow (Ty-F.Class c) e = cc
void_shallow (Ty-F.Array u) e = refl

built_shallow : (l : Ty-F Ty) → is_built_by l ≡ true → shallow_layer l ≡ true
built_shallow Ty-F.Void e = refl
built_shallow Ty-F.Null e = cc
built_shallow Ty-F.Def e = refl
built_shallow (Ty-F.Prim p) e = refl
built_shallow (Ty-F.Class c) e = e
built_shallow (Ty-F.Array u) e = refl

open_shallow : (of : Ty) → is_open of ≡ true → is_shallow of ≡ true
open_shallow of e = pick (void_or_built of e)
  where
    pick : (is_void of ≡ true) ⊎ (built_type of ≡ true) → is_shallow of ≡ true
    pick (inl void) = void_shallow (out-Ty of) void
    pick (inr built) = built_shallow (out-Ty of) (built_out of (record { is = built }))

all_shallow : (ofs : List Ty) → list_all is_open ofs ≡ true → list_all is_shallow ofs ≡ true
all_shallow [] e = refl
all_shallow (of ∷ ofs) e =
    let both = and_parts (is_open of) (list_all is_open ofs) e in
    and_from (is_shallow of) (list_all is_shallow ofs) (open_shallow of both.0) (all_shallow ofs both.1)

abbrev is_shallow_member : MemberType → Bool
is_shallow_member m = is_built_class m.owner && (list_all is_shallow m.params && is_shallow m.result)

member_shallow : (m : MemberType) → is_open_member m ≡ true → is_shallow_member m ≡ true
member_shallow m e =
    let first = and_parts (is_built_class m.owner) (list_all is_open m.params && is_open m.result) e in
    let second = and_parts (list_all is_open m.params) (is_open m.result) first.1 in
    and_from (is_built_class m.owner) _ first.0 (and_from (list_all is_shallow m.params) (is_shallow m.result) (all_shallow m.params second.0) (open_shallow m.result second.1))

-- what is open in the member of a number
pub record Opens (allow : AllowList) (number : ℕ) : Type 0 where
  pub is : is_open_at allow number ≡ true
  pub params : list_all is_open (member_in allow number).params ≡ true
  pub result : IsOfPart (member_in allow number).result

opens : (allow : AllowList) (number : ℕ) → is_open_at allow number ≡ true → Opens allow number
opens allow number e =
    let first = and_parts (is_built_class (member_in allow number).owner) (list_all is_open (member_in allow number).params && is_open (member_in allow number).result) e in
    let second = and_parts (list_all is_open (member_in allow number).params) (is_open (member_in allow number).result) first.1 in
    record {
      is = e;
      params = second.0;
      result = open_part (member_in allow number).result second.1;
    }

-- ---- the member that is wanted

kind_is : (a b : MemberKind) → is_kind a b ≡ true → b ≡ a
kind_is kind.Constructor kind.Constructor e = refl
kind_is kind.Static kind.Static e = refl
kind_is kind.Instance kind.Instance e = refl
kind_is kind.Field kind.Field e = refl
kind_is a b e = cc

-- what is wanted was found, and is open
pub record Wants (allow : AllowList) (sort : MemberKind) (found : Option ℕ) (number : ℕ) : Type 0 where
  pub is : found ≡ Some number
  pub kind : (member_in allow number).kind ≡ sort
  pub opens : Opens allow number

record BothHold (c d : Bool) (m n : ℕ) : Type 0 where
  first : c ≡ true
  second : d ≡ true
  same : m ≡ n

both_hold : (c d : Bool) (a b at m n : ℕ) → (if c then (if d then accepted m else refuse a at) else refuse b at) ≡ accepted n → BothHold c d m n
both_hold true true a b at m n e = record { first = refl; second = refl; same = cc }
both_hold true false a b at m n e = cc
both_hold false d a b at m n e = cc

pub wants : (allow : AllowList) (sort : MemberKind) (at : ℕ) (found : Option ℕ) (number : ℕ) → wanted allow sort at found ≡ Ok number → Wants allow sort found number
wants allow sort at None number e = cc
wants allow sort at (Some m) number e =
    let h = both_hold (is_kind sort (member_in allow m).kind) (is_open_at allow m) _ _ at m number e in
    subst (Wants allow sort (Some m)) h.same (record { is = refl; kind = kind_is sort (member_in allow m).kind h.first; opens = opens allow m h.second })

-- ---- the member that is found

pub record Allowed (allow : AllowList) (arity number : ℕ) : Type 0 where
  pub allowed : flag allow.members number ≡ true
  pub is : slice_get (members_in allow) number ≡ Some (member_in allow number)
  pub takes : length (member_in allow number).params ≡ arity

-- a member that is open is built: each row of the catalogue is tested
abbrev open_and_built : ℕ → MemberType → Bool
open_and_built n m = if_then (is_shallow_member m) (built_range n)

all_built : holds_of_all open_and_built ≡ true
unfolding catalogue container_ranges out-Ty denote.Hole.Carrier.out
all_built = refl

open_built : (allow : AllowList) (number : ℕ) → slice_get (members_in allow) number ≡ Some (member_in allow number) → Opens allow number → is_built number ≡ true
open_built allow number is x =
    of_built number ∙ then_holds (is_shallow_member (member_in allow number)) (built_range number) (holds_at open_and_built number (member_in allow number) all_built is) (member_shallow (member_in allow number) x.is)

allowed_by : (allow : AllowList) (arity number : ℕ) (m : MemberType) → flag allow.members number ≡ true → slice_get (members_in allow) number ≡ Some m
    → length m.params ≡ arity
    → Allowed allow arity number
allowed_by allow arity number m a is l =
    let same : member_in allow number ≡ m = get_or_from_slice_get (members_in allow) number m (constructor 0 []) is in
    record { allowed = a; is = is ∙ ap Some (sym same); takes = ap (λ (m : MemberType). length m.params) same ∙ l }

pub found_allowed : (allow : AllowList) (class : ℕ) (name : List ℕ) (arity number : ℕ) → member_of allow class name arity ≡ Some number
    → Allowed allow arity number
found_allowed allow class name arity number e =
    let found = found_is_allowed allow class name arity number e in
    allowed_by allow arity number found.1.0 found.0 found.1.1 found.1.3

record First (test : ℕ → MemberType → Bool) (start : ℕ) (ms : List MemberType) (number : ℕ) : Type 0 where
  place : ℕ
  member : MemberType
  number_is : number ≡ start + place
  is : slice_get ms place ≡ Some member
  passes : test number member ≡ true

first_is : (test : ℕ → MemberType → Bool) (start : ℕ) (ms : List MemberType) (number : ℕ) → first_member test start ms ≡ Some number
    → First test start ms number
first_is test start [] number e = cc
first_is test start (m ∷ ms) number e = pick (test start m) refl e (first_is test (start + 1) ms number)
  where
    pick : (c : Bool) → test start m ≡ c → (if c then Some start else first_member test (start + 1) ms) ≡ Some number
        → (first_member test (start + 1) ms ≡ Some number → First test (start + 1) ms number)
        → First test start (m ∷ ms) number
    pick true is e further =
        let same : start ≡ number = cc in
        subst (First test start (m ∷ ms)) same (record { place = 0; member = m; number_is = omega arith; is = refl; passes = is })
    pick false is e further =
        let rest = further e in
        record { place = suc rest.place; member = rest.member; number_is = omega (arith, rest.number_is); is = rest.is; passes = rest.passes }

own_allowed : (allow : AllowList) (class : ℕ) (name : List ℕ) (arity number : ℕ) → own_member allow class name arity ≡ Some number
    → Allowed allow arity number
unfolding own_member
own_allowed allow class name arity number e =
    let found = first_is (λ n m. flag allow.members n && is_called class name arity m) 0 catalogue number e in
    let same : found.place ≡ number = omega (arith, found.number_is) in
    let all = and_parts (flag allow.members number) (is_called class name arity found.member) found.passes in
    let called = and_parts (found.member.owner == class) (has_name name arity found.member) all.1 in
    let named = and_parts (bytes_eq found.member.name name) (length found.member.params == arity) called.1 in
    allowed_by allow arity number found.member all.0 (subst (λ n. slice_get catalogue n ≡ Some found.member) same found.is)
    (eqb-true (length found.member.params) arity named.1)

pub either_found : (a b : Option ℕ) (number : ℕ) → or_else a b ≡ Some number → (a ≡ Some number) ⊎ (b ≡ Some number)
either_found None b number e = inr e
either_found (Some m) b number e = inl e

-- a getter takes nothing
pub getter_allowed : (allow : AllowList) (class : ℕ) (name : List ℕ) (number : ℕ) → getter allow class name ≡ Some number → Allowed allow 0 number
getter_allowed allow class name number e = pick (either_found _ _ number e)
  where
    pick : (member_of allow class (codes "get" ++ capital name) 0 ≡ Some number) ⊎ (member_of allow class (codes "is" ++ capital name) 0 ≡ Some number) → Allowed allow 0 number
    pick (inl e) = found_allowed allow class (codes "get" ++ capital name) 0 number e
    pick (inr e) = found_allowed allow class (codes "is" ++ capital name) 0 number e

-- ---- the class that has the member

-- the table keeps a value of the class at which a member is found at the class that has it
abbrev pub Receives : AllowList → ℕ → ℕ → Type 0
Receives allow class number = IsGiven cast.Keep (ty.Class class) (ty.Class (member_in allow number).owner)

pub found_receives : (allow : AllowList) (class : ℕ) (name : List ℕ) (arity number : ℕ) → member_of allow class name arity ≡ Some number → Receives allow class number
found_receives allow class name arity number e =
    let found = found_above allow class name arity number e in
    let same : member_in allow number ≡ found.0 = get_or_from_slice_get (members_in allow) number found.0 (constructor 0 []) found.1 in
    let above : class_is_below class (member_in allow number).owner ≡ true = subst (λ (m : MemberType). class_is_below class m.owner ≡ true) (sym same) found.2 in
    record { written = false; is = sym (class_up class_is_below class (member_in allow number).owner false above) }

pub getter_receives : (allow : AllowList) (class : ℕ) (name : List ℕ) (number : ℕ) → getter allow class name ≡ Some number → Receives allow class number
getter_receives allow class name number e = pick (either_found _ _ number e)
  where
    pick : (member_of allow class (codes "get" ++ capital name) 0 ≡ Some number) ⊎ (member_of allow class (codes "is" ++ capital name) 0 ≡ Some number) → Receives allow class number
    pick (inl e) = found_receives allow class (codes "get" ++ capital name) 0 number e
    pick (inr e) = found_receives allow class (codes "is" ++ capital name) 0 number e

-- ---- what is asked of what a guarded call gives

number_layer : (l : Ty-F Ty) → is_primitive (primitive_layer l) ≡ is_primitive_layer l
number_layer Ty-F.Void = refl
number_layer Ty-F.Null = refl
number_layer Ty-F.Def = refl
number_layer (Ty-F.Prim p) = refl
number_layer (Ty-F.Class c) = refl
number_layer (Ty-F.Array u) = refl

no_number : (of : Ty) → is_primitive (primitive_of of) ≡ false → gives_number of ≡ false
no_number of e = sym (number_layer (out-Ty of)) ∙ e

-- what was not refused
record NotNullable (c : Bool) (x y : Part) : Type 0 where
  holds : c ≡ false
  same : x ≡ y

not_nullable : (c : Bool) (number at : ℕ) (x y : Part) → (if c then refuse number at else accepted x) ≡ accepted y → NotNullable c x y
not_nullable true number at x y e = cc
not_nullable false number at x y e = record { holds = refl; same = cc }

-- what is called by name when the script runs is a word
word_by : (a b : Bool) → (a || not b) ≡ false → b ≡ true
word_by true b e = cc
word_by false true e = refl
word_by false false e = cc

module _ (funs : Script) (g : Scope) where
  -- ---- arguments

  pub record Given (ts : List Ty) (ys : List Typed) : Type 0 where
    pub agree : ExprsAgree funs g (exprs_of (map expr_of ys))
    pub types : types_of (exprs_of (map expr_of ys)) ≡ ts

  cast_all_are : (ts : List Ty) (xs : List Part) (ys : List Typed) → list_all is_open ts ≡ true → length ts ≡ length xs → cast_all ts xs ≡ Ok ys
      → AllParts funs g xs
      → Given ts ys
  cast_all_are [] [] ys b l e h = settled (Given []) [] ys e (record { agree = tt; types = refl })
  cast_all_are [] (x ∷ xs) ys b l e h = absurd (omega (arith, l))
  cast_all_are (t ∷ ts) [] ys b l e h = absurd (omega (arith, l))
  cast_all_are (t ∷ ts) (x ∷ xs) ys b l e h =
      let a = passed (cast_to t x) _ ys e in
      let others = passed (cast_all ts xs) _ ys a.then' in
      let open' = and_parts (is_open t) (list_all is_open ts) b in
      let first = cast_is funs g t x a.given (part_aim t (open_part t open'.0)) a.first h.0 in
      let rest = cast_all_are ts xs others.given open'.1 (omega (arith, l)) others.first h.1 in
      settled (Given (t ∷ ts)) (a.given ∷ others.given) ys others.then' (record {
        agree = (first.agrees, rest.agree);
        types = ap (λ of. of ∷ types_of (exprs_of (map expr_of others.given))) first.is ∙ ap (λ ofs. t ∷ ofs) rest.types;
      })

  -- ---- calls of a member

  -- a member that may be called
  pub record Callable (sort : MemberKind) (arity number : ℕ) : Type 0 where
    pub kind : (member_in funs.allowed number).kind ≡ sort
    pub built : is_built number ≡ true
    pub opens : Opens funs.allowed number
    pub found : Allowed funs.allowed arity number

  pub callable : (sort : MemberKind) (at arity : ℕ) (found : Option ℕ) (number : ℕ) → wanted funs.allowed sort at found ≡ Ok number
      → (found ≡ Some number → Allowed funs.allowed arity number)
      → Callable sort arity number
  callable sort at arity found number e there =
      let w = wants funs.allowed sort at found number e in
      let a = there w.is in
      record { kind = w.kind; built = open_built funs.allowed number a.is w.opens; opens = w.opens; found = a }

  pub given_to : (sort : MemberKind) (number : ℕ) (xs : List Part) (ys : List Typed) → Callable sort (length xs) number → member_arguments funs.allowed number xs ≡ Ok ys
      → AllParts funs g xs
      → Given (member_in funs.allowed number).params ys
  given_to sort number xs ys c e h = cast_all_are (member_in funs.allowed number).params xs ys c.opens.params c.found.takes e h

  pub agrees_by : (sort : MemberKind) (arity number : ℕ) (ofs : List Ty) → Callable sort arity number → TakesTypes sort (member_in funs.allowed number).params ofs
      → ReceiverIsOf sort (member_in funs.allowed number).owner ofs → MemberAgrees funs sort (member funs.allowed number) ofs (result funs.allowed number)
  agrees_by sort arity number ofs c takes receiver = record {
    member = member_in funs.allowed number;
    is = c.found.is;
    sort = c.kind;
    text = refl;
    built = c.built;
    allowed = c.found.allowed;
    takes = takes;
    receiver = receiver;
    gives = refl;
  }

  pub class_is_reference : (x : Part) (c : ℕ) → out-Ty (type_of_part x) ≡ Ty-F.Class c → IsReference (type_of_part x)
  class_is_reference x c is = reference_by (type_of_part x) (Ty-F.Class c) is tt

  -- a call on a value
  pub instance_is : (access : Access) (at class number : ℕ) (x y : Part) (xs : List Part) → Callable kind.Instance (length xs) number → out-Ty (type_of_part x) ≡ Ty-F.Class class → Receives funs.allowed class number
      → instance_call funs.allowed access at number x xs ≡ Ok y
      → PartIs funs g x → AllParts funs g xs → PartIs funs g y
  instance_is access at class number x y xs c is receives e hx h =
      let a = passed (member_arguments funs.allowed number xs) (λ ys. nullable funs.allowed access at number (instance_node funs.allowed access at number (x.typed ∷ ys))) y e in
      let given = given_to kind.Instance number xs a.given c a.first h in
      let whole = not_nullable (guards access && gives_primitive funs.allowed number) _ at (instance_node funs.allowed access at number (x.typed ∷ a.given)) y a.then' in
      let agrees = agrees_by kind.Instance (length xs) number (type_of (expr_of x.typed) ∷ types_of (exprs_of (map expr_of a.given))) c
      (subst IsReference (sym hx.typed.is) (class_is_reference x class is), given.types)
      (subst (λ of. IsGiven cast.Keep of (ty.Class (member_in funs.allowed number).owner)) (sym (class_by (type_of_part x) class is) ∙ sym hx.typed.is) receives) in
      subst (PartIs funs g) whole.same (pick access a.given whole.holds given agrees)
    where
      pick : (access : Access) (ys : List Typed) → (guards access && gives_primitive funs.allowed number) ≡ false → Given (member_in funs.allowed number).params ys
          → MemberAgrees funs kind.Instance (member funs.allowed number) (type_of (expr_of x.typed) ∷ types_of (exprs_of (map expr_of ys))) (result funs.allowed number)
          → PartIs funs g (instance_node funs.allowed access at number (x.typed ∷ ys))
      pick through.Plain ys whole given agrees =
          part_of funs g at f.Deed _ (result funs.allowed number) c.opens.result
          (node_is funs g at (result funs.allowed number) _ _ (applied_is at (result funs.allowed number) (o.Instance (member funs.allowed number)) (x.typed ∷ ys)) refl ((hx.typed.agrees, given.agree), agrees))
      pick through.Guarded ys whole given agrees =
          part_of funs g at f.Deed _ (result funs.allowed number) c.opens.result
          (node_is funs g at (result funs.allowed number) _ _ (guarded_is at (result funs.allowed number) (o.Instance (member funs.allowed number)) (x.typed ∷ ys)) refl
          (hx.typed.agrees, given.agree, record { sort = tt; agrees = agrees; whole = no_number (result funs.allowed number) whole }))

  -- ---- what is found when the script runs

  -- values that are all of one type
  pub record EachAre (to : Ty) (ys : List Typed) : Type 0 where
    pub agree : ExprsAgree funs g (exprs_of (map expr_of ys))
    pub types : AreAll to (types_of (exprs_of (map expr_of ys)))

  pub each_are : (to : Ty) (xs : List Part) (ys : List Typed) → IsAim to → cast_each to xs ≡ Ok ys → AllParts funs g xs → EachAre to ys
  each_are to [] ys aim e h = settled (EachAre to) [] ys e (record { agree = tt; types = tt })
  each_are to (x ∷ xs) ys aim e h =
      let a = passed (cast_to to x) _ ys e in
      let others = passed (cast_each to xs) _ ys a.then' in
      let first = cast_is funs g to x a.given aim a.first h.0 in
      let rest = each_are to xs others.given aim others.first h.1 in
      settled (EachAre to) (a.given ∷ others.given) ys others.then' (record { agree = (first.agrees, rest.agree); types = (first.is, rest.types) })

  pub references_of : (ofs : List Ty) → AreAll ty.Def ofs → AreReferences ofs
  references_of [] h = tt
  references_of (of ∷ ofs) h = (subst IsReference (sym h.0) def_reference, references_of ofs h.1)

  -- def is no primitive type
  pub def_whole : gives_number ty.Def ≡ false
  def_whole = ap is_primitive_layer def_layer

  -- an operation on a value, which a null receiver leaves out behind `?.`
  pub accessed_part : (access : Access) (form : Form) (at : ℕ) (of : Ty) (operation : Operation) (x : Typed) (ys : List Typed) → IsOfPart of → TypedIs funs g x (type_in x)
      → ExprsAgree funs g (exprs_of (map expr_of ys)) → Applies funs operation (type_of (expr_of x) ∷ types_of (exprs_of (map expr_of ys))) of → IsGuarded operation → gives_number of ≡ false
      → PartIs funs g (part at form (typed at of (accessed access operation (x ∷ ys))))
  accessed_part through.Plain form at of operation x ys b hx h a guarded whole =
      part_of funs g at form _ of b (node_is funs g at of _ _ (applied_is at of operation (x ∷ ys)) refl ((hx.agrees, h), a))
  accessed_part through.Guarded form at of operation x ys b hx h a guarded whole =
      part_of funs g at form _ of b (node_is funs g at of _ _ (guarded_is at of operation (x ∷ ys)) refl (hx.agrees, h, record { sort = guarded; agrees = a; whole = whole }))

  pub def_is_reference : (x : Part) → out-Ty (type_of_part x) ≡ Ty-F.Def → PartIs funs g x → IsReference (type_of (expr_of x.typed))
  def_is_reference x is h = subst IsReference (sym h.typed.is) (reference_by (type_of_part x) Ty-F.Def is tt)

  def_called : (c : Bool) (number : ℕ) (access : Access) (at : ℕ) (name : List ℕ) (x y : Part) (xs : List Part) → (c ≡ false → is_word name ≡ true) → out-Ty (type_of_part x) ≡ Ty-F.Def
      → (if c then refuse number at else bind (cast_each ty.Def xs) (λ ys. accepted (part at f.Deed (typed at ty.Def (accessed access (o.DefCall name) (x.typed ∷ ys)))))) ≡ Ok y
      → PartIs funs g x → AllParts funs g xs → PartIs funs g y
  def_called true number access at name x y xs word is e hx h = cc
  def_called false number access at name x y xs word is e hx h =
      let a = passed (cast_each ty.Def xs) _ y e in
      let given = each_are ty.Def xs a.given def_aim a.first h in
      settled (PartIs funs g) _ y a.then' (accessed_part access f.Deed at ty.Def (o.DefCall name) x.typed a.given def_part hx.typed given.agree
      ((def_is_reference x is hx, references_of _ given.types), refl, word refl) tt def_whole)

  method_by : (l : Ty-F Ty) (access : Access) (at : ℕ) (name : List ℕ) (x y : Part) (xs : List Part) → out-Ty (type_of_part x) ≡ l
      → called_layer funs.allowed l access at name x xs ≡ Ok y
      → PartIs funs g x → AllParts funs g xs → PartIs funs g y
  method_by (Ty-F.Class c) access at name x y xs is e hx h =
      let a = passed (wanted funs.allowed kind.Instance at (member_of funs.allowed c name (length xs))) (λ number. instance_call funs.allowed access at number x xs) y e in
      let found = (wants funs.allowed kind.Instance at (member_of funs.allowed c name (length xs)) a.given a.first).is in
      instance_is access at c a.given x y xs (callable kind.Instance at (length xs) _ a.given a.first (found_allowed funs.allowed c name (length xs) a.given)) is
      (found_receives funs.allowed c name (length xs) a.given found) a.then' hx h
  method_by Ty-F.Def access at name x y xs is e hx h =
      def_called (names_prelude name (length xs) || not (is_word name)) _ access at name x y xs (word_by (names_prelude name (length xs)) (is_word name)) is e hx h
  method_by Ty-F.Void access at name x y xs is e hx h = cc
  method_by Ty-F.Null access at name x y xs is e hx h = cc
  method_by (Ty-F.Prim p) access at name x y xs is e hx h = cc
  method_by (Ty-F.Array u) access at name x y xs is e hx h = cc

  pub method_part : (access : Access) (at : ℕ) (name : List ℕ) (x y : Part) (xs : List Part) → method_of funs.allowed access at name x xs ≡ Ok y → PartIs funs g x
      → AllParts funs g xs → PartIs funs g y
  method_part access at name x y xs e hx h = method_by (out-Ty (type_of_part x)) access at name x y xs refl e hx h

  -- a name of a value
  pub named_read : (c : ℕ) (access : Access) (at : ℕ) (name : List ℕ) (x y : Part) → out-Ty (type_of_part x) ≡ Ty-F.Class c
      → read_named funs.allowed access at name c x ≡ Ok y
      → PartIs funs g x → PartIs funs g y
  named_read c access at name x y is e hx =
      let a = passed (wanted funs.allowed kind.Instance at (getter funs.allowed c name)) (λ number. bind (instance_call funs.allowed access at number x []) (λ y. accepted (plainly y))) y e in
      let b = passed (instance_call funs.allowed access at a.given x []) (λ y. accepted (plainly y)) y a.then' in
      let found = (wants funs.allowed kind.Instance at (getter funs.allowed c name) a.given a.first).is in
      let called = instance_is access at c a.given x b.given [] (callable kind.Instance at 0 _ a.given a.first (getter_allowed funs.allowed c name a.given)) is
      (getter_receives funs.allowed c name a.given found) b.first hx tt in
      settled (PartIs funs g) (plainly b.given) y b.then' (record { typed = called.typed; built = called.built })

  -- a call on a class, `new` and a field
  applied_part : (form : Form) (operation : Operation) (at number : ℕ) (ys : List Typed) → Opens funs.allowed number
      → Given (member_in funs.allowed number).params ys
      → Applies funs operation (types_of (exprs_of (map expr_of ys))) (result funs.allowed number)
      → PartIs funs g (part at form (applied at (result funs.allowed number) operation ys))
  applied_part form operation at number ys opens given applies =
      part_of funs g at form _ (result funs.allowed number) opens.result
      (node_is funs g at (result funs.allowed number) _ _ (applied_is at (result funs.allowed number) operation ys) refl (given.agree, applies))

  static_by : (l : Ty-F Ty) (access : Access) (at : ℕ) (name : List ℕ) (y : Part) (xs : List Part) → static_layer funs.allowed l access at name xs ≡ Ok y
      → AllParts funs g xs → PartIs funs g y
  static_by (Ty-F.Class class) access at name y xs e h =
      let a = passed (wanted funs.allowed kind.Static at (member_of funs.allowed class name (length xs))) (λ number. static_call funs.allowed access at number xs) y e in
      let c = callable kind.Static at (length xs) _ a.given a.first (found_allowed funs.allowed class name (length xs) a.given) in
      let b = passed (member_arguments funs.allowed a.given xs) (λ ys. nullable funs.allowed access at a.given (static_node funs.allowed at a.given ys)) y a.then' in
      let given = given_to kind.Static a.given xs b.given c b.first h in
      let whole = not_nullable (guards access && gives_primitive funs.allowed a.given) _ at (static_node funs.allowed at a.given b.given) y b.then' in
      subst (PartIs funs g) whole.same (applied_part f.Deed (o.Static (member funs.allowed a.given)) at a.given b.given c.opens given (agrees_by kind.Static (length xs) a.given _ c given.types tt))
  static_by Ty-F.Def access at name y xs e h = cc
  static_by Ty-F.Void access at name y xs e h = cc
  static_by Ty-F.Null access at name y xs e h = cc
  static_by (Ty-F.Prim p) access at name y xs e h = cc
  static_by (Ty-F.Array u) access at name y xs e h = cc

  pub static_part : (access : Access) (at : ℕ) (name : List ℕ) (of : Ty) (y : Part) (xs : List Part) → static_of funs.allowed access at name of xs ≡ Ok y
      → AllParts funs g xs → PartIs funs g y
  static_part access at name of y xs e h = static_by (out-Ty of) access at name y xs e h

  new_by : (l : Ty-F Ty) (at : ℕ) (y : Part) (xs : List Part) → new_layer funs.allowed l at xs ≡ Ok y → AllParts funs g xs → PartIs funs g y
  new_by (Ty-F.Class class) at y xs e h =
      let a = passed (wanted funs.allowed kind.Constructor at (own_member funs.allowed class [] (length xs))) (λ number. constructed funs.allowed at number xs) y e in
      let c = callable kind.Constructor at (length xs) _ a.given a.first (own_allowed funs.allowed class [] (length xs) a.given) in
      let b = passed (member_arguments funs.allowed a.given xs) _ y a.then' in
      let given = given_to kind.Constructor a.given xs b.given c b.first h in
      settled (PartIs funs g) _ y b.then' (applied_part f.Deed (o.Constructor (member funs.allowed a.given)) at a.given b.given c.opens given (agrees_by kind.Constructor (length xs) a.given _ c given.types tt))
  new_by Ty-F.Def at y xs e h = cc
  new_by Ty-F.Void at y xs e h = cc
  new_by Ty-F.Null at y xs e h = cc
  new_by (Ty-F.Prim p) at y xs e h = cc
  new_by (Ty-F.Array u) at y xs e h = cc

  pub new_part : (at : ℕ) (of : Ty) (y : Part) (xs : List Part) → new_of funs.allowed at of xs ≡ Ok y → AllParts funs g xs → PartIs funs g y
  new_part at of y xs e h = new_by (out-Ty of) at y xs e h

  field_by : (l : Ty-F Ty) (access : Access) (at : ℕ) (name : List ℕ) (y : Part) → field_layer funs.allowed l access at name ≡ Ok y → PartIs funs g y
  field_by (Ty-F.Class class) access at name y e =
      let a = passed (wanted funs.allowed kind.Field at (member_of funs.allowed class name 0)) (λ number. nullable funs.allowed access at number (field_node funs.allowed at number)) y e in
      let c = callable kind.Field at 0 _ a.given a.first (found_allowed funs.allowed class name 0 a.given) in
      let given = given_to kind.Field a.given [] [] c (no_arguments (member_in funs.allowed a.given).params) tt in
      let whole = not_nullable (guards access && gives_primitive funs.allowed a.given) _ at (field_node funs.allowed at a.given) y a.then' in
      subst (PartIs funs g) whole.same (applied_part f.Other (o.Field (member funs.allowed a.given)) at a.given [] c.opens given (agrees_by kind.Field 0 a.given _ c given.types tt))
    where
      no_arguments : (ts : List Ty) → cast_all ts [] ≡ Ok []
      no_arguments [] = refl
      no_arguments (t ∷ ts) = refl
  field_by Ty-F.Def access at name y e = cc
  field_by Ty-F.Void access at name y e = cc
  field_by Ty-F.Null access at name y e = cc
  field_by (Ty-F.Prim p) access at name y e = cc
  field_by (Ty-F.Array u) access at name y e = cc

  pub field_part : (access : Access) (at : ℕ) (name : List ℕ) (of : Ty) (y : Part) → field_of funs.allowed access at name of ≡ Ok y → PartIs funs g y
  field_part access at name of y e = field_by (out-Ty of) access at name y e
