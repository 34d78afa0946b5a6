-- What is written to in brackets, behind a dot and by a number agrees with its parts.
use Rattle.std.proofs.Common.{◌≡◌, ℕ, Bool, true, false, List, [], ◌∷◌, ◌++◌, length, map, Option, Some, None, Ok, refl, sym, ap, ◌∙◌, subst, codes, ◌⊎◌, inl, inr}
use Rattle.std.specs.Prelude.{slice_get, if◌then◌else◌}
use Rattle.std.proofs.lemmas.Option.{get_or_from_slice_get}
use Rattle.pl_types.specs.declared.classes.TheConstants.{INTEGER}
use Rattle.pl_types.specs.declared.conversion.Cast.TheVariants as cast
use Rattle.pl_types.specs.declared.primitive.Primitive.TheVariants as prim
use Rattle.pl_types.specs.declared.ty.Ty.{Ty, out-Ty}
use Rattle.pl_types.specs.declared.ty.Ty.TheVariants as t
use Rattle.pl_types.specs.declared.ty.Ty.TheOpen.{Ty-F}
use Rattle.pl_types.specs.Classes.{class_is_below}
use Rattle.allowlist.specs.declared.member.MemberKind.TheVariants as kind
use Rattle.allowlist.specs.declared.member.MemberType.{MemberType}
use Rattle.allowlist.specs.Allow.{AllowList, member_of, members_in}
use Rattle.allowlist.specs.Catalogue.{constructor}
use Rattle.allowlist.specs.Index.{member_in}
use Rattle.allowlist.proofs.Unique.{found_is_allowed, found_above}
use Rattle.typed_tree.specs.declared.operation.Operation.{Operation}
use Rattle.typed_tree.specs.declared.operation.Operation.TheVariants as o
use Rattle.typed_tree.specs.declared.operation.Operator.TheVariants as operator
use Rattle.typed_tree.specs.declared.typed.Typed.{Typed}
use Rattle.typing_rules.specs.declared.part.Part.{Part}
use Rattle.typing_rules.specs.declared.part.Place.{Place}
use Rattle.typing_rules.specs.declared.part.Place.TheVariants as place
use Rattle.typing_rules.specs.Outcomes.{Out, refuse, bind}
use Rattle.typing_rules.specs.Rules.Nodes.{type_of_part}
use Rattle.typing_rules.specs.Rules.Members.{wanted, getter, capital, member, result}
use Rattle.typing_rules.specs.Rules.Accesses.{is_list, is_map, position, boxed_position, key, get_of, text_part, number_at, is_length}
use Rattle.typing_rules.specs.Rules.Locations.{reading_if, held, read_if, instance_if, given_by, held_by, in_array, set_of, put_of, in_list, in_map, in_def, in_layer, index_location, setter, taken_by, by_accessors, name_in_def, name_layer, name_location, number_in_list, number_layer, number_location}
use Rattle.source_typing.specs.Tree.{type_of}
use Rattle.source_typing.specs.Programs.{exprs_of, expr_of}
use Rattle.source_typing.specs.Types.{IsReference, IsGiven}
use Rattle.source_typing.specs.Agreeing.{Known as Script, Scope, types_of, MemberAgrees, Applies, Writes, IsPlace, ExprsAgree}
use Rattle.typing_soundness.proofs.Types.{IsBuilt, def_built, array_by, class_by, element_built, built_named, def_reference, class_reference, reference_by}
use Rattle.typing_soundness.proofs.Parts.{passed, accepted, settled, TypedIs, PartIs}
use Rattle.typing_soundness.proofs.Names.{ReadsBy, PlaceIs}
use Rattle.typing_soundness.proofs.Members.{wants, Callable, callable, found_allowed, found_receives, getter_allowed, getter_receives, either_found, Receives, agrees_by, def_is_reference}
use Rattle.typing_soundness.proofs.Accesses.{position_is, key_is, boxed_position_is, of_type, two_types, class_small, text_key, number_is}
use Rattle.typing_soundness.proofs.Rows.{get_gives, map_get_takes, list_get_takes, set_takes, put_takes, accessors_agree, setter_built, first_taken}

-- ---- a member that is found, by its row

record Row (allow : AllowList) (class : ℕ) (name : List ℕ) (arity number : ℕ) : Type 0 where
  is : slice_get (members_in allow) number ≡ Some (member_in allow number)
  named : (member_in allow number).name ≡ name
  takes : length (member_in allow number).params ≡ arity
  below : class_is_below class (member_in allow number).owner ≡ true

abbrev same_member : (allow : AllowList) (number : ℕ) (m : MemberType) → slice_get (members_in allow) number ≡ Some m → member_in allow number ≡ m
same_member allow number m is = get_or_from_slice_get (members_in allow) number m (constructor 0 []) is

module _ (funs : Script) where
  row_of : (class : ℕ) (name : List ℕ) (arity number : ℕ) → member_of funs.allowed class name arity ≡ Some number → Row funs.allowed class name arity number
  row_of class name arity number e =
      let found = (found_is_allowed funs.allowed class name arity number e).1 in
      let above = found_above funs.allowed class name arity number e in
      let same = same_member funs.allowed number found.0 found.1 in
      record {
        is = found.1 ∙ ap Some (sym same);
        named = ap (λ (m : MemberType). m.name) same ∙ found.2;
        takes = ap (λ (m : MemberType). length m.params) same ∙ found.3;
        below = subst (λ (m : MemberType). class_is_below class m.owner ≡ true) (sym (same_member funs.allowed number above.0 above.1)) above.2;
      }

  module _ (g : Scope) where
    abbrev types_in : List Typed → List Ty
    types_in parts = types_of (exprs_of (map expr_of parts))

    -- ---- what one operation reads and another writes

    held_reads : (by : Option ℕ) (read : Operation) (ofs : List Ty) (of : Ty) → Applies funs read ofs of → ReadsBy funs by (reading_if by read) ofs of of
    held_reads None read ofs of a = tt
    held_reads (Some at) read ofs of a = (a, refl)

    held_is : (by : Option ℕ) (read write : Operation) (parts : List Typed) (of : Ty) → ExprsAgree funs g (exprs_of (map expr_of parts)) → IsPlace (types_in parts)
        → Applies funs read (types_in parts) of → Writes funs write (types_in parts) of → IsBuilt of → PlaceIs funs by g (held by read write parts of of)
    held_is by read write parts of h short a w b = record { target = record { agree = h; short = short; reads = held_reads by read (types_in parts) of a; writes = w }; built = b }

    -- what a member reads, where one does: what it gives is of the type that is written
    abbrev ReadBy : Option ℕ → List Ty → Ty → Type 0
    ReadBy None ofs of = Unit {0}
    ReadBy (Some number) ofs of = MemberAgrees funs kind.Instance (member funs.allowed number) ofs (result funs.allowed number) × (result funs.allowed number ≡ of)

    -- something is read where it is asked for
    abbrev IsAsked : Option ℕ → Option ℕ → Type 0
    IsAsked None read = Unit {0}
    IsAsked (Some at) None = ⊥
    IsAsked (Some at) (Some number) = Unit {0}

    member_reads : (by read : Option ℕ) (ofs : List Ty) (of : Ty) → IsAsked by read → ReadBy read ofs of → ReadsBy funs by (instance_if funs.allowed read) ofs (given_by funs.allowed read of) of
    member_reads None read ofs of asked h = tt
    member_reads (Some at) None ofs of asked h = absurd asked
    member_reads (Some at) (Some number) ofs of asked h = (h.0, h.1)

    held_by_is : (by read : Option ℕ) (write : ℕ) (parts : List Typed) (of : Ty) → ExprsAgree funs g (exprs_of (map expr_of parts)) → IsPlace (types_in parts) → IsAsked by read
        → ReadBy read (types_in parts) of → MemberAgrees funs kind.Instance (member funs.allowed write) (types_in parts ++ of ∷ []) (result funs.allowed write) → IsBuilt of
        → PlaceIs funs by g (held_by funs.allowed read write parts of)
    held_by_is by read write parts of h short asked r w b = record {
      target = record { agree = h; short = short; reads = member_reads by read (types_in parts) of asked r; writes = record { given = result funs.allowed write; agrees = w } };
      built = b;
    }

    -- the member that reads, where something is read
    record ReadIs (by : Option ℕ) (found : Out ℕ) (read : Option ℕ) : Type 0 where
      asked : IsAsked by read
      each : (number : ℕ) → read ≡ Some number → found ≡ Ok number

    read_is : (by : Option ℕ) (found : Out ℕ) (read : Option ℕ) → read_if by found ≡ Ok read → ReadIs by found read
    read_is None found read e = settled (ReadIs None found) None read e (record { asked = tt; each = λ number is. cc })
    read_is (Some at) found read e =
        let a = passed found (λ (number : ℕ). accepted (Some number)) read e in
        settled (ReadIs (Some at) found) (Some a.given) read a.then' (record { asked = tt; each = λ number is. let same : a.given ≡ number = cc in a.first ∙ ap (λ (n : ℕ). Ok n) same })

    read_by : (read : Option ℕ) (ofs : List Ty) (of : Ty) → ((number : ℕ) → read ≡ Some number → MemberAgrees funs kind.Instance (member funs.allowed number) ofs (result funs.allowed number) × (result funs.allowed number ≡ of))
        → ReadBy read ofs of
    read_by None ofs of h = tt
    read_by (Some number) ofs of h = h number refl

    -- ---- members of a class, with their arguments

    -- a member that is found of a receiver's class takes it, and these types
    agrees_on : (class arity number : ℕ) (x : Part) (ofs : List Ty) → Callable funs g kind.Instance arity number → out-Ty (type_of_part x) ≡ Ty-F.Class class → Receives funs.allowed class number → PartIs funs g x
        → (member_in funs.allowed number).params ≡ ofs → MemberAgrees funs kind.Instance (member funs.allowed number) (type_of (expr_of x.typed) ∷ ofs) (result funs.allowed number)
    agrees_on class arity number x ofs c is receives hx params =
        agrees_by funs g kind.Instance arity number (type_of (expr_of x.typed) ∷ ofs) c
        (subst IsReference (sym hx.typed.is) (reference_by (type_of_part x) (Ty-F.Class class) is tt), sym params)
        (subst (λ of. IsGiven cast.Keep of (t.Class (member_in funs.allowed number).owner)) (sym (class_by (type_of_part x) class is) ∙ sym hx.typed.is) receives)

    record Found (class : ℕ) (name : List ℕ) (arity number : ℕ) : Type 0 where
      row : Row funs.allowed class name arity number
      callable : Callable funs g kind.Instance arity number
      receives : Receives funs.allowed class number

    found_by : (at class : ℕ) (name : List ℕ) (arity number : ℕ) → wanted funs.allowed kind.Instance at (member_of funs.allowed class name arity) ≡ Ok number → Found class name arity number
    found_by at class name arity number e =
        let found = (wants funs.allowed kind.Instance at (member_of funs.allowed class name arity) number e).is in
        record {
          row = row_of class name arity number found;
          callable = callable funs g kind.Instance at arity _ number e (found_allowed funs.allowed class name arity number);
          receives = found_receives funs.allowed class name arity number found;
        }

    -- ---- elements in brackets

    in_array_is : (by : Option ℕ) (u : Ty) (x i : Part) (p : Place) → out-Ty (type_of_part x) ≡ Ty-F.Array u → in_array by u x i ≡ Ok p → PartIs funs g x → PartIs funs g i → PlaceIs funs by g p
    in_array_is by u x i p is e hx hi =
        let a = passed (position by i) _ p e in
        let at = position_is funs g by i a.given a.first hi in
        let array = of_type funs g x (t.Array u) (array_by (type_of_part x) u is) hx in
        let built = element_built (type_of_part x) u is hx.built in
        settled (PlaceIs funs by g) _ p a.then'
        (held_is by (o.Operator operator.Element) (o.Operator operator.PutElement) (x.typed ∷ a.given ∷ []) u (array.agrees, (at.agrees, tt)) tt
        (two_types funs g (λ ofs. Applies funs (o.Operator operator.Element) ofs u) _ _ (t.Array u) (t.Prim prim.Int) array.is at.is (refl, refl, built_named u built))
        (two_types funs g (λ ofs. Writes funs (o.Operator operator.PutElement) ofs u) _ _ (t.Array u) (t.Prim prim.Int) array.is at.is (refl, refl, built_named u built)) built)

    def_held : (by : Option ℕ) (x : Part) (y : Typed) (of : Ty) → IsReference (type_of_part x) → PartIs funs g x → TypedIs funs g y of → IsReference of
        → PlaceIs funs by g (held by o.DefIndex o.PutDefIndex (x.typed ∷ y ∷ []) t.Def t.Def)
    def_held by x y of r hx hy r' =
        held_is by o.DefIndex o.PutDefIndex (x.typed ∷ y ∷ []) t.Def (hx.typed.agrees, (hy.agrees, tt)) tt
        (two_types funs g (λ ofs. Applies funs o.DefIndex ofs t.Def) _ _ (type_of_part x) of hx.typed.is hy.is ((r, r'), refl))
        (two_types funs g (λ ofs. Writes funs o.PutDefIndex ofs t.Def) _ _ (type_of_part x) of hx.typed.is hy.is ((r, r'), def_reference)) def_built

    in_list_is : (by : Option ℕ) (at c : ℕ) (x i : Part) (p : Place) → out-Ty (type_of_part x) ≡ Ty-F.Class c → in_list funs.allowed by at c x i ≡ Ok p → PartIs funs g x → PartIs funs g i
        → PlaceIs funs by g p
    in_list_is by at c x i p is e hx hi =
        let a = passed (read_if by (get_of funs.allowed at c)) _ p e in
        let b = passed (set_of funs.allowed at c) _ p a.then' in
        let d = passed (boxed_position by i) _ p b.then' in
        settled (PlaceIs funs by g) _ p d.then'
        (def_held by x d.given (t.Class INTEGER) (reference_by (type_of_part x) (Ty-F.Class c) is tt) hx (boxed_position_is funs g by i d.given d.first hi) (class_reference INTEGER))

    in_def_is : (by : Option ℕ) (x i : Part) (p : Place) → out-Ty (type_of_part x) ≡ Ty-F.Def → in_def by x i ≡ Ok p → PartIs funs g x → PartIs funs g i → PlaceIs funs by g p
    in_def_is by x i p is e hx hi =
        let a = passed (key by i) _ p e in
        settled (PlaceIs funs by g) _ p a.then' (def_held by x a.given t.Def (reference_by (type_of_part x) Ty-F.Def is tt) hx (key_is funs g by i a.given a.first hi) def_reference)

    -- the second type of two
    second : (P : List Ty → Type 0) (a b q : Ty) → b ≡ q → P (a ∷ q ∷ []) → P (a ∷ b ∷ [])
    second P a b q e h = subst (λ (b : Ty). P (a ∷ b ∷ [])) (sym e) h

    in_map_is : (by : Option ℕ) (at c : ℕ) (x i : Part) (p : Place) → out-Ty (type_of_part x) ≡ Ty-F.Class c → is_map c ≡ true → in_map funs.allowed by at c x i ≡ Ok p → PartIs funs g x
        → PartIs funs g i → PlaceIs funs by g p
    in_map_is by at c x i p is maps e hx hi =
        let a = passed (read_if by (get_of funs.allowed at c)) _ p e in
        let b = passed (put_of funs.allowed at c) _ p a.then' in
        let d = passed (key by i) _ p b.then' in
        let reads = read_is by (get_of funs.allowed at c) a.given a.first in
        let put = found_by at c (codes "put") 2 b.given b.first in
        let index = key_is funs g by i d.given d.first hi in
        let small = class_small funs g x c is hx in
        settled (PlaceIs funs by g) _ p d.then'
        (held_by_is by a.given b.given (x.typed ∷ d.given ∷ []) t.Def (hx.typed.agrees, (index.agrees, tt)) tt reads.asked
        (read_by a.given (types_in (x.typed ∷ d.given ∷ [])) t.Def (λ number it.
        let get = found_by at c (codes "get") 1 number (reads.each number it) in (
          second (λ ofs. MemberAgrees funs kind.Instance (member funs.allowed number) ofs (result funs.allowed number)) _ _ t.Def index.is
              (agrees_on c 1 number x (t.Def ∷ []) get.callable is get.receives hx (map_get_takes c number (member_in funs.allowed number) get.row.is get.row.named get.row.takes small maps get.row.below)),
          get_gives number (member_in funs.allowed number) get.row.is get.row.named get.row.takes,
        )))
        (second (λ ofs. MemberAgrees funs kind.Instance (member funs.allowed b.given) (ofs ++ t.Def ∷ []) (result funs.allowed b.given)) _ _ t.Def index.is
        (agrees_on c 2 b.given x (t.Def ∷ t.Def ∷ []) put.callable is put.receives hx (put_takes b.given (member_in funs.allowed b.given) put.row.is put.row.named put.row.takes)))
        def_built)

    in_class_is : (maps lists : Bool) (number : ℕ) (by : Option ℕ) (at c : ℕ) (x i : Part) (p : Place) → is_map c ≡ maps → out-Ty (type_of_part x) ≡ Ty-F.Class c
        → (if maps then in_map funs.allowed by at c x i else (if lists then in_list funs.allowed by at c x i else refuse number at)) ≡ Ok p → PartIs funs g x → PartIs funs g i → PlaceIs funs by g p
    in_class_is true lists number by at c x i p maps is e hx hi = in_map_is by at c x i p is maps e hx hi
    in_class_is false true number by at c x i p maps is e hx hi = in_list_is by at c x i p is e hx hi
    in_class_is false false number by at c x i p maps is e hx hi = cc

    in_by : (l : Ty-F Ty) (by : Option ℕ) (at : ℕ) (x i : Part) (p : Place) → out-Ty (type_of_part x) ≡ l → in_layer funs.allowed l by at x i ≡ Ok p → PartIs funs g x → PartIs funs g i → PlaceIs funs by g p
    in_by (Ty-F.Array u) by at x i p is e hx hi = in_array_is by u x i p is e hx hi
    in_by (Ty-F.Class c) by at x i p is e hx hi = in_class_is (is_map c) (is_list c) _ by at c x i p refl is e hx hi
    in_by Ty-F.Def by at x i p is e hx hi = in_def_is by x i p is e hx hi
    in_by Ty-F.Void by at x i p is e hx hi = cc
    in_by Ty-F.Null by at x i p is e hx hi = cc
    in_by (Ty-F.Prim q) by at x i p is e hx hi = cc

    pub index_place : (by : Option ℕ) (at : ℕ) (x i : Part) (p : Place) → index_location funs.allowed by at x i ≡ Ok p → PartIs funs g x → PartIs funs g i → PlaceIs funs by g p
    index_place by at x i p e hx hi = in_by (out-Ty (type_of_part x)) by at x i p refl e hx hi

    -- ---- names

    -- a getter is found by `get` or by `is`
    getter_row : (c : ℕ) (name : List ℕ) (number : ℕ) → getter funs.allowed c name ≡ Some number
        → (slice_get (members_in funs.allowed) number ≡ Some (member_in funs.allowed number)) × (((member_in funs.allowed number).name ≡ codes "get" ++ capital name) ⊎ ((member_in funs.allowed number).name ≡ codes "is" ++ capital name))
        × (length (member_in funs.allowed number).params ≡ 0)
    getter_row c name number e = pick (either_found _ _ number e)
      where
        pick : (member_of funs.allowed c (codes "get" ++ capital name) 0 ≡ Some number) ⊎ (member_of funs.allowed c (codes "is" ++ capital name) 0 ≡ Some number)
            → (slice_get (members_in funs.allowed) number ≡ Some (member_in funs.allowed number)) × (((member_in funs.allowed number).name ≡ codes "get" ++ capital name) ⊎ ((member_in funs.allowed number).name ≡ codes "is" ++ capital name))
            × (length (member_in funs.allowed number).params ≡ 0)
        pick (inl e) = let row = row_of c (codes "get" ++ capital name) 0 number e in (row.is, inl row.named, row.takes)
        pick (inr e) = let row = row_of c (codes "is" ++ capital name) 0 number e in (row.is, inr row.named, row.takes)

    none_taken : (ofs : List Ty) → length ofs ≡ 0 → ofs ≡ []
    none_taken [] h = refl
    none_taken (of ∷ ofs) h = cc

    accessors_are : (by : Option ℕ) (at : ℕ) (name : List ℕ) (c : ℕ) (x : Part) (p : Place) → out-Ty (type_of_part x) ≡ Ty-F.Class c → by_accessors funs.allowed by at name c x ≡ Ok p → PartIs funs g x
        → PlaceIs funs by g p
    accessors_are by at name c x p is e hx =
        let a = passed (read_if by (wanted funs.allowed kind.Instance at (getter funs.allowed c name))) _ p e in
        let b = passed (wanted funs.allowed kind.Instance at (setter funs.allowed c name)) _ p a.then' in
        let reads = read_is by (wanted funs.allowed kind.Instance at (getter funs.allowed c name)) a.given a.first in
        let set = found_by at c (codes "set" ++ capital name) 1 b.given b.first in
        let takes : (member_in funs.allowed b.given).params ≡ taken_by funs.allowed b.given ∷ [] = first_taken (member_in funs.allowed b.given).params set.row.takes in
        settled (PlaceIs funs by g) _ p b.then'
        (held_by_is by a.given b.given (x.typed ∷ []) (taken_by funs.allowed b.given) (hx.typed.agrees, tt) tt reads.asked
        (read_by a.given (types_in (x.typed ∷ [])) (taken_by funs.allowed b.given) (λ number it.
        let w = wants funs.allowed kind.Instance at (getter funs.allowed c name) number (reads.each number it) in
        let row = getter_row c name number w.is in (
          agrees_on c 0 number x [] (callable funs g kind.Instance at 0 _ number (reads.each number it) (getter_allowed funs.allowed c name number)) is (getter_receives funs.allowed c name number w.is) hx
              (none_taken (member_in funs.allowed number).params row.2),
          accessors_agree (capital name) number b.given (member_in funs.allowed number) (member_in funs.allowed b.given) row.0 set.row.is row.1 row.2 set.row.named set.row.takes,
        )))
        (agrees_on c 1 b.given x (taken_by funs.allowed b.given ∷ []) set.callable is set.receives hx takes)
        (setter_built (capital name) b.given (member_in funs.allowed b.given) set.row.is set.row.named set.row.takes))

    class_named : (maps : Bool) (c : ℕ) (by : Option ℕ) (at : ℕ) (name : List ℕ) (x : Part) (p : Place) → is_map c ≡ maps → out-Ty (type_of_part x) ≡ Ty-F.Class c
        → (if maps then in_map funs.allowed by at c x (text_part at name) else by_accessors funs.allowed by at name c x) ≡ Ok p → PartIs funs g x → PlaceIs funs by g p
    class_named true c by at name x p maps is e hx = in_map_is by at c x (text_part at name) p is maps e hx (text_key funs g at name)
    class_named false c by at name x p maps is e hx = accessors_are by at name c x p is e hx

    array_named : (c : Bool) (by : Option ℕ) (number at : ℕ) (p : Place) → (if c then accepted place.Fixed else refuse number at) ≡ accepted p → PlaceIs funs by g p
    array_named true by number at p e = settled (PlaceIs funs by g) place.Fixed p e tt
    array_named false by number at p e = cc

    def_named : (by : Option ℕ) (name : List ℕ) (x : Part) (p : Place) → out-Ty (type_of_part x) ≡ Ty-F.Def → accepted (name_in_def by name x) ≡ accepted p → PartIs funs g x → PlaceIs funs by g p
    def_named by name x p is e hx =
        let receiver = def_is_reference funs g x is hx in
        settled (PlaceIs funs by g) _ p e
        (held_is by (o.DefName name) (o.PutDefName name) (x.typed ∷ []) t.Def (hx.typed.agrees, tt) tt (receiver, refl) (receiver, def_reference) def_built)

    name_by : (l : Ty-F Ty) (by : Option ℕ) (at : ℕ) (name : List ℕ) (x : Part) (p : Place) → out-Ty (type_of_part x) ≡ l → name_layer funs.allowed l by at name x ≡ Ok p → PartIs funs g x → PlaceIs funs by g p
    name_by (Ty-F.Class c) by at name x p is e hx = class_named (is_map c) c by at name x p refl is e hx
    name_by (Ty-F.Array u) by at name x p is e hx = array_named (is_length name) by _ at p e
    name_by Ty-F.Def by at name x p is e hx = def_named by name x p is e hx
    name_by Ty-F.Void by at name x p is e hx = cc
    name_by Ty-F.Null by at name x p is e hx = cc
    name_by (Ty-F.Prim q) by at name x p is e hx = cc

    pub name_place : (by : Option ℕ) (at : ℕ) (name : List ℕ) (x : Part) (p : Place) → name_location funs.allowed by at name x ≡ Ok p → PartIs funs g x → PlaceIs funs by g p
    name_place by at name x p e hx = name_by (out-Ty (type_of_part x)) by at name x p refl e hx

    -- ---- numbers

    number_in_list_is : (by : Option ℕ) (at c : ℕ) (x i : Part) (p : Place) → out-Ty (type_of_part x) ≡ Ty-F.Class c → is_list c ≡ true → number_in_list funs.allowed by at c x i ≡ Ok p → PartIs funs g x
        → PartIs funs g i → PlaceIs funs by g p
    number_in_list_is by at c x i p is lists e hx hi =
        let a = passed (read_if by (get_of funs.allowed at c)) _ p e in
        let b = passed (set_of funs.allowed at c) _ p a.then' in
        let d = passed (position by i) _ p b.then' in
        let reads = read_is by (get_of funs.allowed at c) a.given a.first in
        let set = found_by at c (codes "set") 2 b.given b.first in
        let index = position_is funs g by i d.given d.first hi in
        let small = class_small funs g x c is hx in
        settled (PlaceIs funs by g) _ p d.then'
        (held_by_is by a.given b.given (x.typed ∷ d.given ∷ []) t.Def (hx.typed.agrees, (index.agrees, tt)) tt reads.asked
        (read_by a.given (types_in (x.typed ∷ d.given ∷ [])) t.Def (λ number it.
        let get = found_by at c (codes "get") 1 number (reads.each number it) in (
          second (λ ofs. MemberAgrees funs kind.Instance (member funs.allowed number) ofs (result funs.allowed number)) _ _ (t.Prim prim.Int) index.is
              (agrees_on c 1 number x (t.Prim prim.Int ∷ []) get.callable is get.receives hx (list_get_takes c number (member_in funs.allowed number) get.row.is get.row.named get.row.takes small lists get.row.below)),
          get_gives number (member_in funs.allowed number) get.row.is get.row.named get.row.takes,
        )))
        (second (λ ofs. MemberAgrees funs kind.Instance (member funs.allowed b.given) (ofs ++ t.Def ∷ []) (result funs.allowed b.given)) _ _ (t.Prim prim.Int) index.is
        (agrees_on c 2 b.given x (t.Prim prim.Int ∷ t.Def ∷ []) set.callable is set.receives hx (set_takes b.given (member_in funs.allowed b.given) set.row.is set.row.named set.row.takes)))
        def_built)

    class_numbered : (maps lists : Bool) (number c : ℕ) (by : Option ℕ) (at : ℕ) (digits : List ℕ) (x : Part) (p : Place) → is_map c ≡ maps → is_list c ≡ lists → out-Ty (type_of_part x) ≡ Ty-F.Class c
        → (if maps then in_map funs.allowed by at c x (text_part at digits)
        else (if lists then bind (number_at at digits) (λ i. number_in_list funs.allowed by at c x i) else refuse number at)) ≡ Ok p → PartIs funs g x → PlaceIs funs by g p
    class_numbered true lists number c by at digits x p maps in_lists is e hx = in_map_is by at c x (text_part at digits) p is maps e hx (text_key funs g at digits)
    class_numbered false true number c by at digits x p maps in_lists is e hx =
        let a = passed (number_at at digits) (λ i. number_in_list funs.allowed by at c x i) p e in
        number_in_list_is by at c x a.given p is in_lists a.then' hx (number_is funs g at digits a.given a.first)
    class_numbered false false number c by at digits x p maps in_lists is e hx = cc

    number_by : (l : Ty-F Ty) (by : Option ℕ) (at : ℕ) (digits : List ℕ) (x : Part) (p : Place) → out-Ty (type_of_part x) ≡ l → number_layer funs.allowed l by at digits x ≡ Ok p → PartIs funs g x
        → PlaceIs funs by g p
    number_by (Ty-F.Class c) by at digits x p is e hx = class_numbered (is_map c) (is_list c) _ c by at digits x p refl refl is e hx
    number_by Ty-F.Def by at digits x p is e hx = def_named by digits x p is e hx
    number_by Ty-F.Void by at digits x p is e hx = cc
    number_by Ty-F.Null by at digits x p is e hx = cc
    number_by (Ty-F.Prim q) by at digits x p is e hx = cc
    number_by (Ty-F.Array u) by at digits x p is e hx = cc

    pub number_place : (by : Option ℕ) (at : ℕ) (digits : List ℕ) (x : Part) (p : Place) → number_location funs.allowed by at digits x ≡ Ok p → PartIs funs g x → PlaceIs funs by g p
    number_place by at digits x p e hx = number_by (out-Ty (type_of_part x)) by at digits x p refl e hx
