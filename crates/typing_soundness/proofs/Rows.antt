-- The members by which elements are read and written, each row of the catalogue tested.
use Rattle.std.proofs.Common.{◌≡◌, ℕ, ◌<◌, ◌==◌, Bool, true, false, not, ◌&&◌, ◌||◌, List, [], ◌∷◌, ◌++◌, length, Some, refl, sym, ap, ◌∙◌, subst, codes, ◌⊎◌, inl, inr, eqb-true, slice_get, arith}
use Rattle.std.specs.Str.{bytes_eq}
use Rattle.std.proofs.lemmas.Bool.{and_parts, and_from, or_cases, agree_below, agree_below_at, false≢true, eq-eqb}
use Rattle.std.proofs.lemmas.Slice.Eq.{bytes_eq-Decides}
use Rattle.pl_types.specs.declared.classes.TheConstants.{LIST, MAP}
use Rattle.pl_types.specs.declared.primitive.Primitive.TheVariants as prim
use Rattle.pl_types.specs.declared.ty.Ty.{Ty, out-Ty}
use Rattle.pl_types.specs.declared.ty.Ty.TheVariants as t
use Rattle.pl_types.specs.declared.ty.Ty.TheOpen.{Ty-F}
use Rattle.pl_types.specs.Classes.{class_is_below, lineage_of, parents_of, class_row, class_table}
use Rattle.allowlist.specs.declared.member.MemberType.{MemberType}
use Rattle.allowlist.specs.Catalogue.{catalogue}
use Rattle.source_typing.proofs.Owners.{holds_of_all, holds_at, if_then, then_holds}
use Rattle.typing_rules.specs.Rules.Accesses.{is_list, is_map}
use Rattle.typing_rules.specs.Rules.Locations.{first_of}
use Rattle.typing_soundness.proofs.Types.{IsBuilt, prim_built, def_built, def_by, prim_by}

-- ---- types, as tests

abbrev def_test : Ty-F Ty → Bool
def_test Ty-F.Def = true
def_test other = false

abbrev is_def : Ty → Bool
is_def of = def_test (out-Ty of)

abbrev int_test : Ty-F Ty → Bool
int_test (Ty-F.Prim prim.Int) = true
int_test other = false

abbrev is_int : Ty → Bool
is_int of = int_test (out-Ty of)

def_found : (of : Ty) → is_def of ≡ true → of ≡ t.Def
def_found of h = by_layer (out-Ty of) refl h
  where
    by_layer : (l : Ty-F Ty) → out-Ty of ≡ l → def_test l ≡ true → of ≡ t.Def
    by_layer Ty-F.Def e h = def_by of e
    by_layer l e h = cc

int_found : (of : Ty) → is_int of ≡ true → of ≡ t.Prim prim.Int
int_found of h = by_layer (out-Ty of) refl h
  where
    by_layer : (l : Ty-F Ty) → out-Ty of ≡ l → int_test l ≡ true → of ≡ t.Prim prim.Int
    by_layer (Ty-F.Prim prim.Int) e h = prim_by of prim.Int e
    by_layer l e h = cc

abbrev takes_def : List Ty → Bool
takes_def (a ∷ []) = is_def a
takes_def others = false

abbrev takes_int : List Ty → Bool
takes_int (a ∷ []) = is_int a
takes_int others = false

abbrev takes_defs : List Ty → Bool
takes_defs (a ∷ b ∷ []) = is_def a && is_def b
takes_defs others = false

abbrev takes_int_def : List Ty → Bool
takes_int_def (a ∷ b ∷ []) = is_int a && is_def b
takes_int_def others = false

one : (a b : Ty) → a ≡ b → a ∷ [] ≡ b ∷ []
one a b e = ap (λ (x : Ty). x ∷ []) e

def_taken : (ofs : List Ty) → takes_def ofs ≡ true → ofs ≡ t.Def ∷ []
def_taken [] h = cc
def_taken (a ∷ []) h = one a t.Def (def_found a h)
def_taken (a ∷ b ∷ ofs) h = cc

int_taken : (ofs : List Ty) → takes_int ofs ≡ true → ofs ≡ t.Prim prim.Int ∷ []
int_taken [] h = cc
int_taken (a ∷ []) h = one a (t.Prim prim.Int) (int_found a h)
int_taken (a ∷ b ∷ ofs) h = cc

two : (a b c d : Ty) → a ≡ c → b ≡ d → a ∷ b ∷ [] ≡ c ∷ d ∷ []
two a b c d e g = ap (λ (x : Ty). x ∷ b ∷ []) e ∙ ap (λ (y : Ty). c ∷ y ∷ []) g

defs_taken : (ofs : List Ty) → takes_defs ofs ≡ true → ofs ≡ t.Def ∷ t.Def ∷ []
defs_taken [] h = cc
defs_taken (a ∷ []) h = cc
defs_taken (a ∷ b ∷ []) h = let both = and_parts (is_def a) (is_def b) h in two a b t.Def t.Def (def_found a both.0) (def_found b both.1)
defs_taken (a ∷ b ∷ c ∷ ofs) h = cc

int_def_taken : (ofs : List Ty) → takes_int_def ofs ≡ true → ofs ≡ t.Prim prim.Int ∷ t.Def ∷ []
int_def_taken [] h = cc
int_def_taken (a ∷ []) h = cc
int_def_taken (a ∷ b ∷ []) h = let both = and_parts (is_int a) (is_def b) h in two a b (t.Prim prim.Int) t.Def (int_found a both.0) (def_found b both.1)
int_def_taken (a ∷ b ∷ c ∷ ofs) h = cc

-- ---- the rows

abbrev called : List ℕ → ℕ → MemberType → Bool
called name arity m = bytes_eq m.name name && (length m.params == arity)

pub called_so : (name : List ℕ) (arity : ℕ) (m : MemberType) → m.name ≡ name → length m.params ≡ arity → called name arity m ≡ true
called_so name arity m e l = and_from (bytes_eq m.name name) (length m.params == arity) ((bytes_eq-Decides m.name name).1 e) (eq-eqb (length m.params) arity l)

abbrev get_row : ℕ → MemberType → Bool
get_row n m = if_then (called (codes "get") 1 m) (is_def m.result && (((m.owner == LIST) && takes_int m.params) || ((m.owner == MAP) && takes_def m.params)))

abbrev set_row : ℕ → MemberType → Bool
set_row n m = if_then (called (codes "set") 2 m) (takes_int_def m.params)

abbrev put_row : ℕ → MemberType → Bool
put_row n m = if_then (called (codes "put") 2 m) (takes_defs m.params)

get_rows : holds_of_all get_row ≡ true
unfolding catalogue out-Ty denote.Hole.Carrier.out
get_rows = refl

set_rows : holds_of_all set_row ≡ true
unfolding catalogue out-Ty denote.Hole.Carrier.out
set_rows = refl

put_rows : holds_of_all put_row ≡ true
unfolding catalogue out-Ty denote.Hole.Carrier.out
put_rows = refl

-- ---- no class is both a list's and a map's

abbrev class_row_test : ℕ → Bool
class_row_test c = if_then (is_map c) (not (class_is_below c LIST)) && if_then (is_list c) (not (class_is_below c MAP))

class_rows : agree_below class_row_test (λ c. true) 55 ≡ true
unfolding class_is_below lineage_of parents_of class_row class_table
class_rows = refl

class_apart : (c : ℕ) → c < 55 → class_row_test c ≡ true
class_apart c h = agree_below_at class_row_test (λ c. true) 55 c class_rows h

opposite : (b : Bool) → not b ≡ true → b ≡ true → ⊥
opposite true h e = false≢true h
opposite false h e = false≢true e

-- ---- what is found by a name, for a class

pub get_gives : (n : ℕ) (m : MemberType) → slice_get catalogue n ≡ Some m → m.name ≡ codes "get" → length m.params ≡ 1 → m.result ≡ t.Def
get_gives n m is e l =
    let row = then_holds (called (codes "get") 1 m) _ (holds_at get_row n m get_rows is) (called_so (codes "get") 1 m e l) in
    def_found m.result (and_parts (is_def m.result) _ row).0

-- of a map, and of a list
pub map_get_takes : (c n : ℕ) (m : MemberType) → slice_get catalogue n ≡ Some m → m.name ≡ codes "get" → length m.params ≡ 1 → c < 55 → is_map c ≡ true → class_is_below c m.owner ≡ true
    → m.params ≡ t.Def ∷ []
map_get_takes c n m is e l small map below =
    let row = then_holds (called (codes "get") 1 m) _ (holds_at get_row n m get_rows is) (called_so (codes "get") 1 m e l) in
    pick (or_cases ((m.owner == LIST) && takes_int m.params) ((m.owner == MAP) && takes_def m.params) (and_parts (is_def m.result) _ row).1)
  where
    pick : (((m.owner == LIST) && takes_int m.params) ≡ true) ⊎ (((m.owner == MAP) && takes_def m.params) ≡ true) → m.params ≡ t.Def ∷ []
    pick (inl h) =
        let owner = eqb-true m.owner LIST (and_parts (m.owner == LIST) (takes_int m.params) h).0 in
        let apart = then_holds (is_map c) _ (and_parts (if_then (is_map c) (not (class_is_below c LIST))) _ (class_apart c small)).0 map in
        absurd (opposite (class_is_below c LIST) apart (subst (λ (o : ℕ). class_is_below c o ≡ true) owner below))
    pick (inr h) = def_taken m.params (and_parts (m.owner == MAP) (takes_def m.params) h).1

pub list_get_takes : (c n : ℕ) (m : MemberType) → slice_get catalogue n ≡ Some m → m.name ≡ codes "get" → length m.params ≡ 1 → c < 55 → is_list c ≡ true → class_is_below c m.owner ≡ true
    → m.params ≡ t.Prim prim.Int ∷ []
list_get_takes c n m is e l small list below =
    let row = then_holds (called (codes "get") 1 m) _ (holds_at get_row n m get_rows is) (called_so (codes "get") 1 m e l) in
    pick (or_cases ((m.owner == LIST) && takes_int m.params) ((m.owner == MAP) && takes_def m.params) (and_parts (is_def m.result) _ row).1)
  where
    pick : (((m.owner == LIST) && takes_int m.params) ≡ true) ⊎ (((m.owner == MAP) && takes_def m.params) ≡ true) → m.params ≡ t.Prim prim.Int ∷ []
    pick (inl h) = int_taken m.params (and_parts (m.owner == LIST) (takes_int m.params) h).1
    pick (inr h) =
        let owner = eqb-true m.owner MAP (and_parts (m.owner == MAP) (takes_def m.params) h).0 in
        let apart = then_holds (is_list c) _ (and_parts (if_then (is_map c) (not (class_is_below c LIST))) _ (class_apart c small)).1 list in
        absurd (opposite (class_is_below c MAP) apart (subst (λ (o : ℕ). class_is_below c o ≡ true) owner below))

pub set_takes : (n : ℕ) (m : MemberType) → slice_get catalogue n ≡ Some m → m.name ≡ codes "set" → length m.params ≡ 2 → m.params ≡ t.Prim prim.Int ∷ t.Def ∷ []
set_takes n m is e l = int_def_taken m.params (then_holds (called (codes "set") 2 m) _ (holds_at set_row n m set_rows is) (called_so (codes "set") 2 m e l))

pub put_takes : (n : ℕ) (m : MemberType) → slice_get catalogue n ≡ Some m → m.name ≡ codes "put" → length m.params ≡ 2 → m.params ≡ t.Def ∷ t.Def ∷ []
put_takes n m is e l = defs_taken m.params (then_holds (called (codes "put") 2 m) _ (holds_at put_row n m put_rows is) (called_so (codes "put") 2 m e l))

-- ---- getters and setters: what is read by the one is of the type that the other writes

abbrev begins_set : List ℕ → Bool
begins_set (a ∷ b ∷ c ∷ rest) = (a == 115) && ((b == 101) && (c == 116))
begins_set others = false

-- the only setters
abbrev setter_row : ℕ → MemberType → Bool
setter_row n m =
    if_then (begins_set m.name && (length m.params == 1)) ((bytes_eq m.name (codes "setLength") && takes_int m.params) || (bytes_eq m.name (codes "setValue") && takes_def m.params))

abbrev getter_row : ℕ → MemberType → Bool
getter_row n m =
    if_then (length m.params == 0)
    (if_then (bytes_eq m.name (codes "getLength")) (is_int m.result) && (not (bytes_eq m.name (codes "isLength")) && (not (bytes_eq m.name (codes "isValue")) && if_then (bytes_eq m.name (codes "getValue")) (is_def m.result))))

setter_rows : holds_of_all setter_row ≡ true
unfolding catalogue out-Ty denote.Hole.Carrier.out
setter_rows = refl

getter_rows : holds_of_all getter_row ≡ true
unfolding catalogue out-Ty denote.Hole.Carrier.out
getter_rows = refl

-- what stands behind `set`
behind : List ℕ → List ℕ
behind (a ∷ b ∷ c ∷ rest) = rest
behind others = []

rest_is : (a b : List ℕ) → codes "set" ++ a ≡ codes "set" ++ b → a ≡ b
unfolding behind
rest_is a b e = ap behind e

named : (a b : List ℕ) → a ≡ b → bytes_eq a b ≡ true
named a b e = (bytes_eq-Decides a b).1 e

-- what is known of a member without parameters, by its name
getter_parts : (i : ℕ) (m : MemberType) → slice_get catalogue i ≡ Some m → length m.params ≡ 0
    → (bytes_eq m.name (codes "getLength") ≡ true → m.result ≡ t.Prim prim.Int) × (not (bytes_eq m.name (codes "isLength")) ≡ true) × (not (bytes_eq m.name (codes "isValue")) ≡ true)
    × (bytes_eq m.name (codes "getValue") ≡ true → m.result ≡ t.Def)
getter_parts i m is l =
    let row = then_holds (length m.params == 0) _ (holds_at getter_row i m getter_rows is) (eq-eqb (length m.params) 0 l) in
    let a = and_parts (if_then (bytes_eq m.name (codes "getLength")) (is_int m.result)) _ row in
    let b = and_parts (not (bytes_eq m.name (codes "isLength"))) _ a.1 in
    let c = and_parts (not (bytes_eq m.name (codes "isValue"))) _ b.1 in
    (λ e. int_found m.result (then_holds (bytes_eq m.name (codes "getLength")) (is_int m.result) a.0 e), b.0, c.0, λ e. def_found m.result (then_holds (bytes_eq m.name (codes "getValue")) (is_def m.result) c.1 e))

-- which setters there are
set_by : (name : List ℕ) (j : ℕ) (setter : MemberType) → slice_get catalogue j ≡ Some setter → setter.name ≡ codes "set" ++ name → length setter.params ≡ 1
    → ((bytes_eq setter.name (codes "setLength") && takes_int setter.params) ≡ true) ⊎ ((bytes_eq setter.name (codes "setValue") && takes_def setter.params) ≡ true)
set_by name j setter at_j write single =
    let row = then_holds (begins_set setter.name && (length setter.params == 1)) _ (holds_at setter_row j setter setter_rows at_j)
    (and_from (begins_set setter.name) (length setter.params == 1) (ap begins_set write) (eq-eqb (length setter.params) 1 single)) in
    or_cases (bytes_eq setter.name (codes "setLength") && takes_int setter.params) (bytes_eq setter.name (codes "setValue") && takes_def setter.params) row

-- the getter of a name, which is read by `get` or by `is`
pub accessors_agree : (name : List ℕ) (i j : ℕ) (getter setter : MemberType) → slice_get catalogue i ≡ Some getter → slice_get catalogue j ≡ Some setter
    → (getter.name ≡ codes "get" ++ name) ⊎ (getter.name ≡ codes "is" ++ name) → length getter.params ≡ 0 → setter.name ≡ codes "set" ++ name → length setter.params ≡ 1
    → getter.result ≡ first_of setter.params
accessors_agree name i j getter setter at_i at_j read none write single = by_setter (set_by name j setter at_j write single) read
  where
    by_setter : ((bytes_eq setter.name (codes "setLength") && takes_int setter.params) ≡ true) ⊎ ((bytes_eq setter.name (codes "setValue") && takes_def setter.params) ≡ true)
        → (getter.name ≡ codes "get" ++ name) ⊎ (getter.name ≡ codes "is" ++ name) → getter.result ≡ first_of setter.params
    by_setter (inl h) (inl r) =
        let both = and_parts (bytes_eq setter.name (codes "setLength")) (takes_int setter.params) h in
        let rest : name ≡ codes "Length" = rest_is name (codes "Length") (sym write ∙ (bytes_eq-Decides setter.name (codes "setLength")).0 both.0) in
        (getter_parts i getter at_i none).0 (named getter.name (codes "getLength") (r ∙ ap (λ (rest : List ℕ). codes "get" ++ rest) rest))
        ∙ sym (ap first_of (int_taken setter.params both.1))
    by_setter (inl h) (inr r) =
        let both = and_parts (bytes_eq setter.name (codes "setLength")) (takes_int setter.params) h in
        let rest : name ≡ codes "Length" = rest_is name (codes "Length") (sym write ∙ (bytes_eq-Decides setter.name (codes "setLength")).0 both.0) in
        absurd (opposite _ (getter_parts i getter at_i none).1 (named getter.name (codes "isLength") (r ∙ ap (λ (rest : List ℕ). codes "is" ++ rest) rest)))
    by_setter (inr h) (inl r) =
        let both = and_parts (bytes_eq setter.name (codes "setValue")) (takes_def setter.params) h in
        let rest : name ≡ codes "Value" = rest_is name (codes "Value") (sym write ∙ (bytes_eq-Decides setter.name (codes "setValue")).0 both.0) in
        (getter_parts i getter at_i none).3 (named getter.name (codes "getValue") (r ∙ ap (λ (rest : List ℕ). codes "get" ++ rest) rest))
        ∙ sym (ap first_of (def_taken setter.params both.1))
    by_setter (inr h) (inr r) =
        let both = and_parts (bytes_eq setter.name (codes "setValue")) (takes_def setter.params) h in
        let rest : name ≡ codes "Value" = rest_is name (codes "Value") (sym write ∙ (bytes_eq-Decides setter.name (codes "setValue")).0 both.0) in
        absurd (opposite _ (getter_parts i getter at_i none).2 (named getter.name (codes "isValue") (r ∙ ap (λ (rest : List ℕ). codes "is" ++ rest) rest)))

-- what is written by a setter is of a type of variables
pub setter_built : (name : List ℕ) (j : ℕ) (setter : MemberType) → slice_get catalogue j ≡ Some setter → setter.name ≡ codes "set" ++ name → length setter.params ≡ 1
    → IsBuilt (first_of setter.params)
setter_built name j setter at_j write single = pick (set_by name j setter at_j write single)
  where
    pick : ((bytes_eq setter.name (codes "setLength") && takes_int setter.params) ≡ true) ⊎ ((bytes_eq setter.name (codes "setValue") && takes_def setter.params) ≡ true) → IsBuilt (first_of setter.params)
    pick (inl h) = subst IsBuilt (sym (ap first_of (int_taken setter.params (and_parts (bytes_eq setter.name (codes "setLength")) (takes_int setter.params) h).1))) (prim_built prim.Int)
    pick (inr h) = subst IsBuilt (sym (ap first_of (def_taken setter.params (and_parts (bytes_eq setter.name (codes "setValue")) (takes_def setter.params) h).1))) def_built

-- what a setter takes
pub first_taken : (ofs : List Ty) → length ofs ≡ 1 → ofs ≡ first_of ofs ∷ []
first_taken [] h = absurd (omega (arith, h))
first_taken (of ∷ []) h = refl
first_taken (a ∷ b ∷ ofs) h = absurd (omega (arith, h))
