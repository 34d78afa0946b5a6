-- What a function value calls is of the list, and takes what it is called with.
use Rattle.std.proofs.Common.{◌≡◌, ℕ, ◌==◌, ◌+◌, Bool, true, false, Option, Some, None, List, [], ◌∷◌, length, Result, Ok, Err, refl, sym, ap, subst, slice_get, if◌then◌else◌}
use Rattle.std.specs.Prelude.{drop, ◌&&◌, IfOk}
use Rattle.std.proofs.lemmas.Bool.{eqb-true, false≢true}
use Rattle.pl_types.specs.declared.ty.Ty.{Ty, out-Ty}
use Rattle.pl_types.specs.declared.ty.Ty.TheOpen.{Ty-F}
use Rattle.allowlist.specs.Allow.{AllowList, flag, member_of}
use Rattle.allowlist.specs.Index.{member_in}
use Rattle.allowlist.proofs.Unique.{found_is_allowed}
use Rattle.object_values.specs.declared.object.Object.{Object}
use Rattle.object_values.specs.declared.object.Object.TheVariants as o
use Rattle.object_values.specs.declared.object.Owner.{Owner}
use Rattle.object_values.specs.declared.object.Owner.TheVariants.{Prelude}
use Rattle.object_values.specs.declared.object.Target.{Target}
use Rattle.object_values.specs.declared.object.Target.TheVariants as t
use Rattle.object_values.specs.declared.value.Value.{Value}
use Rattle.object_values.specs.declared.value.Value.TheVariants as v
use Rattle.object_heap.specs.Parts.{asked, object_captures}
use Rattle.def_access.specs.Members.{is_built}
use Rattle.def_resolve.specs.declared.function.Reference.{Reference}
use Rattle.def_resolve.specs.declared.function.Reference.TheVariants as reference
use Rattle.def_resolve.specs.Functions.{ConstructorConfined, ReferenceConfined, constructor_in, constructor_of, instance_behind, is_constructor, reference_of, static_in, static_or}
use Rattle.def_resolve.proofs.Members.{instance_confined, static_listed}
use Rattle.function_calls.specs.declared.aim.Aim.{Aim}
use Rattle.function_calls.specs.declared.aim.Aim.TheVariants as aim
use Rattle.function_calls.specs.declared.aim.Doing.{Doing}
use Rattle.function_calls.specs.declared.aim.Doing.TheVariants as does
use Rattle.function_calls.specs.declared.texts.Texts.{Texts}
use Rattle.function_calls.specs.Applying.{captured_by}
use Rattle.function_calls.specs.Coming.{AimListed, MemberListed, ReferenceListed}
use Rattle.function_calls.specs.Targets as targets
use Rattle.function_calls.specs.Targets.{aim_of, doing_of, function_in, is_count, is_method, parameters_in}

-- ---- what is found is of the list

pub found_reference : (allow : AllowList) (found : Option Reference) → ReferenceConfined allow found → ReferenceListed allow found
found_reference allow None h = tt
found_reference allow (Some (reference.Static number)) h = h.allowed
found_reference allow (Some (reference.Instance number)) h = h.allowed

pub found_constructor : (allow : AllowList) (class : ℕ) (found : Option ℕ) → ConstructorConfined allow class found → MemberListed allow found
found_constructor allow class None h = tt
found_constructor allow class (Some number) h = h.0.allowed

static_or_behind : (allow : AllowList) (class : ℕ) (name : List ℕ) (arity : ℕ) (found : Option ℕ) → static_in allow (member_of allow class name arity) ≡ found
    → ReferenceListed allow (static_or found (instance_behind allow class name arity))
static_or_behind allow class name arity None e = found_reference allow (instance_behind allow class name arity) (instance_confined allow class name arity)
static_or_behind allow class name arity (Some number) e = (static_listed allow class name arity (member_of allow class name arity) number refl e).allowed

reference_listed : (allow : AllowList) (class : ℕ) (name : List ℕ) (arity : ℕ) → ReferenceListed allow (reference_of allow class name arity)
unfolding reference_of
reference_listed allow class name arity = static_or_behind allow class name arity (static_in allow (member_of allow class name arity)) refl

if_listed : (allow : AllowList) (number : ℕ) (test : Bool) → flag allow.members number ≡ true → MemberListed allow (if test then Some number else None)
if_listed allow number true h = h
if_listed allow number false h = tt

in_class : (allow : AllowList) (class arity : ℕ) (found : Option ℕ) → member_of allow class [] arity ≡ found → MemberListed allow (constructor_in allow class found)
in_class allow class arity None e = tt
in_class allow class arity (Some number) e =
    if_listed allow number ((member_in allow number).owner == class && is_constructor (member_in allow number).kind) (found_is_allowed allow class [] arity number e).0

constructor_listed : (allow : AllowList) (class arity : ℕ) → MemberListed allow (constructor_of allow class arity)
unfolding constructor_of
constructor_listed allow class arity = in_class allow class arity (member_of allow class [] arity) refl

-- ---- who does what a member does

-- A member that acts itself is built, and a function of the prelude takes so many values.
abbrev pub DoingHolds : Texts → ℕ → ℕ → Option Doing → Type 0
DoingHolds texts count number None = Unit {0}
DoingHolds texts count number (Some does.Itself) = is_built number ≡ true
DoingHolds texts count number (Some (does.Prelude function)) = parameters_in texts Prelude function ≡ Some count
DoingHolds texts count number (Some does.Receiver) = Unit {0}

counted : (parameters : Option ℕ) (count : ℕ) → is_count parameters count ≡ true → parameters ≡ Some count
counted None count h = absurd (false≢true h)
counted (Some parameters) count h = ap Some (eqb-true parameters count h)

by_work : (texts : Texts) (count number function : ℕ) (test : Bool) → is_count (parameters_in texts Prelude function) count ≡ test → DoingHolds texts count number (targets.done_by_work function test)
by_work texts count number function true h = counted (parameters_in texts Prelude function) count h
by_work texts count number function false h = tt

by_method : (texts : Texts) (count number : ℕ) (test : Bool) → DoingHolds texts count number (targets.done_by_method test)
by_method texts count number true = tt
by_method texts count number false = tt

elsewhere : (texts : Texts) (allow : AllowList) (count number : ℕ) (work : Option ℕ) → DoingHolds texts count number (targets.done_elsewhere texts allow count number work)
elsewhere texts allow count number None = by_method texts count number (is_method allow number)
elsewhere texts allow count number (Some function) = by_work texts count number function (is_count (parameters_in texts Prelude function) count) refl

if_itself : (texts : Texts) (allow : AllowList) (count number : ℕ) (test : Bool) → is_built number ≡ test
    → DoingHolds texts count number (if test then Some does.Itself else targets.done_elsewhere texts allow count number (function_in texts.works number))
if_itself texts allow count number true e = e
if_itself texts allow count number false e = elsewhere texts allow count number (function_in texts.works number)

pub doing_holds : (texts : Texts) (allow : AllowList) (count number : ℕ) → DoingHolds texts count number (doing_of texts allow count number)
unfolding doing_of
doing_holds texts allow count number = if_itself texts allow count number (is_built number) refl

-- ---- what is aimed at

-- a lambda takes what was captured and the arguments, and a member is of the list
abbrev pub AimHolds : Texts → AllowList → ℕ → ℕ → Aim → Type 0
AimHolds texts allow captured count (aim.Lambda owner number) = parameters_in texts owner number ≡ Some (captured + count)
AimHolds texts allow captured count (aim.Static number doing) = (flag allow.members number ≡ true) × DoingHolds texts count number (Some doing)
AimHolds texts allow captured count (aim.Instance class number doing) = (flag allow.members number ≡ true) × DoingHolds texts count number (Some doing)
AimHolds texts allow captured count other = Unit {0}

lambda_holds : (texts : Texts) (allow : AllowList) (captured count : ℕ) (owner : Owner) (number : ℕ) (test : Bool) → is_count (parameters_in texts owner number) (captured + count) ≡ test
    → AimHolds texts allow captured count (targets.lambda_aim owner number test)
lambda_holds texts allow captured count owner number true h = counted (parameters_in texts owner number) (captured + count) h
lambda_holds texts allow captured count owner number false h = tt

static_holds : (texts : Texts) (allow : AllowList) (captured count number : ℕ) (doing : Option Doing) → flag allow.members number ≡ true → DoingHolds texts count number doing
    → AimHolds texts allow captured count (targets.static_aim number doing)
static_holds texts allow captured count number None h k = tt
static_holds texts allow captured count number (Some does.Itself) h k = (h, k)
static_holds texts allow captured count number (Some (does.Prelude function)) h k = (h, k)
static_holds texts allow captured count number (Some does.Receiver) h k = tt

instance_holds : (texts : Texts) (allow : AllowList) (captured count class number : ℕ) (doing : Option Doing) → flag allow.members number ≡ true → DoingHolds texts count number doing
    → AimHolds texts allow captured count (targets.instance_aim class number doing)
instance_holds texts allow captured count class number None h k = tt
instance_holds texts allow captured count class number (Some doing) h k = (h, k)

reference_holds : (texts : Texts) (allow : AllowList) (captured count class : ℕ) (found : Option Reference) → ReferenceListed allow found
    → AimHolds texts allow captured count (targets.reference_aim texts allow class count found)
reference_holds texts allow captured count class None h = tt
reference_holds texts allow captured count class (Some (reference.Static number)) h =
    static_holds texts allow captured count number (doing_of texts allow count number) h (doing_holds texts allow count number)
reference_holds texts allow captured count class (Some (reference.Instance number)) h =
    instance_holds texts allow captured count class number (doing_of texts allow count number) h (doing_holds texts allow count number)

constructor_holds : (texts : Texts) (allow : AllowList) (captured count : ℕ) (found : Option ℕ) → MemberListed allow found → AimHolds texts allow captured count (targets.constructor_aim texts allow count found)
constructor_holds texts allow captured count None h = tt
constructor_holds texts allow captured count (Some number) h =
    static_holds texts allow captured count number (doing_of texts allow count number) h (doing_holds texts allow count number)

array_holds : (texts : Texts) (allow : AllowList) (captured count : ℕ) (made : Ty) (test : Bool) → AimHolds texts allow captured count (targets.array_aim made test)
array_holds texts allow captured count made true = tt
array_holds texts allow captured count made false = tt

made_holds : (texts : Texts) (allow : AllowList) (captured count : ℕ) (made : Ty) (layer : Ty-F Ty) → AimHolds texts allow captured count (targets.made_aim texts allow count made layer)
made_holds texts allow captured count made (Ty-F.Class class) = constructor_holds texts allow captured count (constructor_of allow class count) (constructor_listed allow class count)
made_holds texts allow captured count made (Ty-F.Array elem) = array_holds texts allow captured count made (count == 1)
made_holds texts allow captured count made Ty-F.Void = tt
made_holds texts allow captured count made Ty-F.Null = tt
made_holds texts allow captured count made Ty-F.Def = tt
made_holds texts allow captured count made (Ty-F.Prim p) = tt

target_holds : (texts : Texts) (allow : AllowList) (captured count : ℕ) (target : Target) → AimHolds texts allow captured count (targets.target_aim texts allow captured count target)
target_holds texts allow captured count (t.Lambda owner number) =
    lambda_holds texts allow captured count owner number (is_count (parameters_in texts owner number) (captured + count)) refl
target_holds texts allow captured count (t.Member class name) = reference_holds texts allow captured count class (reference_of allow class name count) (reference_listed allow class name count)
target_holds texts allow captured count (t.New made) = made_holds texts allow captured count made (out-Ty made)
target_holds texts allow captured count t.Gone = tt

object_holds : (texts : Texts) (allow : AllowList) (count : ℕ) (found : Option Object) → AimHolds texts allow (length (asked object_captures [] found)) count (targets.object_aim texts allow count found)
object_holds texts allow count None = tt
object_holds texts allow count (Some (o.Fun (Some iface) target captures)) = target_holds texts allow (length captures) count target
object_holds texts allow count (Some (o.Fun None target captures)) = tt
object_holds texts allow count (Some object) = tt

pub aim_holds : (texts : Texts) (allow : AllowList) (objects : List Object) (values : List Value)
    → AimHolds texts allow (length (captured_by objects values)) (length (drop 1 values)) (aim_of texts allow objects values)
unfolding aim_of
aim_holds texts allow objects [] = tt
aim_holds texts allow objects (v.Null ∷ arguments) = tt
aim_holds texts allow objects (v.Ref id ∷ arguments) = object_holds texts allow (length arguments) (slice_get objects id)
aim_holds texts allow objects (value ∷ arguments) = tt

listed : (texts : Texts) (allow : AllowList) (captured count : ℕ) (of : Aim) → AimHolds texts allow captured count of → AimListed allow of
listed texts allow captured count (aim.Lambda owner number) h = tt
listed texts allow captured count (aim.Static number doing) h = h.0
listed texts allow captured count (aim.Instance class number doing) h = h.0
listed texts allow captured count other h = tt

pub aim_listed : (texts : Texts) (allow : AllowList) (objects : List Object) (values : List Value) → AimListed allow (aim_of texts allow objects values)
aim_listed texts allow objects values = listed texts allow (length (captured_by objects values)) (length (drop 1 values)) (aim_of texts allow objects values) (aim_holds texts allow objects values)

-- what a call says is aimed at is of the list
pub if_listed_aim : {E : Type 0} (allow : AllowList) (of : Aim) (result : Result Aim E) → IfOk result (λ a. a ≡ of) → AimListed allow of → IfOk result (AimListed allow)
if_listed_aim allow of (Ok a) e h = subst (AimListed allow) (sym e) h
if_listed_aim allow of (Err x) e h = tt
