-- What a function value calls, by what it was made of and by how many arguments come: a lambda, a member by the script's list of what is
-- allowed, a constructor, or the making of an array. All of this is asked before an argument is cast.
use Rattle.std.specs.Prelude.{ℕ, ◌==◌, ◌+◌, Bool, true, false, Option, Some, None, List, [], ◌∷◌, length, slice_get, if◌then◌else◌}
use Rattle.pl_types.specs.declared.primitive.Primitive.TheVariants as prim
use Rattle.pl_types.specs.declared.ty.Ty.{Ty, out-Ty}
use Rattle.pl_types.specs.declared.ty.Ty.TheOpen.{Ty-F}
use Rattle.pl_types.specs.declared.ty.Ty.TheVariants as ty
use Rattle.allowlist.specs.Allow.{AllowList, iface_method_of}
use Rattle.allowlist.specs.Index.{member_in}
use Rattle.object_values.specs.declared.object.Object.{Object}
use Rattle.object_values.specs.declared.object.Object.TheVariants as o
use Rattle.object_values.specs.declared.object.Owner.{Owner}
use Rattle.object_values.specs.declared.object.Owner.TheVariants.{Script, Prelude}
use Rattle.object_values.specs.declared.object.Target.{Target}
use Rattle.object_values.specs.declared.object.Target.TheVariants as t
use Rattle.object_values.specs.declared.value.Value.{Value}
use Rattle.object_values.specs.declared.value.Value.TheVariants as v
use Rattle.def_access.specs.Members.{is_built}
use Rattle.def_resolve.specs.declared.function.Reference.{Reference}
use Rattle.def_resolve.specs.declared.function.Reference.TheVariants as reference
use Rattle.def_resolve.specs.Functions.{constructor_of, reference_of}
use Rattle.function_calls.specs.declared.aim.Aim.{Aim}
use Rattle.function_calls.specs.declared.aim.Aim.TheVariants as aim
use Rattle.function_calls.specs.declared.aim.Doing.{Doing}
use Rattle.function_calls.specs.declared.aim.Doing.TheVariants as does
use Rattle.function_calls.specs.declared.texts.Texts.{Texts}
use Rattle.function_calls.specs.declared.texts.Work.{Work}

-- ---- the texts

-- how many parameters a function of a text has, with what it captures; none where there is no such function
abbrev pub parameters_in : Texts → Owner → ℕ → Option ℕ
parameters_in texts Script number = slice_get texts.script number
parameters_in texts Prelude number = slice_get texts.prelude number

-- whether a function is there and takes so many values
abbrev pub is_count : Option ℕ → ℕ → Bool
is_count None count = false
is_count (Some parameters) count = parameters == count

-- the function of the prelude's text that is the work of a member
abbrev pub function_in : List Work → ℕ → Option ℕ
function_in [] member = None
function_in (work ∷ works) member = if work.member == member then Some work.function else function_in works member

-- ---- members

abbrev pub is_same : Option ℕ → ℕ → Bool
is_same None number = false
is_same (Some method) number = method == number

-- whether a member is the one method of its interface
abbrev pub is_method : AllowList → ℕ → Bool
is_method allow number = is_same (iface_method_of (member_in allow number).owner) number

abbrev pub done_by_method : Bool → Option Doing
done_by_method true = Some does.Receiver
done_by_method false = None

abbrev pub done_by_work : ℕ → Bool → Option Doing
done_by_work function true = Some (does.Prelude function)
done_by_work function false = None

abbrev pub done_elsewhere : Texts → AllowList → ℕ → ℕ → Option ℕ → Option Doing
done_elsewhere texts allow count number (Some function) = done_by_work function (is_count (parameters_in texts Prelude function) count)
done_elsewhere texts allow count number None = done_by_method (is_method allow number)

-- Who does what a member does that is called with so many values, the receiver among them: the member itself, a function of the
-- prelude's text that takes as many, or, where it is an interface's method, what its receiver calls. A member that none of them does
-- is not found.
unfoldable pub doing_of : Texts → AllowList → ℕ → ℕ → Option Doing
doing_of texts allow count number = if is_built number then Some does.Itself else done_elsewhere texts allow count number (function_in texts.works number)

-- ---- what is aimed at

-- A lambda that is there and takes what it captured and the arguments.
abbrev pub lambda_aim : Owner → ℕ → Bool → Aim
lambda_aim owner number true = aim.Lambda owner number
lambda_aim owner number false = aim.Unfit

-- a static member or a constructor, which has no receiver
abbrev pub static_aim : ℕ → Option Doing → Aim
static_aim number None = aim.Unfit
static_aim number (Some does.Receiver) = aim.Unfit
static_aim number (Some doing) = aim.Static number doing

abbrev pub instance_aim : ℕ → ℕ → Option Doing → Aim
instance_aim class number None = aim.Unfit
instance_aim class number (Some doing) = aim.Instance class number doing

abbrev pub reference_aim : Texts → AllowList → ℕ → ℕ → Option Reference → Aim
reference_aim texts allow class count None = aim.Unfit
reference_aim texts allow class count (Some (reference.Static number)) = static_aim number (doing_of texts allow count number)
reference_aim texts allow class count (Some (reference.Instance number)) = instance_aim class number (doing_of texts allow count number)

abbrev pub constructor_aim : Texts → AllowList → ℕ → Option ℕ → Aim
constructor_aim texts allow count None = aim.Unfit
constructor_aim texts allow count (Some number) = static_aim number (doing_of texts allow count number)

abbrev pub array_aim : Ty → Bool → Aim
array_aim made true = aim.Array made
array_aim made false = aim.Unfit

-- of an array type it is the array with the length that is its one argument
abbrev pub made_aim : Texts → AllowList → ℕ → Ty → Ty-F Ty → Aim
made_aim texts allow count made (Ty-F.Class class) = constructor_aim texts allow count (constructor_of allow class count)
made_aim texts allow count made (Ty-F.Array elem) = array_aim made (count == 1)
made_aim texts allow count made layer = aim.Unfit

-- What a target means for so many arguments, where so many values were captured.
abbrev pub target_aim : Texts → AllowList → ℕ → ℕ → Target → Aim
target_aim texts allow captured count (t.Lambda owner number) = lambda_aim owner number (is_count (parameters_in texts owner number) (captured + count))
target_aim texts allow captured count (t.Member class name) = reference_aim texts allow class count (reference_of allow class name count)
target_aim texts allow captured count (t.New made) = made_aim texts allow count made (out-Ty made)
target_aim texts allow captured count t.Gone = aim.Gone

-- a function value that has taken an interface; nothing else is called
abbrev pub object_aim : Texts → AllowList → ℕ → Option Object → Aim
object_aim texts allow count (Some (o.Fun (Some iface) target captures)) = target_aim texts allow (length captures) count target
object_aim texts allow count other = aim.NoFunction

-- What the first of these values calls with the others.
unfoldable pub aim_of : Texts → AllowList → List Object → List Value → Aim
aim_of texts allow objects [] = aim.Null
aim_of texts allow objects (v.Null ∷ arguments) = aim.Null
aim_of texts allow objects (v.Ref id ∷ arguments) = object_aim texts allow (length arguments) (slice_get objects id)
aim_of texts allow objects (value ∷ arguments) = aim.NoFunction

-- ---- what the arguments are cast to

-- The types of what is called: of a member its parameters, behind the class of its receiver where it has one, and of the making of an
-- array int. A lambda casts its arguments itself.
abbrev pub own_types : AllowList → Aim → List Ty
own_types allow (aim.Static number doing) = (member_in allow number).params
own_types allow (aim.Instance class number doing) = ty.Class class ∷ (member_in allow number).params
own_types allow (aim.Array made) = ty.Prim prim.Int ∷ []
own_types allow other = []
