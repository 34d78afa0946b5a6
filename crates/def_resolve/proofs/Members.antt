-- What is found of the members of a list.
use Rattle.std.proofs.Common.{◌≡◌, ℕ, zero, suc, Bool, true, false, cond, List, [], Option, Some, None, length, sym, refl, ap, ◌∙◌}
use Rattle.std.specs.Prelude.{slice_get, option_map}
use Rattle.std.proofs.lemmas.Bool.{false≢true}
use Rattle.std.proofs.lemmas.Option.{get_or_from_slice_get}
use Rattle.pl_types.specs.Classes.{class_is_below}
use Rattle.allowlist.specs.declared.member.MemberType.{MemberType}
use Rattle.allowlist.specs.declared.member.MemberKind.{MemberKind}
use Rattle.allowlist.specs.declared.member.MemberKind.TheVariants.{Constructor, Static, Instance, Field}
use Rattle.allowlist.specs.Catalogue.{catalogue, constructor}
use Rattle.allowlist.specs.Allow.{AllowList, has_name, member_of, iface_method_of}
use Rattle.allowlist.specs.Index.{member_at, member_in}
use Rattle.allowlist.proofs.Unique.{found_is_allowed, found_above}
use Rattle.def_resolve.specs.declared.function.Reference.TheVariants as reference
use Rattle.def_resolve.specs.Functions.{ReferenceConfined, instance_behind, is_constructor, is_static, static_in}
use Rattle.def_resolve.specs.Resolution.{IsListed, IsMember, IsMethod, instance_in, instance_member, if_called, is_instance, method_called}

-- what is read at a number
pub read_at : (number : ℕ) (m : MemberType) → slice_get catalogue number ≡ Some m → m ≡ member_at number
read_at number m h = sym (get_or_from_slice_get catalogue number m (constructor 0 _) h)

-- what is found counts where it is of the kind that is wanted
instance_at : (number k : ℕ) (kind : MemberKind) → cond (is_instance kind) (Some number) None ≡ Some k → (number ≡ k) × (kind ≡ Instance)
instance_at number k Constructor h = cc
instance_at number k Static h = cc
instance_at number k Instance h = (cc, refl)
instance_at number k Field h = cc

pub is_instance_in : (allow : AllowList) (found : Option ℕ) (k : ℕ) → instance_in allow found ≡ Some k → (found ≡ Some k) × ((member_in allow k).kind ≡ Instance)
is_instance_in allow None k h = cc
is_instance_in allow (Some number) k h = let p = instance_at number k (member_in allow number).kind h in (ap Some p.0, ap (λ j. (member_in allow j).kind) (sym p.0) ∙ p.1)

pub listed : (allow : AllowList) (class : ℕ) (name : List ℕ) (arity number : ℕ) (kind : MemberKind) → member_of allow class name arity ≡ Some number → (member_in allow number).kind ≡ kind → IsListed allow kind number
listed allow class name arity number kind h is = record { allowed = (found_is_allowed allow class name arity number h).0; kind_is = is }

pub is_member : (allow : AllowList) (class : ℕ) (name : List ℕ) (arity number : ℕ) → instance_member allow class name arity ≡ Some number → IsMember allow class name arity number
unfolding instance_member
is_member allow class name arity number h =
    let p = is_instance_in allow (member_of allow class name arity) number h in
    let f = found_is_allowed allow class name arity number p.0 in
    let a = found_above allow class name arity number p.0 in
    let at = sym (read_at number f.1.0 f.1.1) in
    record {
      member = listed allow class name arity number Instance p.0 p.1;
      called = ap (λ m. m.name) at ∙ f.1.2;
      takes = ap (λ m. length m.params) at ∙ f.1.3;
      above = ap (λ m. class_is_below class m.owner) (sym (read_at number a.0 a.1)) ∙ a.2;
    }

called_at : (number k : ℕ) (t : Bool) → cond t (Some number) None ≡ Some k → (number ≡ k) × (t ≡ true)
called_at number k true h = (cc, refl)
called_at number k false h = cc

is_called_in : (name : List ℕ) (arity : ℕ) (method : Option ℕ) (k : ℕ) → if_called name arity method ≡ Some k → (method ≡ Some k) × (has_name name arity (member_at k) ≡ true)
is_called_in name arity None k h = cc
is_called_in name arity (Some number) k h =
    let p = called_at number k (has_name name arity (member_at number)) h in
    (ap Some p.0, ap (λ j. has_name name arity (member_at j)) (sym p.0) ∙ p.1)

pub is_method : (class : ℕ) (name : List ℕ) (arity number : ℕ) → method_called class name arity ≡ Some number → IsMethod class name arity number
unfolding method_called
is_method class name arity number h = let p = is_called_in name arity (iface_method_of class) number h in record { method = p.0; called = p.1 }

-- what is found of another kind

static_at : (number k : ℕ) (kind : MemberKind) → cond (is_static kind) (Some number) None ≡ Some k → (number ≡ k) × (kind ≡ Static)
static_at number k Constructor h = cc
static_at number k Static h = (cc, refl)
static_at number k Instance h = cc
static_at number k Field h = cc

is_static_in : (allow : AllowList) (found : Option ℕ) (k : ℕ) → static_in allow found ≡ Some k → (found ≡ Some k) × ((member_in allow k).kind ≡ Static)
is_static_in allow None k h = cc
is_static_in allow (Some number) k h = let p = static_at number k (member_in allow number).kind h in (ap Some p.0, ap (λ j. (member_in allow j).kind) (sym p.0) ∙ p.1)

pub static_listed : (allow : AllowList) (class : ℕ) (name : List ℕ) (arity : ℕ) (found : Option ℕ) (number : ℕ) → found ≡ member_of allow class name arity → static_in allow found ≡ Some number → IsListed allow Static number
static_listed allow class name arity found number e h = let p = is_static_in allow found number h in listed allow class name arity number Static (sym e ∙ p.0) p.1

behind_listed : (allow : AllowList) (class : ℕ) (name : List ℕ) (others : ℕ) (found : Option ℕ) → found ≡ instance_member allow class name others → ReferenceConfined allow (option_map reference.Instance found)
behind_listed allow class name others None h = tt
behind_listed allow class name others (Some number) h = (is_member allow class name others number (sym h)).member

pub instance_confined : (allow : AllowList) (class : ℕ) (name : List ℕ) (arity : ℕ) → ReferenceConfined allow (instance_behind allow class name arity)
instance_confined allow class name zero = tt
instance_confined allow class name (suc others) = behind_listed allow class name others (instance_member allow class name others) refl

constructor_kind : (kind : MemberKind) → is_constructor kind ≡ true → kind ≡ Constructor
constructor_kind Constructor h = refl
constructor_kind Static h = absurd (false≢true h)
constructor_kind Instance h = absurd (false≢true h)
constructor_kind Field h = absurd (false≢true h)

pub constructor_listed : (allow : AllowList) (class arity number : ℕ) → member_of allow class [] arity ≡ Some number → is_constructor (member_in allow number).kind ≡ true → IsListed allow Constructor number
constructor_listed allow class arity number h k = listed allow class [] arity number Constructor h (constructor_kind (member_in allow number).kind k)
