-- What steps of typing give, where they refuse nothing: expressions leave what is known as it was.
use Rattle.std.proofs.Common.{◌≡◌, ℕ, zero, suc, length, Option, Some, None, Ok, Err, refl}
use Rattle.std.specs.Prelude.{Bool, true, false, nat_lt, if◌then◌else◌}
use Rattle.pl_types.specs.declared.classes.TheConstants.{PRELUDE}
use Rattle.pl_types.specs.declared.ty.Ty.{Ty}
use Rattle.pl_types.specs.declared.ty.Ty.TheVariants as t
use Rattle.pl_tree.specs.declared.operator.UnaryOperator.TheVariants as sign
use Rattle.pl_tree.specs.declared.tree.TypeName.{TypeName}
use Rattle.pl_tree.specs.declared.tree.TypeBase.{TypeBase}
use Rattle.pl_tree.specs.declared.tree.TypeBase.TheVariants as base
use Rattle.typing_rules.specs.declared.part.Part.{Part}
use Rattle.typing_rules.specs.declared.part.Place.{Place}
use Rattle.typing_rules.specs.declared.part.Place.TheVariants as place
use Rattle.typing_rules.specs.declared.state.State.{State}
use Rattle.pl_types.specs.declared.refusal.Refusal.{Refusal}
use Rattle.pl_types.specs.declared.rules.TheConstants.{BAD_CAST, OUT_OF_PROFILE}
use Rattle.typing_rules.specs.Outcomes.{Out, refusal, refuse}
use Rattle.typing_rules.specs.Doing.{Whole, Answer, Doing, ◌>>=◌, ◌>>◌, pure, and_then, by_rule, looking, changing}
use Rattle.typing_rules.specs.Rules.Types.{is_built_class, base_of, arrays, type_of, is_empty, caught_base, caught_class}
use Rattle.typing_rules.specs.Rules.Operators.{unary_of}
use Rattle.typing_rules.specs.Typing.{Reading, plain, unbuilt, seen}
use Rattle.source_typing.specs.Types.{IsNamed}
use Rattle.source_typing.specs.Agreeing.{Known as Script}
use Rattle.typing_soundness.proofs.Types.{IsBuilt, prim_built, def_built, class_built, array_built, class_named}
use Rattle.typing_soundness.proofs.Parts.{passed, accepted, settled, PartIs, unary_is}
use Rattle.typing_soundness.proofs.Names.{Known, in_sight, PlaceIs}

-- what was given, and how it goes on
pub record Got {A : Type 0} (good : A → Type 0) (next : A → Answer) (r : Whole) : Type 0 where
  pub given : A
  pub has : good given
  pub goes : next given ≡ Ok r

-- a step that leaves what is known as it was, and what it gives
pub record Value {A : Type 0} (good : State → A → Type 0) (m : Doing A) : Type 0 where
  pub by : (s : State) (next : A → State → Answer) (r : Whole) → Known s → m s next ≡ Ok r → Got (good s) (λ a. next a s) r

-- what is given by a rule
pub ruled : {A : Type 0} (o : Out A) (next : A → Answer) (r : Whole) → and_then o next ≡ Ok r → Got (λ a. o ≡ Ok a) next r
ruled (Ok a) next r e = record { given = a; has = refl; goes = e }
ruled (Err x) next r e = cc

abbrev tells : Refusal → Answer
tells x = Err x

pub never : {B : Type 0} (at : ℕ) (r : Whole) → tells (refusal OUT_OF_PROFILE at) ≡ Ok r → B
never at r e = cc

pub never_told : {B : Type 0} (x : Refusal) (r : Whole) → tells x ≡ Ok r → B
never_told x r e = cc

-- a step of which only that it goes on is known
pub record Passes {A : Type 0} (next : A → State → Answer) (r : Whole) : Type 0 where
  pub given : A
  pub state : State
  pub known : Known state
  pub goes : next given state ≡ Ok r

pub record Looked {A : Type 0} (m : Doing A) : Type 0 where
  pub by : (s : State) (next : A → State → Answer) (r : Whole) → Known s → m s next ≡ Ok r → Passes next r

pub looked : {A : Type 0} {good : State → A → Type 0} {m : Doing A} → Value good m → Looked m
looked v = record { by = λ s next r d e. let x = v.by s next r d e in record { given = x.given; state = s; known = d; goes = x.goes } }

-- a step behind others
pub in_order : {A B : Type 0} {m : Doing A} {n : A → Doing B} → Looked m → ((a : A) → Looked (n a)) → Looked (m >>= n)
in_order {n = n} x y = record { by = λ s next r d e. let a = x.by s (λ a t. n a t next) r d e in (y a.given).by a.state next r a.known a.goes }

pub followed : {A B : Type 0} {m : Doing A} {n : Doing B} → Looked m → Looked n → Looked (m >> n)
followed {n = n} x y = record { by = λ s next r d e. let a = x.by s (λ a t. n t next) r d e in y.by a.state next r a.known a.goes }

pub rule_looked : {A : Type 0} (o : Out A) → Looked (by_rule o)
rule_looked o = record { by = λ s next r d e. let a = ruled o (λ a. next a s) r e in record { given = a.given; state = s; known = d; goes = a.goes } }

pub pure_looked : {A : Type 0} (a : A) → Looked (pure a)
pure_looked a = record { by = λ s next r d e. record { given = a; state = s; known = d; goes = e } }

pub changing_looked : (f : State → Out State) → ((s t : State) → f s ≡ Ok t → Known s → Known t) → Looked (changing f)
changing_looked f keeps = record {
  by = λ s next r d e. let a = ruled (f s) (λ t. next tt t) r e in record { given = tt; state = a.given; known = keeps s a.given a.has d; goes = a.goes };
}

pub seen_looked : {A : Type 0} {m : Doing A} → Looked m → Looked (seen m)
seen_looked x = in_order x (λ a. pure_looked tt)

pub unbuilt_looked : {A : Type 0} (at : ℕ) → Looked (unbuilt {A = A} at)
unbuilt_looked at = rule_looked (refuse OUT_OF_PROFILE at)

-- what ends in a refusal gives all
pub ends_unbuilt : {A B : Type 0} {good : State → B → Type 0} {m : Doing A} (at : ℕ) → Looked m → Value good (m >>= (λ (a : A). unbuilt {A = B} at))
ends_unbuilt {B = B} at x = record { by = λ s next r d e. let a = x.by s _ r d e in never at r a.goes }

pub is_unbuilt : {B : Type 0} {good : State → B → Type 0} (at : ℕ) → Value good (unbuilt {A = B} at)
is_unbuilt {B = B} at = record { by = λ s next r d e. never at r e }

-- ---- types are built

pub arrays_built : (n : ℕ) (of : Ty) → IsBuilt of → IsBuilt (arrays n of)
arrays_built zero of b = b
arrays_built (suc n) of b = array_built (arrays n of) (arrays_built n of b)

class_is : (c : Bool) (number at class : ℕ) (of : Ty) → is_built_class class ≡ c
    → (if c then accepted (t.Class class) else refuse number at) ≡ accepted of → IsBuilt of
class_is true number at class of is e = settled IsBuilt (t.Class class) of e (class_built class is)
class_is false number at class of is e = cc

base_is : (at : ℕ) (base : TypeBase) (of : Ty) → base_of at base ≡ Ok of → IsBuilt of
base_is at base.Def of e = settled IsBuilt t.Def of e def_built
base_is at (base.Primitive p) of e = settled IsBuilt (t.Prim p) of e (prim_built p)
base_is at (base.Class c) of e = class_is (is_built_class c) _ at c of refl e
base_is at (base.Name name) of e = cc

pub type_is : (name : TypeName) (of : Ty) → type_of name ≡ Ok of → IsBuilt of
type_is name of e =
    let a = passed (base_of name.at name.base) (λ base. accepted (arrays (length name.brackets) base)) of e in
    settled IsBuilt (arrays (length name.brackets) a.given) of a.then' (arrays_built (length name.brackets) a.given (base_is name.at name.base a.given a.first))

-- ---- code may name the class of a catch

listed_if : (c : Bool) (number at class given : ℕ) → nat_lt class PRELUDE ≡ c → (if c then accepted class else refuse number at) ≡ accepted given
    → IsNamed (t.Class given)
listed_if true number at class given is e = settled (λ c. IsNamed (t.Class c)) class given e (class_named class is)
listed_if false number at class given is e = cc

caught_base_is : (at : ℕ) (base : TypeBase) (class : ℕ) → caught_base at base ≡ Ok class → IsNamed (t.Class class)
caught_base_is at base.Def class e = cc
caught_base_is at (base.Primitive p) class e = cc
caught_base_is at (base.Class c) class e = listed_if (nat_lt c PRELUDE) _ at c class refl e
caught_base_is at (base.Name name) class e = cc

kept_if : (c : Bool) (number at class given : ℕ) → (if c then accepted class else refuse number at) ≡ accepted given → IsNamed (t.Class class)
    → IsNamed (t.Class given)
kept_if true number at class given e h = settled (λ c. IsNamed (t.Class c)) class given e h
kept_if false number at class given e h = cc

pub caught_named : (name : TypeName) (class : ℕ) → caught_class name ≡ Ok class → IsNamed (t.Class class)
caught_named name class e =
    let a = passed (caught_base name.at name.base) (λ c. if is_empty name.brackets then accepted c else refuse BAD_CAST name.at) class e in
    kept_if (is_empty name.brackets) _ name.at a.given class a.then' (caught_base_is name.at name.base a.given a.first)

-- ---- expressions

-- what the name of a type gives
abbrev pub NamesAre : Option (Doing Ty) → Type 0
NamesAre None = Unit {0}
NamesAre (Some m) = Value (λ s of. IsBuilt of) m

module _ (funs : Script) where
  abbrev pub PartAt : State → Part → Type 0
  PartAt s x = PartIs funs (in_sight s.scopes) x

  -- what is written to, and where something is read too, what reads
  abbrev pub PlaceAt : Option ℕ → State → Place → Type 0
  PlaceAt by s x = PlaceIs funs by (in_sight s.scopes) x

  pub record ReadingIs (x : Reading) : Type 0 where
    pub names : NamesAre x.names
    pub value : Value PartAt x.value
    pub negated : (minus : ℕ) → Value PartAt (x.negated minus)
    pub place : (by : Option ℕ) → Value (PlaceAt by) (x.place by)

  -- what is done with one part by a rule
  pub one_part : {m : Doing Part} (rule : Part → Out Part) → Value PartAt m
      → ((s : State) (x y : Part) → rule x ≡ Ok y → PartAt s x → PartAt s y) → Value PartAt (m >>= (λ x. by_rule (rule x)))
  one_part rule x f = record {
    by = λ s next r d e.
        let a = x.by s _ r d e in
        let b = ruled (rule a.given) (λ y. next y s) r a.goes in
        record { given = b.given; has = f s a.given b.given b.has a.has; goes = b.goes };
  }

  pub two_parts : {m n : Doing Part} (rule : Part → Part → Out Part) → Value PartAt m → Value PartAt n
      → ((s : State) (x y z : Part) → rule x y ≡ Ok z → PartAt s x → PartAt s y → PartAt s z) → Value PartAt (m >>= (λ x. n >>= (λ y. by_rule (rule x y))))
  two_parts rule x y f = record {
    by = λ s next r d e.
        let a = x.by s _ r d e in
        let b = y.by s _ r d a.goes in
        let c = ruled (rule a.given b.given) (λ y. next y s) r b.goes in
        record { given = c.given; has = f s a.given b.given c.given c.has a.has b.has; goes = c.goes };
  }

  -- what is written to, by a rule on one part or on two
  pub one_place : {m : Doing Part} (by : Option ℕ) (rule : Part → Out Place) → Value PartAt m
      → ((s : State) (x : Part) (y : Place) → rule x ≡ Ok y → PartAt s x → PlaceAt by s y) → Value (PlaceAt by) (m >>= (λ x. by_rule (rule x)))
  one_place by rule x f = record {
    by = λ s next r d e.
        let a = x.by s _ r d e in
        let b = ruled (rule a.given) (λ y. next y s) r a.goes in
        record { given = b.given; has = f s a.given b.given b.has a.has; goes = b.goes };
  }

  pub two_place : {m n : Doing Part} (by : Option ℕ) (rule : Part → Part → Out Place) → Value PartAt m → Value PartAt n
      → ((s : State) (x y : Part) (z : Place) → rule x y ≡ Ok z → PartAt s x → PartAt s y → PlaceAt by s z) → Value (PlaceAt by) (m >>= (λ x. n >>= (λ y. by_rule (rule x y))))
  two_place by rule x y f = record {
    by = λ s next r d e.
        let a = x.by s _ r d e in
        let b = y.by s _ r d a.goes in
        let c = ruled (rule a.given b.given) (λ y. next y s) r b.goes in
        record { given = c.given; has = f s a.given b.given c.given c.has a.has b.has; goes = c.goes };
  }

  pub three_parts : {m n o : Doing Part} (rule : Part → Part → Part → Out Part) → Value PartAt m → Value PartAt n → Value PartAt o
      → ((s : State) (x y z w : Part) → rule x y z ≡ Ok w → PartAt s x → PartAt s y → PartAt s z → PartAt s w)
      → Value PartAt (m >>= (λ x. n >>= (λ y. o >>= (λ z. by_rule (rule x y z)))))
  three_parts rule x y z f = record {
    by = λ s next r d e.
        let a = x.by s _ r d e in
        let b = y.by s _ r d a.goes in
        let c = z.by s _ r d b.goes in
        let g = ruled (rule a.given b.given c.given) (λ y. next y s) r c.goes in
        record { given = g.given; has = f s a.given b.given c.given g.given g.has a.has b.has c.has; goes = g.goes };
  }

  -- what a rule gives that looks at what is known
  pub looks : {A : Type 0} {good : State → A → Type 0} (rule : State → Out A) → ((s : State) (a : A) → Known s → rule s ≡ Ok a → good s a)
      → Value good (looking rule)
  looks rule f = record {
    by = λ s next r d e.
        let a = ruled (rule s) (λ a. next a s) r e in
        record { given = a.given; has = f s a.given d a.has; goes = a.goes };
  }

  pub by_one_rule : {A : Type 0} {good : State → A → Type 0} (rule : Out A) → ((s : State) (a : A) → rule ≡ Ok a → good s a) → Value good (by_rule rule)
  by_one_rule rule f = record {
    by = λ s next r d e.
        let a = ruled rule (λ a. next a s) r e in
        record { given = a.given; has = f s a.given a.has; goes = a.goes };
  }

  negated_part : (minus : ℕ) {m : Doing Part} → Value PartAt m → Value PartAt (m >>= (λ x. by_rule (unary_of sign.Minus minus x)))
  negated_part minus x = one_part (unary_of sign.Minus minus) x (λ s x y e h. unary_is funs (in_sight s.scopes) sign.Minus minus x y e h)

  fixed : {m : Doing Part} → Value PartAt m → (by : Option ℕ) → Value (PlaceAt by) (m >>= (λ x. pure place.Fixed))
  fixed x by = record { by = λ s next r d e. let a = x.by s _ r d e in record { given = place.Fixed; has = tt; goes = a.goes } }

  -- what is no literal and no name
  pub plain_is : (first : ℕ) (m : Doing Part) → Value PartAt m → ReadingIs (plain first m)
  plain_is first m x = record { names = tt; value = x; negated = λ minus. negated_part minus x; place = fixed x }

  -- a type
  pub type_name_is : (first : ℕ) (m : Doing Part) (n : Doing Ty) → Value PartAt m → Value (λ s of. IsBuilt of) n
      → ReadingIs (record (plain first m) { names = Some n })
  type_name_is first m n x y = record { names = y; value = x; negated = λ minus. negated_part minus x; place = fixed x }

  -- what may be written to
  pub placed_is : (first : ℕ) (m : Doing Part) (p : Option ℕ → Doing Place) → Value PartAt m → ((by : Option ℕ) → Value (PlaceAt by) (p by))
      → ReadingIs (record (plain first m) { place = p })
  placed_is first m p x y = record { names = tt; value = x; negated = λ minus. negated_part minus x; place = y }

  pub fixed_place : {m : Doing Part} → Value PartAt m → (by : Option ℕ) → Value (PlaceAt by) (m >>= (λ x. pure place.Fixed))
  fixed_place = fixed

  pub minus_part : (minus : ℕ) {m : Doing Part} → Value PartAt m → Value PartAt (m >>= (λ x. by_rule (unary_of sign.Minus minus x)))
  minus_part = negated_part
