-- When a moment of the meaning of a program is typed: the store fits, each name has a value of its type in it, and what is given or
-- thrown is of its type there.
use Rattle.std.specs.Prelude.{◌≡◌, true, List, [], ◌∷◌, length}
use Rattle.pl_types.specs.declared.ty.Ty.{Ty}
use Rattle.object_values.specs.declared.object.Object.{Object}
use Rattle.object_values.specs.declared.value.Value.{Value}
use Rattle.object_heap.specs.Fits.{Rules, Fits, ValueFits, ThrownFits}
use Rattle.value_typing.specs.Worlds.{WorldFits}
use Rattle.run_state.specs.World.{World, acts_in}
use Rattle.source_fit.specs.Operating.{Operated, Meaningless, Gives, Acts}
use Rattle.source_fit.specs.Meaning.{State, Env, Out, Done, Thrown, Over, More, Flow, Returned}
use Rattle.value_typing.specs.Typing.{is_typed, OutcomeTyped}
use Rattle.program_typing.specs.Agreeing.{Scope}

-- a value that is there, and of a type
pub record IsTyped (objects : List Object) (of : Ty) (value : Value) : Type 0 where
  pub there : ValueFits (length objects) value
  pub is : is_typed objects of value ≡ true

abbrev pub AreTyped : List Object → List Ty → List Value → Type 0
AreTyped objects [] [] = Unit {0}
AreTyped objects (of ∷ ofs) (value ∷ values) = IsTyped objects of value × AreTyped objects ofs values
AreTyped objects ofs values = ⊥

-- what an operator or a cast comes to in a world: a value of a type, or an effect that gives one
abbrev pub OperatedTyped : World → Ty → Operated → Type 0
OperatedTyped w of Meaningless = ⊥
OperatedTyped w of (Gives value) = is_typed w.store.objects of value ≡ true
OperatedTyped w of (Acts e) = OutcomeTyped of (acts_in w e)

-- each name has a value of its type
abbrev pub EnvTyped : List Object → Scope → Env → Type 0
EnvTyped objects [] [] = Unit {0}
EnvTyped objects (y ∷ g) (b ∷ e) = (b.name ≡ y.name) × IsTyped objects y.of b.value × EnvTyped objects g e
EnvTyped objects g e = ⊥

-- where an expression or a statement begins
abbrev pub StateTyped : Rules → Scope → State → Env → Type 0
StateTyped rules g s e = Fits rules s.world.store.objects × EnvTyped s.world.store.objects g e

-- what a statement of a function returns that gives a value of a type
abbrev pub FlowTyped : Ty → List Object → Flow → Type 0
FlowTyped of objects (Returned value) = IsTyped objects of value
FlowTyped of objects other = Unit {0}

-- What it comes to, where these objects were there: they still are, each of its kind or with an interface that it has taken, the names keep
-- their types, and a value is of its type, or an exception is there, in the store behind it.
abbrev pub OutTyped : {A : Type 0} → (List Object → A → Type 0) → Rules → List Object → Scope → Out A → Type 0
OutTyped good rules start g (Done a s e) = WorldFits rules start s.world × EnvTyped s.world.store.objects g e × good s.world.store.objects a
OutTyped good rules start g (Thrown id place s e) = WorldFits rules start s.world × EnvTyped s.world.store.objects g e × ThrownFits s.world.store.objects id
OutTyped good rules start g (Over limit place w) = WorldFits rules start w
OutTyped good rules start g More = Unit {0}
