-- What is paid, and what is answered, keeps the fit of the store.
use Rattle.std.proofs.Common.{◌≡◌, ℕ, ◌-◌, nat_le, Bool, true, false, Option, Some, None, List, [], ◌∷◌, ◌++◌, length, slice_get, ap, sym, subst, arith, length-append, if◌then◌else◌, Result, Ok, Err}
use Rattle.pl_types.specs.declared.classes.TheConstants.{EXCEPTION}
use Rattle.pl_types.specs.Classes.{class_is_below}
use Rattle.object_values.specs.declared.object.Object.{Object}
use Rattle.object_values.specs.declared.object.Object.TheVariants as o
use Rattle.object_heap.specs.declared.answer.Answer.{Answer}
use Rattle.object_heap.specs.declared.answer.Answer.TheVariants as a
use Rattle.object_heap.specs.declared.error.HeapErr.{HeapErr}
use Rattle.object_heap.specs.declared.error.HeapErr.TheVariants.{Room, NoMemory}
use Rattle.object_heap.specs.Effects.{Effect, Answers, after_paying, throws}
use Rattle.object_heap.specs.Fits.{kinds, passes, is_exception, Rules, Fits, EffectFits, AnswerFits}
use Rattle.object_heap.specs.Paying.{Pays, PaysSurely}
use Rattle.object_heap.specs.Store.{Store, charge, paid}
use Rattle.object_heap.proofs.Fitting.{added_fits}

-- what is paid leaves the objects that were paid
some_paid : (objects : List Object) (new : Store) (room : ℕ) (test : Bool) → (if test then Some (record { objects = objects; room = room }) else None) ≡ Some new → objects ≡ new.objects
some_paid objects new room true e = let same : (record { objects = objects; room = room }) ≡ new = cc in ap (λ (s : Store). s.objects) same
some_paid objects new room false e = cc

paid_objects : (old new : Store) (objects : List Object) (made : ℕ) → paid old objects made ≡ Some new → objects ≡ new.objects
unfolding paid
paid_objects old new objects made e = some_paid objects new (old.room - charge old objects made) (nat_le (charge old objects made) old.room) e

pub pays_fits : {A : Type 0} (rules : Rules) (old new : Store) (objects : List Object) (made : ℕ) (result : Result A HeapErr) → Pays old new objects made result
    → Fits rules old.objects → Fits rules objects → Fits rules new.objects
pays_fits rules old new objects made (Ok x) p f g = subst (Fits rules) (paid_objects old new objects made p) g
pays_fits rules old new objects made (Err Room) p f g = subst (λ (s : Store). Fits rules s.objects) (sym p.1) f
pays_fits rules old new objects made (Err NoMemory) p f g = subst (λ (s : Store). Fits rules s.objects) (sym p) f

pub pays_surely_fits : (rules : Rules) (old new : Store) (objects : List Object) (made : ℕ) (result : Bool) → PaysSurely old new objects made result
    → Fits rules old.objects → Fits rules objects → Fits rules new.objects
pays_surely_fits rules old new objects made true p f g = subst (Fits rules) (paid_objects old new objects made p) g
pays_surely_fits rules old new objects made false p f g = subst (λ (s : Store). Fits rules s.objects) (sym p.1) f

-- an effect that is paid leaves a store that fits, where it does for any room
pub after_fits : (rules : Rules) (store : Store) (objects : List Object) (made : ℕ) (next : Store → Effect)
    → ((room : ℕ) → EffectFits rules (next (record { objects = objects; room = room }))) → EffectFits rules (after_paying (paid store objects made) next)
unfolding paid
after_fits rules store objects made next h =
    elim (nat_le (charge store objects made) store.room) as (λ b. EffectFits rules (after_paying (if b then Some (record { objects = objects; room = store.room - charge store objects made }) else None) next))
    [ true ↦ h (store.room - charge store objects made) | false ↦ tt ]

-- what is added last is what is thrown
thrown_fits : (objects : List Object) (class : ℕ) (message : Option (List ℕ)) → class_is_below class EXCEPTION ≡ true
    → passes is_exception (slice_get (kinds (objects ++ o.Exc class message ∷ [])) (length objects)) ≡ true
thrown_fits [] class message h = h
thrown_fits (x ∷ objects) class message h = thrown_fits objects class message h

pub throws_fits : (rules : Rules) (store : Store) (class : ℕ) (message : Option (List ℕ)) → Fits rules store.objects → class_is_below class EXCEPTION ≡ true → EffectFits rules (throws store class message)
throws_fits rules store class message f h =
    after_fits rules store _ 0 _ (λ room. (
      added_fits rules store.objects (o.Exc class message) f h,
      (omega (arith, length-append store.objects (o.Exc class message ∷ [])), thrown_fits store.objects class message h),
    ))

-- what is answered fits
pub answers_fit : (rules : Rules) (effect : Effect) (old new : Store) (answer : Answer) → Answers effect old new answer → Fits rules old.objects → EffectFits rules effect → AnswerFits rules new answer
answers_fit rules effect old new (a.Value value) h f g = subst (EffectFits rules) h g
answers_fit rules effect old new (a.Thrown id) h f g = subst (EffectFits rules) h g
answers_fit rules effect old new a.Room h f g = subst (λ (s : Store). Fits rules s.objects) (sym h.1) f
answers_fit rules effect old new a.NoMemory h f g = subst (λ (s : Store). Fits rules s.objects) (sym h) f
