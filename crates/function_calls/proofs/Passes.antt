-- What comes of arguments that are passed, one after the other.
use Rattle.std.proofs.Common.{◌≡◌, ℕ, suc, ◌+◌, ◌-◌, ◌<◌, ◌≤◌, Bool, true, false, Option, Some, None, List, [], ◌∷◌, ◌++◌, length, get_or, take, drop, refl, sym, ap, ◌∙◌, subst, slice_get, slice_set, if◌then◌else◌, arith}
use Rattle.std.proofs.lemmas.List.{length-drop, take_rest}
use Rattle.pl_types.specs.declared.ty.Ty.{Ty, out-Ty}
use Rattle.allowlist.specs.Allow.{AllowList}
use Rattle.object_values.specs.declared.object.Object.TheVariants as o
use Rattle.object_values.specs.declared.value.Value.{Value}
use Rattle.object_values.specs.declared.value.Value.TheVariants as v
use Rattle.object_heap.specs.declared.answer.Answer.{Answer}
use Rattle.object_heap.specs.declared.answer.Answer.TheVariants as a
use Rattle.object_heap.specs.Effects.{Effect, Gives, Throws, NoRoom, after_paying, throws}
use Rattle.object_heap.specs.Store.{Store, paid}
use Rattle.number_ops.specs.Outcomes.{effect}
use Rattle.def_access.specs.Access.{cast_to}
use Rattle.def_access.specs.Coming.{Puts}
use Rattle.def_access.proofs.CastLemmas.{cast_plain, told_value}
use Rattle.def_resolve.specs.Failures.{does_not_fit}
use Rattle.function_calls.specs.declared.texts.Texts.{Texts}
use Rattle.function_calls.specs.Coming.{MeetsAs, PassesAs, Taken, none_taken, one_taken}
use Rattle.function_calls.specs.Passing.{Passed, All, Ended, after_meeting, after_passing, is_loose, meets, passed_from, passed_there, passed_twice, taken, taken_if, takes, takes_as, wanted_layer}
use Rattle.function_calls.proofs.Renewing.{same_store, taken_then}

-- ---- what a value leaves that meets a parameter

paid_throws : (id : ℕ) (found : Option Store) (value : Value) (new : Store) → after_paying found (λ left. Throws id left) ≡ Gives value new → ⊥
paid_throws id None value new h = cc
paid_throws id (Some left) value new h = cc

throws_nothing : (store : Store) (class : ℕ) (message : Option (List ℕ)) (value : Value) (new : Store) → throws store class message ≡ Gives value new → ⊥
throws_nothing store class message value new h = paid_throws (length store.objects) (paid store (store.objects ++ o.Exc class message ∷ []) 0) value new h

if_taken : (texts : Texts) (allow : AllowList) (store now : Store) (id iface : ℕ) (cast : Value) (test : Bool) → is_loose (slice_get store.objects id) ≡ true
    → takes texts allow iface (slice_get store.objects id) ≡ test → taken_if store id iface test ≡ Gives cast now → Taken texts allow store now
if_taken texts allow store now id iface cast true loose fits h =
    let same : taken store id iface ≡ now = cc in
    subst (λ (s : Store). Taken texts allow store s) same (one_taken id iface none_taken loose fits)
if_taken texts allow store now id iface cast false loose fits h = absurd (throws_nothing store _ _ cast now h)

as_taken : (texts : Texts) (allow : AllowList) (store now : Store) (id : ℕ) (cast : Value) (wanted : Option ℕ) → is_loose (slice_get store.objects id) ≡ true
    → takes_as texts allow store id wanted ≡ Gives cast now → Taken texts allow store now
as_taken texts allow store now id cast None loose h = absurd (throws_nothing store _ _ cast now h)
as_taken texts allow store now id cast (Some iface) loose h = if_taken texts allow store now id iface cast (takes texts allow iface (slice_get store.objects id)) loose refl h

cast_taken : (texts : Texts) (allow : AllowList) (store now : Store) (of : Ty) (value cast : Value) → effect store (cast_to store.objects value of) ≡ Gives cast now → Taken texts allow store now
cast_taken texts allow store now of value cast h =
    same_store texts allow store now (told_value (cast_to store.objects value of) store now cast (cast_plain store.objects value of) h).1

object_taken : (texts : Texts) (allow : AllowList) (store now : Store) (of : Ty) (id : ℕ) (cast : Value) (test : Bool) → is_loose (slice_get store.objects id) ≡ test
    → (if test then takes_as texts allow store id (wanted_layer (out-Ty of)) else effect store (cast_to store.objects (v.Ref id) of)) ≡ Gives cast now → Taken texts allow store now
object_taken texts allow store now of id cast true loose h = as_taken texts allow store now id cast (wanted_layer (out-Ty of)) loose h
object_taken texts allow store now of id cast false loose h = cast_taken texts allow store now of (v.Ref id) cast h

pub meets_taken : (texts : Texts) (allow : AllowList) (store now : Store) (of : Ty) (value cast : Value) → meets texts allow store of value ≡ Gives cast now → Taken texts allow store now
unfolding meets
meets_taken texts allow store now of (v.Ref id) cast h = object_taken texts allow store now of id cast (is_loose (slice_get store.objects id)) refl h
meets_taken texts allow store now of v.Null cast h = cast_taken texts allow store now of v.Null cast h
meets_taken texts allow store now of (v.Bool flag) cast h = cast_taken texts allow store now of (v.Bool flag) cast h
meets_taken texts allow store now of (v.Byte number) cast h = cast_taken texts allow store now of (v.Byte number) cast h
meets_taken texts allow store now of (v.Short number) cast h = cast_taken texts allow store now of (v.Short number) cast h
meets_taken texts allow store now of (v.Char unit) cast h = cast_taken texts allow store now of (v.Char unit) cast h
meets_taken texts allow store now of (v.Int number) cast h = cast_taken texts allow store now of (v.Int number) cast h
meets_taken texts allow store now of (v.Long number) cast h = cast_taken texts allow store now of (v.Long number) cast h
meets_taken texts allow store now of (v.Str text) cast h = cast_taken texts allow store now of (v.Str text) cast h

-- ---- want of memory, and a later store

pub no_memory_passes : (texts : Texts) (allow : AllowList) (old mid : Store) (p : Passed) (now : List Value) → Taken texts allow old mid → PassesAs texts allow old p mid now (Some a.NoMemory)
no_memory_passes texts allow old mid (All store values) now t = t
no_memory_passes texts allow old mid (Ended store told) now t = t

pub later_passes : (texts : Texts) (allow : AllowList) (old mid : Store) (p : Passed) (new : Store) (now : List Value) (result : Option Answer) → Taken texts allow old mid
    → PassesAs texts allow mid p new now result → PassesAs texts allow old p new now result
later_passes texts allow old mid (All store values) new now None t h = (h.0, h.1, taken_then texts allow old mid new t h.2)
later_passes texts allow old mid (All store values) new now (Some a.NoMemory) t h = taken_then texts allow old mid new t h
later_passes texts allow old mid (All store values) new now (Some (a.Value value)) t h = h
later_passes texts allow old mid (All store values) new now (Some (a.Thrown id)) t h = h
later_passes texts allow old mid (All store values) new now (Some a.Room) t h = h
later_passes texts allow old mid (Ended store told) new now None t h = h
later_passes texts allow old mid (Ended store told) new now (Some a.NoMemory) t h = taken_then texts allow old mid new t h
later_passes texts allow old mid (Ended store told) new now (Some (a.Value value)) t h = h
later_passes texts allow old mid (Ended store told) new now (Some (a.Thrown id)) t h = h
later_passes texts allow old mid (Ended store told) new now (Some a.Room) t h = h

-- ---- one argument

abbrev There : Texts → AllowList → Store → Ty → List Value → ℕ → Option Value → Passed
There texts allow old of values at found = passed_there texts allow old of values at found All

meet_value : (texts : Texts) (allow : AllowList) (old mid : Store) (of : Ty) (values now : List Value) (at : ℕ) (value cast : Value) → meets texts allow old of value ≡ Gives cast mid
    → now ≡ slice_set values at cast → PassesAs texts allow old (There texts allow old of values at (Some value)) mid now None
meet_value texts allow old mid of values now at value cast h k =
    subst (λ (told : Effect). PassesAs texts allow old (after_meeting old told (λ s c. All s (slice_set values at c))) mid now None) (sym h) (sym k, refl, meets_taken texts allow old mid of value cast h)

meet_thrown : (texts : Texts) (allow : AllowList) (old mid : Store) (of : Ty) (values now : List Value) (at : ℕ) (value : Value) (id : ℕ) → meets texts allow old of value ≡ Throws id mid
    → PassesAs texts allow old (There texts allow old of values at (Some value)) mid now (Some (a.Thrown id))
meet_thrown texts allow old mid of values now at value id h =
    subst (λ (told : Effect). PassesAs texts allow old (after_meeting old told (λ s c. All s (slice_set values at c))) mid now (Some (a.Thrown id))) (sym h) refl

meet_full : (texts : Texts) (allow : AllowList) (old mid : Store) (of : Ty) (values now : List Value) (at : ℕ) (value : Value) → (meets texts allow old of value ≡ NoRoom) × (mid ≡ old)
    → PassesAs texts allow old (There texts allow old of values at (Some value)) mid now (Some a.Room)
meet_full texts allow old mid of values now at value h =
    subst (λ (told : Effect). PassesAs texts allow old (after_meeting old told (λ s c. All s (slice_set values at c))) mid now (Some a.Room)) (sym h.0) (refl, h.1)

said_as : (texts : Texts) (allow : AllowList) (old : Store) (p : Passed) (mid : Store) (now : List Value) (answer said : Answer) → said ≡ answer → PassesAs texts allow old p mid now (Some answer)
    → PassesAs texts allow old p mid now (Some said)
said_as texts allow old p mid now answer said k h = subst (λ (x : Answer). PassesAs texts allow old p mid now (Some x)) (sym k) h

pub meet_put : (texts : Texts) (allow : AllowList) (old mid : Store) (of : Ty) (values now : List Value) (at : ℕ) (found : Option Value) (told : Answer) (result : Option Answer)
    → MeetsAs old mid (meets texts allow old of) found (Some told) → Puts values at told now result → PassesAs texts allow old (passed_there texts allow old of values at found All) mid now result
meet_put texts allow old mid of values now at None told result h k = absurd h
meet_put texts allow old mid of values now at (Some value) (a.Value cast) None h k = meet_value texts allow old mid of values now at value cast h k
meet_put texts allow old mid of values now at (Some value) (a.Value cast) (Some answer) h k = absurd k
meet_put texts allow old mid of values now at (Some value) (a.Thrown id) None h k = absurd k
meet_put texts allow old mid of values now at (Some value) (a.Thrown id) (Some answer) h k =
    said_as texts allow old (There texts allow old of values at (Some value)) mid now (a.Thrown id) answer k (meet_thrown texts allow old mid of values now at value id h)
meet_put texts allow old mid of values now at (Some value) a.Room None h k = absurd k
meet_put texts allow old mid of values now at (Some value) a.Room (Some answer) h k =
    said_as texts allow old (There texts allow old of values at (Some value)) mid now a.Room answer k (meet_full texts allow old mid of values now at value h)
meet_put texts allow old mid of values now at (Some value) a.NoMemory None h k = absurd k
meet_put texts allow old mid of values now at (Some value) a.NoMemory (Some answer) h k =
    said_as texts allow old (There texts allow old of values at (Some value)) mid now a.NoMemory answer k
    (no_memory_passes texts allow old mid (There texts allow old of values at (Some value)) now (same_store texts allow old mid h))

pub meet_none : (texts : Texts) (allow : AllowList) (old mid : Store) (of : Ty) (values : List Value) (at : ℕ) (found : Option Value) → MeetsAs old mid (meets texts allow old of) found None
    → PassesAs texts allow old (passed_there texts allow old of values at found All) mid values None
meet_none texts allow old mid of values at None h = (refl, sym h, same_store texts allow old mid h)
meet_none texts allow old mid of values at (Some value) h = absurd h

-- ---- one argument after the other

after_on : (texts : Texts) (allow : AllowList) (old mid : Store) (values now : List Value) (at : ℕ) (told : Effect) (next : Store → List Value → Passed)
    → PassesAs texts allow old (after_meeting old told (λ s c. All s (slice_set values at c))) mid now None
    → (after_meeting old told (λ s c. next s (slice_set values at c)) ≡ next mid now) × Taken texts allow old mid
after_on texts allow old mid values now at (Gives value s) next h = (ap (next s) h.0 ∙ ap (λ (x : Store). next x now) h.1, h.2)
after_on texts allow old mid values now at (Throws id s) next h = absurd h
after_on texts allow old mid values now at NoRoom next h = absurd h

-- a step goes on with what it leaves
pub step_on : (texts : Texts) (allow : AllowList) (old mid : Store) (of : Ty) (values now : List Value) (at : ℕ) (found : Option Value) (next : Store → List Value → Passed)
    → PassesAs texts allow old (passed_there texts allow old of values at found All) mid now None
    → (passed_there texts allow old of values at found next ≡ next mid now) × Taken texts allow old mid
step_on texts allow old mid of values now at None next h = (ap (next old) h.0 ∙ ap (λ (x : Store). next x now) h.1, h.2)
step_on texts allow old mid of values now at (Some value) next h = after_on texts allow old mid values now at (meets texts allow old of value) next h

after_ends : (texts : Texts) (allow : AllowList) (old mid : Store) (values now : List Value) (at : ℕ) (told : Effect) (next : Store → List Value → Passed) (answer : Answer)
    → PassesAs texts allow old (after_meeting old told (λ s c. All s (slice_set values at c))) mid now (Some answer)
    → PassesAs texts allow old (after_meeting old told (λ s c. next s (slice_set values at c))) mid now (Some answer)
after_ends texts allow old mid values now at (Gives value s) next (a.Value other) h = absurd h
after_ends texts allow old mid values now at (Gives value s) next (a.Thrown id) h = absurd h
after_ends texts allow old mid values now at (Gives value s) next a.Room h = absurd h
after_ends texts allow old mid values now at (Gives value s) next a.NoMemory h = no_memory_passes texts allow old mid (next s (slice_set values at value)) now h
after_ends texts allow old mid values now at (Throws id s) next answer h = h
after_ends texts allow old mid values now at NoRoom next answer h = h

-- what ends a step ends them all
pub step_ends : (texts : Texts) (allow : AllowList) (old mid : Store) (of : Ty) (values now : List Value) (at : ℕ) (found : Option Value) (next : Store → List Value → Passed) (answer : Answer)
    → PassesAs texts allow old (passed_there texts allow old of values at found All) mid now (Some answer)
    → PassesAs texts allow old (passed_there texts allow old of values at found next) mid now (Some answer)
step_ends texts allow old mid of values now at None next (a.Value other) h = absurd h
step_ends texts allow old mid of values now at None next (a.Thrown id) h = absurd h
step_ends texts allow old mid of values now at None next a.Room h = absurd h
step_ends texts allow old mid of values now at None next a.NoMemory h = no_memory_passes texts allow old mid (next old values) now h
step_ends texts allow old mid of values now at (Some value) next answer h = after_ends texts allow old mid values now at (meets texts allow old of value) next answer h

-- ---- some arguments after others

-- what is passed goes on with what was passed before
pub passing_on : (texts : Texts) (allow : AllowList) (old mid new : Store) (p : Passed) (next : Store → List Value → Passed) (middle now : List Value) (result : Option Answer)
    → PassesAs texts allow old p mid middle None → PassesAs texts allow mid (next mid middle) new now result → PassesAs texts allow old (after_passing p next) new now result
passing_on texts allow old mid new (Ended store told) next middle now result h k = absurd h
passing_on texts allow old mid new (All store values) next middle now result h k =
    let same : next store values ≡ next mid middle = ap (next store) h.0 ∙ ap (λ (x : Store). next x middle) h.1 in
    subst (λ (p : Passed). PassesAs texts allow old p new now result) (sym same) (later_passes texts allow old mid (next mid middle) new now result h.2 k)

pub passing_ends : (texts : Texts) (allow : AllowList) (old mid : Store) (p : Passed) (next : Store → List Value → Passed) (now : List Value) (answer : Answer)
    → PassesAs texts allow old p mid now (Some answer) → PassesAs texts allow old (after_passing p next) mid now (Some answer)
passing_ends texts allow old mid (All store values) next now (a.Value other) h = absurd h
passing_ends texts allow old mid (All store values) next now (a.Thrown id) h = absurd h
passing_ends texts allow old mid (All store values) next now a.Room h = absurd h
passing_ends texts allow old mid (All store values) next now a.NoMemory h = no_memory_passes texts allow old mid (next store values) now h
passing_ends texts allow old mid (Ended store told) next now answer h = h

-- ---- arguments from a place on, in a loop over their types

-- no argument that is passed leaves all as it was
pub nothing_passed : (texts : Texts) (allow : AllowList) (store : Store) (values : List Value) → PassesAs texts allow store (All store values) store values None
nothing_passed texts allow store values = (refl, refl, none_taken)

-- what is said of the first of these types, by the type that was read there
at_first : (texts : Texts) (allow : AllowList) (mid new : Store) (of first : Ty) (values now : List Value) (at : ℕ) (result said : Option Answer) → of ≡ first → result ≡ said
    → PassesAs texts allow mid (There texts allow mid of values at (slice_get values at)) new now result → PassesAs texts allow mid (There texts allow mid first values at (slice_get values at)) new now said
at_first texts allow mid new of first values now at result said e k h =
    subst (λ (x : Ty). PassesAs texts allow mid (There texts allow mid x values at (slice_get values at)) new now said) e
    (subst (λ (r : Option Answer). PassesAs texts allow mid (There texts allow mid of values at (slice_get values at)) new now r) k h)

-- what is left is passed on with what the first of them leaves
pub params_on : (texts : Texts) (allow : AllowList) (old mid new : Store) (whole : Passed) (ofs : List Ty) (of : Ty) (at : ℕ) (values now : List Value) (result : Option Answer) → 1 ≤ length ofs
    → of ≡ get_or ofs 0 of → result ≡ None → whole ≡ passed_from texts allow ofs at mid values → Taken texts allow old mid
    → PassesAs texts allow mid (There texts allow mid of values at (slice_get values at)) new now result
    → (whole ≡ passed_from texts allow (take (length ofs - 1) (drop 1 ofs)) (at + 1) new now) × Taken texts allow old new
params_on texts allow old mid new whole [] of at values now result h is none e t k = absurd (omega (arith, h))
params_on texts allow old mid new whole (first ∷ others) of at values now result h is none e t k =
    let on = step_on texts allow mid new first values now at (slice_get values at) (λ s c. passed_from texts allow others (suc at) s c)
    (at_first texts allow mid new of first values now at result None is none k) in
    let left : others ≡ take (length (first ∷ others) - 1) (drop 1 (first ∷ others)) = sym (take_rest (first ∷ others) 1) in
    let next : suc at ≡ at + 1 = omega arith in (
      e ∙ on.0 ∙ ap (λ (ofs : List Ty). passed_from texts allow ofs (suc at) new now) left
          ∙ ap (λ (n : ℕ). passed_from texts allow (take (length (first ∷ others) - 1) (drop 1 (first ∷ others))) n new now) next,
      taken_then texts allow old mid new t on.1,
    )

-- what ends the first of them ends all
pub params_end : (texts : Texts) (allow : AllowList) (old mid new : Store) (whole : Passed) (ofs : List Ty) (of : Ty) (at : ℕ) (values now : List Value) (result : Option Answer) (answer : Answer)
    → 1 ≤ length ofs → of ≡ get_or ofs 0 of → result ≡ Some answer → whole ≡ passed_from texts allow ofs at mid values → Taken texts allow old mid
    → PassesAs texts allow mid (There texts allow mid of values at (slice_get values at)) new now result → PassesAs texts allow old whole new now (Some answer)
params_end texts allow old mid new whole [] of at values now result answer h is some e t k = absurd (omega (arith, h))
params_end texts allow old mid new whole (first ∷ others) of at values now result answer h is some e t k =
    let ends = step_ends texts allow mid new first values now at (slice_get values at) (λ s c. passed_from texts allow others (suc at) s c) answer
    (at_first texts allow mid new of first values now at result (Some answer) is some k) in
    subst (λ (p : Passed). PassesAs texts allow old p new now (Some answer)) (sym e)
    (later_passes texts allow old mid (passed_from texts allow (first ∷ others) at mid values) new now (Some answer) t ends)

-- where none are left all were passed
pub params_done : (texts : Texts) (allow : AllowList) (old mid : Store) (whole : Passed) (ofs : List Ty) (at : ℕ) (values : List Value) → length ofs < 1
    → whole ≡ passed_from texts allow ofs at mid values → Taken texts allow old mid → PassesAs texts allow old whole mid values None
params_done texts allow old mid whole [] at values h e t = subst (λ (p : Passed). PassesAs texts allow old p mid values None) (sym e) (refl, refl, t)
params_done texts allow old mid whole (first ∷ others) at values h e t = absurd (omega (arith, h))

-- each turn goes on by one place and leaves one type fewer
pub counted_on : (ofs : List Ty) (at from count : ℕ) → 1 ≤ length ofs → at + length ofs ≡ from + count → (at + 1) + length (take (length ofs - 1) (drop 1 ofs)) ≡ from + count
counted_on ofs at from count h e = omega (arith, ap length (take_rest ofs 1), length-drop 1 ofs, h, e)
