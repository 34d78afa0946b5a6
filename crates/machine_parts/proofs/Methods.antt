-- What calls of methods mean, class by class.
use Rattle.std.proofs.Common.{◌≡◌, ℕ, ◌+◌, ◌-◌, ◌<◌, ◌≤◌, Bool, true, false, List, [], ◌∷◌, ◌++◌, map, length, take, drop, Option, Some, None, refl, sym, ap, ◌∙◌, subst, arith, slice_get, get_or}
use Rattle.std.specs.Prelude.{◌==◌, if◌then◌else◌}
use Rattle.std.specs.List.{range_with_len}
use Rattle.std.proofs.lemmas.List.FromFn.{get_or-map-range_with_len, length-map-range_with_len, map-range_with_len_more}
use Rattle.std.proofs.lemmas.Bool.{eq-eqb, eqb-true, ne_eqb}
use Rattle.std.proofs.lemmas.Grind.{common_steps}
use Rattle.std.proofs.lemmas.Option.{slice_get-get_or, slice_get_within}
use Rattle.pl_types.specs.declared.classes.TheConstants.{CLASS_COUNT}
use Rattle.allowlist.specs.Allow.{AllowList}
use Rattle.object_values.specs.declared.object.Object.{Object}
use Rattle.object_values.specs.declared.value.Value.{Value}
use Rattle.def_resolve.specs.declared.callee.Callee.{Callee}
use Rattle.def_resolve.specs.Resolution.{class_of, target_of}
use Rattle.def_access.specs.Access.{target_for}
use Rattle.def_access.specs.Coming.{CalleeListed, found_on}
use Rattle.def_access.proofs.Confined.{class_listed}
use Rattle.machine_parts.specs.Links.{methods_of, target_for_first, target_in}

-- ---- how the table is made

-- what it has for the classes below a number
abbrev pub methods_below : AllowList → List ℕ → ℕ → ℕ → List (Option Callee)
methods_below allow name arity count = map (λ class. target_of allow class name arity) (range_with_len 0 count)

pub one_more : (allow : AllowList) (name : List ℕ) (arity class : ℕ) (old new : List (Option Callee)) (found : Option Callee) → old ≡ methods_below allow name arity class → found ≡ target_of allow class name arity → new ≡ old ++ found ∷ []
    → new ≡ methods_below allow name arity (class + 1)
one_more allow name arity class old new found h is more =
    more
    ∙ ap (λ (xs : List (Option Callee)). xs ++ found ∷ []) h
    ∙ ap (λ (x : Option Callee). methods_below allow name arity class ++ x ∷ []) is
    ∙ sym (map-range_with_len_more (λ class. target_of allow class name arity) 0 class class (omega arith))

-- ---- what it tells

told : (f : ℕ → Option Callee) (count class : ℕ) (found : Option Callee) → Some found ≡ slice_get (map f (range_with_len 0 count)) class → found ≡ f class
told f count class found h =
    let within = slice_get_within (map f (range_with_len 0 count)) class found (sym h) in
    let below : class < count = subst (λ n. class < n) (length-map-range_with_len f 0 count) within in
    let there = slice_get-get_or (map f (range_with_len 0 count)) class found within in
    let at = get_or-map-range_with_len f 0 count class class found below (omega arith) in
    cc

pub told_target : (allow : AllowList) (name : List ℕ) (arity class : ℕ) (found : Option Callee) → Some found ≡ slice_get (methods_of allow name arity) class → found ≡ target_of allow class name arity
unfolding methods_of
told_target allow name arity class found h = told (λ class. target_of allow class name arity) CLASS_COUNT class found h

-- what a call means is what it has for the receiver's class
by_class : (allow : AllowList) (methods : List (Option Callee)) (name : List ℕ) (arity : ℕ) (class : Option ℕ) (known : ℕ) (found : Option Callee) → methods ≡ methods_of allow name arity → Some known ≡ class → Some found ≡ slice_get methods known
    → found ≡ target_for allow name arity class
by_class allow methods name arity None known found is of told = absurd (cc)
by_class allow methods name arity (Some class) known found is of told =
    let same : known ≡ class = cc in
    told_target allow name arity class found (told ∙ ap (λ m. slice_get m known) is ∙ ap (slice_get (methods_of allow name arity)) same)

known : (allow : AllowList) (methods : List (Option Callee)) (name : List ℕ) (arity : ℕ) (class : Option ℕ) (found : Option Callee) → methods ≡ methods_of allow name arity → Some found ≡ target_in methods class → found ≡ target_for allow name arity class
known allow methods name arity None found is told = absurd (cc)
known allow methods name arity (Some class) found is told = by_class allow methods name arity (Some class) class found is refl told

counted : (test : Bool) (next : Option (Option Callee)) (found : Option Callee) → Some found ≡ (if test then next else None) → (test ≡ true) × (Some found ≡ next)
counted true next found h = (refl, h)
counted false next found h = absurd (cc)

-- what a table tells for the first of some values, a call on it means
pub told_first : (allow : AllowList) (objects : List Object) (methods : List (Option Callee)) (name : List ℕ) (count : ℕ) (values : List Value) (found : Option Callee) → methods ≡ methods_of allow name count
    → Some found ≡ target_for_first methods count objects values → found ≡ found_on allow objects name values
told_first allow objects methods name count [] found is told = absurd (cc)
told_first allow objects methods name count (receiver ∷ arguments) found is told =
    let both = counted (length arguments == count) (target_in methods (class_of objects receiver)) found told in
    known allow methods name (length arguments) (class_of objects receiver) found (is ∙ ap (methods_of allow name) (sym (eqb-true (length arguments) count both.0))) both.1

-- ---- how it is asked

others : (first : Value) (rest : List Value) → length (take (length (first ∷ rest) - 1) (drop 1 (first ∷ rest))) ≡ length rest
others first rest = grind (arith, common_steps)

pub first_counted : (objects : List Object) (methods : List (Option Callee)) (count : ℕ) (values : List Value) (receiver : Value) (told : Option (Option Callee)) → 1 ≤ length values → receiver ≡ get_or values 0 receiver
    → length (take (length values - 1) (drop 1 values)) ≡ count → told ≡ target_in methods (class_of objects receiver) → told ≡ target_for_first methods count objects values
first_counted objects methods count [] receiver told some is h t = absurd (omega (arith, some))
first_counted objects methods count (first ∷ rest) receiver told some is h t =
    t ∙ ap (λ (r : Value). target_in methods (class_of objects r)) is
    ∙ ap (λ b. if b then target_in methods (class_of objects first) else None) (sym (eq-eqb (length rest) count (sym (others first rest) ∙ h)))

pub first_uncounted : (objects : List Object) (methods : List (Option Callee)) (count : ℕ) (values : List Value) → (length (take (length values - 1) (drop 1 values)) ≡ count → ⊥) → None ≡ target_for_first methods count objects values
first_uncounted objects methods count [] h = refl
first_uncounted objects methods count (first ∷ rest) h =
    ap (λ b. if b then target_in methods (class_of objects first) else None) (sym (ne_eqb (length rest) count (λ e. h (others first rest ∙ e))))

-- ---- what is called is of the list

pub found_listed : (allow : AllowList) (objects : List Object) (name : List ℕ) (values : List Value) → CalleeListed allow (found_on allow objects name values)
found_listed allow objects name [] = tt
found_listed allow objects name (receiver ∷ arguments) = class_listed allow name (length arguments) (class_of objects receiver)
