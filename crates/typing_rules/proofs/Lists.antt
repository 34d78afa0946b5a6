-- Lists whose beginning is done.
use Rattle.std.proofs.Common.{◌≡◌, refl, ap, sym, ◌∙◌, ℕ, suc, ◌+◌, ◌<◌, ◌≤◌, List, [], ◌∷◌, ◌++◌, length, get_or, drop, reverse, arith, Result, Ok, Err, IsErr, IsErrAnd, subst}
use Rattle.std.proofs.Common.{add-one, append-nil, append_assoc, drop-cons}
use Rattle.std.proofs.lemmas.Grind.{common_steps}
use Rattle.std.proofs.lemmas.List.{drop_all}
use Rattle.pl_types.specs.declared.refusal.Fail.{Fail}
use Rattle.pl_types.specs.declared.refusal.Fail.TheVariants.{Refused, NoMemory}
use Rattle.pl_types.specs.declared.ty.Ty.{Ty}
use Rattle.typed_tree.specs.declared.program.Named.{Named}
use Rattle.typed_tree.specs.declared.typed.Typed.{Typed}
use Rattle.typed_tree.specs.declared.statement.TypedStatement.{TypedStatement}
use Rattle.typing_rules.specs.declared.part.Part.{Part}
use Rattle.typing_rules.specs.declared.part.Step.{Step}
use Rattle.typing_rules.specs.Outcomes.{Out, Keeps, KeepsIn, bind}
use Rattle.typing_rules.specs.Rules.Calls.{arguments}
use Rattle.typing_rules.specs.Rules.Casts.{cast_to, cast_each}
use Rattle.typing_rules.specs.Rules.Members.{cast_all}
use Rattle.typing_rules.specs.Rules.Statements.{statements_of}

abbrev pub behind : {A : Type 0} → List A → Out (List A) → Out (List A)
behind done rest = bind rest (λ xs. Ok (done ++ xs))

-- the first is cast, and then the others
joined : (casts : List Typed) (o : Out Typed) (rest : Out (List Typed)) → behind casts (bind o (λ y. bind rest (λ ys. Ok (y ∷ ys)))) ≡ bind (behind casts (bind o (λ y. Ok (y ∷ [])))) (λ zs. behind zs rest)
joined casts (Ok y) (Ok ys) = ap (λ (zs : List Typed). Ok zs) (sym (append_assoc casts (y ∷ []) ys))
joined casts (Ok y) (Err r) = refl
joined casts (Err r) rest = refl

none_left : (casts : List Typed) (rest : Out (List Typed)) → rest ≡ Ok [] → Ok (casts ++ []) ≡ behind (casts ++ []) rest
none_left casts rest is = ap (λ (zs : List Typed). Ok zs) (sym (append-nil (casts ++ []))) ∙ ap (behind (casts ++ [])) (sym is)

no_types : (ts : List Ty) → cast_all ts [] ≡ Ok []
no_types [] = refl
no_types (t ∷ ts) = refl

one_type : (casts : List Typed) (t : Ty) (ts : List Ty) (xs : List Part) → behind casts (cast_all (t ∷ ts) xs) ≡ bind (behind casts (cast_all (t ∷ []) xs)) (λ zs. behind zs (cast_all ts (drop 1 xs)))
one_type casts t ts [] = none_left casts (cast_all ts []) (no_types ts)
one_type casts t ts (x ∷ xs) = joined casts (cast_to t x) (cast_all ts xs)

no_parameters : (ps : List Named) → arguments ps [] ≡ Ok []
no_parameters [] = refl
no_parameters (p ∷ ps) = refl

one_parameter : (casts : List Typed) (p : Named) (ps : List Named) (xs : List Part) → behind casts (arguments (p ∷ ps) xs) ≡ bind (behind casts (cast_all (p.of ∷ []) xs)) (λ zs. behind zs (arguments ps (drop 1 xs)))
one_parameter casts p ps [] = none_left casts (arguments ps []) (no_parameters ps)
one_parameter casts p ps (x ∷ xs) = joined casts (cast_to p.of x) (arguments ps xs)

-- the next type of those that are left
pub next_type : (casts done : List Typed) (ts : List Ty) (i : ℕ) (t : Ty) (xs ys : List Part) → i < length ts → t ≡ get_or ts i t → behind casts (cast_all (t ∷ []) xs) ≡ Ok done → ys ≡ drop 1 xs
    → behind casts (cast_all (drop i ts) xs) ≡ behind done (cast_all (drop (i + 1) ts) ys)
next_type casts done ts i t xs ys below item given rest =
    ap (λ (l : List Ty). behind casts (cast_all l xs)) (drop-cons ts i t below ∙ ap (λ (u : Ty). u ∷ drop (suc i) ts) (sym item))
    ∙ one_type casts t (drop (suc i) ts) xs
    ∙ ap (λ (o : Out (List Typed)). bind o (λ zs. behind zs (cast_all (drop (suc i) ts) (drop 1 xs)))) given
    ∙ ap (λ (l : List Part). behind done (cast_all (drop (suc i) ts) l)) (sym rest)
    ∙ ap (λ (n : ℕ). behind done (cast_all (drop n ts) ys)) (sym (add-one i))

-- the next parameter of those that are left
pub next_parameter : (casts done : List Typed) (ps : List Named) (i : ℕ) (p : Named) (xs ys : List Part) → i < length ps → p ≡ get_or ps i p → behind casts (cast_all (p.of ∷ []) xs) ≡ Ok done → ys ≡ drop 1 xs
    → behind casts (arguments (drop i ps) xs) ≡ behind done (arguments (drop (i + 1) ps) ys)
next_parameter casts done ps i p xs ys below item given rest =
    ap (λ (l : List Named). behind casts (arguments l xs)) (drop-cons ps i p below ∙ ap (λ (q : Named). q ∷ drop (suc i) ps) (sym item))
    ∙ one_parameter casts p (drop (suc i) ps) xs
    ∙ ap (λ (o : Out (List Typed)). bind o (λ zs. behind zs (arguments (drop (suc i) ps) (drop 1 xs)))) given
    ∙ ap (λ (l : List Part). behind done (arguments (drop (suc i) ps) l)) (sym rest)
    ∙ ap (λ (n : ℕ). behind done (arguments (drop n ps) ys)) (sym (add-one i))

-- what the code tells is what the rule tells of which a part fails
fails_by : {A : Type 0} (whole part : Out A) (f : A → Out A) (e : Fail) (new : A) → whole ≡ bind part f → KeepsIn {U = Unit {0}} part (Err e) new → Keeps whole (Err e)
fails_by {A = A} whole part f (Refused r) new is fails = is ∙ ap (λ (o : Out A). bind o f) fails
fails_by whole part f NoMemory new is fails = tt

told_as : {A : Type 0} (whole : Out A) (e : Fail) (told : Result A Fail) → Keeps whole (Err e) → IsErr told → IsErrAnd told (λ x. x ≡ e) → Keeps whole told
told_as whole e (Ok a) fails is same = absurd cc
told_as whole e (Err x) fails is same = subst (λ (y : Fail). Keeps whole (Err y)) (sym same) fails

pub next_type_fails : (whole : Out (List Typed)) (casts done : List Typed) (ts : List Ty) (i : ℕ) (t : Ty) (xs : List Part) (e : Fail) (told : Result (List Typed) Fail) → whole ≡ behind casts (cast_all (drop i ts) xs) → i < length ts → t ≡ get_or ts i t
    → KeepsIn {U = Unit {0}} (behind casts (cast_all (t ∷ []) xs)) (Err e) done → IsErr told → IsErrAnd told (λ x. x ≡ e) → Keeps whole told
next_type_fails whole casts done ts i t xs e told is below item fails =
    told_as whole e told (fails_by whole (behind casts (cast_all (t ∷ []) xs)) (λ zs. behind zs (cast_all (drop (suc i) ts) (drop 1 xs))) e done
    (is ∙ ap (λ (l : List Ty). behind casts (cast_all l xs)) (drop-cons ts i t below ∙ ap (λ (u : Ty). u ∷ drop (suc i) ts) (sym item)) ∙ one_type casts t (drop (suc i) ts) xs) fails)

pub next_parameter_fails : (whole : Out (List Typed)) (casts done : List Typed) (ps : List Named) (i : ℕ) (p : Named) (xs : List Part) (e : Fail) (told : Result (List Typed) Fail) → whole ≡ behind casts (arguments (drop i ps) xs) → i < length ps → p ≡ get_or ps i p
    → KeepsIn {U = Unit {0}} (behind casts (cast_all (p.of ∷ []) xs)) (Err e) done → IsErr told → IsErrAnd told (λ x. x ≡ e) → Keeps whole told
next_parameter_fails whole casts done ps i p xs e told is below item fails =
    told_as whole e told (fails_by whole (behind casts (cast_all (p.of ∷ []) xs)) (λ zs. behind zs (arguments (drop (suc i) ps) (drop 1 xs))) e done
    (is ∙ ap (λ (l : List Named). behind casts (arguments l xs)) (drop-cons ps i p below ∙ ap (λ (q : Named). q ∷ drop (suc i) ps) (sym item)) ∙ one_parameter casts p (drop (suc i) ps) xs) fails)

-- the next part of those that are left, which is the last
turned : (left : List Part) (x : Part) → reverse (left ++ x ∷ []) ≡ x ∷ reverse left
turned left x = grind (arith, common_steps)

one_part : (casts : List Typed) (to : Ty) (x : Part) (xs : List Part) → behind casts (cast_each to (x ∷ xs)) ≡ bind (behind casts (cast_all (to ∷ []) (x ∷ []))) (λ zs. behind zs (cast_each to xs))
one_part casts to x xs = joined casts (cast_to to x) (cast_each to xs)

next_by : (casts : List Typed) (to : Ty) (all left : List Part) (x : Part) → all ≡ left ++ x ∷ []
    → behind casts (cast_each to (reverse all)) ≡ bind (behind casts (cast_all (to ∷ []) (x ∷ []))) (λ zs. behind zs (cast_each to (reverse left)))
next_by casts to all left x is =
    ap (λ (l : List Part). behind casts (cast_each to (reverse l))) is
    ∙ ap (λ (l : List Part). behind casts (cast_each to l)) (turned left x)
    ∙ one_part casts to x (reverse left)

pub next_part : (casts done : List Typed) (to : Ty) (all left : List Part) (x : Part) → all ≡ left ++ x ∷ [] → behind casts (cast_all (to ∷ []) (x ∷ [])) ≡ Ok done
    → behind casts (cast_each to (reverse all)) ≡ behind done (cast_each to (reverse left))
next_part casts done to all left x is given = next_by casts to all left x is ∙ ap (λ (o : Out (List Typed)). bind o (λ zs. behind zs (cast_each to (reverse left)))) given

pub next_part_fails : (whole : Out (List Typed)) (casts done : List Typed) (to : Ty) (all left : List Part) (x : Part) (e : Fail) (told : Result (List Typed) Fail) → whole ≡ behind casts (cast_each to (reverse all)) → all ≡ left ++ x ∷ []
    → KeepsIn {U = Unit {0}} (behind casts (cast_all (to ∷ []) (x ∷ []))) (Err e) done → IsErr told → IsErrAnd told (λ x. x ≡ e) → Keeps whole told
next_part_fails whole casts done to all left x e told is ends fails =
    told_as whole e told (fails_by whole (behind casts (cast_all (to ∷ []) (x ∷ []))) (λ zs. behind zs (cast_each to (reverse left))) e done (is ∙ next_by casts to all left x ends) fails)

pub end_of_parts : (casts : List Typed) (to : Ty) (all : List Part) → all ≡ [] → behind casts (cast_each to (reverse all)) ≡ Ok casts
end_of_parts casts to all is =
    ap (λ (l : List Part). behind casts (cast_each to (reverse l))) is ∙ ap (λ (zs : List Typed). Ok zs) (append-nil casts)

-- none of the types is left
pub end_of_types : (casts : List Typed) (ts : List Ty) (i : ℕ) (xs : List Part) → length ts ≤ i → behind casts (cast_all (drop i ts) xs) ≡ Ok casts
end_of_types casts ts i xs past =
    ap (λ (l : List Ty). behind casts (cast_all l xs)) (drop_all i ts past) ∙ ap (λ (zs : List Typed). Ok zs) (append-nil casts)

-- none of the parameters is left
pub end_of_parameters : (casts : List Typed) (ps : List Named) (i : ℕ) (xs : List Part) → length ps ≤ i → behind casts (arguments (drop i ps) xs) ≡ Ok casts
end_of_parameters casts ps i xs past =
    ap (λ (l : List Named). behind casts (arguments l xs)) (drop_all i ps past) ∙ ap (λ (zs : List Typed). Ok zs) (append-nil casts)

-- the next statement of those that are left, which is the last
pub next_statement : (done : List TypedStatement) (all left : List Step) (y : Step) → all ≡ left ++ y ∷ [] → done ++ statements_of (reverse all) ≡ (done ++ y.statement ∷ []) ++ statements_of (reverse left)
next_statement done all left y is = ap (λ (l : List Step). done ++ statements_of (reverse l)) is ∙ grind (arith, common_steps)
