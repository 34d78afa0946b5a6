-- Members that were called, each once.
use Rattle.std.proofs.Common.{◌≡◌, ℕ, ◌<◌, Bool, true, false, ◌&&◌, ◌||◌, List, [], ◌∷◌, ◌++◌, length, eqb, arith, refl, sym, subst, ◌∙◌, length-append}
use Rattle.std.specs.Prelude.{nat_lt}
use Rattle.std.specs.List.{IsDistinct, list_all, list_any}
use Rattle.std.proofs.lemmas.Bool.Decides.{nat_tests}
use Rattle.std.proofs.lemmas.Cmp.{nat_eq_equiv}
use Rattle.std.proofs.lemmas.List.Folds.{list_all-append}
use Rattle.std.proofs.lemmas.Map.Keys.{IsDistinct-push}
use Rattle.std.proofs.lemmas.Map.Steps.{length-le_from_distinct_below}
use Rattle.machine_parts.specs.Rooms.{AreMembers, is_among}

-- either way round
turned : (number : ℕ) (numbers : List ℕ) → list_any (eqb number) numbers ≡ is_among number numbers
turned number [] = refl
turned number (n ∷ numbers) = rw (nat_eq_equiv.symm number n, turned number numbers) refl

of_member : (most number n : ℕ) (rest : Bool) → nat_lt n most ≡ true → (rest ≡ true → number < most) → (eqb number n || rest) ≡ true → number < most
of_member most number n true h k e = k refl
of_member most number n false h k e = grind (arith, nat_tests)

first_of_both : (a b : Bool) → (a && b) ≡ true → a ≡ true
first_of_both true b e = refl
first_of_both false b e = e

second_of_both : (a b : Bool) → (a && b) ≡ true → b ≡ true
second_of_both true b e = e
second_of_both false b e = absurd (cc)

-- each of them is one of the list
below : (most number : ℕ) (numbers : List ℕ) → list_all (λ n. nat_lt n most) numbers ≡ true → list_any (eqb number) numbers ≡ true → number < most
below most number [] h e = absurd (cc)
below most number (n ∷ numbers) h e =
    of_member most number n (list_any (eqb number) numbers) (first_of_both _ _ h) (λ f. below most number numbers (second_of_both (nat_lt n most) _ h) f) e

pub no_members : (most : ℕ) (numbers : List ℕ) → numbers ≡ [] → AreMembers most numbers
unfolding IsDistinct
no_members most numbers e = subst (AreMembers most) (sym e) (record { members = refl; once = tt })

pub one_more : (most number : ℕ) (numbers : List ℕ) → number < most → is_among number numbers ≡ false → AreMembers most numbers → AreMembers most (numbers ++ number ∷ [])
one_more most number numbers h first are = record {
  members = grind (arith, nat_tests, list_all-append (λ n. nat_lt n most) numbers (number ∷ []), are.members);
  once = IsDistinct-push nat_eq_equiv numbers number are.once (turned number numbers ∙ first);
}

-- there are no more of them than the list has
pub no_more : (most number : ℕ) (numbers : List ℕ) → number < most → is_among number numbers ≡ false → AreMembers most numbers → length numbers < most
no_more most number numbers h first are =
    let more = one_more most number numbers h first are in
    let long = length-le_from_distinct_below (numbers ++ number ∷ []) most more.once (λ q e. below most q (numbers ++ number ∷ []) more.members e) in
    omega (arith, long, length-append numbers (number ∷ []))
