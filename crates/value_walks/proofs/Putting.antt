-- What is kept of what is written to an output.
use Rattle.std.proofs.Common.{◌≡◌, ℕ, ◌+◌, ◌-◌, ◌<◌, ◌≤◌, List, [], ◌++◌, length, inl, inr, refl, ap, sym, ◌∙◌, arith, append-nil, append_assoc, length-append}
use Rattle.std.proofs.lemmas.Bool.{cases_lt}
use Rattle.std.proofs.lemmas.Bool.Decides.{nat_tests}
use Rattle.value_walks.specs.declared.outputs.Output.{Output}
use Rattle.value_walks.specs.declared.outputs.Output.TheVariants.{Kept, Over}
use Rattle.value_walks.specs.Outputs.{put}

pub put_within : (units more : List ℕ) (room : ℕ) → length more ≤ room → put (Kept units room) more ≡ Kept (units ++ more) (room - length more)
unfolding put
put_within units more room h = grind (arith, nat_tests)

pub put_beyond : (units more : List ℕ) (room : ℕ) → room < length more → put (Kept units room) more ≡ Over
unfolding put
put_beyond units more room h = grind (arith, nat_tests)

pub put_over : (more : List ℕ) → put Over more ≡ Over
unfolding put
put_over more = refl

-- what is written one behind the other is written at once
pub put_put : (out : Output) (a b : List ℕ) → put (put out a) b ≡ put out (a ++ b)
put_put Over a b = rw (put_over a, put_over b, put_over (a ++ b)) refl
put_put (Kept units room) a b =
    let both : length (a ++ b) ≡ length a + length b = length-append a b in
    elim (cases_lt room (length a)) [
      | inl l ↦ ap (λ o. put o b) (put_beyond units a room l) ∙ (put_over b ∙ sym (put_beyond units (a ++ b) room (omega arith)))
      | inr g ↦ elim (cases_lt (room - length a) (length b)) [
        | inl l ↦ ap (λ o. put o b) (put_within units a room g) ∙ (put_beyond (units ++ a) b (room - length a) l ∙ sym (put_beyond units (a ++ b) room (omega arith)))
        | inr f ↦
            let left : (room - length a) - length b ≡ room - length (a ++ b) = omega arith in
            ap (λ o. put o b) (put_within units a room g)
            ∙ (put_within (units ++ a) b (room - length a) f
            ∙ (ap (λ (n : ℕ). Kept ((units ++ a) ++ b) n) left
            ∙ (ap (λ (u : List ℕ). Kept u (room - length (a ++ b))) (append_assoc units a b)
            ∙ sym (put_within units (a ++ b) room (omega arith)))))
      ]
    ]

pub put_nothing : (out : Output) → put out [] ≡ out
put_nothing Over = put_over []
put_nothing (Kept units room) =
    let left : room - length {A = ℕ} [] ≡ room = omega arith in
    put_within units [] room (omega arith) ∙ (ap (λ (u : List ℕ). Kept u (room - length {A = ℕ} [])) (append-nil units) ∙ ap (Kept units) left)

pub put_thrice : (out : Output) (a b c : List ℕ) → put (put (put out a) b) c ≡ put out (a ++ (b ++ c))
put_thrice out a b c = ap (λ o. put o c) (put_put out a b) ∙ (put_put out (a ++ b) c ∙ ap (put out) (append_assoc a b c))
