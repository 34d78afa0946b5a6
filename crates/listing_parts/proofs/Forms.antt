-- What is read of a text and what is written of a value are each other's inverses.
use Rattle.std.proofs.Common.{◌≡◌, ℕ, Bool, true, false, cond, List, Option, Some, None, refl, sym, subst, ◌∙◌, ap}
use Rattle.std.proofs.lemmas.Option.{cond_some, none-some}
use Rattle.std.proofs.lemmas.Bool.{cond-true}
use Rattle.listing_parts.specs.Names.{formed}

-- read gives back just what fits, from its text
pub record IsForm {A : Type 0} (text : A → List ℕ) (Fits : A → Type 0) (read : List ℕ → Option A) : Type 0 where
  pub sound : (s : List ℕ) (x : A) → read s ≡ Some x → Fits x × (text x ≡ s)
  pub complete : (x : A) → Fits x → read (text x) ≡ Some x

-- where nothing is read, the text is that of nothing that fits
pub unread : {A : Type 0} {text : A → List ℕ} {Fits : A → Type 0} {read : List ℕ → Option A} → IsForm text Fits read → (s : List ℕ) → read s ≡ None → (x : A) → Fits x → text x ≡ s → ⊥
unread {read = read} form s none x fits same = none-some x (sym none ∙ ap read (sym same) ∙ form.complete x fits)

pub unless : {A : Type 0} (b : Bool) (x : A) → (b ≡ true → ⊥) → cond b (Some x) None ≡ None
unless true x h = absurd (h refl)
unless false x h = refl

-- a text of a form is written as it is
pub formed_form : (is_it : List ℕ → Bool) → IsForm (λ s. s) (λ s. is_it s ≡ true) (formed is_it)
formed_form is_it = record {
  sound = λ s x h. let both = cond_some (is_it s) s x h in (subst (λ t. is_it t ≡ true) both.1 both.0, sym both.1);
  complete = λ x h. cond-true _ _ _ h;
}
