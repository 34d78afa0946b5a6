-- A lexeme that a test of the bytes alone tells.
use Rattle.std.proofs.Common.{◌≡◌, ℕ, ◌≤◌, Bool, true, false, List, ◌++◌, length, take, drop, Option, Some, None, sym, refl, ◌∙◌, subst, arith}
use Rattle.std.specs.Prelude.{IsSome, if◌then◌else◌}
use Rattle.std.proofs.lemmas.Bool.{false≢true}
use Rattle.std.proofs.lemmas.List.{take-append-drop, length-take-le}
use Rattle.pl_lexer.specs.declared.found.Found.{Found}
use Rattle.pl_lexer.specs.declared.found.Found.TheVariants.{Nothing, Foreign, Blank, Leading}
use Rattle.pl_lexer.specs.Lexeme.{Lexeme, blank, token, foreign}
use Rattle.pl_lexer.specs.Longest.{Leads, LeadsBy, Finds}

pub some_is : {X : Type 0} (o : Option X) (x : X) → o ≡ Some x → IsSome o
some_is o x e = subst IsSome (sym e) refl

pub none_is : {X : Type 0} (o : Option X) → o ≡ None → IsSome o → ⊥
none_is o e some = false≢true (subst IsSome e some)

-- a test that fails gives nothing
pub test_some : (v : Bool) (l : Lexeme) → IsSome (if v then Some l else None) → v ≡ true
test_some true l some = refl
test_some false l some = absurd (false≢true some)

pub lead_by : (f : List ℕ → List ℕ → Option Lexeme) (text : List ℕ) (n : ℕ) (l : Lexeme) → n ≤ length text → f (take n text) (drop n text) ≡ Some l → ((more left : List ℕ) → more ++ left ≡ text → IsSome (f more left) → length more ≤ n) → LeadsBy f text n l
lead_by f text n l within spells most = record {
  within = within;
  leads = record {
    parts = take-append-drop n text;
    spells = spells;
    longest = λ more left e some. let bound = most more left e some in omega (arith, length-take-le n text within);
  };
}

-- n bytes pass the test, and no more do
pub test_leads : (test : List ℕ → Bool) (l : Lexeme) (text : List ℕ) (n : ℕ) → n ≤ length text → test (take n text) ≡ true → ((more left : List ℕ) → more ++ left ≡ text → test more ≡ true → length more ≤ n) → LeadsBy (λ bytes _. if test bytes then Some l else None) text n l
test_leads test l text n within passes most = lead_by (λ bytes _. if test bytes then Some l else None) text n l within (rw passes refl) (λ more left e some. most more left e (test_some (test more) l some))

-- two ways to spell give every front of a text alike
abbrev pub Agree : (List ℕ → List ℕ → Option Lexeme) → (List ℕ → List ℕ → Option Lexeme) → List ℕ → Type 0
Agree f h text = (more left : List ℕ) → more ++ left ≡ text → f more left ≡ h more left

pub Leads-agree : (f h : List ℕ → List ℕ → Option Lexeme) (text front behind : List ℕ) (l : Lexeme) → Agree f h text → Leads f text front behind l → Leads h text front behind l
Leads-agree f h text front behind l same a = record {
  parts = a.parts;
  spells = sym (same front behind a.parts) ∙ a.spells;
  longest = λ more left e some. a.longest more left e (subst IsSome (sym (same more left e)) some);
}

pub LeadsBy-agree : (f h : List ℕ → List ℕ → Option Lexeme) (text : List ℕ) (n : ℕ) (l : Lexeme) → Agree f h text → LeadsBy f text n l → LeadsBy h text n l
LeadsBy-agree f h text n l same a = record { within = a.within; leads = Leads-agree f h text (take n text) (drop n text) l same a.leads }

pub Finds-agree : (f h : List ℕ → List ℕ → Option Lexeme) (text : List ℕ) (found : Found) → Agree f h text → Finds f text found → Finds h text found
Finds-agree f h text Nothing same a = λ more left e some. a more left e (subst IsSome (sym (same more left e)) some)
Finds-agree f h text Foreign same a = (a.0, (a.1.0, Leads-agree f h text a.0 a.1.0 foreign same a.1.1))
Finds-agree f h text (Blank n) same a = LeadsBy-agree f h text n blank same a
Finds-agree f h text (Leading kind n) same a = LeadsBy-agree f h text n (token kind) same a
