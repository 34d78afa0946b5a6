-- What a rule comes to, and what a function of the code has answered.
use Rattle.std.specs.Prelude.{◌≡◌, ℕ, Result, Ok, Err}
use Rattle.pl_types.specs.declared.refusal.Refusal.{Refusal}
use Rattle.pl_types.specs.declared.refusal.Fail.{Fail}
use Rattle.pl_types.specs.declared.refusal.Fail.TheVariants.{Refused, NoMemory}

-- a value, or the rule that is broken and its place
abbrev pub Out : Type 0 → Type 0
Out A = Result A Refusal

abbrev pub refusal : ℕ → ℕ → Refusal
refusal number offset = record { number = number; offset = offset }

abbrev pub refuse : {A : Type 0} → ℕ → ℕ → Out A
refuse number offset = Err (refusal number offset)

abbrev pub bind : {A B : Type 0} → Out A → (A → Out B) → Out B
bind (Ok a) f = f a
bind (Err r) f = Err r

-- The code gives what the rule gives, or tells the refusal that it gives. Want of memory is free.
abbrev pub Keeps : {A : Type 0} → Out A → Result A Fail → Type 0
Keeps o (Ok a) = o ≡ Ok a
Keeps o (Err (Refused r)) = o ≡ Err r
Keeps o (Err NoMemory) = Unit {0}

-- the same of what is changed in place
abbrev pub KeepsIn : {A U : Type 0} → Out A → Result U Fail → A → Type 0
KeepsIn o (Ok u) new = o ≡ Ok new
KeepsIn o (Err (Refused r)) new = o ≡ Err r
KeepsIn o (Err NoMemory) new = Unit {0}

-- the same of what is given and what is changed in place
abbrev pub KeepsBoth : {A B : Type 0} → Out (A × B) → Result A Fail → B → Type 0
KeepsBoth o (Ok a) new = o ≡ Ok (a, new)
KeepsBoth o (Err (Refused r)) new = o ≡ Err r
KeepsBoth o (Err NoMemory) new = Unit {0}
