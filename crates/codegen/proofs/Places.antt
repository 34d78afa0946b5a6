-- The places of names.
use Rattle.std.proofs.Common.{◌≡◌, ℕ, ◌<◌, ◌≤◌, Bool, true, false, cond, List, [], ◌∷◌, ◌++◌, length, take, drop, reverse, Option, Some, None, refl, sym, ap, ◌∙◌, subst, arith}
use Rattle.std.specs.Prelude.{bytes_eq, is_some, map, slice_get}
use Rattle.std.specs.Map.{update}
use Rattle.std.specs.Cmp.Lexicographic.{bytes_decides}
use Rattle.std.proofs.lemmas.List.{reverse-append, reverse-reverse, length-reverse}
use Rattle.std.proofs.lemmas.Grind.{common_steps}
use Rattle.compiler_relation.specs.Stands.{entry_of}
use Rattle.plain_stack.specs.Stacks.{lowest}
use Rattle.std.specs.Borrow.{Bor}
use Rattle.std.specs.Option.{option_copied}
use Rattle.codegen.specs.Symbols.{Finds, entry, entry_in, entries, place_of}
use Rattle.codegen.specs.declared.symbols.Entry as d
use Rattle.codegen.specs.declared.symbols.Symbol.{Symbol}
use Rattle.codegen.proofs.Back.{before, seam}

same : (x q : List ℕ) → bytes_eq x q ≡ true → x ≡ q
same x q is = (bytes_decides x q).0 is

itself : (x : List ℕ) → bytes_eq x x ≡ true
itself x = (bytes_decides x x).1 refl

turned : (x q : List ℕ) → bytes_eq x q ≡ bytes_eq q x
turned x q = pick (bytes_eq x q) refl (bytes_eq q x) refl
  where
    pick : (b : Bool) → bytes_eq x q ≡ b → (c : Bool) → bytes_eq q x ≡ c → b ≡ c
    pick true e true e' = refl
    pick false e false e' = refl
    pick true e false e' = let bad : true ≡ false = sym (subst (λ (y : List ℕ). bytes_eq y x ≡ true) (same x q e) (itself x)) ∙ e' in cc
    pick false e true e' = let bad : true ≡ false = sym (subst (λ (y : List ℕ). bytes_eq y q ≡ true) (same q x e') (itself q)) ∙ e in cc

-- ---- what is found

pub found_none : (q : List ℕ) (symbols : List Symbol) → place_of q symbols ≡ None → entry_of (map entry (entries symbols)) q ≡ None
found_none q [] is = refl
found_none q (s ∷ symbols) is = pick (λ below. found_none q symbols below) (bytes_eq s.entry.name q) (turned q s.entry.name) is
  where
    pick : (place_of q symbols ≡ None → entry_of (map entry (entries symbols)) q ≡ None) → (b : Bool) → bytes_eq q s.entry.name ≡ b → cond b (Some (length symbols)) (place_of q symbols) ≡ None → cond (bytes_eq q s.entry.name) (Some (entry s.entry)) (entry_of (map entry (entries symbols)) q) ≡ None
    pick rest true e is = let bad : Some (length symbols) ≡ None = is in absurd cc
    pick rest false e is = ap (λ b. cond b (Some (entry s.entry)) (entry_of (map entry (entries symbols)) q)) e ∙ rest is

pub record Found (q : List ℕ) (symbols : List Symbol) (at : ℕ) : Type 0 where
  pub symbol : Symbol
  pub there : slice_get (reverse symbols) at ≡ Some symbol
  pub is : entry_of (map entry (entries symbols)) q ≡ Some (entry symbol.entry)

at_bottom : (s : Symbol) (symbols : List Symbol) → reverse (s ∷ symbols) ≡ reverse symbols ++ s ∷ []
at_bottom s symbols = reverse-append (s ∷ []) symbols

pub found_some : (q : List ℕ) (symbols : List Symbol) (at : ℕ) → place_of q symbols ≡ Some at → Found q symbols at
found_some q [] at is = absurd cc
found_some q (s ∷ symbols) at is = pick (λ below. found_some q symbols at below) (bytes_eq s.entry.name q) (turned q s.entry.name) is
  where
    pick : (place_of q symbols ≡ Some at → Found q symbols at) → (b : Bool) → bytes_eq q s.entry.name ≡ b → cond b (Some (length symbols)) (place_of q symbols) ≡ Some at → Found q (s ∷ symbols) at
    pick rest true e is = record {
      symbol = s;
      there =
          let place : length (reverse symbols) ≡ at = length-reverse symbols ∙ (let same : Some (length symbols) ≡ Some at = is in cc) in
          ap (λ xs. slice_get xs at) (at_bottom s symbols) ∙ ap (λ n. slice_get (reverse symbols ++ s ∷ []) n) (sym place) ∙ seam (reverse symbols) s [];
      is = ap (λ b. cond b (Some (entry s.entry)) (entry_of (map entry (entries symbols)) q)) e;
    }
    pick rest false e is = let below = rest is in record {
      symbol = below.symbol;
      there = ap (λ xs. slice_get xs at) (at_bottom s symbols) ∙ before (reverse symbols) (s ∷ []) at below.symbol below.there;
      is = ap (λ b. cond b (Some (entry s.entry)) (entry_of (map entry (entries symbols)) q)) e ∙ below.is;
    }

pub finds : (r : Option (Bor d.Entry)) (q : List ℕ) (symbols : List Symbol) (at : ℕ) → place_of q symbols ≡ Some at → option_copied r ≡ entry_in (slice_get (reverse symbols) at) → Finds r (entry_of (map entry (entries symbols)) q)
finds r q symbols at is copied = by_entry r (found_some q symbols at is) copied
  where
    by_entry : (r : Option (Bor d.Entry)) (there : Found q symbols at) → option_copied r ≡ entry_in (slice_get (reverse symbols) at) → Finds r (entry_of (map entry (entries symbols)) q)
    by_entry None there copied = let bad : None ≡ Some there.symbol.entry = copied ∙ ap entry_in there.there in absurd cc
    by_entry (Some x) there copied =
        let same : Some x.now ≡ Some there.symbol.entry = copied ∙ ap entry_in there.there in
        let entry_is : there.symbol.entry ≡ x.now = cc in
        there.is ∙ ap (λ (y : d.Entry). Some (entry y)) entry_is

-- ---- one more, and one less

pub pushed : (f g : List ℕ → Option ℕ) (s : Symbol) (symbols : List Symbol) → ((q : List ℕ) → f q ≡ place_of q symbols) → ((q : List ℕ) → g q ≡ update bytes_eq f s.entry.name (Some (length symbols)) q) → (q : List ℕ) → g q ≡ place_of q (s ∷ symbols)
pushed f g s symbols noted set q = set q ∙ ap (λ o. cond (bytes_eq s.entry.name q) (Some (length symbols)) o) (noted q)

pub on_top : (f : List ℕ → Option ℕ) (s : Symbol) (symbols : List Symbol) → ((q : List ℕ) → f q ≡ place_of q (s ∷ symbols)) → is_some (f s.entry.name) ≡ true
on_top f s symbols noted = ap is_some (noted s.entry.name ∙ ap (λ b. cond b (Some (length symbols)) (place_of s.entry.name symbols)) (itself s.entry.name))

pub popped : (f g : List ℕ → Option ℕ) (s : Symbol) (symbols : List Symbol) → ((q : List ℕ) → f q ≡ place_of q (s ∷ symbols)) → s.hidden ≡ place_of s.entry.name symbols → ((q : List ℕ) → g q ≡ update bytes_eq f s.entry.name s.hidden q) → (q : List ℕ) → g q ≡ place_of q symbols
popped f g s symbols noted linked set q = set q ∙ pick (bytes_eq s.entry.name q) refl
  where
    pick : (b : Bool) → bytes_eq s.entry.name q ≡ b → cond b s.hidden (f q) ≡ place_of q symbols
    pick true e = linked ∙ ap (λ name. place_of name symbols) (same s.entry.name q e)
    pick false e = noted q ∙ ap (λ b. cond b (Some (length symbols)) (place_of q symbols)) e

-- ---- the lowest

pub lowest_all : {A : Type 0} (height : ℕ) (xs : List A) → length xs ≤ height → lowest height xs ≡ xs
lowest_all height xs h = let short : length (reverse xs) ≤ height = omega (arith, length-reverse xs, h) in ap reverse (all height (reverse xs) short) ∙ reverse-reverse xs
  where
    all : {A : Type 0} (height : ℕ) (xs : List A) → length xs ≤ height → take height xs ≡ xs
    all height xs h = grind (arith, common_steps, h)

pub lowest_fewer : {A : Type 0} (height : ℕ) (xs ys : List A) → height < length xs → ys ≡ drop 1 xs → lowest height ys ≡ lowest height xs
lowest_fewer height [] ys h is = absurd (omega (arith, h))
lowest_fewer height (x ∷ xs) ys h is =
    let below : height ≤ length (reverse xs) = omega (arith, length-reverse xs, h) in
    ap (lowest height) is ∙ ap reverse (sym (ap (take height) (reverse-append (x ∷ []) xs) ∙ front height (reverse xs) (x ∷ []) below))
  where
    front : {A : Type 0} (height : ℕ) (xs ys : List A) → height ≤ length xs → take height (xs ++ ys) ≡ take height xs
    front height xs ys h = grind (arith, common_steps, h)
