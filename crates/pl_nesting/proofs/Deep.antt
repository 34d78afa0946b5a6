-- Nesting, one token further.
use Rattle.std.proofs.Common.{◌≡◌, ℕ, ◌+◌, ◌<◌, ◌≤◌, Bool, true, false, cond, ◌||◌, List, [], ◌∷◌, length, drop, sum, slice_index_or, Some, sym, ap, ◌∙◌, arith, add-one, drop-cons, ◌&&◌, nat_lt, nat_le}
use Rattle.std.proofs.lemmas.Bool.{ltb-false}
use Rattle.std.proofs.lemmas.List.Sums.{sum_by-cons}
use Rattle.pl_lexer.specs.declared.token.Token.{Token}
use Rattle.pl_lexer.specs.declared.token.Kind.{Kind}
use Rattle.pl_nesting.specs.Nesting.{Shares, opens, shuts, separates, outside, outside_of, counted, is_deep, left_by, deep_from}

pub one_more : (shares : Shares) (ts : List Token) (i : ℕ) (d : Token) → i < length ts
    → deep_from shares (drop i ts) ≡ (let t = slice_index_or ts i d in let now = counted t.kind shares in cond (is_deep t.kind now) (Some t.start) (deep_from (left_by t.kind (drop (i + 1) ts) now) (drop (i + 1) ts)))
one_more shares ts i d below =
    let next : drop i ts ≡ slice_index_or ts i d ∷ drop (i + 1) ts = drop-cons ts i d below ∙ ap (λ (k : ℕ). slice_index_or ts i d ∷ drop k ts) (sym (add-one i)) in
    ap (λ (u : List Token). deep_from shares u) next

sum-cons : (s : ℕ) (ss : List ℕ) → sum (s ∷ ss) ≡ s + sum ss
sum-cons s ss = sum_by-cons (λ (n : ℕ). n) s ss

outside_small : (inner : ℕ) (outer : List ℕ) → inner + sum outer ≤ 1000 → (outside_of inner outer).inner + sum (outside_of inner outer).outer ≤ 1000
outside_small inner [] le = le
outside_small inner (s ∷ ss) le =
    let whole : inner + sum (s ∷ ss) ≤ 1000 = le in
    let part : s + sum ss ≤ 1000 = omega (arith, sum-cons s ss) in
    part

pub counted_small : (kind : Kind) (shares : Shares) → shares.inner + sum shares.outer ≤ 1000 → (counted kind shares).inner + sum (counted kind shares).outer ≤ 1001
counted_small kind shares le =
    elim (shuts kind) as (λ (b : Bool). (cond b (outside shares) shares).inner + 1 + sum (cond b (outside shares) shares).outer ≤ 1001) [
      | true ↦ omega (arith, outside_small shares.inner shares.outer le)
      | false ↦ omega arith
    ]

pub left_small : (kind : Kind) (after : List Token) (shares : Shares) → shares.inner + sum shares.outer ≤ 1000 → (left_by kind after shares).inner + sum (left_by kind after shares).outer ≤ 1000
left_small kind after shares le =
    elim (opens kind) as (λ (b : Bool). (cond b (record { inner = 0; outer = shares.inner ∷ shares.outer }) (cond (separates kind after) (record { inner = 0; outer = shares.outer }) shares)).inner + sum (cond b (record { inner = 0; outer = shares.inner ∷ shares.outer }) (cond (separates kind after) (record { inner = 0; outer = shares.outer }) shares)).outer ≤ 1000) [
      | true ↦ (let whole : 0 + sum (shares.inner ∷ shares.outer) ≤ 1000 = omega (arith, sum-cons shares.inner shares.outer) in whole)
      | false ↦ elim (separates kind after) as (λ (b : Bool). (cond b (record { inner = 0; outer = shares.outer }) shares).inner + sum (cond b (record { inner = 0; outer = shares.outer }) shares).outer ≤ 1000) [
        | true ↦ (let part : 0 + sum shares.outer ≤ 1000 = omega arith in part)
        | false ↦ le
      ]
    ]

or_false : (a b : Bool) → a || b ≡ false → b ≡ false
or_false true b e = absurd cc
or_false false b e = e

-- where no rule is broken the reach is at most 1,000
pub not_deep : (kind : Kind) (shares : Shares) → is_deep kind shares ≡ false → shares.inner + sum shares.outer ≤ 1000
not_deep kind shares e =
    let far : nat_lt 1000 (shares.inner + sum shares.outer) ≡ false = or_false (opens kind && nat_le 200 (length shares.outer)) (nat_lt 1000 (shares.inner + sum shares.outer)) e in
    ltb-false 1000 (shares.inner + sum shares.outer) far

-- a token that breaks no rule, in the form in which the code takes it
pub step : (shares now next : Shares) (ts rest : List Token) (i : ℕ) (d : Token) → i < length ts → now ≡ counted (slice_index_or ts i d).kind shares → is_deep (slice_index_or ts i d).kind now ≡ false → rest ≡ drop (i + 1) ts → next ≡ left_by (slice_index_or ts i d).kind rest now → deep_from shares (drop i ts) ≡ deep_from next (drop (i + 1) ts)
step shares now next ts rest i d below is shallow tail leaves =
    let t = slice_index_or ts i d in
    let deep : is_deep t.kind (counted t.kind shares) ≡ false = ap (λ (n : Shares). is_deep t.kind n) (sym is) ∙ shallow in
    let after : left_by t.kind (drop (i + 1) ts) (counted t.kind shares) ≡ next = sym (leaves ∙ ap (λ (u : List Token). left_by t.kind u now) tail ∙ ap (λ (n : Shares). left_by t.kind (drop (i + 1) ts) n) is) in
    one_more shares ts i d below ∙ rw deep (ap (λ (n : Shares). deep_from n (drop (i + 1) ts)) after)
