-- Pairs in parts, of which some are in reverse: what is found, set and taken out in one of them.
use Rattle.std.proofs.Common.{◌≡◌, ℕ, zero, suc, ◌+◌, ◌-◌, ◌^◌, ◌<◌, ◌≤◌, Bool, true, false, Option, Some, None, is_some, List, [], ◌∷◌, ◌++◌, length, drop, reverse, remove, slice_get, refl, ap, sym, ◌∙◌, subst, if◌then◌else◌, append_assoc, arith}
use Rattle.std.proofs.lemmas.List.{append-nil, reverse-append, reverse-reverse, length-append, length-reverse}
use Rattle.std.proofs.lemmas.List.Edits.{remove-append_left, remove-append_right}
use Rattle.object_values.specs.declared.value.Value.{Value}
use Rattle.object_values.specs.Values.{same_value}
use Rattle.object_values.specs.Keys.{values_exact, values_symm}
use Rattle.object_values.specs.Pairs.{value_of, with_pair, with_pairs, without_key, key_at, AreNew, HasDistinctKeys}
use Rattle.object_values.specs.Parts.{AreCounted}

-- a key that is not found is not the first, and is not found behind it
not_found : (test : Bool) (value : Value) (rest : Option Value) → (if test then Some value else rest) ≡ None → (test ≡ false) × (rest ≡ None)
not_found true value rest h = cc
not_found false value rest h = (refl, h)

passed_by : (test : Bool) (value : Value) (rest : Option Value) → test ≡ false → rest ≡ None → (if test then Some value else rest) ≡ None
passed_by true value rest e h = cc
passed_by false value rest e h = h

last_reversed : (pair : Value × Value) (pairs : List (Value × Value)) → reverse (pair ∷ pairs) ≡ reverse pairs ++ pair ∷ []
last_reversed pair pairs = reverse-append (pair ∷ []) pairs

-- what is found in one list, or else in another
abbrev or_else : Option Value → Option Value → Option Value
or_else None more = more
or_else (Some value) more = Some value

or_else_if : (test : Bool) (value : Value) (rest more : Option Value) → (if test then Some value else or_else rest more) ≡ or_else (if test then Some value else rest) more
or_else_if true value rest more = refl
or_else_if false value rest more = refl

found_in : (front more : List (Value × Value)) (key : Value) → value_of (front ++ more) key ≡ or_else (value_of front key) (value_of more key)
found_in [] more key = refl
found_in (pair ∷ front) more key =
    ap (λ (rest : Option Value). if same_value key pair.0 then Some pair.1 else rest) (found_in front more key) ∙ or_else_if (same_value key pair.0) pair.1 (value_of front key) (value_of more key)

or_else_some : (o more : Option Value) → is_some o ≡ true → or_else o more ≡ o
or_else_some None more h = cc
or_else_some (Some value) more h = refl

pub none_is : (o : Option Value) → is_some o ≡ false → o ≡ None
none_is None h = refl
none_is (Some value) h = cc

pub found_left : (front more : List (Value × Value)) (key : Value) → is_some (value_of front key) ≡ true → value_of (front ++ more) key ≡ value_of front key
found_left front more key h = found_in front more key ∙ or_else_some (value_of front key) (value_of more key) h

pub found_right : (front more : List (Value × Value)) (key : Value) → is_some (value_of front key) ≡ false → value_of (front ++ more) key ≡ value_of more key
found_right front more key h = found_in front more key ∙ ap (λ (o : Option Value). or_else o (value_of more key)) (none_is (value_of front key) h)

-- keys that are in no list
absent_either : (first second : Option Value) → or_else first second ≡ None → (first ≡ None) × (second ≡ None)
absent_either None second h = (refl, h)
absent_either (Some value) second h = cc

absent_in : (front more : List (Value × Value)) (key : Value) → value_of (front ++ more) key ≡ None → (value_of front key ≡ None) × (value_of more key ≡ None)
absent_in front more key h = absent_either (value_of front key) (value_of more key) (sym (found_in front more key) ∙ h)

pub absent_reversed : (pairs : List (Value × Value)) (key : Value) → value_of pairs key ≡ None → value_of (reverse pairs) key ≡ None
absent_reversed [] key h = refl
absent_reversed (pair ∷ pairs) key h =
    let apart = not_found (same_value key pair.0) pair.1 (value_of pairs key) h in
    ap (λ (l : List (Value × Value)). value_of l key) (last_reversed pair pairs) ∙ found_right (reverse pairs) (pair ∷ []) key (ap is_some (absent_reversed pairs key apart.1))
    ∙ passed_by (same_value key pair.0) pair.1 None apart.0 refl

absent_back : (pairs : List (Value × Value)) (key : Value) → value_of (reverse pairs) key ≡ None → value_of pairs key ≡ None
absent_back pairs key h = subst (λ (l : List (Value × Value)). value_of l key ≡ None) (reverse-reverse pairs) (absent_reversed (reverse pairs) key h)

-- with a pair put: keys that are absent stay absent, and distinct ones distinct
absent_with : (pairs : List (Value × Value)) (key value other : Value) → value_of pairs other ≡ None → same_value other key ≡ false → value_of (with_pair pairs key value) other ≡ None
absent_with [] key value other h e = passed_by (same_value other key) value None e refl
absent_with (pair ∷ pairs) key value other h e =
    let apart = not_found (same_value other pair.0) pair.1 (value_of pairs other) h in
    elim (same_value key pair.0) as (λ b. value_of (if b then (pair.0, value) ∷ pairs else pair ∷ with_pair pairs key value) other ≡ None) [
      | true ↦ passed_by (same_value other pair.0) value (value_of pairs other) apart.0 apart.1
      | false ↦ passed_by (same_value other pair.0) pair.1 (value_of (with_pair pairs key value) other) apart.0 (absent_with pairs key value other apart.1 e)
    ]

distinct_if : (pair : Value × Value) (pairs : List (Value × Value)) (key value : Value) (test : Bool) → same_value key pair.0 ≡ test
    → HasDistinctKeys (pair ∷ pairs) → HasDistinctKeys (with_pair pairs key value) → HasDistinctKeys (if test then (pair.0, value) ∷ pairs else pair ∷ with_pair pairs key value)
distinct_if pair pairs key value true e f g = f
distinct_if pair pairs key value false e f g = (absent_with pairs key value pair.0 f.0 (values_symm pair.0 key ∙ e), g)

pub distinct_with : (pairs : List (Value × Value)) (key value : Value) → HasDistinctKeys pairs → HasDistinctKeys (with_pair pairs key value)
distinct_with [] key value f = (refl, tt)
distinct_with (pair ∷ pairs) key value f = distinct_if pair pairs key value (same_value key pair.0) refl f (distinct_with pairs key value f.1)

absent_removed : (pairs : List (Value × Value)) (at : ℕ) (other : Value) → value_of pairs other ≡ None → value_of (remove pairs at) other ≡ None
absent_removed [] zero other h = refl
absent_removed [] (suc at) other h = refl
absent_removed (pair ∷ pairs) zero other h = (not_found (same_value other pair.0) pair.1 (value_of pairs other) h).1
absent_removed (pair ∷ pairs) (suc at) other h =
    let apart = not_found (same_value other pair.0) pair.1 (value_of pairs other) h in
    passed_by (same_value other pair.0) pair.1 (value_of (remove pairs at) other) apart.0 (absent_removed pairs at other apart.1)

pub distinct_removed : (pairs : List (Value × Value)) (at : ℕ) → HasDistinctKeys pairs → HasDistinctKeys (remove pairs at)
distinct_removed [] zero f = tt
distinct_removed [] (suc at) f = tt
distinct_removed (pair ∷ pairs) zero f = f.1
distinct_removed (pair ∷ pairs) (suc at) f = (absent_removed pairs at pair.0 f.0, distinct_removed pairs at f.1)

length_removed : (pairs : List (Value × Value)) (at : ℕ) → length (remove pairs at) ≤ length pairs
length_removed [] zero = omega arith
length_removed [] (suc at) = omega arith
length_removed (pair ∷ pairs) zero = omega arith
length_removed (pair ∷ pairs) (suc at) = omega (arith, length_removed pairs at)

-- a new key goes last
put_if : (pair : Value × Value) (pairs : List (Value × Value)) (key value : Value) (test : Bool) → (if test then Some pair.1 else value_of pairs key) ≡ None
    → (value_of pairs key ≡ None → with_pair pairs key value ≡ pairs ++ (key, value) ∷ [])
    → (if test then (pair.0, value) ∷ pairs else pair ∷ with_pair pairs key value) ≡ pair ∷ pairs ++ (key, value) ∷ []
put_if pair pairs key value true h next = cc
put_if pair pairs key value false h next = ap (λ (rest : List (Value × Value)). pair ∷ rest) (next h)

pub put_last : (pairs : List (Value × Value)) (key value : Value) → value_of pairs key ≡ None → with_pair pairs key value ≡ pairs ++ (key, value) ∷ []
put_last [] key value h = refl
put_last (pair ∷ pairs) key value h = put_if pair pairs key value (same_value key pair.0) h (put_last pairs key value)

-- parts of pairs with distinct keys, and the pairs in reverse
pub distinct_in : (front more : List (Value × Value)) → HasDistinctKeys (front ++ more) → HasDistinctKeys front × HasDistinctKeys more
distinct_in [] more d = (tt, d)
distinct_in (pair ∷ front) more d =
    let rest = distinct_in front more d.1 in
    (((absent_in front more pair.0 d.0).0, rest.0), rest.1)

distinct_last : (pairs : List (Value × Value)) (pair : Value × Value) → HasDistinctKeys pairs → value_of pairs pair.0 ≡ None → HasDistinctKeys (pairs ++ pair ∷ [])
distinct_last pairs pair d h = subst HasDistinctKeys (put_last pairs pair.0 pair.1 h) (distinct_with pairs pair.0 pair.1 d)

pub distinct_reversed : (pairs : List (Value × Value)) → HasDistinctKeys pairs → HasDistinctKeys (reverse pairs)
distinct_reversed [] d = tt
distinct_reversed (pair ∷ pairs) d =
    subst HasDistinctKeys (sym (last_reversed pair pairs)) (distinct_last (reverse pairs) pair (distinct_reversed pairs d.1) (absent_reversed pairs pair.0 d.0))

-- the same pairs, seen from the other end
turned : (front back : List (Value × Value)) → reverse (front ++ reverse back) ≡ back ++ reverse front
turned front back = reverse-append front (reverse back) ∙ ap (λ (l : List (Value × Value)). l ++ reverse front) (reverse-reverse back)

pub distinct_turned : (front back : List (Value × Value)) → HasDistinctKeys (front ++ reverse back) → HasDistinctKeys (back ++ reverse front)
distinct_turned front back d = subst HasDistinctKeys (turned front back) (distinct_reversed (front ++ reverse back) d)

pub same_turned : (front back others last : List (Value × Value)) → front ++ reverse back ≡ others ++ reverse last → back ++ reverse front ≡ last ++ reverse others
same_turned front back others last h = sym (turned front back) ∙ ap reverse h ∙ turned others last

-- a pair that goes from the end of one list to the end of the other
pub is_absent : (from to : List (Value × Value)) (pair : Value × Value) → HasDistinctKeys ((from ++ pair ∷ []) ++ reverse to) → value_of to pair.0 ≡ None
is_absent from to pair d = absent_back to pair.0 (distinct_in from (pair ∷ reverse to) (subst HasDistinctKeys (append_assoc from (pair ∷ []) (reverse to)) d)).1.0

pub carried : (from to : List (Value × Value)) (pair : Value × Value) → from ++ reverse (to ++ pair ∷ []) ≡ (from ++ pair ∷ []) ++ reverse to
carried from to pair = ap (λ (l : List (Value × Value)). from ++ l) (reverse-append to (pair ∷ [])) ∙ sym (append_assoc from (pair ∷ []) (reverse to))

-- what is found in reverse
found_last : (test : Bool) (value : Value) (rest : Option Value) → (test ≡ true → rest ≡ None) → or_else rest (if test then Some value else None) ≡ (if test then Some value else rest)
found_last true value rest h = ap (λ (o : Option Value). or_else o (Some value)) (h refl)
found_last false value None h = refl
found_last false value (Some found) h = refl

alone : (pair : Value × Value) (pairs : List (Value × Value)) (key : Value) → value_of pairs pair.0 ≡ None → same_value key pair.0 ≡ true → value_of pairs key ≡ None
alone pair pairs key h e = subst (λ (k : Value). value_of pairs k ≡ None) (sym (values_exact key pair.0 e)) h

pub found_reversed : (pairs : List (Value × Value)) (key : Value) → HasDistinctKeys pairs → value_of (reverse pairs) key ≡ value_of pairs key
found_reversed [] key d = refl
found_reversed (pair ∷ pairs) key d =
    ap (λ (l : List (Value × Value)). value_of l key) (last_reversed pair pairs) ∙ found_in (reverse pairs) (pair ∷ []) key
    ∙ ap (λ (o : Option Value). or_else o (value_of (pair ∷ []) key)) (found_reversed pairs key d.1)
    ∙ found_last (same_value key pair.0) pair.1 (value_of pairs key) (alone pair pairs key d.0)

-- a key that is set in one of two lists
abbrev chosen : Option Value → List (Value × Value) → List (Value × Value) → List (Value × Value)
chosen None there beyond = beyond
chosen (Some value) there beyond = there

chosen_behind : (pair : Value × Value) (o : Option Value) (there beyond : List (Value × Value)) → pair ∷ chosen o there beyond ≡ chosen o (pair ∷ there) (pair ∷ beyond)
chosen_behind pair None there beyond = refl
chosen_behind pair (Some value) there beyond = refl

put_in_if : (pair : Value × Value) (front more : List (Value × Value)) (key value : Value) (test : Bool)
    → with_pair (front ++ more) key value ≡ chosen (value_of front key) (with_pair front key value ++ more) (front ++ with_pair more key value)
    → (if test then (pair.0, value) ∷ (front ++ more) else pair ∷ with_pair (front ++ more) key value)
    ≡ chosen (if test then Some pair.1 else value_of front key) ((if test then (pair.0, value) ∷ front else pair ∷ with_pair front key value) ++ more) (pair ∷ (front ++ with_pair more key value))
put_in_if pair front more key value true h = refl
put_in_if pair front more key value false h =
    ap (λ (rest : List (Value × Value)). pair ∷ rest) h ∙ chosen_behind pair (value_of front key) (with_pair front key value ++ more) (front ++ with_pair more key value)

put_in : (front more : List (Value × Value)) (key value : Value)
    → with_pair (front ++ more) key value ≡ chosen (value_of front key) (with_pair front key value ++ more) (front ++ with_pair more key value)
put_in [] more key value = refl
put_in (pair ∷ front) more key value = put_in_if pair front more key value (same_value key pair.0) (put_in front more key value)

chosen_some : (o : Option Value) (there beyond : List (Value × Value)) → is_some o ≡ true → chosen o there beyond ≡ there
chosen_some None there beyond h = cc
chosen_some (Some value) there beyond h = refl

pub put_left : (front more : List (Value × Value)) (key value : Value) → is_some (value_of front key) ≡ true → with_pair (front ++ more) key value ≡ with_pair front key value ++ more
put_left front more key value h =
    put_in front more key value ∙ chosen_some (value_of front key) (with_pair front key value ++ more) (front ++ with_pair more key value) h

pub put_right : (front more : List (Value × Value)) (key value : Value) → is_some (value_of front key) ≡ false → with_pair (front ++ more) key value ≡ front ++ with_pair more key value
put_right front more key value h =
    put_in front more key value ∙ ap (λ (o : Option Value). chosen o (with_pair front key value ++ more) (front ++ with_pair more key value)) (none_is (value_of front key) h)

put_reversed_if : (pair : Value × Value) (pairs : List (Value × Value)) (key value : Value) (test : Bool) → (test ≡ true → value_of pairs key ≡ None)
    → is_some (if test then Some pair.1 else value_of pairs key) ≡ true → (is_some (value_of pairs key) ≡ true → with_pair (reverse pairs) key value ≡ reverse (with_pair pairs key value))
    → chosen (value_of pairs key) (with_pair (reverse pairs) key value ++ pair ∷ []) (reverse pairs ++ (if test then (pair.0, value) ∷ [] else pair ∷ (key, value) ∷ []))
    ≡ reverse (if test then (pair.0, value) ∷ pairs else pair ∷ with_pair pairs key value)
put_reversed_if pair pairs key value true a h next =
    ap (λ (o : Option Value). chosen o (with_pair (reverse pairs) key value ++ pair ∷ []) (reverse pairs ++ (pair.0, value) ∷ [])) (a refl) ∙ sym (last_reversed (pair.0, value) pairs)
put_reversed_if pair pairs key value false a h next =
    chosen_some (value_of pairs key) (with_pair (reverse pairs) key value ++ pair ∷ []) (reverse pairs ++ pair ∷ (key, value) ∷ []) h
    ∙ ap (λ (l : List (Value × Value)). l ++ pair ∷ []) (next h) ∙ sym (last_reversed pair (with_pair pairs key value))

pub put_reversed : (pairs : List (Value × Value)) (key value : Value) → HasDistinctKeys pairs → is_some (value_of pairs key) ≡ true
    → with_pair (reverse pairs) key value ≡ reverse (with_pair pairs key value)
put_reversed [] key value d h = cc
put_reversed (pair ∷ pairs) key value d h =
    ap (λ (l : List (Value × Value)). with_pair l key value) (last_reversed pair pairs) ∙ put_in (reverse pairs) (pair ∷ []) key value
    ∙ ap (λ (o : Option Value). chosen o (with_pair (reverse pairs) key value ++ pair ∷ []) (reverse pairs ++ with_pair (pair ∷ []) key value)) (found_reversed pairs key d.1)
    ∙ put_reversed_if pair pairs key value (same_value key pair.0) (alone pair pairs key d.0) h (put_reversed pairs key value d.1)

length_set_if : (pair : Value × Value) (pairs : List (Value × Value)) (key value : Value) (test : Bool) → is_some (if test then Some pair.1 else value_of pairs key) ≡ true
    → (is_some (value_of pairs key) ≡ true → length (with_pair pairs key value) ≡ length pairs)
    → length (if test then (pair.0, value) ∷ pairs else pair ∷ with_pair pairs key value) ≡ length (pair ∷ pairs)
length_set_if pair pairs key value true h next = refl
length_set_if pair pairs key value false h next = ap suc (next h)

length_set : (pairs : List (Value × Value)) (key value : Value) → is_some (value_of pairs key) ≡ true → length (with_pair pairs key value) ≡ length pairs
length_set [] key value h = cc
length_set (pair ∷ pairs) key value h = length_set_if pair pairs key value (same_value key pair.0) h (length_set pairs key value)

length_new : (pairs : List (Value × Value)) (key value : Value) → is_some (value_of pairs key) ≡ false → length (with_pair pairs key value) ≡ length pairs + 1
length_new pairs key value h = ap length (put_last pairs key value (none_is (value_of pairs key) h)) ∙ length-append pairs ((key, value) ∷ [])

-- pairs with distinct keys that a number counts stay so
pub counted_removed : (pairs : List (Value × Value)) (at : ℕ) → AreCounted pairs → AreCounted (remove pairs at)
counted_removed pairs at c =
    let fewer = length_removed pairs at in
    record { distinct = distinct_removed pairs at c.distinct; fits = omega (arith, c.fits) }

pub counted_set : (pairs : List (Value × Value)) (key value : Value) → is_some (value_of pairs key) ≡ true → AreCounted pairs → AreCounted (with_pair pairs key value)
counted_set pairs key value h c =
    let same = length_set pairs key value h in
    record { distinct = distinct_with pairs key value c.distinct; fits = omega (arith, c.fits) }

pub counted_new : (pairs : List (Value × Value)) (key value : Value) → is_some (value_of pairs key) ≡ false → length pairs + 1 < 2 ^ 63 → AreCounted pairs → AreCounted (with_pair pairs key value)
counted_new pairs key value h few c =
    let more = length_new pairs key value h in
    record { distinct = distinct_with pairs key value c.distinct; fits = omega arith }

-- what stands at a place
pub got_left : (front more : List (Value × Value)) (at : ℕ) → at < length front → slice_get (front ++ more) at ≡ slice_get front at
got_left [] more at h = absurd (omega arith)
got_left (pair ∷ front) more zero h = refl
got_left (pair ∷ front) more (suc at) h = got_left front more at (omega arith)

pub got_right : (front more : List (Value × Value)) (at : ℕ) → length front ≤ at → slice_get (front ++ more) at ≡ slice_get more (at - length front)
got_right [] more at h = ap (slice_get more) (omega arith)
got_right (pair ∷ front) more zero h = absurd (omega arith)
got_right (pair ∷ front) more (suc at) h = got_right front more at (omega arith) ∙ ap (slice_get more) (omega arith)

pub got_reversed : (pairs : List (Value × Value)) (at back : ℕ) → at + suc back ≡ length pairs → slice_get (reverse pairs) at ≡ slice_get pairs back
got_reversed [] at back h = absurd (omega arith)
got_reversed (pair ∷ pairs) at zero h =
    let long : length (reverse pairs) ≡ length pairs = length-reverse pairs in
    let here : at - length (reverse pairs) ≡ 0 = omega arith in
    ap (λ (l : List (Value × Value)). slice_get l at) (last_reversed pair pairs) ∙ got_right (reverse pairs) (pair ∷ []) at (omega arith) ∙ ap (slice_get (pair ∷ [])) here
got_reversed (pair ∷ pairs) at (suc back) h =
    let long : length (reverse pairs) ≡ length pairs = length-reverse pairs in
    ap (λ (l : List (Value × Value)). slice_get l at) (last_reversed pair pairs) ∙ got_left (reverse pairs) (pair ∷ []) at (omega arith) ∙ got_reversed pairs at back (omega arith)

pub removed_reversed : (pairs : List (Value × Value)) (at back : ℕ) → at + suc back ≡ length pairs → remove (reverse pairs) at ≡ reverse (remove pairs back)
removed_reversed [] at back h = absurd (omega arith)
removed_reversed (pair ∷ pairs) at zero h =
    let long : length (reverse pairs) ≡ length pairs = length-reverse pairs in
    let here : at - length pairs ≡ 0 = omega arith in
    ap (λ (l : List (Value × Value)). remove l at) (last_reversed pair pairs) ∙ remove-append_right (reverse pairs) (pair ∷ []) (length pairs) at long (omega arith)
    ∙ ap (λ (n : ℕ). reverse pairs ++ remove (pair ∷ []) n) here ∙ append-nil (reverse pairs)
removed_reversed (pair ∷ pairs) at (suc back) h =
    let long : length (reverse pairs) ≡ length pairs = length-reverse pairs in
    ap (λ (l : List (Value × Value)). remove l at) (last_reversed pair pairs) ∙ remove-append_left (reverse pairs) (pair ∷ []) at (omega arith)
    ∙ ap (λ (l : List (Value × Value)). l ++ pair ∷ []) (removed_reversed pairs at back (omega arith)) ∙ sym (last_reversed pair (remove pairs back))

-- a key that stands at a place
first_found : (test : Bool) (value : Value) (rest : Option Value) → test ≡ true → (if test then Some value else rest) ≡ Some value
first_found true value rest e = refl
first_found false value rest e = cc

first_cut : (test : Bool) (pairs rest : List (Value × Value)) → test ≡ true → (if test then pairs else rest) ≡ pairs
first_cut true pairs rest e = refl
first_cut false pairs rest e = cc

is_later : (test : Bool) (there : Option Value) (found : Value) → (test ≡ true → there ≡ None) → there ≡ Some found → test ≡ false
is_later true there found a h = let none : there ≡ None = a refl in cc
is_later false there found a h = refl

pub record Stands (pairs : List (Value × Value)) (key found : Value) (at : ℕ) : Type 0 where
  pub value : value_of pairs key ≡ Some found
  pub rest : without_key pairs key ≡ remove pairs at

pub stands : (pairs : List (Value × Value)) (at : ℕ) (key : Value) (pair : Value × Value) → HasDistinctKeys pairs → slice_get pairs at ≡ Some pair → same_value key pair.0 ≡ true → Stands pairs key pair.1 at
stands [] at key pair d g s = absurd (cc)
stands (first ∷ pairs) zero key pair d g s =
    let one : first ≡ pair = cc in
    let same : same_value key first.0 ≡ true = subst (λ (p : Value × Value). same_value key p.0 ≡ true) (sym one) s in
    record {
      value = first_found (same_value key first.0) first.1 (value_of pairs key) same ∙ ap (λ (p : Value × Value). Some p.1) one;
      rest = first_cut (same_value key first.0) pairs (first ∷ without_key pairs key) same;
    }
stands (first ∷ pairs) (suc at) key pair d g s =
    let later = stands pairs at key pair d.1 g s in
    let other : same_value key first.0 ≡ false = is_later (same_value key first.0) (value_of pairs key) pair.1 (alone first pairs key d.0) later.value in
    record {
      value = ap (λ (b : Bool). if b then Some first.1 else value_of pairs key) other ∙ later.value;
      rest = ap (λ (b : Bool). if b then pairs else first ∷ without_key pairs key) other ∙ ap (λ (l : List (Value × Value)). first ∷ l) later.rest;
    }

pub none_cut : (pairs : List (Value × Value)) (key : Value) → value_of pairs key ≡ None → without_key pairs key ≡ pairs
none_cut [] key h = refl
none_cut (pair ∷ pairs) key h =
    let apart = not_found (same_value key pair.0) pair.1 (value_of pairs key) h in
    ap (λ (b : Bool). if b then pairs else pair ∷ without_key pairs key) apart.0 ∙ ap (λ (l : List (Value × Value)). pair ∷ l) (none_cut pairs key apart.1)

-- further pairs whose keys are new in the front
pub puts_right : (front tail more : List (Value × Value)) → AreNew front more → with_pairs (front ++ tail) more ≡ front ++ with_pairs tail more
puts_right front tail [] n = refl
puts_right front tail (pair ∷ more) n =
    ap (λ (l : List (Value × Value)). with_pairs l more) (put_right front tail pair.0 pair.1 (ap is_some n.0)) ∙ puts_right front (with_pair tail pair.0 pair.1) more n.1

length_put : (pairs : List (Value × Value)) (key value : Value) (test : Bool) → is_some (value_of pairs key) ≡ test → length (with_pair pairs key value) ≤ length pairs + 1
length_put pairs key value true e = omega (arith, length_set pairs key value e)
length_put pairs key value false e = omega (arith, length_new pairs key value e)

pub counted_all : (pairs more : List (Value × Value)) → length pairs + length more < 2 ^ 63 → AreCounted pairs → AreCounted (with_pairs pairs more)
counted_all pairs [] few c = c
counted_all pairs (pair ∷ more) few c =
    let longer = length_put pairs pair.0 pair.1 (is_some (value_of pairs pair.0)) refl in
    let next : AreCounted (with_pair pairs pair.0 pair.1) = record { distinct = distinct_with pairs pair.0 pair.1 c.distinct; fits = omega arith } in
    counted_all (with_pair pairs pair.0 pair.1) more (omega arith) next

pub next_new : (front more : List (Value × Value)) (at : ℕ) (key : Value) → key_at more at ≡ Some key → value_of front key ≡ None → AreNew front (drop (suc at) more) → AreNew front (drop at more)
next_new front [] at key h n rest = absurd (cc)
next_new front (pair ∷ more) zero key h n rest =
    let one : pair.0 ≡ key = cc in
    (subst (λ (k : Value). value_of front k ≡ None) (sym one) n, rest)
next_new front (pair ∷ more) (suc at) key h n rest = next_new front more at key h n rest
