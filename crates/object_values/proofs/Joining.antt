-- Pairs in three parts, of which the second is in reverse: what is found, set and taken out, and what stays where the gap moves.
use Rattle.std.proofs.Common.{◌≡◌, ℕ, suc, ◌+◌, ◌-◌, ◌<◌, ◌≤◌, ◌^◌, Bool, true, false, is_some, List, [], ◌∷◌, ◌++◌, length, reverse, remove, slice_get, Result, Ok, Err, OnOk, OnErr, refl, ap, sym, ◌∙◌, subst, arith}
use Rattle.std.proofs.lemmas.List.{append-nil, reverse-reverse, length-append, length-reverse}
use Rattle.std.proofs.lemmas.List.Edits.{remove-append_left, remove-append_right}
use Rattle.object_values.specs.declared.value.Value.{Value}
use Rattle.object_values.specs.Pairs.{value_of, with_pair, with_pairs, AreNew, HasDistinctKeys}
use Rattle.object_values.specs.Parts.{joined, AreCounted}
use Rattle.object_values.proofs.Parting.{found_left, found_right, found_reversed, put_left, put_right, put_reversed, got_left, got_right, got_reversed, removed_reversed, distinct_in, distinct_reversed, distinct_turned, same_turned, puts_right, counted_set, counted_new, counted_all}

-- what a list came to, after a call that sets it or leaves it
pub end_of : {X E : Type 0} (r : Result X E) (new set old : List (Value × Value)) (C : List (Value × Value) → Type 0) → OnOk r (new ≡ set) → OnErr r (new ≡ old) → C set → C old → C new
end_of (Ok x) new set old C ok err there here = subst C (sym ok) there
end_of (Err x) new set old C ok err there here = subst C (sym err) here

module _ (before behind tail : List (Value × Value)) where
  -- the pairs beside the gap
  pub both_distinct : HasDistinctKeys (joined before behind tail) → HasDistinctKeys (before ++ reverse behind)
  both_distinct d = (distinct_in (before ++ reverse behind) tail d).0

  pub turned_distinct : HasDistinctKeys (joined before behind tail) → HasDistinctKeys (behind ++ reverse before)
  turned_distinct d = distinct_turned before behind (both_distinct d)

  behind_distinct : HasDistinctKeys (joined before behind tail) → HasDistinctKeys behind
  behind_distinct d = subst HasDistinctKeys (reverse-reverse behind) (distinct_reversed (reverse behind) (distinct_in before (reverse behind) (both_distinct d)).1)

  length_both : length (before ++ reverse behind) ≡ length before + length behind
  length_both = length-append before (reverse behind) ∙ ap (λ n. length before + n) (length-reverse behind)

  -- what is found
  module _ (key : Value) where
    pub value_before : is_some (value_of before key) ≡ true → value_of (joined before behind tail) key ≡ value_of before key
    value_before h =
        let front = found_left before (reverse behind) key h in
        found_left (before ++ reverse behind) tail key (ap is_some front ∙ h) ∙ front

    pub value_behind : HasDistinctKeys (joined before behind tail) → is_some (value_of before key) ≡ false → is_some (value_of behind key) ≡ true → value_of (joined before behind tail) key ≡ value_of behind key
    value_behind d none h =
        let front : value_of (before ++ reverse behind) key ≡ value_of behind key = found_right before (reverse behind) key none ∙ found_reversed behind key (behind_distinct d) in
        found_left (before ++ reverse behind) tail key (ap is_some front ∙ h) ∙ front

    pub value_tail : HasDistinctKeys (joined before behind tail) → is_some (value_of before key) ≡ false → is_some (value_of behind key) ≡ false → value_of (joined before behind tail) key ≡ value_of tail key
    value_tail d none gone =
        let front : value_of (before ++ reverse behind) key ≡ value_of behind key = found_right before (reverse behind) key none ∙ found_reversed behind key (behind_distinct d) in
        found_right (before ++ reverse behind) tail key (ap is_some front ∙ gone)

    -- what is set
    module _ (value : Value) where
      pub put_before : is_some (value_of before key) ≡ true → with_pair (joined before behind tail) key value ≡ joined (with_pair before key value) behind tail
      put_before h =
          put_left (before ++ reverse behind) tail key value (ap is_some (found_left before (reverse behind) key h) ∙ h)
          ∙ ap (λ (l : List (Value × Value)). l ++ tail) (put_left before (reverse behind) key value h)

      pub put_behind : HasDistinctKeys (joined before behind tail) → is_some (value_of before key) ≡ false → is_some (value_of behind key) ≡ true
          → with_pair (joined before behind tail) key value ≡ joined before (with_pair behind key value) tail
      put_behind d none h =
          let front : value_of (before ++ reverse behind) key ≡ value_of behind key = found_right before (reverse behind) key none ∙ found_reversed behind key (behind_distinct d) in
          put_left (before ++ reverse behind) tail key value (ap is_some front ∙ h)
          ∙ ap (λ (l : List (Value × Value)). l ++ tail) (put_right before (reverse behind) key value none ∙ ap (λ (l : List (Value × Value)). before ++ l) (put_reversed behind key value (behind_distinct d) h))

      pub put_tail : HasDistinctKeys (joined before behind tail) → is_some (value_of before key) ≡ false → is_some (value_of behind key) ≡ false
          → with_pair (joined before behind tail) key value ≡ joined before behind (with_pair tail key value)
      put_tail d none gone =
          let front : value_of (before ++ reverse behind) key ≡ value_of behind key = found_right before (reverse behind) key none ∙ found_reversed behind key (behind_distinct d) in
          put_right (before ++ reverse behind) tail key value (ap is_some front ∙ gone)

      pub counted_before : is_some (value_of before key) ≡ true → AreCounted (joined before behind tail) → AreCounted (joined (with_pair before key value) behind tail)
      counted_before h c = subst AreCounted (put_before h) (counted_set (joined before behind tail) key value (ap is_some (value_before h) ∙ h) c)

      pub counted_behind : is_some (value_of before key) ≡ false → is_some (value_of behind key) ≡ true → AreCounted (joined before behind tail) → AreCounted (joined before (with_pair behind key value) tail)
      counted_behind none h c = subst AreCounted (put_behind c.distinct none h) (counted_set (joined before behind tail) key value (ap is_some (value_behind c.distinct none h) ∙ h) c)

      set_or_new : (test : Bool) → is_some (value_of (joined before behind tail) key) ≡ test → length (joined before behind tail) + 1 < 2 ^ 63 → AreCounted (joined before behind tail)
          → AreCounted (with_pair (joined before behind tail) key value)
      set_or_new true e few c = counted_set (joined before behind tail) key value e c
      set_or_new false e few c = counted_new (joined before behind tail) key value e few c

      pub counted_tail : is_some (value_of before key) ≡ false → is_some (value_of behind key) ≡ false → length (joined before behind tail) + 1 < 2 ^ 63 → AreCounted (joined before behind tail)
          → AreCounted (joined before behind (with_pair tail key value))
      counted_tail none gone few c = subst AreCounted (put_tail c.distinct none gone) (set_or_new (is_some (value_of (joined before behind tail) key)) refl few c)

  -- further pairs
  module _ (more : List (Value × Value)) (new : AreNew (before ++ reverse behind) more) where
    pub put_new : with_pairs (joined before behind tail) more ≡ joined before behind (with_pairs tail more)
    put_new = puts_right (before ++ reverse behind) tail more new

    pub counted_more : length (joined before behind tail) + length more < 2 ^ 63 → AreCounted (joined before behind tail) → AreCounted (joined before behind (with_pairs tail more))
    counted_more few c = subst AreCounted put_new (counted_all (joined before behind tail) more few c)

  -- what stands at a place, and what is left when it is taken out
  module _ (at : ℕ) where
    pub got_before : at < length before → slice_get (joined before behind tail) at ≡ slice_get before at
    got_before h =
        let long = length_both in
        got_left (before ++ reverse behind) tail at (omega arith) ∙ got_left before (reverse behind) at h

    pub got_behind : (back : ℕ) → length before ≤ at → (at - length before) + suc back ≡ length behind → slice_get (joined before behind tail) at ≡ slice_get behind back
    got_behind back h e =
        let long = length_both in
        got_left (before ++ reverse behind) tail at (omega arith) ∙ got_right before (reverse behind) at h ∙ got_reversed behind (at - length before) back e

    pub got_tail : (place : ℕ) → at ≡ length before + length behind + place → slice_get (joined before behind tail) at ≡ slice_get tail place
    got_tail place e =
        let long = length_both in
        got_right (before ++ reverse behind) tail at (omega arith) ∙ ap (slice_get tail) (omega arith)

    pub removed_before : at < length before → remove (joined before behind tail) at ≡ joined (remove before at) behind tail
    removed_before h =
        let long = length_both in
        remove-append_left (before ++ reverse behind) tail at (omega arith) ∙ ap (λ (l : List (Value × Value)). l ++ tail) (remove-append_left before (reverse behind) at h)

    pub removed_behind : (back : ℕ) → length before ≤ at → (at - length before) + suc back ≡ length behind → remove (joined before behind tail) at ≡ joined before (remove behind back) tail
    removed_behind back h e =
        let long = length_both in
        remove-append_left (before ++ reverse behind) tail at (omega arith)
        ∙ ap (λ (l : List (Value × Value)). l ++ tail)
        (remove-append_right before (reverse behind) (length before) at refl h ∙ ap (λ (l : List (Value × Value)). before ++ l) (removed_reversed behind (at - length before) back e))

    pub removed_tail : (place : ℕ) → at ≡ length before + length behind + place → remove (joined before behind tail) at ≡ joined before behind (remove tail place)
    removed_tail place e =
        let here : at - (length before + length behind) ≡ place = omega arith in
        remove-append_right (before ++ reverse behind) tail (length before + length behind) at length_both (omega arith) ∙ ap (λ (n : ℕ). (before ++ reverse behind) ++ remove tail n) here

  -- what stays where pairs are carried over the gap
  module _ (new_before new_behind : List (Value × Value)) (e : new_behind ++ reverse new_before ≡ behind ++ reverse before) where
    pub gone_on : joined new_before new_behind tail ≡ joined before behind tail
    gone_on = ap (λ (l : List (Value × Value)). l ++ tail) (same_turned new_behind new_before behind before e)

    pub counted_on : AreCounted (joined before behind tail) → AreCounted (joined new_before new_behind tail)
    counted_on c = subst AreCounted (sym gone_on) c

    none_left : (pairs : List (Value × Value)) → length pairs ≡ 0 → pairs ≡ []
    none_left [] h = refl
    none_left (pair ∷ pairs) h = absurd (omega arith)

    -- and where the tail is taken behind a gap that has nothing behind it
    module _ (last new_tail : List (Value × Value)) (over : last ≡ reverse tail) (rest : new_tail ≡ new_behind) (none : length new_behind ≡ 0) where
      pub taken_over : joined new_before last new_tail ≡ joined before behind tail
      taken_over =
          let gone : new_behind ≡ [] = none_left new_behind none in
          let all : new_before ≡ before ++ reverse behind = sym (append-nil new_before) ∙ ap (λ (l : List (Value × Value)). new_before ++ reverse l) (sym gone) ∙ same_turned new_behind new_before behind before e in
          ap (λ (l : List (Value × Value)). (new_before ++ reverse last) ++ l) (rest ∙ gone) ∙ append-nil (new_before ++ reverse last)
          ∙ ap (λ (l : List (Value × Value)). new_before ++ reverse l) over ∙ ap (λ (l : List (Value × Value)). new_before ++ l) (reverse-reverse tail) ∙ ap (λ (l : List (Value × Value)). l ++ tail) all

      pub counted_over : AreCounted (joined before behind tail) → AreCounted (joined new_before last new_tail)
      counted_over c = subst AreCounted (sym taken_over) c
