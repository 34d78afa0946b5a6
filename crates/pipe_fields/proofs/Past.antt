-- The way to a target, once what stands at a field is taken out.
use Rattle.std.proofs.Common.{◌≡◌, ℕ, ◌<◌, List, [], ◌∷◌, length, Option, Some, None, Bool, true, false, true≢false, bytes_eq, Ordering, Less, Equal, Greater, nat_cmp, refl, sym, ap, ◌∙◌, arith}
use Rattle.std.proofs.lemmas.Slice.Eq.{bytes_eq-Decides}
use Rattle.std.proofs.lemmas.Map.Text.{is_eq-slice_cmp}
use Rattle.std.specs.Cmp.Lexicographic.{slice_cmp}
use Rattle.std.specs.Prelude.{IsSome, is_some, cond}
use Rattle.std.specs.Ordering.{is_eq, match_ordering}
use Rattle.serde_json.specs.Data.{Data, null, boolean, number, string, array, object, Members, no_members, member}
use Rattle.serde_json.specs.Find.{get, get_member, as_object}
use Rattle.serde_json.proofs.Views.{get_member-put, get_member-put_other}
use Rattle.pipe_fields.specs.Ways.{members_of, below, find, is_blocked, without, without_member}
use Rattle.pipe_fields.proofs.WayLemmas.{open_where_none, find_none, find_next}

-- ---- members but those of a name

gone_step : (t : Bool) (o : Ordering) (name l : List ℕ) (d : Data) (ms : Members) → is_eq o ≡ t → slice_cmp nat_cmp name l ≡ o → get_member name (without_member name ms) ≡ None
    → get_member name (cond t (without_member name ms) (member l d (without_member name ms))) ≡ None
gone_step true o name l d ms is at later = later
gone_step false Less name l d ms is at later = rw at later
gone_step false Equal name l d ms is at later = absurd (true≢false is)
gone_step false Greater name l d ms is at later = rw at later

pub gone : (name : List ℕ) (ms : Members) → get_member name (without_member name ms) ≡ None
gone name no_members = refl
gone name (member l d ms) = gone_step (bytes_eq name l) (slice_cmp nat_cmp name l) name l d ms (is_eq-slice_cmp name l) refl (gone name ms)

passes : (o : Ordering) (a b : Option Data) → is_eq o ≡ false → match_ordering o a b a ≡ a
passes Less a b e = refl
passes Equal a b e = absurd (true≢false e)
passes Greater a b e = refl

differ : (xs ys : List ℕ) (b : Bool) → bytes_eq xs ys ≡ b → (xs ≡ ys → ⊥) → b ≡ false
differ xs ys true e other = absurd (other ((bytes_eq-Decides xs ys).0 e))
differ xs ys false e other = refl

skips : (q k : List ℕ) (d : Data) (ms : Members) → (q ≡ k → ⊥) → get_member q (member k d ms) ≡ get_member q ms
skips q k d ms other = passes (slice_cmp nat_cmp q k) _ _ (is_eq-slice_cmp q k ∙ differ q k _ refl other)

stays_step : (t : Bool) (q name l : List ℕ) (d : Data) (ms : Members) → bytes_eq name l ≡ t → (q ≡ name → ⊥) → get_member q (without_member name ms) ≡ get_member q ms
    → get_member q (cond t (without_member name ms) (member l d (without_member name ms))) ≡ get_member q (member l d ms)
stays_step true q name l d ms is other later = later ∙ sym (skips q l d ms (λ (h : q ≡ l). other (h ∙ sym ((bytes_eq-Decides name l).0 is))))
stays_step false q name l d ms is other later = ap (λ r. match_ordering (slice_cmp nat_cmp q l) r (Some d) r) later

pub stays : (q name : List ℕ) (ms : Members) → (q ≡ name → ⊥) → get_member q (without_member name ms) ≡ get_member q ms
stays q name no_members other = refl
stays q name (member l d ms) other = stays_step (bytes_eq name l) q name l d ms refl other (stays q name ms other)

-- ---- what is found behind it

get_of_members : (q : List ℕ) (d : Data) → get q d ≡ get_member q (members_of d)
get_of_members q d = elim d as (λ d. get q d ≡ get_member q (members_of d)) [ null ↦ refl | boolean b ↦ refl | number n ↦ refl | string s ↦ refl | array ds ↦ refl | object ms ↦ refl ]

still_object : (name : List ℕ) (more : List (List ℕ)) (d : Data) → is_some (as_object (without (name ∷ more) d)) ≡ true
still_object name [] d = refl
still_object name (next ∷ more) d = refl

get_past_other : (name : List ℕ) (more : List (List ℕ)) (q : List ℕ) (d : Data) → (q ≡ name → ⊥) → get q (without (name ∷ more) d) ≡ get q d
get_past_other name [] q d other = stays q name (members_of d) other ∙ sym (get_of_members q d)
get_past_other name (next ∷ more) q d other = get_member-put_other q name (without (next ∷ more) (below name d)) (members_of d) other ∙ sym (get_of_members q d)

get_past_more : (name : List ℕ) (more : List (List ℕ)) (d inner : Data) → 0 < length more → get name d ≡ Some inner → get name (without (name ∷ more) d) ≡ Some (without more inner)
get_past_more name [] d inner some g = absurd (omega arith)
get_past_more name (next ∷ more) d inner some g = rw g (get_member-put name (without (next ∷ more) inner) (members_of d))

get_past_last : (name : List ℕ) (more : List (List ℕ)) (d : Data) → length more ≡ 0 → get name (without (name ∷ more) d) ≡ None
get_past_last name [] d none = gone name (members_of d)
get_past_last name (next ∷ more) d none = absurd (omega arith)

-- ---- the way

on : (next : List ℕ) (rest : List (List ℕ)) (d inner : Data) → is_some (as_object d) ≡ true → get next d ≡ Some inner → is_blocked (next ∷ rest) d ≡ is_blocked rest inner
on next rest d inner o g = rw (o, g) refl

past_none_at : (b : Bool) (name next : List ℕ) (more rest : List (List ℕ)) (d : Data) → bytes_eq next name ≡ b → IsSome (find (name ∷ more) d) → get next d ≡ None
    → false ≡ is_blocked (next ∷ rest) (without (name ∷ more) d)
past_none_at true name next more rest d is found g =
    let same : next ≡ name = (bytes_eq-Decides next name).0 is in
    let none : find (name ∷ more) d ≡ None = find_none name more d (ap (λ (n : List ℕ). get n d) (sym same) ∙ g) in
    absurd (true≢false (sym found ∙ ap (λ o. is_some o) none))
past_none_at false name next more rest d is found g =
    let other : next ≡ name → ⊥ = λ h. true≢false (sym ((bytes_eq-Decides next name).1 h) ∙ is) in
    sym (open_where_none next rest (without (name ∷ more) d) (still_object name more d) (get_past_other name more next d other ∙ g))

-- where the target's first name has nothing
pub past_none : (field target : List (List ℕ)) (name next : List ℕ) (more rest : List (List ℕ)) (d : Data) → field ≡ name ∷ more → target ≡ next ∷ rest → IsSome (find field d) → get next d ≡ None
    → false ≡ is_blocked target (without field d)
past_none field target name next more rest d fs ts found g =
    rw (fs, ts) (past_none_at (bytes_eq next name) name next more rest d refl (rw fs at found) g)

-- where the two begin with other names
pub past_other : (field target : List (List ℕ)) (name next : List ℕ) (more rest : List (List ℕ)) (d inner : Data) → field ≡ name ∷ more → target ≡ next ∷ rest → (next ≡ name → ⊥) → get next d ≡ Some inner
    → is_blocked rest inner ≡ is_blocked target (without field d)
past_other field target name next more rest d inner fs ts other g =
    rw (fs, ts) (sym (on next rest (without (name ∷ more) d) inner (still_object name more d) (get_past_other name more next d other ∙ g)))

-- where the field ends at that name
pub past_last : (field target : List (List ℕ)) (name next : List ℕ) (more rest : List (List ℕ)) (d : Data) → field ≡ name ∷ more → target ≡ next ∷ rest → next ≡ name → length more ≡ 0
    → false ≡ is_blocked target (without field d)
past_last field target name next more rest d fs ts same none =
    rw (fs, ts, same) (sym (open_where_none name rest (without (name ∷ more) d) (still_object name more d) (get_past_last name more d none)))

-- where both go on
pub past_more : (field target : List (List ℕ)) (name next : List ℕ) (more rest : List (List ℕ)) (d inner : Data) (result : Bool) → field ≡ name ∷ more → target ≡ next ∷ rest → next ≡ name → 0 < length more → get next d ≡ Some inner
    → result ≡ is_blocked rest (without more inner) → result ≡ is_blocked target (without field d)
past_more field target name next more rest d inner result fs ts same some g e =
    let here : get name d ≡ Some inner = ap (λ (n : List ℕ). get n d) (sym same) ∙ g in
    rw (fs, ts, same) (e ∙ sym (on name rest (without (name ∷ more) d) (without more inner) (still_object name more d) (get_past_more name more d inner some here)))

-- what is found in a value is found further on
pub found_on : (field : List (List ℕ)) (name next : List ℕ) (more : List (List ℕ)) (d inner : Data) → field ≡ name ∷ more → next ≡ name → 0 < length more → get next d ≡ Some inner → IsSome (find field d) → IsSome (find more inner)
found_on field name next more d inner fs same some g found =
    sym (ap (λ o. is_some o) (find_next name more d inner some (ap (λ (n : List ℕ). get n d) (sym same) ∙ g))) ∙ rw fs at found

pub none_named : (target : List (List ℕ)) (d : Data) → length target ≡ 0 → false ≡ is_blocked target d
none_named [] d none = refl
none_named (next ∷ rest) d none = absurd (omega arith)

pub never_blocked_past : (a b : Bool) (field : List (List ℕ)) (d : Data) → length field ≡ 0 → IsSome (find field d) → a ≡ b
never_blocked_past a b [] d none found = absurd (true≢false (sym found))
never_blocked_past a b (name ∷ more) d none found = absurd (omega arith)
