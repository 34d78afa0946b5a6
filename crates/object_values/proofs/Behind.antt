-- What stands behind the first places of a list, where the list changes behind them.
use Rattle.std.proofs.Common.{◌≡◌, ℕ, suc, ◌+◌, ◌-◌, ◌≤◌, List, ◌∷◌, ◌++◌, length, take, drop, insert, remove, ap, sym, ◌∙◌, arith, append_assoc}
use Rattle.std.proofs.lemmas.List.{append-nil, length-take-le, length-drop, take_all, drop_all, drop-append-le, drop-take, drop-drop, drop_at, take-append-le, take-take, take-set, drop-set-lt}
use Rattle.std.specs.Prelude.{slice_set}

-- the first of them stay up to a place
pub rest_behind : {X : Type 0} (xs rest : List X) (dead at : ℕ) → dead + at ≤ length xs → drop dead (take (dead + at) xs ++ rest) ≡ take at (drop dead xs) ++ rest
rest_behind xs rest dead at h =
    let long : length (take (dead + at) xs) ≡ dead + at = length-take-le (dead + at) xs h in
    drop-append-le dead (take (dead + at) xs) rest (omega (arith, long)) ∙ ap (λ front. front ++ rest) (drop-take dead at xs)

-- an element is inserted
pub insert_behind : {X : Type 0} (xs : List X) (x : X) (dead at : ℕ) → dead + at ≤ length xs → drop dead (insert xs (dead + at) x) ≡ insert (drop dead xs) at x
insert_behind xs x dead at h =
    rest_behind xs (x ∷ drop (dead + at) xs) dead at h ∙ ap (λ rest. take at (drop dead xs) ++ x ∷ rest) (sym (drop-drop at dead xs))

-- a run is inserted
pub run_behind : {X : Type 0} (xs more : List X) (dead at : ℕ) → dead + at ≤ length xs
    → drop dead (take (dead + at) xs ++ more ++ drop (dead + at) xs) ≡ take at (drop dead xs) ++ more ++ drop at (drop dead xs)
run_behind xs more dead at h =
    ap (drop dead) (append_assoc (take (dead + at) xs) more (drop (dead + at) xs))
    ∙ (rest_behind xs (more ++ drop (dead + at) xs) dead at h
    ∙ (ap (λ rest. take at (drop dead xs) ++ (more ++ rest)) (sym (drop-drop at dead xs))
    ∙ sym (append_assoc (take at (drop dead xs)) more (drop at (drop dead xs)))))

-- a run is taken out
pub cut_behind : {X : Type 0} (xs : List X) (dead from to : ℕ) → dead + from ≤ length xs → drop dead (take (dead + from) xs ++ drop (dead + to) xs) ≡ take from (drop dead xs) ++ drop to (drop dead xs)
cut_behind xs dead from to h =
    rest_behind xs (drop (dead + to) xs) dead from h ∙ ap (λ rest. take from (drop dead xs) ++ rest) (sym (drop-drop to dead xs))

-- a run that is inserted, where what stood before it is taken out
pub run_for_run : {X : Type 0} (xs more : List X) (from to : ℕ) → from ≤ to → to ≤ length xs
    → take from (take to xs ++ more ++ drop to xs) ++ drop to (take to xs ++ more ++ drop to xs) ≡ take from xs ++ more ++ drop to xs
run_for_run xs more from to h g =
    let long : length (take to xs) ≡ to = length-take-le to xs g in
    let kept : take from (take to xs ++ (more ++ drop to xs)) ≡ take from xs =
    take-append-le from (take to xs) (more ++ drop to xs) (omega (arith, long)) ∙ take-take from to xs h in
    let rest : drop to (take to xs ++ (more ++ drop to xs)) ≡ more ++ drop to xs = drop_at (take to xs) (more ++ drop to xs) to long in
    rw (append_assoc (take to xs) more (drop to xs)) (rw (kept, rest) (sym (append_assoc (take from xs) more (drop to xs))))

-- an element is written where it is taken out
pub remove_written : {X : Type 0} (xs : List X) (x : X) (at : ℕ) → take at (slice_set xs at x) ++ drop (at + 1) (slice_set xs at x) ≡ remove xs at
remove_written xs x at =
    let next : at + 1 ≡ suc at = omega arith in
    rw (take-set xs at x, drop-set-lt (at + 1) xs at x (omega arith)) (ap (λ (n : ℕ). take at xs ++ drop n xs) next)

-- what stands behind the dead places and a run that has joined them
pub moved_behind : {X : Type 0} (xs elements : List X) (dead count run from to : ℕ) → dead ≤ length xs → count ≡ length xs - dead → run ≤ length elements
    → drop run elements ≡ take from (take count (drop dead xs)) ++ drop to (take count (drop dead xs))
    → drop (dead + run) (take dead xs ++ (elements ++ drop count (drop dead xs))) ≡ take from (drop dead xs) ++ drop to (drop dead xs)
moved_behind xs elements dead count run from to h e g moved =
    let rest = drop dead xs in
    let long : length rest ≤ count = omega (arith, length-drop dead xs) in
    sym (drop-drop run dead (take dead xs ++ (elements ++ drop count rest)))
    ∙ (ap (drop run) (drop_at (take dead xs) (elements ++ drop count rest) dead (length-take-le dead xs h))
    ∙ (drop-append-le run elements (drop count rest) g
    ∙ (ap (λ behind. drop run elements ++ behind) (drop_all count rest long)
    ∙ (append-nil (drop run elements)
    ∙ (moved ∙ ap (λ all. take from all ++ drop to all) (take_all count rest long))))))
