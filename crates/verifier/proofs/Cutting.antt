-- Parameters that are cut into windows.
use Rattle.std.proofs.Common.{◌≡◌, ℕ, zero, suc, ◌+◌, ◌-◌, ◌*◌, ◌/◌, ◌<◌, ◌≤◌, min, length, take, drop, get_or, map, Bool, List, [], ◌∷◌, ◌++◌, inl, inr, refl, sym, ap, ◌∙◌, subst, add-one, arith}
use Rattle.std.specs.Prelude.{reverse}
use Rattle.std.proofs.Math.ListN.{get_or-append}
use Rattle.std.proofs.Math.Seq.{take-suc, drop-append_seam}
use Rattle.std.proofs.lemmas.List.{reverse-append, length-reverse, length-append, length-drop, length-take, take-append-drop, take-append-le, append_assoc, get_or_push, map-append}
use Rattle.std.proofs.lemmas.Bool.Decides.{eqb_tells}
use Rattle.pl_code.specs.declared.kinds.Slot.{Slot}
use Rattle.pl_code.specs.declared.code.FunCode.{FunCode}
use Rattle.instruction_types.specs.Faults.{is_value_function}
use Rattle.verifier_table.specs.Windows.{numeral_of, HasWindows}
use Rattle.verifier.specs.Signed.{AllCut}

-- ---- lists

drop_none : {X : Type 0} (n : ℕ) → drop {A = X} n [] ≡ []
drop_none zero = refl
drop_none (suc n) = refl

drop_twice : {X : Type 0} (n m : ℕ) (xs : List X) → drop (n + m) xs ≡ drop m (drop n xs)
drop_twice zero m xs = let e : zero + m ≡ m = omega arith in ap (λ k. drop k xs) e
drop_twice (suc n) m [] = drop_none (suc n + m) ∙ sym (drop_none m)
drop_twice (suc n) m (x ∷ xs) = let e : suc n + m ≡ suc (n + m) = omega arith in ap (λ k. drop k (x ∷ xs)) e ∙ drop_twice n m xs

-- the top 31 behind so many, of a list that is turned around
turned_part : (front part back : List Slot) (n : ℕ) → length back ≡ n → 31 ≤ length part → take 31 (drop n (reverse (front ++ (part ++ back)))) ≡ take 31 (reverse part)
turned_part front part back n e h =
    let whole : reverse (front ++ (part ++ back)) ≡ reverse back ++ (reverse part ++ reverse front) = reverse-append front (part ++ back) ∙ ap (λ l. l ++ reverse front) (reverse-append part back) ∙ append_assoc (reverse back) (reverse part) (reverse front) in
    let many : n ≡ length (reverse back) = sym (length-reverse back ∙ e) in
    let few : length (reverse part) ≡ length part = length-reverse part in
    ap (λ l. take 31 (drop n l)) whole ∙ ap (λ k. take 31 (drop k (reverse back ++ (reverse part ++ reverse front)))) many ∙ ap (take 31) (drop-append_seam (reverse back) (reverse part ++ reverse front))
    ∙ take-append-le 31 (reverse part) (reverse front) (omega (arith, few, h))

pub part_is : (xs : List Slot) (a n : ℕ) → a + 31 + n ≡ length xs → take 31 (drop n (reverse xs)) ≡ take 31 (reverse (take 31 (drop a xs)))
part_is xs a n e =
    let behind = drop a xs in
    let cut : xs ≡ take a xs ++ (take 31 behind ++ drop 31 behind) = sym (take-append-drop a xs) ∙ ap (λ l. take a xs ++ l) (sym (take-append-drop 31 behind)) in
    let left : length behind ≡ length xs - a = length-drop a xs in
    let last : length (drop 31 behind) ≡ length behind - 31 = length-drop 31 behind in
    let mid : length (take 31 behind) ≡ min 31 (length behind) = length-take 31 behind in
    ap (λ l. take 31 (drop n (reverse l))) cut ∙ turned_part (take a xs) (take 31 behind) (drop 31 behind) n (omega (arith, left, last, e)) (omega (arith, left, mid, e))

pub rest_is : (xs : List Slot) (n m : ℕ) → m ≡ length xs - n → n ≤ length xs → drop n (reverse xs) ≡ reverse (take m xs)
rest_is xs n m e h =
    let cut : reverse xs ≡ reverse (drop m xs) ++ reverse (take m xs) = ap reverse (sym (take-append-drop m xs)) ∙ reverse-append (take m xs) (drop m xs) in
    let left : length (drop m xs) ≡ length xs - m = length-drop m xs in
    let many : n ≡ length (reverse (drop m xs)) = omega (arith, left, length-reverse (drop m xs), e, h) in
    ap (drop n) cut ∙ ap (λ k. drop k (reverse (drop m xs) ++ reverse (take m xs))) many ∙ drop-append_seam (reverse (drop m xs)) (reverse (take m xs))

-- ---- one more kind

pub one_more_kind : (kinds : List Slot) (i : ℕ) (d : Slot) → i < length kinds → reverse (take (i + 1) kinds) ≡ get_or kinds i d ∷ reverse (take i kinds)
one_more_kind kinds i d h = ap (λ n. reverse (take n kinds)) (add-one i) ∙ ap reverse (take-suc kinds i d h) ∙ reverse-append (take i kinds) (get_or kinds i d ∷ [])

-- ---- windows of parameters

pub record CutSoFar (params : List Slot) (windows : List ℕ) (done : ℕ) : Type 0 where
  pub many : length windows ≡ done
  pub cut : HasWindows (reverse params) windows

pub none_cut : (params : List Slot) → CutSoFar params [] 0
none_cut params = record { many = refl; cut = record { few = omega arith; each = λ i h. absurd (omega (arith, h)) } }

pub one_cut : (params part : List Slot) (windows more : List ℕ) (window done a : ℕ) → CutSoFar params windows done → done < length params / 31 → a + 31 + 31 * done ≡ length params → part ≡ take 31 (drop a params)
    → window ≡ numeral_of (take 31 (reverse part)) → more ≡ windows ++ window ∷ [] → CutSoFar params more (done + 1)
one_cut params part windows more window done a c h at is numeral e =
    let turned : length (reverse params) ≡ length params = length-reverse params in
    let longer : length more ≡ length windows + 1 = ap length e ∙ length-append windows (window ∷ []) in
    let here : window ≡ numeral_of (take 31 (drop (31 * done) (reverse params))) = numeral ∙ ap (λ l. numeral_of (take 31 (reverse l))) is ∙ ap numeral_of (sym (part_is params a (31 * done) at)) in
    record {
      many = omega (arith, longer, c.many);
      cut = record {
        few = omega (arith, longer, c.many, turned, at);
        each = λ i b.
            elim (eqb_tells i done) [
              | inl q ↦ ap (λ ws. get_or ws i 0) e ∙ get_or_push windows window 0 i (c.many ∙ sym q.1) ∙ here ∙ ap (λ n. numeral_of (take 31 (drop (31 * n) (reverse params)))) (sym q.1)
              | inr q ↦ let n : ¬ (i ≡ done) = q.1 in let w : i < length windows = omega (arith, longer, c.many, n, b) in
                  ap (λ ws. get_or ws i 0) e ∙ get_or-append windows (window ∷ []) 0 i w ∙ c.cut.each i w
            ];
      };
    }

-- ---- windows of functions

pub one_function_cut : (functions : List FunCode) (windows more : List (List ℕ)) (f : FunCode) (w : List ℕ) → AllCut functions windows → HasWindows (reverse f.params) w → AllCut (functions ++ f ∷ []) (windows ++ w ∷ [])
one_function_cut [] [] more f w all one = (one, record {})
one_function_cut [] (v ∷ windows) more f w all one = absurd all
one_function_cut (g ∷ functions) [] more f w all one = absurd all
one_function_cut (g ∷ functions) (v ∷ windows) more f w all one = (all.0, one_function_cut functions windows more f w all.1 one)

pub cut_count : (functions : List FunCode) (windows : List (List ℕ)) → AllCut functions windows → length functions ≡ length windows
cut_count [] [] all = refl
cut_count [] (w ∷ windows) all = absurd all
cut_count (f ∷ functions) [] all = absurd all
cut_count (f ∷ functions) (w ∷ windows) all = ap suc (cut_count functions windows all.1)

pub cut_at : (functions : List FunCode) (windows : List (List ℕ)) (k : ℕ) (f : FunCode) (w : List ℕ) → AllCut functions windows → k < length functions → HasWindows (reverse (get_or functions k f).params) (get_or windows k w)
cut_at [] [] k f w all h = absurd (omega (arith, h))
cut_at [] (v ∷ windows) k f w all h = absurd all
cut_at (g ∷ functions) [] k f w all h = absurd all
cut_at (g ∷ functions) (v ∷ windows) zero f w all h = all.0
cut_at (g ∷ functions) (v ∷ windows) (suc k) f w all h = cut_at functions windows k f w all.1 (omega (arith, h))

pub cut_found : (functions : List FunCode) (windows shown : List (List ℕ)) (k : ℕ) (f : FunCode) (w read : List ℕ) → AllCut functions windows → k < length functions → f ≡ get_or functions k f → w ≡ get_or shown k w
    → shown ≡ windows → read ≡ w → HasWindows (reverse f.params) read
cut_found functions windows shown k f w read all h is at same reads =
    let here : get_or windows k w ≡ read = ap (λ ws. get_or ws k w) (sym same) ∙ sym at ∙ sym reads in
    subst (HasWindows (reverse f.params)) here (subst (λ (g : FunCode). HasWindows (reverse g.params) (get_or windows k w)) (sym is) (cut_at functions windows k f w all h))

-- ---- a window that is taken

pub record CutOff (kinds : List Slot) (i : ℕ) : Type 0 where
  pub is : drop (31 * i) kinds ≡ take 31 (drop (31 * i) kinds) ++ drop (31 * (i + 1)) kinds
  pub many : length (take 31 (drop (31 * i) kinds)) ≡ 31

pub cut_off : (kinds : List Slot) (windows : List ℕ) (i : ℕ) → HasWindows kinds windows → i < length windows → CutOff kinds i
cut_off kinds windows i c h =
    let next : 31 * (i + 1) ≡ 31 * i + 31 = omega arith in
    let few = c.few in
    let left : length (drop (31 * i) kinds) ≡ length kinds - 31 * i = length-drop (31 * i) kinds in
    let front : length (take 31 (drop (31 * i) kinds)) ≡ min 31 (length (drop (31 * i) kinds)) = length-take 31 (drop (31 * i) kinds) in
    record {
      is = sym (take-append-drop 31 (drop (31 * i) kinds)) ∙ ap (λ l. take 31 (drop (31 * i) kinds) ++ l) (sym (drop_twice (31 * i) 31 kinds) ∙ ap (λ n. drop n kinds) (sym next));
      many = omega (arith, few, left, front, h);
    }

-- ---- the lists that were gone over

take_none : {X : Type 0} (n : ℕ) → take {A = X} n [] ≡ []
take_none zero = refl
take_none (suc n) = refl

pub all_of : {X : Type 0} (xs : List X) (i : ℕ) → length xs ≤ i → take i xs ≡ xs
all_of [] i h = take_none i
all_of (x ∷ xs) zero h = absurd (omega (arith, h))
all_of (x ∷ xs) (suc i) h = ap (λ ys. x ∷ ys) (all_of xs i (omega (arith, h)))

pub one_value : (functions : List FunCode) (i : ℕ) (f : FunCode) (values more : List Bool) (v : Bool) → values ≡ map is_value_function (take i functions) → v ≡ is_value_function f → more ≡ values ++ v ∷ []
    → f ≡ get_or functions i f → i < length functions → more ≡ map is_value_function (take (i + 1) functions)
one_value functions i f values more v so is e at h =
    let next : take (i + 1) functions ≡ take i functions ++ f ∷ [] = ap (λ n. take n functions) (add-one i) ∙ take-suc functions i f h ∙ ap (λ g. take i functions ++ g ∷ []) (sym at) in
    e ∙ (λ k. so k ++ is k ∷ []) ∙ sym (ap (map is_value_function) next ∙ map-append is_value_function (take i functions) (f ∷ []))

pub one_more_cut : (functions : List FunCode) (i : ℕ) (f : FunCode) (windows more : List (List ℕ)) (w : List ℕ) → AllCut (take i functions) windows → HasWindows (reverse f.params) w → more ≡ windows ++ w ∷ []
    → f ≡ get_or functions i f → i < length functions → AllCut (take (i + 1) functions) more
one_more_cut functions i f windows more w all one e at h =
    let next : take i functions ++ f ∷ [] ≡ take (i + 1) functions = sym (ap (λ n. take n functions) (add-one i) ∙ take-suc functions i f h ∙ ap (λ g. take i functions ++ g ∷ []) (sym at)) in
    subst (λ fs. AllCut fs more) next (subst (AllCut (take i functions ++ f ∷ [])) (sym e) (one_function_cut (take i functions) windows more f w all one))
