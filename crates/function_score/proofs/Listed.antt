-- Functions that are read behind others.
use Rattle.std.proofs.Common.{◌≡◌, ℕ, ◌+◌, ◌<◌, ◌≤◌, List, [], ◌∷◌, ◌++◌, Option, Some, None, Ok, Err, true, false, drop, length, get_or, suc, nat_lt, option_map, refl, ap, sym, ◌∙◌, subst, add-one, drop-cons, arith}
use Rattle.std.proofs.lemmas.Bool.Decides.{nat_tests}
use Rattle.std.proofs.lemmas.List.{append-nil, drop_all}
use Rattle.serde_json.specs.Data.{Data, Members}
use Rattle.serde_json.specs.Find.{as_object}
use Rattle.serde_json.specs.View.{view, items_view}
use Rattle.serde_json.specs.declared.value.Value.{Value}
use Rattle.function_score.specs.Functions.{Fault, FunctionData, Reading, at_key, before, fault_in, fault_of, first, function_of, function_path, functions_from, known_faults, path_of, unknown_key, whole}

-- functions before those that are read behind them
abbrev pub all_before : List FunctionData → Reading → Reading
all_before [] rest = rest
all_before (function ∷ functions) rest = before function (all_before functions rest)

pub all_before-append : (functions : List FunctionData) (function : FunctionData) (rest : Reading) → all_before (functions ++ function ∷ []) rest ≡ all_before functions (before function rest)
all_before-append [] function rest = refl
all_before-append (one ∷ functions) function rest = ap (before one) (all_before-append functions function rest)

pub all_before-ok : (functions more : List FunctionData) → all_before functions (Ok more) ≡ Ok (functions ++ more)
all_before-ok [] more = refl
all_before-ok (one ∷ functions) more = ap (before one) (all_before-ok functions more)

pub all_before-err : (functions : List FunctionData) (path : List ℕ) → all_before functions (Err path) ≡ Err path
all_before-err [] path = refl
all_before-err (one ∷ functions) path = ap (before one) (all_before-err functions path)

within : (n : ℕ) → n < 64 → nat_lt n 64 ≡ true
within n h = grind (arith, nat_tests)

beyond : (n : ℕ) → 64 ≤ n → nat_lt n 64 ≡ false
beyond n h = grind (arith, nat_tests)

-- a function with nothing wrong stands before those behind it
pub reads_on : (n : ℕ) (v : Value) (vs : List Value) → n < 64 → fault_of (view v) ≡ None → functions_from n (items_view (v ∷ vs)) ≡ before (function_of (view v)) (functions_from (n + 1) (items_view vs))
reads_on n v vs few right = rw (within n few, right) refl

-- one with something wrong ends the list
pub reads_fault : (n : ℕ) (v : Value) (vs : List Value) (fault : Fault) → n < 64 → fault_of (view v) ≡ Some fault → functions_from n (items_view (v ∷ vs)) ≡ Err (path_of n fault)
reads_fault n v vs fault few wrong = rw (within n few, wrong) refl

-- and so does the one behind 64
pub reads_too_many : (n : ℕ) (v : Value) (vs : List Value) → 64 ≤ n → functions_from n (items_view (v ∷ vs)) ≡ Err (function_path n)
reads_too_many n v vs many = rw (beyond n many) refl

-- ---- the steps of a list

drop_is : {X : Type 0} (xs : List X) (i : ℕ) (x : X) → i < length xs → x ≡ get_or xs i x → drop i xs ≡ x ∷ drop (i + 1) xs
drop_is xs i x h e = drop-cons xs i x h ∙ ap (λ y. y ∷ drop (suc i) xs) (sym e) ∙ ap (λ m. x ∷ drop m xs) (sym (add-one i))

-- what was read before an element is read before it and those behind it
told_here : (vs : List Value) (i : ℕ) (v : Value) (read : List FunctionData) → i < length vs → v ≡ get_or vs i v → functions_from 0 (items_view vs) ≡ all_before read (functions_from i (items_view (drop i vs)))
    → functions_from 0 (items_view vs) ≡ all_before read (functions_from i (items_view (v ∷ drop (i + 1) vs)))
told_here vs i v read h is told = told ∙ ap (λ xs. all_before read (functions_from i (items_view xs))) (drop_is vs i v h is)

pub told_on : (vs : List Value) (i : ℕ) (v : Value) (read more : List FunctionData) → i < length vs → v ≡ get_or vs i v → i < 64 → fault_of (view v) ≡ None → more ≡ read ++ function_of (view v) ∷ []
    → functions_from 0 (items_view vs) ≡ all_before read (functions_from i (items_view (drop i vs))) → functions_from 0 (items_view vs) ≡ all_before more (functions_from (i + 1) (items_view (drop (i + 1) vs)))
told_on vs i v read more h is few right added told =
    let behind = functions_from (i + 1) (items_view (drop (i + 1) vs)) in
    told_here vs i v read h is told ∙ ap (all_before read) (reads_on i v (drop (i + 1) vs) few right) ∙ sym (all_before-append read (function_of (view v)) behind) ∙ ap (λ fs. all_before fs behind) (sym added)

pub told_fault : (vs : List Value) (i : ℕ) (v : Value) (read : List FunctionData) (fault : Fault) → i < length vs → v ≡ get_or vs i v → i < 64 → fault_of (view v) ≡ Some fault
    → functions_from 0 (items_view vs) ≡ all_before read (functions_from i (items_view (drop i vs))) → functions_from 0 (items_view vs) ≡ Err (path_of i fault)
told_fault vs i v read fault h is few wrong told = told_here vs i v read h is told ∙ ap (all_before read) (reads_fault i v (drop (i + 1) vs) fault few wrong) ∙ all_before-err read (path_of i fault)

pub told_too_many : (vs : List Value) (i : ℕ) (v : Value) (read : List FunctionData) → i < length vs → v ≡ get_or vs i v → 64 ≤ i
    → functions_from 0 (items_view vs) ≡ all_before read (functions_from i (items_view (drop i vs))) → functions_from 0 (items_view vs) ≡ Err (function_path i)
told_too_many vs i v read h is many told = told_here vs i v read h is told ∙ ap (all_before read) (reads_too_many i v (drop (i + 1) vs) many) ∙ all_before-err read (function_path i)

pub told_all : (vs : List Value) (i : ℕ) (read : List FunctionData) → length vs ≤ i → functions_from 0 (items_view vs) ≡ all_before read (functions_from i (items_view (drop i vs))) → functions_from 0 (items_view vs) ≡ Ok read
told_all vs i read past told = told ∙ ap (λ xs. all_before read (functions_from i (items_view xs))) (drop_all i vs past) ∙ all_before-ok read [] ∙ ap Ok (append-nil read)

-- ---- one function

pub no_object : (d : Data) → None ≡ as_object d → Some whole ≡ fault_of d
unfolding fault_of
no_object d h = subst (λ o. Some whole ≡ fault_in d o) h refl

pub with_unknown : (d : Data) (ms : Members) (name : List ℕ) → Some ms ≡ as_object d → Some name ≡ unknown_key ms → Some (at_key name) ≡ fault_of d
unfolding fault_of
with_unknown d ms name h k = subst (λ o. Some (at_key name) ≡ fault_in d o) h (subst (λ u. Some (at_key name) ≡ first (option_map at_key u ∷ known_faults d)) k refl)

pub with_known : (d : Data) (ms : Members) (fault : Option Fault) → Some ms ≡ as_object d → None ≡ unknown_key ms → fault ≡ first (known_faults d) → fault ≡ fault_of d
unfolding fault_of
with_known d ms fault h k e = subst (λ o. fault ≡ fault_in d o) h (subst (λ u. fault ≡ first (option_map at_key u ∷ known_faults d)) k e)
