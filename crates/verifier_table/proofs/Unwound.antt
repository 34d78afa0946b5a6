-- The stacks of nodes, one after the other.
use Rattle.std.proofs.Common.{◌≡◌, ℕ, zero, suc, ◌+◌, ◌<◌, List, [], ◌∷◌, ◌++◌, length, map, get_or, refl, sym, ap, ◌∙◌, arith}
use Rattle.std.proofs.Math.ListN.{get_or-append, get_or-map}
use Rattle.std.proofs.lemmas.List.{get_or_push, length-append, length-map, map-append}
use Rattle.pl_code.specs.declared.kinds.Slot.{Slot}
use Rattle.pl_code.specs.declared.kinds.Slot.TheVariants.{R}
use Rattle.verifier_table.specs.declared.node.Node.{Node}
use Rattle.verifier_table.specs.Nodes.{stack_at, part_of, stacks_from, stacks_of, root, node_at}

-- the stack of a part
abbrev stack_of : List (List Slot) → Slot × ℕ → List Slot
stack_of stacks p = p.0 ∷ stack_at stacks p.1

length-push : (stacks : List (List Slot)) (ks : List Slot) → length (stacks ++ ks ∷ []) ≡ length stacks + 1
length-push stacks ks = length-append stacks (ks ∷ [])

length-from : (stacks : List (List Slot)) (ps : List (Slot × ℕ)) → length (stacks_from stacks ps) ≡ length stacks + length ps
length-from stacks [] = omega arith
length-from stacks (p ∷ ps) = let e = length-from (stacks ++ stack_of stacks p ∷ []) ps in let l = length-push stacks (stack_of stacks p) in omega (arith, e, l)

kept_from : (stacks : List (List Slot)) (ps : List (Slot × ℕ)) (k : ℕ) → k < length stacks → stack_at (stacks_from stacks ps) k ≡ stack_at stacks k
kept_from stacks [] k h = refl
kept_from stacks (p ∷ ps) k h =
    let l = length-push stacks (stack_of stacks p) in
    kept_from (stacks ++ stack_of stacks p ∷ []) ps k (omega (arith, l)) ∙ get_or-append stacks (stack_of stacks p ∷ []) [] k h

one_more_from : (stacks : List (List Slot)) (ps : List (Slot × ℕ)) (p : Slot × ℕ) → stacks_from stacks (ps ++ p ∷ []) ≡ stacks_from stacks ps ++ stack_of (stacks_from stacks ps) p ∷ []
one_more_from stacks [] p = refl
one_more_from stacks (q ∷ ps) p = one_more_from (stacks ++ stack_of stacks q ∷ []) ps p

part_from : (stacks : List (List Slot)) (ps : List (Slot × ℕ)) (j c : ℕ) (d : Slot × ℕ) → c ≡ length stacks + j → j < length ps → (get_or ps j d).1 < c
    → stack_at (stacks_from stacks ps) c ≡ stack_of (stacks_from stacks ps) (get_or ps j d)
part_from stacks [] j c d e h b = absurd (omega arith)
part_from stacks (p ∷ ps) zero c d e h b =
    let l = length-push stacks (stack_of stacks p) in
    let whole = stacks_from (stacks ++ stack_of stacks p ∷ []) ps in
    let here : stack_at whole c ≡ stack_of stacks p = kept_from (stacks ++ stack_of stacks p ∷ []) ps c (omega (arith, l)) ∙ get_or_push stacks (stack_of stacks p) [] c (omega arith) in
    let below : stack_at whole p.1 ≡ stack_at stacks p.1 = kept_from stacks (p ∷ ps) p.1 (omega arith) in
    here ∙ sym (ap (λ ks. p.0 ∷ ks) below)
part_from stacks (p ∷ ps) (suc j) c d e h b =
    let l = length-push stacks (stack_of stacks p) in
    part_from (stacks ++ stack_of stacks p ∷ []) ps j c d (omega (arith, l)) (omega arith) b

-- ---- of nodes

pub length-stacks : (nodes : List Node) → 0 < length nodes → length (stacks_of nodes) ≡ length nodes
unfolding stacks_of
length-stacks [] h = absurd (omega arith)
length-stacks (n ∷ nodes) h = let e = length-from ([] ∷ []) (map part_of nodes) in let l : length (map part_of nodes) ≡ length nodes = length-map nodes part_of in omega (arith, e, l)

pub first_stack : (nodes : List Node) → stack_at (stacks_of nodes) 0 ≡ []
unfolding stacks_of
first_stack [] = refl
first_stack (n ∷ nodes) = kept_from ([] ∷ []) (map part_of nodes) 0 (omega arith)

pub stack_is : (nodes : List Node) (c : ℕ) → 0 < c → c < length nodes → (node_at nodes c).below < c
    → stack_at (stacks_of nodes) c ≡ (node_at nodes c).kind ∷ stack_at (stacks_of nodes) (node_at nodes c).below
unfolding stacks_of
stack_is [] c s h b = absurd (omega arith)
stack_is (n ∷ nodes) zero s h b = absurd (omega arith)
stack_is (n ∷ nodes) (suc j) s h b =
    let l : length (map part_of nodes) ≡ length nodes = length-map nodes part_of in
    let p : get_or (map part_of nodes) j (R, 0) ≡ part_of (get_or nodes j root) = get_or-map part_of nodes j root in
    let below : (get_or (map part_of nodes) j (R, 0)).1 ≡ (get_or nodes j root).below = ap (λ (q : Slot × ℕ). q.1) p in
    part_from ([] ∷ []) (map part_of nodes) j (suc j) (R, 0) (omega arith) (omega (arith, l)) (omega (arith, below))
    ∙ ap (λ q. stack_of (stacks_from ([] ∷ []) (map part_of nodes)) q) p

pub one_more : (nodes : List Node) (n : Node) → 0 < length nodes → stacks_of (nodes ++ n ∷ []) ≡ stacks_of nodes ++ (n.kind ∷ stack_at (stacks_of nodes) n.below) ∷ []
unfolding stacks_of
one_more [] n h = absurd (omega arith)
one_more (r ∷ nodes) n h =
    ap (stacks_from ([] ∷ [])) (map-append part_of nodes (n ∷ [])) ∙ one_more_from ([] ∷ []) (map part_of nodes) (part_of n)

-- nodes with the same parts have the same stacks
pub same_parts : (nodes others : List Node) → map part_of nodes ≡ map part_of others → 0 < length nodes → 0 < length others → stacks_of nodes ≡ stacks_of others
unfolding stacks_of
same_parts [] others e h k = absurd (omega arith)
same_parts (r ∷ nodes) [] e h k = absurd (omega arith)
same_parts (r ∷ nodes) (s ∷ others) e h k = ap (stacks_from ([] ∷ [])) (let t : map part_of nodes ≡ map part_of others = cc in t)
