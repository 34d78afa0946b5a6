-- Nodes of which no two have one stack, and one more of them.
use Rattle.std.proofs.Common.{◌≡◌, ℕ, zero, suc, Some, ◌+◌, ◌<◌, ◌≤◌, Bool, true, false, cond, eqb, List, [], ◌∷◌, ◌++◌, length, map, take, drop, get_or, refl, sym, ap, ◌∙◌, subst, add-one, arith, inl, inr}
use Rattle.std.proofs.Math.ListN.{get_or-append, get_or-map, set}
use Rattle.std.proofs.Math.Seq.{map-set_same}
use Rattle.std.proofs.lemmas.List.{get_or_push, length-append, length-set, get_or-set_same, get_or-set_other, get_or_default}
use Rattle.std.proofs.lemmas.Bool.Decides.{eqb_tells}
use Rattle.pl_code.specs.declared.kinds.Slot.{Slot}
use Rattle.pl_code.specs.declared.kinds.Slot.TheVariants.{I, J, R}
use Rattle.instruction_types.specs.Effects.{same_slots}
use Rattle.verifier_table.specs.Shapes.{same_kinds}
use Rattle.verifier_table.specs.declared.node.Node.{Node}
use Rattle.verifier_table.specs.Nodes.{stack_at, part_of, stacks_of, fresh, root, node_at, link_of, with_link, IsLinked, LeadsTo, AreLinked}
use Rattle.verifier_table.specs.Windows.{numeral_of}
use Rattle.verifier_table.specs.Measures.{Measure, measure_of, Measures, HaveMeasures}
use Rattle.verifier_table.specs.Grows.{Grows, HasTop}
use Rattle.verifier_table.proofs.SameKinds.{slot_itself, one_slot, kinds_themselves, one_list}
use Rattle.verifier_table.proofs.Unwound.{length-stacks, first_stack, stack_is, one_more, same_parts}

pub top_is : (nodes : List Node) → AreLinked nodes → (c : ℕ) → 0 < c → c < length nodes → stack_at (stacks_of nodes) c ≡ (node_at nodes c).kind ∷ stack_at (stacks_of nodes) (node_at nodes c).below
top_is nodes a c s h = stack_is nodes c s h (a.each c s h).before

-- ---- no two have one stack

abbrev Same : List Node → List Slot → Type 0
Same nodes ks = (a b : ℕ) → a < length nodes → b < length nodes → stack_at (stacks_of nodes) a ≡ ks → stack_at (stacks_of nodes) b ≡ ks → a ≡ b

both_up : (nodes : List Node) → AreLinked nodes → (k : Slot) (ks : List Slot) → Same nodes ks → (a b : ℕ) → 0 < a → 0 < b → a < length nodes → b < length nodes
    → stack_at (stacks_of nodes) a ≡ k ∷ ks → stack_at (stacks_of nodes) b ≡ k ∷ ks → a ≡ b
both_up nodes l k ks ih a b sa sb ha hb ea eb =
    let na = l.each a sa ha in
    let nb = l.each b sb hb in
    let ta : (node_at nodes a).kind ∷ stack_at (stacks_of nodes) (node_at nodes a).below ≡ k ∷ ks = sym (top_is nodes l a sa ha) ∙ ea in
    let tb : (node_at nodes b).kind ∷ stack_at (stacks_of nodes) (node_at nodes b).below ≡ k ∷ ks = sym (top_is nodes l b sb hb) ∙ eb in
    let la : stack_at (stacks_of nodes) (node_at nodes a).below ≡ ks = cc in
    let lb : stack_at (stacks_of nodes) (node_at nodes b).below ≡ ks = cc in
    let below : (node_at nodes a).below ≡ (node_at nodes b).below = ih _ _ (omega (arith, na.before)) (omega (arith, nb.before)) la lb in
    let kinds : (node_at nodes a).kind ≡ (node_at nodes b).kind = cc in
    sym na.found ∙ (λ i. link_of (node_at nodes (below i)) (kinds i)) ∙ nb.found

no_two : (nodes : List Node) → AreLinked nodes → (ks : List Slot) → Same nodes ks
no_two nodes l [] zero zero ha hb ea eb = refl
no_two nodes l [] zero (suc b) ha hb ea eb = let t = top_is nodes l (suc b) (omega arith) hb in cc
no_two nodes l [] (suc a) b ha hb ea eb = let t = top_is nodes l (suc a) (omega arith) ha in cc
no_two nodes l (k ∷ ks) zero b ha hb ea eb = let t = first_stack nodes in cc
no_two nodes l (k ∷ ks) (suc a) zero ha hb ea eb = let t = first_stack nodes in cc
no_two nodes l (k ∷ ks) (suc a) (suc b) ha hb ea eb = both_up nodes l k ks (no_two nodes l ks) (suc a) (suc b) (omega arith) (omega arith) ha hb ea eb

differ : (nodes : List Node) → AreLinked nodes → (a b : ℕ) → a < length nodes → b < length nodes → ¬ (a ≡ b) → (t : Bool) → same_kinds (stack_at (stacks_of nodes) a) (stack_at (stacks_of nodes) b) ≡ t → false ≡ t
differ nodes l a b ha hb n false e = refl
differ nodes l a b ha hb n true e = absurd (n (no_two nodes l (stack_at (stacks_of nodes) b) a b ha hb (one_list _ _ e) refl))

-- two stacks are the same exactly where their places are
pub same_test : (nodes : List Node) → AreLinked nodes → (a b : ℕ) → a < length nodes → b < length nodes → eqb a b ≡ same_kinds (stack_at (stacks_of nodes) a) (stack_at (stacks_of nodes) b)
same_test nodes l a b ha hb =
    elim (eqb_tells a b) [
      | inl e ↦ e.0 ∙ sym (ap (λ c. same_kinds (stack_at (stacks_of nodes) a) (stack_at (stacks_of nodes) c)) (sym e.1) ∙ kinds_themselves (stack_at (stacks_of nodes) a))
      | inr e ↦ e.0 ∙ differ nodes l a b ha hb e.1 _ refl
    ]

-- ---- the empty stack alone

root_links : (from : ℕ) (kind : Slot) → link_of (node_at (root ∷ []) from) kind ≡ 0
root_links zero I = refl
root_links zero J = refl
root_links zero R = refl
root_links (suc from) I = refl
root_links (suc from) J = refl
root_links (suc from) R = refl

pub root_linked : AreLinked (root ∷ [])
root_linked =
    record {
      some = omega arith;
      each = λ at s h. absurd (omega (arith, s, h));
      links = λ from kind h s. let none = root_links from kind in absurd (omega (arith, none, s));
    }

root_measure : (at : ℕ) → at < length (root ∷ []) → Measures (stacks_of (root ∷ [])) (stack_at (stacks_of (root ∷ [])) at) (measure_of (node_at (root ∷ []) at))
unfolding stacks_of
root_measure zero h = record { height = refl; window = refl; within = omega arith; under = refl }
root_measure (suc at) h = absurd (omega arith)

pub root_measured : HaveMeasures (root ∷ [])
root_measured = record { each = root_measure }

-- ---- a stack that is there already

pub linked : (nodes : List Node) → AreLinked nodes → (at : ℕ) (kind : Slot) (to : ℕ) → at < length nodes → link_of (node_at nodes at) kind ≡ to → ¬ (to ≡ 0)
    → Grows (stacks_of nodes) (stacks_of nodes) to (kind ∷ stack_at (stacks_of nodes) at)
linked nodes l at kind to h e n =
    let some : 0 < link_of (node_at nodes at) kind = omega arith in
    let r : LeadsTo nodes at kind to = subst (LeadsTo nodes at kind) e (l.links at kind h some) in
    let s = length-stacks nodes l.some in
    record {
      within = omega (arith, s, r.within);
      is = top_is nodes l to (omega arith) r.within ∙ (λ i. one_slot _ _ r.kind_is i ∷ stack_at (stacks_of nodes) (r.below i));
      longer = λ k h. h;
      kept = λ k h. refl;
    }

-- ---- a stack that is not there yet

link_is : (n : Node) (kind k : Slot) (to : ℕ) → link_of (with_link n kind to) k ≡ cond (same_slots kind k) to (link_of n k)
link_is n I I to = refl
link_is n I J to = refl
link_is n I R to = refl
link_is n J I to = refl
link_is n J J to = refl
link_is n J R to = refl
link_is n R I to = refl
link_is n R J to = refl
link_is n R R to = refl

part_is : (n : Node) (kind : Slot) (to : ℕ) → part_of (with_link n kind to) ≡ part_of n
part_is n I to = refl
part_is n J to = refl
part_is n R to = refl

measure_is : (n : Node) (kind : Slot) (to : ℕ) → measure_of (with_link n kind to) ≡ measure_of n
measure_is n I to = refl
measure_is n J to = refl
measure_is n R to = refl

measures_grown : (old new : List (List Slot)) (at : ℕ) (more ks : List Slot) (m : Measure) → Grows old new at more → Measures old ks m → Measures new ks m
measures_grown old new at more ks m g h = record { height = h.height; window = h.window; within = g.longer m.under h.within; under = g.kept m.under h.within ∙ h.under }

no_link : (kind k : Slot) (at height window under : ℕ) → link_of (fresh kind at height window under) k ≡ 0
no_link kind I at height window under = refl
no_link kind J at height window under = refl
no_link kind R at height window under = refl

module _ (nodes : List Node) (at : ℕ) (kind : Slot) (height window under : ℕ) where
  with_node : List Node
  with_node = nodes ++ fresh kind at height window under ∷ []

  changed : Node
  changed = with_link (node_at nodes at) kind (length nodes)

  pub after_push : List Node
  after_push = set with_node at changed

  module _ (l : AreLinked nodes) (h : at < length nodes) (none : link_of (node_at nodes at) kind ≡ 0) where
    length-with : length with_node ≡ length nodes + 1
    unfolding with_node
    length-with = length-append nodes (fresh kind at height window under ∷ [])

    length-after : length after_push ≡ length nodes + 1
    unfolding after_push
    length-after = length-set with_node at changed ∙ length-with

    old_node : (c : ℕ) → c < length nodes → node_at with_node c ≡ node_at nodes c
    unfolding with_node
    old_node c b = get_or-append nodes (fresh kind at height window under ∷ []) root c b

    new_node : node_at with_node (length nodes) ≡ fresh kind at height window under
    unfolding with_node
    new_node = get_or_push nodes (fresh kind at height window under) root (length nodes) refl

    parts_same : map part_of after_push ≡ map part_of with_node
    unfolding after_push changed
    parts_same = map-set_same part_of with_node at changed root (part_is (node_at nodes at) kind (length nodes) ∙ sym (ap part_of (old_node at h)))

    part_after : (c : ℕ) → part_of (node_at after_push c) ≡ part_of (node_at with_node c)
    part_after c = sym (get_or-map part_of after_push c root) ∙ ap (λ ps. get_or ps c (part_of root)) parts_same ∙ get_or-map part_of with_node c root

    old_part : (c : ℕ) → c < length nodes → part_of (node_at after_push c) ≡ part_of (node_at nodes c)
    old_part c b = part_after c ∙ ap part_of (old_node c b)

    new_part : part_of (node_at after_push (length nodes)) ≡ (kind, at)
    new_part = part_after (length nodes) ∙ ap part_of new_node

    node_here : node_at after_push at ≡ changed
    unfolding after_push
    node_here = get_or-set_same with_node at changed root (omega (arith, length-with))

    node_other : (c : ℕ) → ¬ (c ≡ at) → node_at after_push c ≡ node_at with_node c
    unfolding after_push
    node_other c n = get_or-set_other with_node at c changed root n

    links_here : (k : Slot) → link_of (node_at after_push at) k ≡ cond (same_slots kind k) (length nodes) (link_of (node_at nodes at) k)
    unfolding changed
    links_here k = ap (λ n. link_of n k) node_here ∙ link_is (node_at nodes at) kind k (length nodes)

    stacks_after : stacks_of after_push ≡ stacks_of nodes ++ (kind ∷ stack_at (stacks_of nodes) at) ∷ []
    unfolding with_node
    stacks_after = same_parts after_push with_node parts_same (omega (arith, length-after)) (omega (arith, length-with)) ∙ one_more nodes (fresh kind at height window under) l.some

    pub grows : Grows (stacks_of nodes) (stacks_of after_push) (length nodes) (kind ∷ stack_at (stacks_of nodes) at)
    grows =
        let s = length-stacks nodes l.some in
        let more : length (stacks_of after_push) ≡ length (stacks_of nodes) + 1 = ap length stacks_after ∙ length-append (stacks_of nodes) ((kind ∷ stack_at (stacks_of nodes) at) ∷ []) in
        record {
          within = omega (arith, s, more);
          is = ap (λ ss. stack_at ss (length nodes)) stacks_after ∙ get_or_push (stacks_of nodes) (kind ∷ stack_at (stacks_of nodes) at) [] (length nodes) s;
          longer = λ k b. omega (arith, more, b);
          kept = λ k b. ap (λ ss. stack_at ss k) stacks_after ∙ get_or-append (stacks_of nodes) ((kind ∷ stack_at (stacks_of nodes) at) ∷ []) [] k b;
        }

    measure_after : (c : ℕ) → measure_of (node_at after_push c) ≡ measure_of (node_at with_node c)
    unfolding after_push changed
    measure_after c =
        let measures : map measure_of after_push ≡ map measure_of with_node = map-set_same measure_of with_node at changed root (measure_is (node_at nodes at) kind (length nodes) ∙ sym (ap measure_of (old_node at h))) in
        sym (get_or-map measure_of after_push c root) ∙ ap (λ ms. get_or ms c (measure_of root)) measures ∙ get_or-map measure_of with_node c root

    new_measure : measure_of (node_at after_push (length nodes)) ≡ record { height = height; window = window; under = under }
    new_measure = measure_after (length nodes) ∙ ap measure_of new_node

    old_measure : (c : ℕ) → c < length nodes → measure_of (node_at after_push c) ≡ measure_of (node_at nodes c)
    old_measure c b = measure_after c ∙ ap measure_of (old_node c b)

    pub still_measured : HaveMeasures nodes → Measures (stacks_of nodes) (kind ∷ stack_at (stacks_of nodes) at) (record { height = height; window = window; under = under }) → HaveMeasures after_push
    still_measured old new =
        record {
          each = λ c b.
              elim (eqb_tells c (length nodes)) [
                | inl q ↦ subst (λ c. Measures (stacks_of after_push) (stack_at (stacks_of after_push) c) (measure_of (node_at after_push c))) (sym q.1)
                    (subst (λ ks. Measures (stacks_of after_push) ks (measure_of (node_at after_push (length nodes)))) (sym grows.is)
                    (subst (Measures (stacks_of after_push) (kind ∷ stack_at (stacks_of nodes) at)) (sym new_measure) (measures_grown _ _ _ _ _ _ grows new)))
                | inr q ↦ let n : ¬ (c ≡ length nodes) = q.1 in let w : c < length nodes = omega (arith, length-after, n) in
                    subst (λ ks. Measures (stacks_of after_push) ks (measure_of (node_at after_push c))) (sym (grows.kept c (omega (arith, length-stacks nodes l.some, w))))
                    (subst (Measures (stacks_of after_push) (stack_at (stacks_of nodes) c)) (sym (old_measure c w)) (measures_grown _ _ _ _ _ _ grows (old.each c w)))
              ];
        }

    -- what led to an old node still does
    found_here : (k : Slot) (c : ℕ) → 0 < c → link_of (node_at nodes at) k ≡ c → (t : Bool) → same_slots kind k ≡ t → cond t (length nodes) (link_of (node_at nodes at) k) ≡ c
    found_here k c s e false q = e
    found_here k c s e true q = let z : link_of (node_at nodes at) kind ≡ c = ap (link_of (node_at nodes at)) (one_slot kind k q) ∙ e in absurd (omega (arith, none))

    still_found : (b : ℕ) (k : Slot) (c : ℕ) → 0 < c → b < length nodes → link_of (node_at nodes b) k ≡ c → link_of (node_at after_push b) k ≡ c
    still_found b k c s w e =
        elim (eqb_tells b at) [
          | inl q ↦ ap (λ b. link_of (node_at after_push b) k) q.1 ∙ links_here k ∙ found_here k c s (ap (λ b. link_of (node_at nodes b) k) (sym q.1) ∙ e) _ refl
          | inr q ↦ ap (λ n. link_of n k) (node_other b q.1 ∙ old_node b w) ∙ e
        ]

    old_linked : (c : ℕ) → 0 < c → c < length nodes → IsLinked after_push c
    old_linked c s b =
        let n = l.each c s b in
        let below : (node_at after_push c).below ≡ (node_at nodes c).below = ap (λ (p : Slot × ℕ). p.1) (old_part c b) in
        let kinds : (node_at after_push c).kind ≡ (node_at nodes c).kind = ap (λ (p : Slot × ℕ). p.0) (old_part c b) in
        record {
          before = omega (arith, below, n.before);
          found = (λ i. link_of (node_at after_push (below i)) (kinds i)) ∙ still_found (node_at nodes c).below (node_at nodes c).kind c s (omega (arith, n.before)) n.found;
        }

    new_linked : IsLinked after_push (length nodes)
    new_linked =
        let below : (node_at after_push (length nodes)).below ≡ at = ap (λ (p : Slot × ℕ). p.1) new_part in
        let kinds : (node_at after_push (length nodes)).kind ≡ kind = ap (λ (p : Slot × ℕ). p.0) new_part in
        record {
          before = omega (arith, below);
          found = (λ i. link_of (node_at after_push (below i)) (kinds i)) ∙ links_here kind ∙ ap (λ t. cond t (length nodes) (link_of (node_at nodes at) kind)) (slot_itself kind);
        }

    each_linked : (c : ℕ) → 0 < c → c < length after_push → IsLinked after_push c
    each_linked c s b =
        elim (eqb_tells c (length nodes)) [
          | inl q ↦ subst (IsLinked after_push) (sym q.1) new_linked
          | inr q ↦ let n : ¬ (c ≡ length nodes) = q.1 in old_linked c s (omega (arith, length-after, n))
        ]

    still_leads : (from : ℕ) (k : Slot) (to : ℕ) → LeadsTo nodes from k to → LeadsTo after_push from k to
    still_leads from k to r =
        let below : (node_at after_push to).below ≡ (node_at nodes to).below = ap (λ (p : Slot × ℕ). p.1) (old_part to r.within) in
        let kinds : (node_at after_push to).kind ≡ (node_at nodes to).kind = ap (λ (p : Slot × ℕ). p.0) (old_part to r.within) in
        record {
          within = omega (arith, length-after, r.within);
          below = below ∙ r.below;
          kind_is = ap (λ j. same_slots j k) kinds ∙ r.kind_is;
        }

    leads_new : (k : Slot) → same_slots kind k ≡ true → LeadsTo after_push at k (length nodes)
    leads_new k e =
        record {
          within = omega (arith, length-after);
          below = ap (λ (p : Slot × ℕ). p.1) new_part;
          kind_is = ap (λ (p : Slot × ℕ). same_slots p.0 k) new_part ∙ e;
        }

    leads_here : (k : Slot) (t : Bool) → same_slots kind k ≡ t → 0 < cond t (length nodes) (link_of (node_at nodes at) k) → LeadsTo after_push at k (cond t (length nodes) (link_of (node_at nodes at) k))
    leads_here k true e s = leads_new k e
    leads_here k false e s = still_leads at k _ (l.links at k h s)

    from_here : (k : Slot) → 0 < link_of (node_at after_push at) k → LeadsTo after_push at k (link_of (node_at after_push at) k)
    from_here k s =
        let e = links_here k in
        subst (LeadsTo after_push at k) (sym e) (leads_here k (same_slots kind k) refl (omega (arith, e)))

    from_old : (from : ℕ) (k : Slot) → from < length nodes → ¬ (from ≡ at) → 0 < link_of (node_at after_push from) k → LeadsTo after_push from k (link_of (node_at after_push from) k)
    from_old from k b n s =
        let e : link_of (node_at after_push from) k ≡ link_of (node_at nodes from) k = ap (λ n. link_of n k) (node_other from n ∙ old_node from b) in
        subst (LeadsTo after_push from k) (sym e) (still_leads from k _ (l.links from k b (omega (arith, e))))

    from_new : (k : Slot) → 0 < link_of (node_at after_push (length nodes)) k → ⊥
    from_new k s =
        let n : ¬ (length nodes ≡ at) = λ e. absurd (omega arith) in
        let e : link_of (node_at after_push (length nodes)) k ≡ 0 = ap (λ n. link_of n k) (node_other (length nodes) n ∙ new_node) ∙ no_link kind k at height window under in
        absurd (omega (arith, e))

    from_each : (from : ℕ) (k : Slot) → from < length after_push → 0 < link_of (node_at after_push from) k → LeadsTo after_push from k (link_of (node_at after_push from) k)
    from_each from k b s =
        elim (eqb_tells from at) [
          | inl q ↦ subst (λ from. LeadsTo after_push from k (link_of (node_at after_push from) k)) (sym q.1) (from_here k (subst (λ from. 0 < link_of (node_at after_push from) k) q.1 s))
          | inr q ↦ elim (eqb_tells from (length nodes)) [
            | inl p ↦ absurd (from_new k (subst (λ from. 0 < link_of (node_at after_push from) k) p.1 s))
            | inr p ↦ let n : ¬ (from ≡ length nodes) = p.1 in from_old from k (omega (arith, length-after, n)) q.1 s
          ]
        ]

    pub still_linked : AreLinked after_push
    still_linked = record { some = omega (arith, length-after); each = each_linked; links = from_each }

-- ---- what the code knows: the nodes show these stacks

pub shown_length : (nodes : List Node) (stacks : List (List Slot)) → AreLinked nodes → stacks_of nodes ≡ stacks → length stacks ≡ length nodes
shown_length nodes stacks l e = sym (ap length e) ∙ length-stacks nodes l.some

pub shown_measure : (nodes : List Node) (stacks : List (List Slot)) → AreLinked nodes → HaveMeasures nodes → stacks_of nodes ≡ stacks → (at : ℕ) (n : Node) → at < length stacks → n ≡ get_or nodes at n
    → Measures stacks (stack_at stacks at) (measure_of n)
shown_measure nodes stacks l measures e at n h is =
    let s = shown_length nodes stacks l e in
    let w : at < length nodes = omega (arith, s) in
    let same : node_at nodes at ≡ n = get_or_default nodes at root n w ∙ sym is in
    subst (λ ss. Measures ss (stack_at ss at) (measure_of n)) e (subst (λ n. Measures (stacks_of nodes) (stack_at (stacks_of nodes) at) (measure_of n)) same (measures.each at w))

-- a stack is not higher than its place
low : (nodes : List Node) → AreLinked nodes → (n at : ℕ) → at ≤ n → at < length nodes → length (stack_at (stacks_of nodes) at) ≤ at
low nodes l n zero b h = let e : length (stack_at (stacks_of nodes) 0) ≡ 0 = ap length (first_stack nodes) in omega (arith, e)
low nodes l zero (suc at) b h = absurd (omega arith)
low nodes l (suc n) (suc at) b h =
    let before = (l.each (suc at) (omega arith) h).before in
    let top : length (stack_at (stacks_of nodes) (suc at)) ≡ suc (length (stack_at (stacks_of nodes) (node_at nodes (suc at)).below)) = ap length (top_is nodes l (suc at) (omega arith) h) in
    let r = low nodes l n (node_at nodes (suc at)).below (omega (arith, before)) (omega (arith, before)) in
    omega (arith, top, r, before)

pub shown_low : (nodes : List Node) (stacks : List (List Slot)) → AreLinked nodes → stacks_of nodes ≡ stacks → (at : ℕ) → at < length stacks → length (stack_at stacks at) ≤ at
shown_low nodes stacks l e at h =
    let s = shown_length nodes stacks l e in
    subst (λ ss. length (stack_at ss at) ≤ at) e (low nodes l at at (omega arith) (omega (arith, s)))

pub shown_test : (nodes : List Node) (stacks : List (List Slot)) → AreLinked nodes → stacks_of nodes ≡ stacks → (a b : ℕ) → a < length stacks → b < length stacks → eqb a b ≡ same_kinds (stack_at stacks a) (stack_at stacks b)
shown_test nodes stacks l e a b ha hb =
    let s = shown_length nodes stacks l e in
    same_test nodes l a b (omega (arith, s)) (omega (arith, s)) ∙ ap (λ ss. same_kinds (stack_at ss a) (stack_at ss b)) e

pub shown_first : (nodes : List Node) (stacks : List (List Slot)) → stacks_of nodes ≡ stacks → (at : ℕ) → at ≡ 0 → stack_at stacks at ≡ []
shown_first nodes stacks e at z = (λ i. stack_at (sym e i) (z i)) ∙ first_stack nodes

pub shown_top : (nodes : List Node) (stacks : List (List Slot)) → AreLinked nodes → stacks_of nodes ≡ stacks → (at : ℕ) (n : Node) → at < length stacks → n ≡ get_or nodes at n → ¬ (at ≡ 0)
    → HasTop stacks at (Some (n.kind, n.below))
shown_top nodes stacks l e at n h is some =
    let s = shown_length nodes stacks l e in
    let same : node_at nodes at ≡ n = get_or_default nodes at root n (omega (arith, s)) ∙ sym is in
    let before = (l.each at (omega arith) (omega (arith, s))).before in
    let below : (node_at nodes at).below ≡ n.below = ap (λ (n : Node). n.below) same in
    (omega (arith, below, before, s), ap (λ ss. stack_at ss at) (sym e) ∙ top_is nodes l at (omega arith) (omega (arith, s)) ∙ (λ i. (same i).kind ∷ stack_at (e i) (same i).below))

pub shown_linked : (nodes : List Node) (stacks : List (List Slot)) → AreLinked nodes → stacks_of nodes ≡ stacks → (at : ℕ) (kind : Slot) (n : Node) (to : ℕ)
    → at < length stacks → n ≡ get_or nodes at n → to ≡ link_of n kind → ¬ (to ≡ 0) → Grows stacks stacks to (kind ∷ stack_at stacks at)
shown_linked nodes stacks l e at kind n to h is t some =
    let s = shown_length nodes stacks l e in
    let same : node_at nodes at ≡ n = get_or_default nodes at root n (omega (arith, s)) ∙ sym is in
    subst (λ ss. Grows ss ss to (kind ∷ stack_at ss at)) e (linked nodes l at kind to (omega (arith, s)) (ap (λ n. link_of n kind) same ∙ sym t) some)

grown_along : (a b x y : List (List Slot)) (m n at : ℕ) (kind : Slot) → a ≡ b → x ≡ y → m ≡ n → Grows a x m (kind ∷ stack_at a at) → Grows b y n (kind ∷ stack_at b at)
grown_along a b x y m n at kind e f q g =
    subst (λ y. Grows b y n (kind ∷ stack_at b at)) f (subst (λ n. Grows b x n (kind ∷ stack_at b at)) q (subst (λ b. Grows b x m (kind ∷ stack_at b at)) e g))

-- the measure of a stack with one more kind
pub measured_with : (stacks : List (List Slot)) (ks : List Slot) (kind : Slot) (m : Measure) (height window under : ℕ) → Measures stacks ks m → height ≡ m.height + 1
    → ((others : List Slot) → m.window ≡ numeral_of (take 31 others) → window ≡ numeral_of (take 31 (kind ∷ others))) → under < length stacks → stack_at stacks under ≡ drop 30 ks
    → Measures stacks (kind ∷ ks) (record { height = height; window = window; under = under })
measured_with stacks ks kind m height window under old high numeral within lies =
    record { height = high ∙ add-one m.height ∙ ap suc old.height; window = numeral ks old.window; within = within; under = lies }

-- a node that was put there, and linked
pub shown_pushed : (nodes with_it : List Node) (stacks : List (List Slot)) → AreLinked nodes → HaveMeasures nodes → stacks_of nodes ≡ stacks → (at : ℕ) (kind : Slot) (height window under : ℕ) (n before now : Node) (to new : ℕ)
    → at < length stacks → n ≡ get_or nodes at n → to ≡ link_of n kind → to ≡ 0 → Measures stacks (kind ∷ stack_at stacks at) (record { height = height; window = window; under = under }) → new ≡ length nodes
    → with_it ≡ nodes ++ fresh kind at height window under ∷ [] → before ≡ get_or with_it at before → now ≡ with_link before kind new
    → AreLinked (set with_it at now) × HaveMeasures (set with_it at now) × Grows stacks (stacks_of (set with_it at now)) new (kind ∷ stack_at stacks at)
unfolding after_push with_node changed
shown_pushed nodes with_it stacks l measures e at kind height window under n before now to new h is t none is_measure is_new is_with is_before is_now =
    let s = shown_length nodes stacks l e in
    let w : at < length nodes = omega (arith, s) in
    let same : node_at nodes at ≡ n = get_or_default nodes at root n w ∙ sym is in
    let z : link_of (node_at nodes at) kind ≡ 0 = ap (λ n. link_of n kind) same ∙ sym t ∙ none in
    let old : before ≡ node_at nodes at = is_before ∙ ap (λ ns. get_or ns at before) is_with ∙ get_or-append nodes (fresh kind at height window under ∷ []) before at w ∙ get_or_default nodes at before root w in
    let made : changed nodes at kind height window under ≡ now = sym (is_now ∙ (λ i. with_link (old i) kind (is_new i))) in
    let list : after_push nodes at kind height window under ≡ set with_it at now = (λ i. set (sym is_with i) at (made i)) in
    let measure = subst (λ ss. Measures ss (kind ∷ stack_at ss at) (record { height = height; window = window; under = under })) (sym e) is_measure in (
      subst AreLinked list (still_linked nodes at kind height window under l w z),
      subst HaveMeasures list (still_measured nodes at kind height window under l w z measures measure),
      grown_along (stacks_of nodes) stacks (stacks_of (after_push nodes at kind height window under)) (stacks_of (set with_it at now)) (length nodes) new at kind e (ap stacks_of list) (sym is_new) (grows nodes at kind height window under l w z),
    )
