-- Expressions: what leads from line to line of their code.
use Rattle.std.proofs.Common.{◌≡◌, ℕ, suc, List, [], ◌∷◌, length, Option, Some, None, refl, sym, ap, subst, arith, pos}
use Rattle.pl_types.specs.declared.ty.Ty.{Ty}
use Rattle.pl_types.specs.declared.primitive.Primitive.TheVariants as prim
use Rattle.pl_code.specs.declared.kinds.Slot.{Slot}
use Rattle.pl_code.specs.declared.kinds.Slot.TheVariants.{I, R}
use Rattle.pl_types.specs.Texts.{full_text}
use Rattle.pl_code.specs.declared.kinds.Numbered.TheVariants as numbered
use Rattle.pl_code.specs.declared.kinds.Typed.TheVariants as typed
use Rattle.pl_code.specs.declared.code.FunCode.{FunCode}
use Rattle.pl_code.specs.declared.code.Instruction.TheVariants as i
use Rattle.allowlist.specs.Allow.{AllowList}
use Rattle.verifier.specs.Shaped.{Leads}
use Rattle.compiler_relation.specs.Machine.{Handlers}
use Rattle.typed_tree.specs.declared.operation.Constant.{Constant}
use Rattle.typed_tree.specs.declared.operation.Operation.{Operation}
use Rattle.typed_tree.specs.declared.operation.Operation.TheVariants as operation
use Rattle.typed_tree.specs.declared.operation.Logical.{Logical}
use Rattle.typed_tree.specs.declared.operation.Logical.TheVariants.{And, Or}
use Rattle.typed_tree.specs.declared.operation.Target.TheVariants as target
use Rattle.typed_tree.specs.declared.operation.Change.{Change}
use Rattle.typed_tree.specs.declared.operation.Gives.{Gives}
use Rattle.object_values.specs.declared.object.Owner.{Owner}
use Rattle.program_typing.specs.Tree.{Name, Expr, Literal, Quoted, Local, Apply, Guarded, Logic, Conditional, Elvis, Assign, Modify, Lambda, Reference, NewReference, Exprs, None', One, Program, type_of}
use Rattle.compiler_relation.specs.Representation.{representation_of}
use Rattle.compiler_relation.specs.Parts.{operator_code, operation_code, member_code, without_null, cast_code, read_code, write_code, kept_under, copies, kept_before, kept_behind}
use Rattle.compiler_relation.specs.Stands.{Scope, AllAt, count, end_all, end_expr, end_exprs, end_read, change_first, elvis_right, settled, settles, ExprAt, ExprsAt, Compiled}
use Rattle.member_names.specs.Names.{TextsName}
use Rattle.program_typing.specs.Types.{IsReference}
use Rattle.program_typing.specs.Agreeing.{types_of, known, Applies, Changes, Reads, ExprAgrees, ExprsAgree, WellFormed}
use Rattle.compiled_shapes.proofs.Lines.{grows, Has, Have, first, rest, cut}
use Rattle.compiled_shapes.proofs.Runs.{fine_none, fine_one, join, Runs, then_, step, Passes, Straight, spans, run_is, spans_end, straight, goto, Branches, branch, if_zero, if_not_zero, if_null}
use Rattle.compiled_shapes.proofs.Parts.{push, push_types, kept, left_kinds, changed_kinds, expr_kinds, exprs_kinds, expr_ends, exprs_ends}
use Rattle.compiled_shapes.proofs.Steps.{push_is, push_reference, int_passes, pop_passes, dup_passes, constant_passes, quoted_passes, operator_straight, is_a_passes, cast_straight, begins_straight, copy_passes, before_straight, behind_straight, load_passes, store_passes, call_passes}
use Rattle.compiled_shapes.proofs.Members.{instance_straight, static_straight, constructor_straight, field_straight, guard_takes, guarded_straight, guard_null}
use Rattle.compiled_shapes.proofs.Accesses.{method_straight, name_straight, index_straight}
use Rattle.compiled_shapes.proofs.Containers.{typed_straight}
use Rattle.compiled_shapes.proofs.Places.{place_values, under_straight, copies_straight, before_place, behind_place, write_straight}
use Rattle.compiled_shapes.proofs.Scopes.{names, HaveLocals, local_of}

module _ {text : Owner} (texts : TextsName) (allow : AllowList) (funs : Program) (functions : List FunCode) (formed : WellFormed (known allow funs)) (made : Compiled text funs functions) (f : FunCode) (shapes : List (List Slot)) (many : length shapes ≡ length f.lines) where
  abbrev pub ExprFits : Scope → Expr → Type 0
  ExprFits g e =
      (h : Handlers) (p : ℕ) (s : List Slot) → HaveLocals f g → ExprAgrees (known allow funs) (names g) e → ExprAt funs f h g p e → Have shapes p (expr_kinds allow functions f s e)
      → Has shapes (end_expr p e) (push (type_of e) s) → Runs allow functions f shapes p s (end_expr p e) (push (type_of e) s)

  abbrev pub ExprsFit : Scope → Exprs → Type 0
  ExprsFit g es =
      (h : Handlers) (p : ℕ) (s : List Slot) → HaveLocals f g → ExprsAgree (known allow funs) (names g) es → ExprsAt funs f h g p es → Have shapes p (exprs_kinds allow functions f s es)
      → Has shapes (end_exprs p es) (push_types (types_of es) s) → Runs allow functions f shapes p s (end_exprs p es) (push_types (types_of es) s)

  -- a part that is left with other kinds, which are the same
  pub left_as : {p q : ℕ} {s t u : List Slot} → t ≡ u → (Has shapes q t → Runs allow functions f shapes p s q t) → Has shapes q u → Runs allow functions f shapes p s q u
  left_as {p} {q} {s} e part next = subst (λ u. Runs allow functions f shapes p s q u) e (part (subst (λ t. Has shapes q t) (sym e) next))

  literal_fits : (g : Scope) (at : ℕ) (of : Ty) (c : Constant) → ExprFits g (Literal at of c)
  literal_fits g at of c h p s locals agrees stands have next = step allow functions f shapes stands.0 (constant_passes allow functions f c of s agrees) (first have) next

  text_fits : (g : Scope) (at : ℕ) (of : Ty) (text : List ℕ) → ExprFits g (Quoted at of text)
  text_fits g at of text h p s locals agrees stands have next = step allow functions f shapes stands.0 (quoted_passes allow functions f text of s agrees) (first have) next

  name_fits : (g : Scope) (at : ℕ) (of : Ty) (x : Name) → ExprFits g (Local at of x)
  name_fits g at of x h p s locals agrees stands have next =
      let y = stands.0 in
      let local = local_of f g x y of locals stands.1 agrees in
      step allow functions f shapes stands.3 (load_passes allow functions f y.local of s local.has local.values) (first have) next

  operation_straight : (o : Operation) (ofs : List Ty) (of : Ty) (s : List Slot) → Applies (known allow funs) o ofs of → Straight allow functions f (operation_code o of (length ofs)) (push_types ofs s) (push of s)
  operation_straight (operation.Operator o) ofs of s h = typed_straight allow functions f o ofs of s h
  operation_straight (operation.Cast c) [] of s h = absurd h
  operation_straight (operation.Cast c) (from ∷ []) of s h = cast_straight allow functions f c from of s h
  operation_straight (operation.Cast c) (from ∷ other ∷ ofs) of s h = absurd h
  operation_straight (operation.Function number) ofs of s h =
      let passes = call_passes allow functions f funs made number h.fun s h.is (formed.each number h.fun h.is).present in (
        push h.fun.result s,
        subst (λ ofs. Passes allow functions f (i.Numbered numbered.Call number) (push_types ofs s) (push h.fun.result s)) (sym h.takes) passes,
        ap (λ of. push of s) (sym h.gives),
      )
  operation_straight (operation.InstanceOf is) [] of s h = absurd h
  operation_straight (operation.InstanceOf is) (from ∷ []) of s h = (
    I ∷ s,
    subst (λ j. Passes allow functions f (i.Typed typed.IsA (full_text is)) j (I ∷ s)) (sym (push_reference from s h.0)) (is_a_passes allow functions f is s h.1),
    sym (push_is of prim.Boolean s h.2),
  )
  operation_straight (operation.InstanceOf is) (from ∷ other ∷ ofs) of s h = absurd h
  operation_straight (operation.Instance m) ofs of s h = instance_straight allow functions f texts funs m (length ofs) ofs of s h
  operation_straight (operation.Static m) ofs of s h = static_straight allow functions f texts funs m (length ofs) ofs of s h
  operation_straight (operation.Constructor m) ofs of s h = constructor_straight allow functions f texts funs m (length ofs) ofs of s h
  operation_straight (operation.Field m) ofs of s h = field_straight allow functions f texts funs m (length ofs) ofs of s h
  operation_straight (operation.DefCall name) ofs of s h = method_straight allow functions f name ofs of s h.0 h.1
  operation_straight (operation.DefName name) ofs of s h = name_straight allow functions f name ofs of s h.0 h.1
  operation_straight operation.DefIndex ofs of s h = index_straight allow functions f ofs of s h.0 h.1
  operation_straight other ofs of s h = absurd h

  -- how many parts there are
  same_count : (parts : Exprs) → length (types_of parts) ≡ count parts
  same_count None' = refl
  same_count (One a others) = ap suc (same_count others)

  part_straight : (o : Operation) (parts : Exprs) (of : Ty) (s : List Slot) → Applies (known allow funs) o (types_of parts) of
      → Straight allow functions f (operation_code o of (count parts)) (push_types (types_of parts) s) (push of s)
  part_straight o parts of s h =
      subst (λ n. Straight allow functions f (operation_code o of n) (push_types (types_of parts) s) (push of s)) (same_count parts) (operation_straight o (types_of parts) of s h)

  apply_fits : (g : Scope) (at : ℕ) (of : Ty) (o : Operation) (parts : Exprs) → ExprsFit g parts → ExprFits g (Apply at of o parts)
  apply_fits g at of o parts ih h p s locals agrees stands have next =
      let c = cut (exprs_ends allow functions f p s parts) have in
      then_ allow functions f shapes (straight allow functions f shapes h (operation_code o of (count parts)) (end_exprs p parts) (push_types (types_of parts) s) (push of s) stands.1 (part_straight o parts of s agrees.1) c.1 next)
      (λ n. ih h p s locals agrees.0 stands.0 c.0 n)

  settles_branches : (o : Logical) (to : ℕ) (s : List Slot) → Branches allow functions f shapes many (settles o to) to (I ∷ s) s
  settles_branches And to s = if_zero allow functions f shapes many to s
  settles_branches Or to s = if_not_zero allow functions f shapes many to s

  settled_passes : (o : Logical) (s : List Slot) → Passes allow functions f (settled o) s (I ∷ s)
  settled_passes And s = int_passes allow functions f (pos 0) s
  settled_passes Or s = int_passes allow functions f (pos 1) s

  logic_fits : (g : Scope) (at : ℕ) (of : Ty) (o : Logical) (left right : Expr) → ExprFits g left → ExprFits g right → ExprFits g (Logic at of o left right)
  logic_fits g at of o left right first_fits second_fits h p s locals agrees stands have next =
      let p1 = end_expr p left in
      let p2 = end_expr (suc p1) right in
      let result : push of s ≡ I ∷ s = push_is of prim.Boolean s agrees.4 in
      let out : Has shapes (suc (suc p2)) (I ∷ s) = subst (λ t. Has shapes (suc (suc p2)) t) result next in
      let c = cut (expr_ends allow functions f p s left) have in
      let d = cut (expr_ends allow functions f (suc p1) s right) (rest c.1) in
      let a = left_as (push_is (type_of left) prim.Boolean s agrees.2) (first_fits h p s locals agrees.0 stands.0 c.0) (first c.1) in
      let b = left_as (push_is (type_of right) prim.Boolean s agrees.3) (second_fits h (suc p1) s locals agrees.1 stands.2 d.0) (first d.1) in
      let other = step allow functions f shapes stands.4 (settled_passes o s) (first (rest d.1)) out in
      let longer = grows (expr_ends allow functions f (suc p1) s right) in
      record {
        has = a.has;
        runs = λ led.
            let x = a.runs led in
            let test = branch allow functions f shapes many stands.1 (settles_branches o (suc p2) s) (first c.1) b.has other.has (omega (arith, longer)) x.led in
            let y = b.runs test.1 in
            let over = goto allow functions f shapes many stands.3 (first d.1) out (omega arith) y.led in
            let z = other.runs test.2 in
            record {
              fine = join allow functions f shapes x.fine (join allow functions f shapes (fine_one allow functions f shapes test.0) (join allow functions f shapes y.fine (join allow functions f shapes (fine_one allow functions f shapes over.0) z.fine)));
              led = subst (λ t. Leads allow functions f shapes (suc (suc p2)) t) (sym result) z.led;
            };
      }

  conditional_fits : (g : Scope) (at : ℕ) (of : Ty) (test yes' no' : Expr) → ExprFits g test → ExprFits g yes' → ExprFits g no' → ExprFits g (Conditional at of test yes' no')
  conditional_fits g at of test yes' no' test_fits yes_fits no_fits h p s locals agrees stands have next =
      let p1 = end_expr p test in
      let p2 = end_expr (suc p1) yes' in
      let c = cut (expr_ends allow functions f p s test) have in
      let d = cut (expr_ends allow functions f (suc p1) s yes') (rest c.1) in
      let t = left_as (push_is (type_of test) prim.Boolean s agrees.3) (test_fits h p s locals agrees.0 stands.0 c.0) (first c.1) in
      let a = left_as (ap (λ of. push of s) agrees.4) (yes_fits h (suc p1) s locals agrees.1 stands.2 d.0) (first d.1) in
      let b = left_as (ap (λ of. push of s) agrees.5) (no_fits h (suc p2) s locals agrees.2 stands.4 (rest d.1)) next in
      let longer = grows (expr_ends allow functions f (suc p1) s yes') in
      let last = grows (expr_ends allow functions f (suc p2) s no') in
      record {
        has = t.has;
        runs = λ led.
            let x = t.runs led in
            let tests = branch allow functions f shapes many stands.1 (if_zero allow functions f shapes many (suc p2) s) (first c.1) a.has b.has (omega (arith, longer)) x.led in
            let y = a.runs tests.1 in
            let over = goto allow functions f shapes many stands.3 (first d.1) next (omega (arith, last)) y.led in
            let z = b.runs tests.2 in
            record {
              fine = join allow functions f shapes x.fine (join allow functions f shapes (fine_one allow functions f shapes tests.0) (join allow functions f shapes y.fine (join allow functions f shapes (fine_one allow functions f shapes over.0) z.fine)));
              led = z.led;
            };
      }

  elvis_fits : (g : Scope) (at : ℕ) (of : Ty) (left right : Expr) → ExprFits g left → ExprFits g right → ExprFits g (Elvis at of left right)
  elvis_fits g at of left right left_fits right_fits h p s locals agrees stands have next =
      let q = end_expr p left in
      let last = end_expr (elvis_right q) right in
      let reference : IsReference (type_of left) = subst IsReference (sym agrees.2) agrees.4 in
      let out : Has shapes last (R ∷ s) = subst (λ t. Has shapes last t) (push_reference of s agrees.4) next in
      let c = cut (expr_ends allow functions f p s left) have in
      let d = rest (rest c.1) in
      let b = left_as (ap (λ of. push of s) agrees.3) (right_fits h (elvis_right q) s locals agrees.1 stands.5 (rest (rest d))) next in
      let drop = step allow functions f shapes stands.4 (pop_passes allow functions f R s) (first (rest d)) b.has in
      let copy = step allow functions f shapes stands.1 (dup_passes allow functions f R s) (first c.1) (first (rest c.1)) in
      let a = left_as (push_reference (type_of left) s reference) (left_fits h p s locals agrees.0 stands.0 c.0) (first c.1) in
      let longer = grows (expr_ends allow functions f (elvis_right q) s right) in
      record {
        has = a.has;
        runs = λ led.
            let x = a.runs led in
            let y = copy.runs x.led in
            let test = branch allow functions f shapes many stands.2 (if_null allow functions f shapes many (suc (suc (suc q))) (R ∷ s))
            (first (rest c.1)) (first d) (first (rest d)) (omega arith) y.led in
            let over = goto allow functions f shapes many stands.3 (first d) out (omega (arith, longer)) test.1 in
            let z = drop.runs test.2 in
            let r = b.runs z.led in
            record {
              fine = join allow functions f shapes x.fine (join allow functions f shapes y.fine (join allow functions f shapes (fine_one allow functions f shapes test.0)
                  (join allow functions f shapes (fine_one allow functions f shapes over.0) (join allow functions f shapes z.fine r.fine))));
              led = r.led;
            };
      }

  guarded_fits : (g : Scope) (at : ℕ) (of : Ty) (o : Operation) (a : Expr) (others : Exprs) → ExprFits g a → ExprsFit g others → ExprFits g (Guarded at of o (One a others))
  guarded_fits g at of o a others ih ihs h p s locals agrees stands have next =
      let q = end_expr p a in
      let call = end_exprs (suc (suc q)) others in
      let last = end_all call (member_code o (suc (count others))) in
      let takes = push_types (types_of others) (R ∷ s) in
      let guards = agrees.2 in
      let reference : IsReference (type_of a) = guard_takes allow functions f texts funs o (type_of a) of (types_of others) guards in
      let c = cut (expr_ends allow functions f p s a) have in
      let d = cut (exprs_ends allow functions f (suc (suc q)) (R ∷ s) others) (rest (rest c.1)) in
      let e = cut (spans_end allow functions f (member_code o (suc (count others))) call takes) d.1 in
      let drops = straight allow functions f shapes h (without_null (representation_of of)) last (R ∷ s) (push of s) stands.5
      (guard_null allow functions f texts funs o (type_of a ∷ types_of others) of s guards) e.1 next in
      let calls = straight allow functions f shapes h (member_code o (suc (count others))) call takes (R ∷ s) stands.4
      (subst (λ n. Straight allow functions f (member_code o (suc n)) takes (R ∷ s)) (same_count others)
      (guarded_straight allow functions f texts funs o (type_of a) of (types_of others) s guards)) e.0 drops.has in
      let arguments = ihs h (suc (suc q)) (R ∷ s) locals agrees.1 stands.3 d.0 calls.has in
      let copy = step allow functions f shapes stands.1 (dup_passes allow functions f R s) (first c.1) (first (rest c.1)) in
      let receiver = left_as (push_reference (type_of a) s reference) (ih h p s locals agrees.0 stands.0 c.0) (first c.1) in
      let longer = grows (exprs_ends allow functions f (suc (suc q)) (R ∷ s) others) in
      let further = grows (spans_end allow functions f (member_code o (suc (count others))) call takes) in
      record {
        has = receiver.has;
        runs = λ led.
            let x = receiver.runs led in
            let y = copy.runs x.led in
            let test = branch allow functions f shapes many stands.2 (if_null allow functions f shapes many last (R ∷ s)) (first (rest c.1)) arguments.has drops.has (omega (arith, longer, further)) y.led in
            let z = arguments.runs test.1 in
            let w = calls.runs z.led in
            let v = drops.runs w.led in
            record {
              fine = join allow functions f shapes x.fine (join allow functions f shapes y.fine (join allow functions f shapes (fine_one allow functions f shapes test.0)
                  (join allow functions f shapes z.fine (join allow functions f shapes w.fine v.fine))));
              led = v.led;
            };
      }

  assign_fits : (g : Scope) (at : ℕ) (of : Ty) (x : Name) (parts : Exprs) (value : Expr) → ExprFits g value → ExprFits g (Assign at of (target.Local x) parts value)
  assign_fits g at of x parts value ih h p s locals agrees stands have next =
      let y = stands.2.0 in
      let local = local_of f g x y of locals stands.2.1 agrees.1 in
      let c = cut (expr_ends allow functions f p s value) have in
      then_ allow functions f shapes (step allow functions f shapes stands.2.4 (store_passes allow functions f y.local of (push of s) local.has local.values) (first (rest c.1)) next) (λ n.
      then_ allow functions f shapes (step allow functions f shapes stands.1 (copy_passes allow functions f of s local.values) (first c.1) n) (λ n.
      left_as (ap (λ of. push of s) agrees.2) (ih h p s locals agrees.0 stands.0 c.0) n))

  -- a value that was read is cast and changed, and what that gives cast back, where these kinds lie below
  changed_fits : (g : Scope) (of : Ty) (change : Change) (right : Expr) → ExprFits g right → (h : Handlers) (q : ℕ) (k : List Slot) → HaveLocals f g
      → ExprAgrees (known allow funs) (names g) right → Changes change of (type_of right)
      → AllAt f h q (cast_code change.before of) → ExprAt funs f h g (end_all q (cast_code change.before of)) right
      → AllAt f h (end_expr (end_all q (cast_code change.before of)) right) (operator_code change.operator)
      → AllAt f h (end_all (end_expr (end_all q (cast_code change.before of)) right) (operator_code change.operator)) (cast_code change.after of)
      → Have shapes q (spans allow functions f (cast_code change.before of) (push of k))
      → Have shapes (end_all q (cast_code change.before of)) (expr_kinds allow functions f (left_kinds allow functions f of change k) right)
      → Have shapes (end_expr (end_all q (cast_code change.before of)) right) (spans allow functions f (operator_code change.operator) (push (type_of right) (left_kinds allow functions f of change k)))
      → Have shapes (end_all (end_expr (end_all q (cast_code change.before of)) right) (operator_code change.operator))
      (spans allow functions f (cast_code change.after of) (changed_kinds allow functions f of change (type_of right) k))
      → Has shapes (end_all (end_all (end_expr (end_all q (cast_code change.before of)) right) (operator_code change.operator)) (cast_code change.after of)) (push of k)
      → Runs allow functions f shapes q (push of k)
      (end_all (end_all (end_expr (end_all q (cast_code change.before of)) right) (operator_code change.operator)) (cast_code change.after of)) (push of k)
  changed_fits g of change right ih h q k locals agrees changes before_at right_at does_at after_at c2 c3 c4 c5 next =
      let left = left_kinds allow functions f of change k in
      let both = push (type_of right) left in
      let changed = changed_kinds allow functions f of change (type_of right) k in
      let cast_first = begins_straight allow functions f change.before of of changes.left k changes.known changes.before in
      let left_is : left ≡ push changes.left k = run_is allow functions f (cast_code change.before of) (push of k) (push changes.left k) cast_first in
      let before : Straight allow functions f (cast_code change.before of) (push of k) left =
      subst (λ l. Straight allow functions f (cast_code change.before of) (push of k) l) (sym left_is) cast_first in
      let does : Straight allow functions f (operator_code change.operator) both (push changes.result k) =
      subst (λ l. Straight allow functions f (operator_code change.operator) (push (type_of right) l) (push changes.result k)) (sym left_is)
      (operator_straight allow functions f change.operator (changes.left ∷ type_of right ∷ []) changes.result k changes.does) in
      let changed_is : changed ≡ push changes.result k = run_is allow functions f (operator_code change.operator) both (push changes.result k) does in
      let operator : Straight allow functions f (operator_code change.operator) both changed =
      subst (λ c. Straight allow functions f (operator_code change.operator) both c) (sym changed_is) does in
      let after : Straight allow functions f (cast_code change.after of) changed (push of k) =
      subst (λ c. Straight allow functions f (cast_code change.after of) c (push of k)) (sym changed_is) (cast_straight allow functions f change.after changes.result of k changes.after) in
      let q2 = end_all q (cast_code change.before of) in
      let q3 = end_expr q2 right in
      let q4 = end_all q3 (operator_code change.operator) in
      then_ allow functions f shapes (straight allow functions f shapes h (cast_code change.after of) q4 changed (push of k) after_at after c5 next) (λ n.
      then_ allow functions f shapes (straight allow functions f shapes h (operator_code change.operator) q3 both changed does_at operator c4 n) (λ n.
      then_ allow functions f shapes (ih h q2 left locals agrees right_at c3 n) (λ n.
      straight allow functions f shapes h (cast_code change.before of) q (push of k) left before_at before c2 n)))

  modify_fits : (g : Scope) (at : ℕ) (of : Ty) (x : Name) (parts : Exprs) (change : Change) (right : Expr) (gives : Gives) → ExprFits g right → ExprFits g (Modify at of (target.Local x) parts change right gives)
  modify_fits g at of x parts change right gives ih h p s locals agrees stands have next =
      let y = stands.0 in
      let local = local_of f g x y of locals stands.1 agrees.1 in
      let k = kept gives of s in
      let q1 = end_all (suc p) (kept_before 0 gives) in
      let q2 = change_first 0 gives change of (suc p) in
      let q3 = end_expr q2 right in
      let q4 = end_all q3 (operator_code change.operator) in
      let q5 = end_all q4 (cast_code change.after of) in
      let c1 = cut (spans_end allow functions f (kept_before 0 gives) (suc p) (push of s)) (rest have) in
      let c2 = cut (spans_end allow functions f (cast_code change.before of) q1 (push of k)) c1.1 in
      let c3 = cut (expr_ends allow functions f q2 (left_kinds allow functions f of change k) right) c2.1 in
      let c4 = cut (spans_end allow functions f (operator_code change.operator) q3 (push (type_of right) (left_kinds allow functions f of change k))) c3.1 in
      let c5 = cut (spans_end allow functions f (cast_code change.after of) q4 (changed_kinds allow functions f of change (type_of right) k)) c4.1 in
      let c6 = cut (spans_end allow functions f (kept_behind 0 gives) q5 (push of k)) c5.1 in
      then_ allow functions f shapes (step allow functions f shapes stands.10 (store_passes allow functions f y.local of (push of s) local.has local.values) (first c6.1) next) (λ n.
      then_ allow functions f shapes (straight allow functions f shapes h (kept_behind 0 gives) q5 (push of k) (push of (push of s)) stands.9 (behind_straight allow functions f gives of s local.values) c6.0 n) (λ n.
      then_ allow functions f shapes (changed_fits g of change right ih h q1 k locals agrees.0 agrees.2 stands.5 stands.6 stands.7 stands.8 c2.0 c3.0 c4.0 c5.0 n) (λ n.
      then_ allow functions f shapes (straight allow functions f shapes h (kept_before 0 gives) (suc p) (push of s) (push of k) stands.4 (before_straight allow functions f gives of s local.values) c1.0 n) (λ n.
      step allow functions f shapes stands.3 (load_passes allow functions f y.local of s local.has local.values) (first have) n))))

  -- ---- places

  put_fits : (g : Scope) (at : ℕ) (of : Ty) (read : Option Operation) (write : Operation) (parts : Exprs) (value : Expr) → ExprsFit g parts → ExprFits g value
      → ExprFits g (Assign at of (target.Place read write) parts value)
  put_fits g at of read write parts value ihs ih h p s locals agrees stands have next =
      let ofs = types_of parts in
      let n' = count parts in
      let values = place_values allow funs write ofs of agrees.3 agrees.4 in
      let q = end_exprs p parts in
      let q1 = end_expr q value in
      let q2 = end_all q1 (kept_under n') in
      let c0 = cut (exprs_ends allow functions f p s parts) have in
      let c1 = cut (expr_ends allow functions f q (push_types ofs s) value) c0.1 in
      let c2 = cut (spans_end allow functions f (kept_under n') q1 (push of (push_types ofs s))) c1.1 in
      let under : Straight allow functions f (kept_under n') (push of (push_types ofs s)) (push of (push_types ofs (push of s))) =
      subst (λ n. Straight allow functions f (kept_under n) (push of (push_types ofs s)) (push of (push_types ofs (push of s)))) (same_count parts)
      (under_straight allow functions f ofs of s agrees.3 values.0 values.1) in
      then_ allow functions f shapes (straight allow functions f shapes h (write_code write of) q2 (push of (push_types ofs (push of s))) (push of s) stands.3
      (write_straight allow functions f texts funs write ofs of (push of s) agrees.4) c2.1 next) (λ n.
      then_ allow functions f shapes (straight allow functions f shapes h (kept_under n') q1 (push of (push_types ofs s)) (push of (push_types ofs (push of s))) stands.2 under c2.0 n) (λ n.
      then_ allow functions f shapes (left_as (ap (λ of. push of (push_types ofs s)) agrees.2) (ih h q (push_types ofs s) locals agrees.1 stands.1 c1.0) n) (λ n.
      ihs h p s locals agrees.0 stands.0 c0.0 n)))

  read_straight : (read : Option Operation) (parts : Exprs) (of : Ty) (s : List Slot) → Reads (known allow funs) read (types_of parts) of
      → Straight allow functions f (read_code read of (count parts)) (push_types (types_of parts) s) (push of s)
  read_straight None parts of s h = absurd h
  read_straight (Some read) parts of s h = part_straight read parts of s h

  change_fits : (g : Scope) (at : ℕ) (of : Ty) (read : Option Operation) (write : Operation) (parts : Exprs) (change : Change) (right : Expr) (gives : Gives) → ExprsFit g parts → ExprFits g right
      → ExprFits g (Modify at of (target.Place read write) parts change right gives)
  change_fits g at of read write parts change right gives ihs ih h p s locals agrees stands have next =
      let ofs = types_of parts in
      let n' = count parts in
      let values = place_values allow funs write ofs of agrees.3 agrees.5 in
      let k = push_types ofs (kept gives of s) in
      let q = end_exprs p parts in
      let r1 = end_all q (copies n') in
      let r = end_read n' read of q in
      let q1 = end_all r (kept_before n' gives) in
      let q2 = change_first n' gives change of r in
      let q3 = end_expr q2 right in
      let q4 = end_all q3 (operator_code change.operator) in
      let q5 = end_all q4 (cast_code change.after of) in
      let q6 = end_all q5 (kept_behind n' gives) in
      let c0 = cut (exprs_ends allow functions f p s parts) have in
      let d1 = cut (spans_end allow functions f (copies n') q (push_types ofs s)) c0.1 in
      let d2 = cut (spans_end allow functions f (read_code read of n') r1 (push_types ofs (push_types ofs s))) d1.1 in
      let c1 = cut (spans_end allow functions f (kept_before n' gives) r (push of (push_types ofs s))) d2.1 in
      let c2 = cut (spans_end allow functions f (cast_code change.before of) q1 (push of k)) c1.1 in
      let c3 = cut (expr_ends allow functions f q2 (left_kinds allow functions f of change k) right) c2.1 in
      let c4 = cut (spans_end allow functions f (operator_code change.operator) q3 (push (type_of right) (left_kinds allow functions f of change k))) c3.1 in
      let c5 = cut (spans_end allow functions f (cast_code change.after of) q4 (changed_kinds allow functions f of change (type_of right) k)) c4.1 in
      let c6 = cut (spans_end allow functions f (kept_behind n' gives) q5 (push of k)) c5.1 in
      let copied : Straight allow functions f (copies n') (push_types ofs s) (push_types ofs (push_types ofs s)) =
      subst (λ n. Straight allow functions f (copies n) (push_types ofs s) (push_types ofs (push_types ofs s))) (same_count parts) (copies_straight allow functions f ofs s agrees.3 values.0) in
      let before : Straight allow functions f (kept_before n' gives) (push of (push_types ofs s)) (push of k) =
      subst (λ n. Straight allow functions f (kept_before n gives) (push of (push_types ofs s)) (push of k)) (same_count parts) (before_place allow functions f gives ofs of s agrees.3 values.0 values.1) in
      let behind : Straight allow functions f (kept_behind n' gives) (push of k) (push of (push_types ofs (push of s))) =
      subst (λ n. Straight allow functions f (kept_behind n gives) (push of k) (push of (push_types ofs (push of s)))) (same_count parts) (behind_place allow functions f gives ofs of s agrees.3 values.0 values.1) in
      then_ allow functions f shapes (straight allow functions f shapes h (write_code write of) q6 (push of (push_types ofs (push of s))) (push of s) stands.9
      (write_straight allow functions f texts funs write ofs of (push of s) agrees.5) c6.1 next) (λ n.
      then_ allow functions f shapes (straight allow functions f shapes h (kept_behind n' gives) q5 (push of k) (push of (push_types ofs (push of s))) stands.8 behind c6.0 n) (λ n.
      then_ allow functions f shapes (changed_fits g of change right ih h q1 k locals agrees.1 agrees.2 stands.4 stands.5 stands.6 stands.7 c2.0 c3.0 c4.0 c5.0 n) (λ n.
      then_ allow functions f shapes (straight allow functions f shapes h (kept_before n' gives) r (push of (push_types ofs s)) (push of k) stands.3 before c1.0 n) (λ n.
      then_ allow functions f shapes (straight allow functions f shapes h (read_code read of n') r1 (push_types ofs (push_types ofs s)) (push of (push_types ofs s)) stands.2
      (read_straight read parts of (push_types ofs s) agrees.4) d2.0 n) (λ n.
      then_ allow functions f shapes (straight allow functions f shapes h (copies n') q (push_types ofs s) (push_types ofs (push_types ofs s)) stands.1 copied d1.0 n) (λ n.
      ihs h p s locals agrees.0 stands.0 c0.0 n))))))

  -- ---- parts

  none_fit : (g : Scope) → ExprsFit g None'
  none_fit g h p s locals agrees stands have next = record { has = next; runs = λ led. record { fine = fine_none allow functions f shapes; led = led } }

  one_fits : (g : Scope) (a : Expr) (others : Exprs) → ExprFits g a → ExprsFit g others → ExprsFit g (One a others)
  one_fits g a others ih ihs h p s locals agrees stands have next =
      let c = cut (expr_ends allow functions f p s a) have in
      then_ allow functions f shapes (ihs h (end_expr p a) (push (type_of a) s) locals agrees.1 stands.1 c.1 next) (λ n.
      ih h p s locals agrees.0 stands.0 c.0 n)

  mutual
    pub expr_fits : (g : Scope) (e : Expr) → ExprFits g e
    expr_fits g (Literal at of c) h p s locals agrees stands have next = literal_fits g at of c h p s locals agrees stands have next
    expr_fits g (Quoted at of text) h p s locals agrees stands have next = text_fits g at of text h p s locals agrees stands have next
    expr_fits g (Local at of x) h p s locals agrees stands have next = name_fits g at of x h p s locals agrees stands have next
    expr_fits g (Apply at of o parts) h p s locals agrees stands have next = apply_fits g at of o parts (exprs_fit g parts) h p s locals agrees stands have next
    expr_fits g (Guarded at of o None') h p s locals agrees stands have next = absurd agrees
    expr_fits g (Guarded at of o (One a others)) h p s locals agrees stands have next = guarded_fits g at of o a others (expr_fits g a) (exprs_fit g others) h p s locals agrees stands have next
    expr_fits g (Logic at of o left right) h p s locals agrees stands have next = logic_fits g at of o left right (expr_fits g left) (expr_fits g right) h p s locals agrees stands have next
    expr_fits g (Conditional at of c a b) h p s locals agrees stands have next = conditional_fits g at of c a b (expr_fits g c) (expr_fits g a) (expr_fits g b) h p s locals agrees stands have next
    expr_fits g (Elvis at of left right) h p s locals agrees stands have next = elvis_fits g at of left right (expr_fits g left) (expr_fits g right) h p s locals agrees stands have next
    expr_fits g (Assign at of (target.Local x) parts value) h p s locals agrees stands have next = assign_fits g at of x parts value (expr_fits g value) h p s locals agrees stands have next
    expr_fits g (Assign at of (target.Place read write) parts value) h p s locals agrees stands have next = put_fits g at of read write parts value (exprs_fit g parts) (expr_fits g value) h p s locals agrees stands have next
    expr_fits g (Modify at of (target.Local x) parts change right gives) h p s locals agrees stands have next = modify_fits g at of x parts change right gives (expr_fits g right) h p s locals agrees stands have next
    expr_fits g (Modify at of (target.Place read write) parts change right gives) h p s locals agrees stands have next =
        change_fits g at of read write parts change right gives (exprs_fit g parts) (expr_fits g right) h p s locals agrees stands have next
    expr_fits g (Lambda at of interface function) h p s locals agrees stands have next = absurd agrees
    expr_fits g (Reference at of interface class name) h p s locals agrees stands have next = absurd agrees
    expr_fits g (NewReference at of interface made) h p s locals agrees stands have next = absurd agrees

    pub exprs_fit : (g : Scope) (es : Exprs) → ExprsFit g es
    exprs_fit g None' h p s locals agrees stands have next = none_fit g h p s locals agrees stands have next
    exprs_fit g (One a others) h p s locals agrees stands have next = one_fits g a others (expr_fits g a) (exprs_fit g others) h p s locals agrees stands have next
