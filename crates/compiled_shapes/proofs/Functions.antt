-- Functions: the kinds at their lines are their shapes.
use Rattle.std.proofs.Common.{◌≡◌, ℕ, suc, ◌+◌, ◌<◌, Bool, true, false, not, ◌||◌, ◌&&◌, ltb, leb, is_some, List, [], ◌∷◌, ◌++◌, length, Some, None, refl, sym, ap, ◌∙◌, subst, arith, append_assoc, length-append, zero}
use Rattle.std.specs.Prelude.{slice_get}
use Rattle.std.proofs.lemmas.Bool.{eq-eqb, lt-ltb, lt-leb, le-leb, or_left, false≢true}
use Rattle.std.proofs.lemmas.Option.{slice_get_within}
use Rattle.pl_types.specs.declared.ty.Ty.{Ty}
use Rattle.pl_code.specs.declared.kinds.Slot.{Slot}
use Rattle.pl_code.specs.declared.kinds.Slot.TheVariants.{R}
use Rattle.pl_code.specs.declared.code.FunCode.{FunCode}
use Rattle.pl_code.specs.declared.code.Trap.{Trap}
use Rattle.pl_code.specs.declared.code.Instruction.{Instruction}
use Rattle.allowlist.specs.Allow.{AllowList}
use Rattle.instruction_types.specs.declared.flow.Flow.{Flow}
use Rattle.instruction_types.specs.declared.flow.Flow.TheVariants as flow
use Rattle.instruction_types.specs.Effects.{result_kinds, effect_of, flow_of}
use Rattle.instruction_types.specs.Types.{catalogue_class}
use Rattle.instruction_types.specs.Faults.{is_bad_trap_target, is_bad_trap_class, is_bad_trap_order}
use Rattle.verifier.specs.Meets.{goes_to, turns_to, left_in}
use Rattle.verifier.specs.Faults.{falls, has_shape, fault_of, trap_fault}
use Rattle.verifier.specs.Shaped.{Leads, begins, catches, turns, passes, LineStands, IsWellShaped}
use Rattle.object_values.specs.declared.object.Owner.{Owner}
use Rattle.program_typing.specs.Falls.{all_fall}
use Rattle.program_typing.specs.Tree.{Variable, Fun, Program}
use Rattle.compiler_relation.specs.Representation.{representation_of, kind_of, result_of}
use Rattle.compiler_relation.specs.Parts.{default_code}
use Rattle.compiler_relation.specs.Stands.{Scope, end_stmts, traps_stmts, scope_of, no_jumps, kinds_of, EndAt, end_end, FunAt, Compiled}
use Rattle.member_names.specs.Names.{TextsName}
use Rattle.program_typing.specs.Agreeing.{known, StmtsAgree, HaveValues, FunAgrees, WellFormed}
use Rattle.program_typing.specs.Agreeing.{scope_of as names_of}
use Rattle.program_typing.specs.Reached.{StmtsReached}
use Rattle.compiled_shapes.specs.Laws.{CodeIsWellShaped}
use Rattle.compiled_shapes.proofs.Lines.{Ends, joined, behind, ended, count, Has, Have, first, cut, whole}
use Rattle.compiled_shapes.proofs.Runs.{Good, Fine, fine_none, fine_one, join, spans_end, straight, ret}
use Rattle.compiled_shapes.proofs.Parts.{push, stmts_kinds, end_kinds_of, stmts_ends}
use Rattle.compiled_shapes.proofs.Steps.{default_straight}
use Rattle.compiled_shapes.proofs.Scopes.{names, HaveLocals}
use Rattle.compiled_shapes.proofs.Traps.{own_traps, TrapFits, TrapsFit, trap_fits, stmts_traps}
use Rattle.compiled_shapes.proofs.Stmts.{stmts_fit}

-- ---- what is good at each line is a shape

module _ (allow : AllowList) (functions : List FunCode) (f : FunCode) (shapes : List (List Slot)) (many : length shapes ≡ length f.lines) (traps : TrapsFit shapes f.traps) (good : Fine allow functions f shapes 0 (length f.lines)) (start : Has shapes 0 []) where
  same_kinds : {line : ℕ} {j k : List Slot} → Has shapes line j → Has shapes line k → j ≡ k
  same_kinds {line} {j} {k} a b = let e = sym a.is ∙ b.is in cc

  good_at : (line : ℕ) (i : Instruction) → slice_get f.lines line ≡ Some i → Good allow functions f shapes line
  good_at line i is = let less = slice_get_within f.lines line i is in good.each line (omega arith) less

  same_line : (line : ℕ) (i j : Instruction) → slice_get f.lines line ≡ Some i → slice_get f.lines line ≡ Some j → i ≡ j
  same_line line i j a b = let e = sym a ∙ b in cc

  turned_at : (line : ℕ) (i : Instruction) (to : ℕ) → slice_get f.lines line ≡ Some i → turns_to (flow_of i) to ≡ true → Has shapes to []
  turned_at line i to is t =
      let g = good_at line i is in
      g.turns to (subst (λ i. turns_to (flow_of i) to ≡ true) (same_line line i g.instruction is g.is) t)

  passed_at : (line : ℕ) (i : Instruction) (kinds left : List Slot) (to : ℕ) → slice_get f.lines line ≡ Some i → slice_get shapes line ≡ Some kinds → left_in (effect_of allow functions f i) kinds ≡ Some left → goes_to (flow_of i) line to ≡ true → Has shapes to left
  passed_at line i kinds left to is has leaves t =
      let g = good_at line i is in
      let one : i ≡ g.instruction = same_line line i g.instruction is g.is in
      let here : kinds ≡ g.kinds = same_kinds (record { is = has }) g.has in
      let e = sym leaves ∙ ap (λ i. left_in (effect_of allow functions f i) kinds) one ∙ ap (left_in (effect_of allow functions f g.instruction)) here ∙ g.leaves in
      let same : g.left ≡ left = cc in
      subst (λ left. Has shapes to left) same (g.goes to (subst (λ i. goes_to (flow_of i) line to ≡ true) one t))

  trap_at : (k : ℕ) (t : Trap) → slice_get f.traps k ≡ Some t → TrapFits shapes t
  trap_at k t is = trap_fits shapes f.traps k t traps is

  -- its numbers are in range, its class is known, and it goes forward
  no_fault : (t : Trap) → TrapFits shapes t → trap_fault (length f.lines) t ≡ None
  unfolding trap_fault is_bad_trap_target is_bad_trap_class is_bad_trap_order
  no_fault t fits =
      let forward = fits.forward in
      let before = fits.before in
      let less = slice_get_within shapes t.at (R ∷ []) fits.has.is in
      let n = length f.lines in
      let from : leb n t.from ≡ false = lt-leb n t.from (omega (arith, many, forward, before, less)) in
      let to : leb n t.to ≡ false = lt-leb n t.to (omega (arith, many, before, less)) in
      let at : leb n t.at ≡ false = lt-leb n t.at (omega (arith, many, less)) in
      let target : (leb n t.from || leb n t.to || leb n t.at) ≡ false = ap (λ b. b || leb n t.to || leb n t.at) from ∙ ap (λ b. b || leb n t.at) to ∙ at in
      let class : not (is_some (catalogue_class t.class)) ≡ false = ap not fits.class in
      let order : not (ltb t.from t.to && leb t.to t.at) ≡ false = ap (λ b. not (b && leb t.to t.at)) (lt-ltb t.from t.to forward) ∙ ap not (le-leb t.to t.at before) in
      ap (λ b. fault_of b (not (is_some (catalogue_class t.class))) (not (ltb t.from t.to && leb t.to t.at)) false) target
      ∙ ap (λ b. fault_of false b (not (ltb t.from t.to && leb t.to t.at)) false) class
      ∙ ap (λ b. fault_of false false b false) order

  led_has : (line : ℕ) (kinds : List Slot) → Leads allow functions f shapes line kinds → Has shapes line kinds
  led_has line kinds begins = start
  led_has line kinds (catches k t is) = (trap_at k t is).has
  led_has line kinds (turns from i to is t) = turned_at from i to is t
  led_has line kinds (passes from i before left to is has leaves t) = passed_at from i before left to is has leaves t

  next_is : (way : Flow) (line : ℕ) (left : List Slot) → ((to : ℕ) → goes_to way line to ≡ true → Has shapes to left) → (not (falls way) || ltb (line + 1) (length f.lines)) ≡ true
  next_is flow.GoesOn line left goes = lt-ltb (line + 1) (length f.lines) (omega (arith, many, slice_get_within shapes (line + 1) left (goes (line + 1) (eq-eqb (line + 1) (line + 1) refl)).is))
  next_is (flow.Jumps to) line left goes = refl
  next_is (flow.Branches to) line left goes = lt-ltb (line + 1) (length f.lines) (omega (arith, many, slice_get_within shapes (line + 1) left (goes (line + 1) (or_left _ _ (eq-eqb (line + 1) (line + 1) refl))).is))
  next_is (flow.Turns to) line left goes = lt-ltb (line + 1) (length f.lines) (omega (arith, many, slice_get_within shapes (line + 1) left (goes (line + 1) (eq-eqb (line + 1) (line + 1) refl)).is))
  next_is flow.Ends line left goes = refl

  stands_so : (line : ℕ) (kinds : List Slot) → slice_get shapes line ≡ Some kinds → LineStands allow functions f shapes line kinds
  stands_so line kinds has =
      let within = slice_get_within shapes line kinds has in
      let g = good.each line (omega arith) (omega (arith, many, within)) in
      let here : g.kinds ≡ kinds = same_kinds g.has (record { is = has }) in
      let leaves : left_in (effect_of allow functions f g.instruction) kinds ≡ Some g.left = subst (λ kinds. left_in (effect_of allow functions f g.instruction) kinds ≡ Some g.left) here g.leaves in
      record {
        led = subst (λ kinds. Leads allow functions f shapes line kinds) here g.led;
        only = λ others l. same_kinds (led_has line others l) (record { is = has });
        instruction = g.instruction;
        is = g.is;
        instruction_fits = record {
          target = g.target;
          member = g.member;
          jump = g.jump;
          fits = ap (has_shape (length f.lines) line (flow_of g.instruction)) leaves ∙ next_is (flow_of g.instruction) line g.left g.goes;
        };
      }

  pub well_shaped : IsWellShaped allow functions f
  well_shaped = record {
    some = let less = slice_get_within shapes 0 [] start.is in omega (arith, many, less);
    traps = λ k t is. no_fault t (trap_at k t is);
    lines = record { shapes = shapes; many = many; shaped = record { each = stands_so } };
  }

-- ---- parameters

at_length : (pre others : List Slot) (k : Slot) → slice_get (pre ++ (k ∷ others)) (length pre) ≡ Some k
at_length [] others k = refl
at_length (x ∷ pre) others k = at_length pre others k

params_kept : (f : FunCode) (xs : List Variable) (n : ℕ) (g : Scope) (pre : List Slot) → f.params ≡ pre ++ kinds_of xs → length pre ≡ n → HaveValues xs → HaveLocals f g → HaveLocals f (scope_of xs n g)
params_kept f [] n g pre is size values locals = locals
params_kept f (x ∷ xs) n g pre is size values locals =
    let k = kind_of x.of in
    let local : slice_get (f.params ++ f.locals) n ≡ Some k =
    ap (slice_get (f.params ++ f.locals)) (sym size) ∙ ap (λ ks. slice_get (ks ++ f.locals) (length pre)) is ∙ ap (λ ks. slice_get ks (length pre)) (append_assoc pre (k ∷ kinds_of xs) f.locals) ∙ at_length pre (kinds_of xs ++ f.locals) k in
    let longer : length (pre ++ (k ∷ [])) ≡ suc n = omega (arith, length-append pre (k ∷ []), size) in
    params_kept f xs (suc n) (record { name = x.name; of = x.of; local = n } ∷ g) (pre ++ (k ∷ [])) (is ∙ sym (append_assoc pre (k ∷ []) (kinds_of xs))) longer values.1
    (record { has = record { is = local }; values = values.0 }, locals)

names_params : (xs : List Variable) (n : ℕ) (g : Scope) → names (scope_of xs n g) ≡ names_of xs (names g)
names_params [] n g = refl
names_params (x ∷ xs) n g = names_params xs (suc n) (record { name = x.name; of = x.of; local = n } ∷ g)

-- ---- the end of a function

end_ends : (allow : AllowList) (functions : List FunCode) (f : FunCode) (b : Bool) (q : ℕ) (of : Ty) → Ends q (end_kinds_of allow functions f b of) (end_end b q of)
end_ends allow functions f false q of = ended
end_ends allow functions f true q of = joined (spans_end allow functions f (default_code of) q []) (behind (push of []) ended)

module _ (allow : AllowList) (functions : List FunCode) (f : FunCode) (shapes : List (List Slot)) (many : length shapes ≡ length f.lines) (of : Ty) (result : f.result ≡ result_of of) where
  record Ending (b : Bool) (q : ℕ) : Type 0 where
    has : b ≡ true → Has shapes q []
    runs : (b ≡ true → Leads allow functions f shapes q []) → Fine allow functions f shapes q (end_end b q of)

  ending : (b : Bool) (q : ℕ) → EndAt f b q of → Have shapes q (end_kinds_of allow functions f b of) → Ending b q
  ending false q stands have = record { has = λ e. absurd (false≢true e); runs = λ led. fine_none allow functions f shapes }
  ending true q stands have =
      let c = cut (spans_end allow functions f (default_code of) q []) have in
      let x = straight allow functions f shapes [] (default_code of) q [] (push of []) stands.0 (default_straight allow functions f of []) c.0 (first c.1) in
      let same : push of [] ≡ result_kinds f.result ++ [] = sym (ap (λ o. result_kinds o ++ []) result) in
      record {
        has = λ e. x.has;
        runs = λ led.
            let y = x.runs (led refl) in
            join allow functions f shapes y.fine (fine_one allow functions f shapes (ret allow functions f shapes many stands.1 same (first c.1) y.led));
      }

-- ---- functions

module _ {text : Owner} (texts : TextsName) (allow : AllowList) (funs : Program) (functions : List FunCode) (formed : WellFormed (known allow funs)) (made : Compiled text funs functions) where
  fun_is_well_shaped : (number : ℕ) (fun : Fun) (fa : FunAt text funs functions number fun) → FunAgrees (known allow funs) fun → StmtsReached fun.body → IsWellShaped allow functions fa.body
  fun_is_well_shaped number fun fa agrees reached =
      let f = fa.body in
      let of = fun.result in
      let b = all_fall fun.body in
      let q = end_stmts 0 fun.body in
      let g = scope_of fun.params 0 [] in
      let shapes = stmts_kinds allow functions f fun.body ++ end_kinds_of allow functions f b of in
      let bodies = stmts_ends allow functions f 0 fun.body in
      let many : length shapes ≡ length f.lines = count (joined bodies (end_ends allow functions f b q of)) ∙ sym fa.lines in
      let c = cut bodies (whole shapes) in
      let last = ending allow functions f shapes many of fa.result b q fa.ends c.1 in
      let locals = params_kept f fun.params 0 [] [] fa.params refl agrees.present tt in
      let own = traps_stmts 0 fun.body in
      let agree = subst (λ names. StmtsAgree (known allow funs) of false names fun.body) (sym (names_params fun.params 0 [])) agrees.body in
      let body =
      stmts_fit texts allow funs functions formed made f shapes many (representation_of of) of fa.result fun.body [] false g (length fun.params) no_jumps 0 locals agree reached fa.stands (own_traps f own fa.traps) c.0
      (λ e. absurd (false≢true e)) last.has in
      let traps = subst (TrapsFit shapes) (sym fa.traps) (stmts_traps allow functions f shapes (known allow funs) of fun.body false (names g) 0 agree c.0) in
      let ran = body.runs begins in
      let fine : Fine allow functions f shapes 0 (length f.lines) = subst (Fine allow functions f shapes 0) (sym fa.lines) (join allow functions f shapes ran.fine (last.runs ran.falls)) in
      well_shaped allow functions f shapes many traps fine body.has

there : (xs : List Fun) (k : ℕ) → k < length xs → (x : Fun) × (slice_get xs k ≡ Some x)
there [] k h = absurd (omega arith)
there (x ∷ xs) zero h = (x, refl)
there (x ∷ xs) (suc k) h = there xs k (omega arith)

pub code_is_well_shaped : TextsName → CodeIsWellShaped
code_is_well_shaped texts text funs code some formed reached made = record {
  some = let many = made.many in omega (arith, some, many);
  each = λ k f is.
      let less = slice_get_within code k f is in
      let many = made.many in
      let x = there funs.functions k (omega (arith, less, many)) in
      let fa = made.each k x.0 x.1 in
      let same : fa.body ≡ f = same_function code k f fa.body is fa.is in
      subst (λ f. IsWellShaped funs.allowed code f) same
      (fun_is_well_shaped texts funs.allowed funs.functions code formed made k x.0 fa (formed.each k x.0 x.1) (reached.each k x.0 x.1));
}
  where
    same_function : (code : List FunCode) (k : ℕ) (f g : FunCode) → slice_get code k ≡ Some f → slice_get code k ≡ Some g → g ≡ f
    same_function code k f g a b = let e = sym b ∙ a in cc
