-- The code ends as the program does.
use Rattle.std.proofs.Common.{◌≡◌, ℕ, zero, suc, ◌+◌, Bool, List, [], ◌∷◌, ◌++◌, map, length, Option, Some, None, refl, sym, ap, ◌∙◌, subst, arith}
use Rattle.std.specs.Prelude.{slice_get}
use Rattle.member_names.specs.Names.{TextsName}
use Rattle.object_values.specs.declared.value.Value.{Value}
use Rattle.run_state.specs.World.{World, Limits, End}
use Rattle.source_meaning.specs.Tree.{Variable, Fun, Programs}
use Rattle.source_meaning.specs.Meaning.{State, Env, Out, Done, Thrown, Over, More, Flow, Normal, Broke, Continued, Returned, entry, default_of}
use Rattle.code_meaning.specs.declared.word.Word.{Word}
use Rattle.code_meaning.specs.Words.{start_of}
use Rattle.code_meaning.specs.Machine.{Codes, Next, Goes, Ends, Stuck, unwind, gives_back}
use Rattle.compiler_relation.specs.Representation.{representation_of, low}
use Rattle.compiler_relation.specs.Stands.{Scope, all_fall, any_continues, end_stmts, scope_of, no_jumps, ArePresent, representations_of, EndAt, FunAt, AreCompiled}
use Rattle.compiler_relation.proofs.Locals.{Under, under_more}
use Rattle.compiler_relation.proofs.Follows.{Ctx, Leads, ended, at, Follows}
use Rattle.compiler_relation.proofs.Refines.{Good, land_flow}
use Rattle.object_values.specs.declared.object.Owner.TheVariants.{Script}
use Rattle.run_state.specs.World.{Result, Uncaught, Limited}
use Rattle.source_meaning.specs.Meaning.{meaning}
use Rattle.code_meaning.specs.Machine.{after, step}
use Rattle.compiler_relation.specs.Correct.{end_of, source_in, source_of, source, words_of, Words, EndsAs}
use Rattle.code_meaning.specs.Machine.{start_at, start}
use Rattle.compiler_relation.proofs.Nodes.Casts.{ReadsBack}
use Rattle.compiler_relation.proofs.Nodes.Calls.{word_at, words_at, low_is, entry_count, scope_order, as_many, starts_fitting, function_ends}
use Rattle.compiler_relation.proofs.Simulates.{refines}

-- words that are those of the arguments
some_injective : (w u : Word) (ws us : List (Option Word)) → (Some w ∷ ws) ≡ (Some u ∷ us) → (w ≡ u) × (ws ≡ us)
some_injective w u ws us e = (cc, cc)

words_are : (xs : List Variable) (values : List Value) (words : List Word) → ArePresent (representations_of xs) → length xs ≡ length values → map Some words ≡ words_of xs values → words ≡ words_at (representations_of xs) values
words_are [] values [] present count is = refl
words_are [] values (w ∷ words) present count is = cc
words_are (x ∷ xs) [] words present count is = absurd (omega arith)
words_are (x ∷ xs) (value ∷ values) [] present count is = cc
words_are (x ∷ xs) (value ∷ values) (w ∷ words) present count is =
    let representation : low (representation_of x.of) value ≡ Some (word_at (representation_of x.of) value) = low_is (representation_of x.of) value present.0 in
    let both = some_injective w (word_at (representation_of x.of) value) (map Some words) (words_of xs values) (is ∙ ap (λ o. o ∷ words_of xs values) representation) in
    let rest : words ≡ words_at (representations_of xs) values = words_are xs values words present.1 (omega arith) both.1 in
    λ k. both.0 k ∷ rest k

module _ (codes : Codes) (limits : Limits) where
  exact : (k : ℕ) (from : Next) (r : End (Option Word)) → after codes limits k from ≡ Ends r → EndsAs codes limits from r
  exact zero from r e = record { steps = 0; ends = e; before = λ j h. absurd (omega arith) }
  exact (suc k) (Goes c) r e =
      let x = exact k (step codes limits c) r e in
      record { steps = suc x.steps; ends = x.ends; before = elim [ zero ↦ λ h. (c, refl) | suc j ↦ λ h. x.before j (omega arith) ] }
  exact (suc k) (Ends q) r e = record { steps = 0; ends = e; before = λ j h. absurd (omega arith) }
  exact (suc k) Stuck r e = cc

module _ (funs : Programs) (codes : Codes) (limits : Limits) where
  -- where the main script's body ends
  finishes : (c : Ctx codes) (g : Scope) (falling continuing : Bool) (q : ℕ) → c.below ≡ [] → EndAt c.body falling q c.result → (from : Next) (o : Out Flow) (r : End (Option Word))
      → Follows codes limits c [] g (land_flow funs codes limits c no_jumps q) (Good falling continuing) from o → end_of c.result o ≡ Some r → Leads codes limits from r
  finishes c g falling continuing q none ends from (Done Normal s e) r d is =
      let same : Result (low (representation_of c.result) (default_of c.result)) s.world ≡ r = cc in
      let last : Leads codes limits (gives_back codes limits c.below c.due (low (representation_of c.result) (default_of c.result)) s.world) r =
      subst (λ b. Leads codes limits (gives_back codes limits b c.due (low (representation_of c.result) (default_of c.result)) s.world) r) (sym none)
      (subst (λ r. Leads codes limits (Ends (Result (low (representation_of c.result) (default_of c.result)) s.world)) r) same (ended codes limits _)) in
      d r (λ l f good. function_ends codes limits c falling q l s r ends good last)
  finishes c g falling continuing q none ends from (Done (Returned value) s e) r d is =
      let same : Result (low (representation_of c.result) value) s.world ≡ r = cc in
      d r (λ l f good. subst (λ b. Leads codes limits (gives_back codes limits b c.due (low (representation_of c.result) value) s.world) r) (sym none)
      (subst (λ r. Leads codes limits (Ends (Result (low (representation_of c.result) value) s.world)) r) same (ended codes limits _)))
  finishes c g falling continuing q none ends from (Done Broke s e) r d is = cc
  finishes c g falling continuing q none ends from (Done Continued s e) r d is = cc
  finishes c g falling continuing q none ends from (Thrown id arose s e) r d is =
      let same : Uncaught id arose s.world ≡ r = cc in
      d r (λ l f. subst (λ b. Leads codes limits (unwind codes b id arose s.world) r) (sym none) (subst (λ r. Leads codes limits (Ends (Uncaught id arose s.world)) r) same (ended codes limits _)))
  finishes c g falling continuing q none ends from (Over limit arose w) r d is =
      let same : Limited limit arose w ≡ r = cc in subst (λ r. Leads codes limits from r) same d
  finishes c g falling continuing q none ends from More r d is = cc

pub ends_alike : ReadsBack → TextsName → (funs : Programs) (codes : Codes) → AreCompiled funs codes → (limits : Limits) (main : Fun) → slice_get funs.script 0 ≡ Some main
    → (args : List Value) (words : List Word) → Words main.params args words → (w : World) (bound : ℕ) (end : End (Option Word))
    → source funs limits bound args w ≡ Some end → EndsAs codes limits (start codes words w) end
ends_alike reads texts funs codes made limits main is args words are w bound end comes =
    subst (λ o. EndsAs codes limits (start_at o words w) end) (sym fa.is) (body (entry main.params args []) refl (ap (λ o. source_of funs limits bound o args w) (sym is) ∙ comes))
  where
    fa : FunAt Script funs.script codes.script 0 main
    fa = made.script.each 0 main is

    body : (o : Option Env) → entry main.params args [] ≡ o → source_in funs limits bound main o w ≡ Some end → EndsAs codes limits (start_at (Some fa.body) words w) end
    body None q e = cc
    body (Some env) q e =
        let count : length main.params ≡ length args = entry_count main.params args [] env q in
        let same : words ≡ words_at (representations_of main.params) args = words_are main.params args words fa.present count are.are in
        let locals = words_at (representations_of main.params) args ++ map start_of fa.body.locals in
        let c : Ctx codes = record { text = Script; fun = 0; body = fa.body; result = main.result; below = []; due = []; is = fa.is; loops = fa.loops; gives = fa.result } in
        let scope = scope_of main.params 0 [] in
        let s : State = record { world = w; turns = 0 } in
        let fits = starts_fitting fa.body main args env q fa.present (as_many Script funs.script codes.script 0 main fa) in
        let under : Under (length main.params) scope = under_more (0 + length main.params) (length main.params) scope (omega arith) (scope_order main.params 0 [] tt tt).1 in
        let runs = (refines funs codes limits made reads texts bound).stmts main.body c [] scope (length main.params) no_jumps 0 s env locals fa.stands under fits in
        let leads = finishes funs codes limits c scope (all_fall main.body) (any_continues main.body) (end_stmts 0 main.body) refl fa.ends (at codes limits c 0 locals [] s) ((meaning funs limits bound).stmts (record { text = Script; depth = 0 }) s env main.body) end runs.by e in
        subst (λ words. EndsAs codes limits (start_at (Some fa.body) words w) end) (sym same) (exact codes limits leads.steps _ end leads.reaches)
