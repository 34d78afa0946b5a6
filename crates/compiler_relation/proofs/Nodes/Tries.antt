-- `try` and `catch`.
use Rattle.std.proofs.Common.{◌≡◌, ◌≢◌, ℕ, suc, Bool, true, false, ◌||◌, List, [], ◌∷◌, ◌++◌, Option, Some, None, refl, sym, ◌∙◌, subst, arith}
use Rattle.std.specs.Prelude.{slice_get, if◌then◌else◌}
use Rattle.pl_types.specs.declared.ty.Ty as ty
use Rattle.pl_types.specs.declared.ty.Ty.TheVariants as t
use Rattle.object_values.specs.declared.object.Object.{Object}
use Rattle.object_values.specs.declared.object.Object.TheVariants as o
use Rattle.object_values.specs.declared.value.Value.TheVariants as v
use Rattle.run_state.specs.World.{World, Limits, Arose, End}
use Rattle.source_meaning.specs.Tree.{Try, Stmts, Catches, NoCatch, Catch, Programs, functions_in}
use Rattle.source_meaning.specs.Falls.{any_falls, catches_continue}
use Rattle.source_meaning.specs.Meaning.{State, Env, Out, Done, Thrown, Over, More, Flow, Meaning, leave, is_of_class, caught, handled, stmt_of}
use Rattle.code_meaning.specs.declared.word.Word.{Word}
use Rattle.code_meaning.specs.declared.word.Word.TheVariants.{R}
use Rattle.code_meaning.specs.Machine.{Codes, Handlers, Next, exception_is, is_instance}
use Rattle.compiler_relation.specs.Representation.{Boxed, Absent, representation_of}
use Rattle.compiler_relation.specs.Stands.{Entry, Scope, all_fall, any_continues, jumps_over, end_skip, end_stmt, end_stmts, end_catches, end_tried, end_caught, next_stmts, handlers_of, Jumps, SkipAt, CatchesAt}
use Rattle.compiler_relation.proofs.Locals.{Under, Fits, under_more}
use Rattle.compiler_relation.proofs.Follows.{Ctx, Leads, at, place, thrown, Follows, through, Sim, lands_on, leaving}
use Rattle.compiler_relation.proofs.Refines.{Good, land_flow, StmtRuns, Refines}
use Rattle.compiler_relation.proofs.Nodes.Statements.{good_left, good_right, nexts_grow, over, store_new}

-- ---- which exceptions a catch takes

-- the class of an object, as the program asks for it and as code does
alike : (class : ℕ) (object : Option Object) → is_of_class class object ≡ exception_is class object
unfolding is_of_class exception_is
alike class None = refl
alike class (Some (o.Exc raised message)) = refl
alike class (Some (o.List of items guard changes)) = refl
alike class (Some (o.Map of pairs guard changes)) = refl
alike class (Some (o.Set of items guard changes)) = refl
alike class (Some (o.Array elem items)) = refl
alike class (Some (o.View map part)) = refl
alike class (Some (o.Entry map key)) = refl
alike class (Some (o.Iter over cursor seen last)) = refl
alike class (Some (o.Builder units)) = refl
alike class (Some (o.Fun interface target captures)) = refl

asked : (class id : ℕ) (w : World) → is_instance (Some class) id w ≡ exception_is class (slice_get w.store.objects id)
unfolding is_instance
asked class id w = refl

taken_alike : (class id : ℕ) (w : World) → is_of_class class (slice_get w.store.objects id) ≡ is_instance (Some class) id w
taken_alike class id w = alike class (slice_get w.store.objects id) ∙ sym (asked class id w)

exceptions_are_boxed : (class : ℕ) → Boxed ≡ representation_of (t.Class class)
unfolding ty.out-Ty denote.Hole.Carrier.out
exceptions_are_boxed class = refl

boxed_some : Boxed ≢ Absent
boxed_some e = cc

module _ (funs : Programs) (codes : Codes) (limits : Limits) (m : Meaning) (ih : Refines funs codes limits m) where
  -- what is thrown in a block goes to its catches
  handling : (catches : Catches) (c : Ctx codes) (h own : Handlers) (g : Scope) (land : Flow → State → List Word → Next) (good : Flow → Type 0) (n : Next) (out : Out Flow)
      → Follows codes limits c (own ++ h) g land good n out
      → ((id : ℕ) (arose : Arose) (s : State) (e : Env) (l : List Word) → Fits c.body g e l → Sim codes limits c h g land good (thrown codes limits c (own ++ h) id arose s l) (caught funs limits m (place codes limits c) catches id arose s e))
      → Follows codes limits c h g land good n (handled funs limits m (place codes limits c) catches out)
  handling catches c h own g land good n (Done flow s e) d f = d
  handling catches c h own g land good n (Thrown id arose s e) d f =
      through codes limits c h g land good n (λ l. Fits c.body g e l) (λ l. thrown codes limits c (own ++ h) id arose s l) (caught funs limits m (place codes limits c) catches id arose s e) d (λ l x. (f id arose s e l x).by)
  handling catches c h own g land good n (Over limit arose w) d f = d
  handling catches c h own g land good n More d f = d

  -- behind a catch: over those that follow it
  behind : (c : Ctx codes) (h : Handlers) (j : Jumps) (q to : ℕ) (body : Stmts) (rest : Catches) → SkipAt c.body h (jumps_over body rest) q to → to ≡ end_catches (end_skip (jumps_over body rest) q) rest
      → (flow : Flow) (s : State) (l : List Word) (r : End (Option Word)) → Good (all_fall body) (any_continues body) flow
      → Leads codes limits (land_flow funs codes limits c j to flow s l) r → Leads codes limits (land_flow funs codes limits c j q flow s l) r
  behind c h j q to body NoCatch a same flow s l r good k = subst (λ q. Leads codes limits (land_flow funs codes limits c j q flow s l) r) same k
  behind c h j q to body (Catch class x next rest) a same flow s l r good k = over funs codes limits m ih c h (all_fall body) j q to (any_continues body) a flow s l r good k

  -- an exception at the catches
  caught_runs : (catches : Catches) (c : Ctx codes) (h : Handlers) (g : Scope) (n : ℕ) (j : Jumps) (to p id : ℕ) (arose : Arose) (s : State) (e : Env) (l : List Word)
      → CatchesAt (functions_in funs c.text) c.body h (representation_of c.result) g n j to p catches → to ≡ end_catches p catches → Under n g → Fits c.body g e l
      → Sim codes limits c h g (land_flow funs codes limits c j to) (Good (any_falls catches) (catches_continue catches)) (thrown codes limits c (handlers_of p catches ++ h) id arose s l)
      (caught funs limits m (place codes limits c) catches id arose s e)
  caught_runs NoCatch c h g n j to p id arose s e l stands same under f = record { by = λ r k. k l f }
  caught_runs (Catch class x body rest) c h g n j to p id arose s e l stands same under f =
      pick (is_of_class class (slice_get s.world.store.objects id)) (is_instance (Some class) id s.world) (taken_alike class id s.world)
      (caught_runs rest c h g (next_stmts (suc n) body) j to (end_caught p body rest) id arose s e l stands.4 same (under_more n (next_stmts (suc n) body) g (nexts_grow n (suc n) body (omega arith)) under) f)
    where
      y : Entry
      y = record { name = x; of = t.Class class; local = n }

      pick : (taken taken' : Bool) → taken ≡ taken' → {further : Next} {others : Out Flow}
          → Sim codes limits c h g (land_flow funs codes limits c j to) (Good (any_falls rest) (catches_continue rest)) further others
          → Sim codes limits c h g (land_flow funs codes limits c j to) (Good (all_fall body || any_falls rest) (any_continues body || catches_continue rest))
          (if taken' then at codes limits c p l (R (v.Ref id) ∷ []) s else further)
          (if taken then leave (m.stmts (place codes limits c) s (record { name = x; value = v.Ref id } ∷ e) body) else others)
      pick true true is d =
          store_new funs codes limits m ih x (t.Class class) n Boxed (v.Ref id) c h g p s e l (exceptions_are_boxed class) boxed_some stands.0 under stands.1 f (λ l f.
          leaving codes limits y
          (lands_on codes limits (behind c h j (end_stmts (suc p) body) to body rest stands.3 same) (good_left (all_fall body) (any_falls rest) (any_continues body) (catches_continue rest))
          (ih.stmts body c h (y ∷ g) (suc n) j (suc p) s (record { name = x; value = v.Ref id } ∷ e) l stands.2 (omega arith, under_more n (suc n) g (omega arith) under) f)))
      pick false false is d = lands_on codes limits (λ flow s l r good k. k) (good_right (all_fall body) (any_falls rest) (any_continues body) (catches_continue rest)) d
      pick true false is d = cc
      pick false true is d = cc

  pub try_runs : (body : Stmts) (catches : Catches) → StmtRuns funs codes limits (λ d s e. stmt_of funs limits m d s e (Try body catches)) (Try body catches)
  try_runs body catches c h g n j p s e l stands under f =
      let own = handlers_of (end_tried p body) catches in
      let to = end_stmt p (Try body catches) in
      let block =
      lands_on codes limits (over funs codes limits m ih c (own ++ h) (all_fall body) j (end_stmts p body) to (any_continues body) stands.1) (good_left (all_fall body) (any_falls catches) (any_continues body) (catches_continue catches))
      (ih.stmts body c (own ++ h) g n j p s e l stands.0 under f) in
      record {
        by = handling catches c h own g _ _ _ _ block.by (λ id arose s e l f.
            lands_on codes limits (λ flow s l r good k. k) (good_right (all_fall body) (any_falls catches) (any_continues body) (catches_continue catches))
            (caught_runs catches c h g (next_stmts n body) j to (end_tried p body) id arose s e l stands.2 refl (under_more n (next_stmts n body) g (nexts_grow n n body (omega arith)) under) f));
      }
