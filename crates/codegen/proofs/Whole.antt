-- The code of a function and of a program.
use Rattle.std.proofs.Common.{◌≡◌, ◌≢◌, ℕ, zero, suc, ◌+◌, ◌<◌, ◌≤◌, List, get_or, [], ◌∷◌, ◌++◌, length, drop, take, refl, sym, ap, ◌∙◌, subst, Some, None, false, arith, add-one, append_assoc, append-nil}
use Rattle.std.specs.Prelude.{map, slice_get}
use Rattle.std.proofs.lemmas.Option.{slice_get-get_or}
use Rattle.pl_code.specs.declared.kinds.Slot.{Slot}
use Rattle.pl_code.specs.declared.code.FunCode.{FunCode}
use Rattle.typed_tree.specs.declared.program.Named.{Named}
use Rattle.source_meaning.specs.Tree.{Fun, Program, Variable}
use Rattle.program_typing.specs.Types.{HasValues}
use Rattle.program_typing.specs.Agreeing.{Known, StmtsAgree, HaveValues, FunAgrees}
use Rattle.source_meaning.specs.Programs.{variable_of, fun_of, program_of}
use Rattle.typed_tree.specs.declared.program.Program as typed
use Rattle.typed_tree.specs.declared.program.TypedFunction.{TypedFunction}
use Rattle.compiler_relation.specs.Representation.{Absent, representation_of, kind_of}
use Rattle.source_meaning.specs.object_values_declared.object.Owner.TheVariants.{Script}
use Rattle.compiler_relation.specs.Correct.{IsCodeOf}
use Rattle.compiler_relation.specs.Placed.{untrapped, CatchesCover, StmtsIn}
use Rattle.compiler_relation.specs.Stands.{EndAt, locals_stmts, traps_stmts, ArePresent, Compiled, representations_of, scope_of, no_jumps, all_fall, end_stmts, end_end, next_stmts, kinds_of}
use Rattle.codegen.specs.Checks.{denoted}
use Rattle.codegen.specs.Labels.{settled_line}
use Rattle.codegen.specs.Worklist.{Run, End, Meets, Back, entry, scope_in, next_in}
use Rattle.codegen.specs.Sound.{Sound, variable}
use Rattle.codegen.specs.Functions.{FunStands, Begun, Finished, Written, InScope}
use Rattle.codegen.specs.declared.config.Config.{Config}
use Rattle.codegen.specs.declared.symbols.Entry as d
use Rattle.codegen.proofs.Known.{parameters_named}
use Rattle.codegen.proofs.Parts.{drop_one, drop_end}
use Rattle.codegen.proofs.Locals.{locals_of_body}

pub got_mapped : {A B : Type 0} (f : A → B) (xs : List A) (at : ℕ) (x : A) → slice_get xs at ≡ Some x → slice_get (map f xs) at ≡ Some (f x)
got_mapped f [] at x e = absurd cc
got_mapped f (y ∷ xs) zero x e = let h : y ≡ x = cc in ap (λ x. Some (f x)) h
got_mapped f (y ∷ xs) (suc at) x e = got_mapped f xs at x e

-- the item at a place of a list, and that there is none past its end
pub got_item : {A : Type 0} (xs ys : List A) (at : ℕ) (x : A) → xs ≡ ys → at < length xs → x ≡ get_or xs at x → slice_get ys at ≡ Some x
got_item xs ys at x same within is = ap (λ zs. slice_get zs at) (sym same) ∙ slice_get-get_or xs at x within ∙ ap (λ y. Some y) (sym is)

pub got_none : {A : Type 0} (xs ys : List A) (at : ℕ) → xs ≡ ys → length xs ≤ at → slice_get ys at ≡ None
got_none xs ys at same past = ap (λ zs. slice_get zs at) (sym same) ∙ past_end xs at past
  where
    past_end : {A : Type 0} (xs : List A) (at : ℕ) → length xs ≤ at → slice_get xs at ≡ None
    past_end [] at past = refl
    past_end (x ∷ xs) zero past = absurd (omega (arith, past))
    past_end (x ∷ xs) (suc at) past = past_end xs at (omega (arith, past))

pub length_mapped : {A B : Type 0} (f : A → B) (xs : List A) → length (map f xs) ≡ length xs
length_mapped f [] = refl
length_mapped f (x ∷ xs) = ap suc (length_mapped f xs)

pub function_stands : (funs : Program) (fun : Fun) (c c' : Config) (code : FunCode) → CatchesCover → Begun fun c → Back funs (Run fun.body None ∷ End fun.result ∷ []) c [] c' → Finished c' fun.result code → FunStands funs code fun
function_stands funs fun c c' code cover begun back finished =
    let m : Meets funs code c'.labels [] c' = record {
      holds = record {
        lines = λ at l e. ap (λ ls. slice_get ls at) finished.lines ∙ got_mapped (settled_line c'.labels) c'.lines at l e;
        bound = λ label line e. e;
        params = finished.params;
        locals = λ at kind e. ap (λ ls. slice_get ls at) finished.locals ∙ e;
      };
      stand = (
        ap length finished.lines ∙ length_mapped (settled_line c'.labels) c'.lines,
        finished.traps ∙ sym (append-nil c'.traps),
        omega (arith, ap length finished.params, ap length finished.locals),
      );
    } in
    let s = back.by code c'.labels m in
    let params : code.params ≡ kinds_of fun.params = s.holds.params ∙ begun.params in
    let first : length code.params ≡ length fun.params = ap length params ∙ length_mapped (λ (x : Variable). kind_of x.of) fun.params in
    let n : next_in c ≡ length fun.params = omega (arith, ap length begun.params, length_mapped (λ (x : Variable). kind_of x.of) fun.params, ap length begun.locals) in
    let p : length c.lines ≡ 0 = ap length begun.lines in
    let placed =
    subst (λ p. StmtsIn funs (untrapped code) (representation_of fun.result) (scope_of fun.params 0 []) (length fun.params) no_jumps p fun.body) p
    (subst (λ n. StmtsIn funs (untrapped code) (representation_of fun.result) (scope_of fun.params 0 []) n no_jumps (length c.lines) fun.body) n
    (subst (λ g. StmtsIn funs (untrapped code) (representation_of fun.result) g (next_in c) no_jumps (length c.lines) fun.body) begun.scope
    (subst (λ k. StmtsIn funs (untrapped code) k (scope_in c) (next_in c) no_jumps (length c.lines) fun.body) begun.result s.stand.0))) in
    let ends = subst (λ p. EndAt (untrapped code) (all_fall fun.body) (end_stmts p fun.body) fun.result) p s.stand.1.2.0 in
    let traps : code.traps ≡ traps_stmts 0 fun.body =
    s.stand.1.2.1.1 ∙ ap (λ ts. ts ++ (traps_stmts (length c.lines) fun.body ++ [])) begun.traps ∙ append-nil (traps_stmts (length c.lines) fun.body) ∙ ap (λ p. traps_stmts p fun.body) p in
    let locals : code.locals ≡ locals_stmts fun.body =
    locals_of_body funs (untrapped code) (representation_of fun.result) (scope_of fun.params 0 []) (length fun.params) no_jumps 0 fun.body placed first (s.stand.1.2.1.2 ∙ ap (λ n. next_stmts n fun.body) n) in
    let covered = cover funs code (representation_of fun.result) (scope_of fun.params 0 []) (length fun.params) fun.body fun.result traps placed ends in
    record {
      loops = finished.loops;
      params = params;
      present = begun.present;
      result = finished.result;
      locals = locals;
      stands = covered.0;
      ends = covered.1;
      lines = s.stand.1.2.1.0 ∙ ap (λ p. end_end (all_fall fun.body) (end_stmts p fun.body) fun.result) p;
      traps = traps;
    }

-- ---- parameters

pub record Ahead (all : List Named) (at : ℕ) (old now : List Slot) (scope : List d.Entry) : Type 0 where
  pub names : scope_of (map variable_of (drop at all)) at (map entry scope) ≡ scope_of (map variable_of all) 0 []
  pub kinds : now ++ kinds_of (map variable_of (drop at all)) ≡ old ++ kinds_of (map variable_of all)
  pub present : ArePresent (representations_of (map variable_of (drop at all))) → ArePresent (representations_of (map variable_of all))

pub ahead_start : (all : List Named) (old : List Slot) (scope : List d.Entry) → scope ≡ [] → Ahead all 0 old old scope
ahead_start all old scope e = record { names = ap (λ g. scope_of (map variable_of all) 0 (map entry g)) e; kinds = refl; present = λ h. h }

pub ahead_more : (all : List Named) (at : ℕ) (old now now' : List Slot) (scope scope' : List d.Entry) (x : Named) → slice_get all at ≡ Some x → Ahead all at old now scope
    → representation_of x.of ≢ Absent → map entry scope' ≡ record { name = x.name; of = x.of; local = at } ∷ map entry scope → now' ≡ now ++ kind_of x.of ∷ [] → Ahead all (at + 1) old now' scope'
ahead_more all at old now now' scope scope' x is a present names kinds =
    let front = drop_one at all x is in
    record {
      names = ap (λ g. scope_of (map variable_of (drop (at + 1) all)) (at + 1) g) names
          ∙ ap (λ n. scope_of (map variable_of (drop (at + 1) all)) n (record { name = x.name; of = x.of; local = at } ∷ map entry scope)) (add-one at)
          ∙ sym (ap (λ (xs : List Named). scope_of (map variable_of xs) at (map entry scope)) front) ∙ a.names;
      kinds =
          ap (λ ks. ks ++ kinds_of (map variable_of (drop (at + 1) all))) kinds ∙ append_assoc now (kind_of x.of ∷ []) (kinds_of (map variable_of (drop (at + 1) all)))
          ∙ sym (ap (λ (xs : List Named). now ++ kinds_of (map variable_of xs)) front) ∙ a.kinds;
      present = λ h. a.present (subst (λ (xs : List Named). ArePresent (representations_of (map variable_of xs))) (sym front) (present, h));
    }

pub ahead_end : (all : List Named) (at : ℕ) (old now : List Slot) (scope : List d.Entry) → slice_get all at ≡ None → Ahead all at old now scope → InScope all old now scope
ahead_end all at old now scope is a =
    let none = drop_end at all is in
    record {
      names = sym (ap (λ (xs : List Named). scope_of (map variable_of xs) at (map entry scope)) none) ∙ a.names;
      kinds = sym (append-nil now) ∙ sym (ap (λ (xs : List Named). now ++ kinds_of (map variable_of xs)) none) ∙ a.kinds;
      present = a.present (subst (λ (xs : List Named). ArePresent (representations_of (map variable_of xs))) (sym none) tt);
    }

pub begun : (f : TypedFunction) (c : Config) (old : List Slot) → old ≡ [] → denoted c.result ≡ representation_of f.result → InScope f.parameters old c.params c.scope → c.locals ≡ [] → c.traps ≡ [] → c.lines ≡ [] → c.labels ≡ [] → c.flows ≡ [] → Begun (fun_of f) c
begun f c old none result a locals traps lines labels flows = record {
  result = result;
  params = a.kinds ∙ ap (λ ks. ks ++ kinds_of (map variable_of f.parameters)) none;
  locals = locals;
  traps = traps;
  lines = lines;
  scope = a.names;
  labels = labels;
  flows = flows;
  present = a.present;
}

-- ---- parameters and functions of a well-formed program

pub has_values_at : (all : List Named) (at : ℕ) (x : Named) → slice_get all at ≡ Some x → HaveValues (map variable_of all) → HasValues x.of
has_values_at [] at x is h = absurd cc
has_values_at (y ∷ all) zero x is h = let same : y ≡ x = cc in subst (λ (x : Named). HasValues x.of) same h.0
has_values_at (y ∷ all) (suc at) x is h = has_values_at all at x is h.1

pub sound_start : (funs : Known) (fun : Fun) (c : Config) → Begun fun c → FunAgrees funs fun → Sound funs (Run fun.body None ∷ End fun.result ∷ []) c
sound_start funs fun c begun h = record {
  result = fun.result;
  representation = begun.result;
  agree = (subst (λ (g : List Variable). StmtsAgree funs fun.result false g fun.body) (sym (ap (map variable) begun.scope ∙ parameters_named fun.params 0 [])) h.body, tt);
  free = tt;
}

-- ---- programs

pub written_more : (funs : Program) (fs : List Fun) (codes : List FunCode) (f : Fun) (code : FunCode) → Written funs fs codes → FunStands funs code f → Written funs (fs ++ f ∷ []) (codes ++ code ∷ [])
written_more funs [] [] f code w s = (s, tt)
written_more funs [] (x ∷ codes) f code w s = absurd w
written_more funs (g ∷ fs) [] f code w s = absurd w
written_more funs (g ∷ fs) (x ∷ codes) f code w s = (w.0, written_more funs fs codes f code w.1 s)

code_at : (funs : Program) (fs : List Fun) (codes : List FunCode) → Written funs fs codes → (number : ℕ) (fun : Fun) → slice_get fs number ≡ Some fun → (body : FunCode) × (slice_get codes number ≡ Some body) × FunStands funs body fun
code_at funs [] [] w number fun e = absurd cc
code_at funs [] (x ∷ codes) w number fun e = absurd w
code_at funs (g ∷ fs) [] w number fun e = absurd w
code_at funs (g ∷ fs) (x ∷ codes) w zero fun e = let h : g ≡ fun = cc in (x, refl, subst (λ fun. FunStands funs x fun) h w.0)
code_at funs (g ∷ fs) (x ∷ codes) w (suc number) fun e = code_at funs fs codes w.1 number fun e

as_many : (funs : Program) (fs : List Fun) (codes : List FunCode) → Written funs fs codes → length codes ≡ length fs
as_many funs [] [] w = refl
as_many funs [] (x ∷ codes) w = absurd w
as_many funs (g ∷ fs) [] w = absurd w
as_many funs (g ∷ fs) (x ∷ codes) w = ap suc (as_many funs fs codes w.1)

pub all_written : (funs : Program) (codes : List FunCode) → Written funs funs codes → Compiled Script funs codes
all_written funs codes w = record {
  each = λ number fun e.
      let a = code_at funs funs codes w number fun e in
      record { body = a.0; is = a.1; loops = a.2.loops; params = a.2.params; present = a.2.present; result = a.2.result; locals = a.2.locals; stands = a.2.stands; ends = a.2.ends; lines = a.2.lines; traps = a.2.traps };
  many = as_many funs funs codes w;
}

taken_at : {A : Type 0} (at : ℕ) (all : List A) (one : A) → slice_get all at ≡ Some one → take (suc at) all ≡ take at all ++ one ∷ []
taken_at zero [] one is = absurd cc
taken_at zero (x ∷ all) one is = ap (λ y. y ∷ []) cc
taken_at (suc at) [] one is = absurd cc
taken_at (suc at) (x ∷ all) one is = ap (λ ys. x ∷ ys) (taken_at at all one is)

taken_all : {A : Type 0} (at : ℕ) (all : List A) → slice_get all at ≡ None → take at all ≡ all
taken_all zero [] is = refl
taken_all zero (x ∷ all) is = absurd cc
taken_all (suc at) [] is = refl
taken_all (suc at) (x ∷ all) is = ap (λ ys. x ∷ ys) (taken_all at all is)

map_snoc : {A B : Type 0} (f : A → B) (xs : List A) (x : A) → map f (xs ++ x ∷ []) ≡ map f xs ++ f x ∷ []
map_snoc f [] x = refl
map_snoc f (y ∷ xs) x = ap (λ ys. f y ∷ ys) (map_snoc f xs x)

pub functions_more : (p : typed.Program) (at : ℕ) (f : TypedFunction) (codes codes' : List FunCode) (code : FunCode) → slice_get p.functions at ≡ Some f → codes' ≡ codes ++ code ∷ []
    → FunStands (program_of p) code (fun_of f) → Written (program_of p) (map fun_of (p.main ∷ take at p.functions)) codes → Written (program_of p) (map fun_of (p.main ∷ take (at + 1) p.functions)) codes'
functions_more p at f codes codes' code is e s w =
    let front : map fun_of (p.main ∷ take (at + 1) p.functions) ≡ map fun_of (p.main ∷ take at p.functions) ++ fun_of f ∷ [] =
    ap (λ n. map fun_of (p.main ∷ take n p.functions)) (add-one at) ∙ ap (λ fs. map fun_of (p.main ∷ fs)) (taken_at at p.functions f is) ∙ ap (λ fs. fun_of p.main ∷ fs) (map_snoc fun_of (take at p.functions) f) in
    subst (λ (fs : List Fun). Written (program_of p) fs codes') (sym front)
    (subst (λ (cs : List FunCode). Written (program_of p) (map fun_of (p.main ∷ take at p.functions) ++ fun_of f ∷ []) cs) (sym e) (written_more (program_of p) (map fun_of (p.main ∷ take at p.functions)) codes (fun_of f) code w s))

pub functions_all : (p : typed.Program) (at : ℕ) (codes : List FunCode) → slice_get p.functions at ≡ None → Written (program_of p) (map fun_of (p.main ∷ take at p.functions)) codes → IsCodeOf p codes
functions_all p at codes is w = all_written (program_of p) codes (subst (λ (fs : List TypedFunction). Written (program_of p) (map fun_of (p.main ∷ fs)) codes) (taken_all at p.functions is) w)
