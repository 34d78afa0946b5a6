-- Headers, bodies and whole programs.
use Rattle.std.proofs.Common.{◌≡◌, ◌≢◌, ℕ, zero, suc, ◌+◌, Bool, true, false, ◌&&◌, ◌||◌, not, List, [], ◌∷◌, ◌++◌, map, length, Option, Some, None, Ok, refl, sym, ap, ◌∙◌, subst, arith, length-append}
use Rattle.std.specs.Prelude.{slice_get, if◌then◌else◌}
use Rattle.std.specs.Str.{bytes_eq}
use Rattle.std.proofs.lemmas.Slice.Eq.{bytes_eq-Decides}
use Rattle.std.proofs.lemmas.Bool.{false≢true}
use Rattle.pl_types.specs.declared.ty.Ty.{Ty}
use Rattle.pl_types.specs.declared.ty.Ty.TheVariants as t
use Rattle.pl_tree.specs.declared.tree.Function.{Function}
use Rattle.pl_tree.specs.declared.tree.Parameter.{Parameter}
use Rattle.pl_tree.specs.declared.tree.Statement.{Statement}
use Rattle.pl_tree.specs.declared.tree.Tree.{Tree}
use Rattle.pl_tree.specs.declared.tree.TypeName.{TypeName}
use Rattle.typed_tree.specs.declared.program.Named.{Named}
use Rattle.typed_tree.specs.declared.program.Program as typed
use Rattle.typed_tree.specs.declared.program.TypedFunction.{TypedFunction}
use Rattle.typing_rules.specs.declared.header.ContextTypes.{ContextTypes}
use Rattle.typing_rules.specs.declared.header.Header.{Header}
use Rattle.typing_rules.specs.declared.part.Step.{Step}
use Rattle.typing_rules.specs.declared.scopes.Standing.{Standing}
use Rattle.typing_rules.specs.declared.scopes.Standing.TheVariants as standing
use Rattle.typing_rules.specs.Outcomes.{refuse, bind}
use Rattle.typing_rules.specs.Doing.{Whole}
use Rattle.typing_rules.specs.Rules.Types.{type_of, result_of, names_void}
use Rattle.typing_rules.specs.Rules.Nodes.{is_void}
use Rattle.typing_rules.specs.Rules.Calls.{function_of as found_function}
use Rattle.typing_rules.specs.Rules.Statements.{last_escapes, statements_of}
use Rattle.typing_rules.specs.Rules.Functions.{parameter_type, is_named, named, parameter, parameters, header, is_there, header_of, headers, entries, function_start, main_start, function, finished, main}
use Rattle.typing_rules.specs.Typing.{doer, braces, statements, ran, function_of, functions, main_of, program, typing_of}
use Rattle.source_typing.specs.Tree.{Fun, Program, Stmts, Finish}
use Rattle.source_typing.specs.Programs.{before, stmts_of, variable_of, fun_of, program_of}
use Rattle.source_typing.specs.Types.{HasValues}
use Rattle.allowlist.specs.Allow.{AllowList}
use Rattle.source_typing.specs.Agreeing.{Known as Script, known, types_in, StmtsAgree, scope_of, HaveValues as VariablesHaveValues, FunAgrees, WellFormed}
use Rattle.source_typing.specs.Reached.{StmtsReached, Reached}
use Rattle.typing_soundness.specs.Laws.{IsNew, AreDistinct, HaveValues, IsContext}
use Rattle.typing_soundness.proofs.Types.{IsBuilt, built_values, built_part, IsOfPart, void_part, part_aim, result_aim}
use Rattle.typing_soundness.proofs.Parts.{passed, accepted, settled}
use Rattle.typing_soundness.proofs.Names.{seen, in_sight, Fresh, Distinct, AllBuilt, Heads}
use Rattle.typing_soundness.proofs.Values.{type_is}
use Rattle.typing_soundness.proofs.Compounds.{AllSteps, statements_are}
use Rattle.typing_soundness.proofs.Tree.{statement_is, block_is}

-- ---- names that a body begins with

sight_of : (s : Standing) (ns : List Named) → map seen (entries s ns) ≡ map variable_of ns
sight_of s [] = refl
sight_of s (n ∷ ns) = ap (λ xs. variable_of n ∷ xs) (sight_of s ns)

fresh_entries : (s : Standing) (x : List ℕ) (ns : List Named) → IsNew x ns → Fresh x (entries s ns)
fresh_entries s x [] h = tt
fresh_entries s x (n ∷ ns) h = ((λ same. h.0 (sym same)), fresh_entries s x ns h.1)

distinct_entries : (s : Standing) (ns : List Named) → AreDistinct ns → Distinct (entries s ns)
distinct_entries s [] h = tt
distinct_entries s (n ∷ ns) h = (fresh_entries s n.name ns h.0, distinct_entries s ns h.1)

values_of : (ns : List Named) → HaveValues ns → VariablesHaveValues (map variable_of ns)
values_of [] h = tt
values_of (n ∷ ns) h = (h.0, values_of ns h.1)

types_are : (ns : List Named) → types_in (map variable_of ns) ≡ map (λ (n : Named). n.of) ns
types_are [] = refl
types_are (n ∷ ns) = ap (λ xs. n.of ∷ xs) (types_are ns)

-- ---- headers

pub record HeaderIs (h : Header) : Type 0 where
  pub distinct : AreDistinct h.parameters
  pub present : HaveValues h.parameters
  pub all_built : AllBuilt h.parameters
  pub built : IsOfPart h.result

new_name : (x : List ℕ) (ns : List Named) → is_named x ns ≡ false → IsNew x ns
new_name x [] is = tt
new_name x (n ∷ ns) is = pick (new_name x ns) (bytes_eq n.name x) refl is
  where
    pick : (is_named x ns ≡ false → IsNew x ns) → (c : Bool) → bytes_eq n.name x ≡ c → (c || is_named x ns) ≡ false → IsNew x (n ∷ ns)
    pick rest true same is = absurd (false≢true (sym is))
    pick rest false differ is = ((λ same. absurd (false≢true (sym differ ∙ (bytes_eq-Decides n.name x).1 (sym same)))), rest is)

new_behind : (x : List ℕ) (ns : List Named) (n : Named) → IsNew x ns → x ≢ n.name → IsNew x (ns ++ n ∷ [])
new_behind x [] n h other = (other, tt)
new_behind x (m ∷ ns) n h other = (h.0, new_behind x ns n h.1 other)

names_behind : (ns : List Named) (n : Named) → AreDistinct ns → IsNew n.name ns → AreDistinct (ns ++ n ∷ [])
names_behind [] n d h = (tt, tt)
names_behind (m ∷ ns) n d h = (new_behind m.name ns n d.0 (λ same. h.0 (sym same)), names_behind ns n d.1 h.1)

values_behind : (ns : List Named) (n : Named) → HaveValues ns → HasValues n.of → HaveValues (ns ++ n ∷ [])
values_behind [] n h v = (v, tt)
values_behind (m ∷ ns) n h v = (h.0, values_behind ns n h.1 v)

built_behind : (ns : List Named) (n : Named) → AllBuilt ns → IsBuilt n.of → AllBuilt (ns ++ n ∷ [])
built_behind [] n h b = (b, tt)
built_behind (m ∷ ns) n h b = (h.0, built_behind ns n h.1 b)

parameter_is : (at : ℕ) (o : Option TypeName) (of : Ty) → parameter_type at o ≡ Ok of → IsBuilt of
parameter_is at None of e = cc
parameter_is at (Some name) of e = type_is name of e

record Grown (before : List Named) (n : Named) : Type 0 where
  is : IsNew n.name before
  built : IsBuilt n.of

named_if : (c : Bool) (number at : ℕ) (before : List Named) (n m : Named) → (if c then refuse number at else accepted n) ≡ accepted m → (c ≡ false → Grown before n) → Grown before m
named_if true number at before n m e h = cc
named_if false number at before n m e h = settled (Grown before) n m e (h refl)

parameter_grows : (p : Parameter) (before : List Named) (n : Named) → parameter p before ≡ Ok n → Grown before n
parameter_grows p before n e =
    let a = passed (parameter_type p.name.at p.of) (λ of. if is_named p.name.spelling before then refuse _ p.name.at else accepted (named p.name.spelling of)) n e in
    named_if (is_named p.name.spelling before) _ p.name.at before (named p.name.spelling a.given) n a.then' (λ no'.
    record { is = new_name p.name.spelling before no'; built = parameter_is p.name.at p.of a.given a.first })

record Names (ns : List Named) : Type 0 where
  distinct : AreDistinct ns
  present : HaveValues ns
  all_built : AllBuilt ns

parameters_are : (ps : List Parameter) (before ns : List Named) → parameters ps before ≡ Ok ns → Names before → Names ns
parameters_are [] before ns e h = settled Names before ns e h
parameters_are (p ∷ ps) before ns e h =
    let a = passed (parameter p before) (λ n. parameters ps (before ++ n ∷ [])) ns e in
    let one = parameter_grows p before a.given a.first in
    parameters_are ps (before ++ a.given ∷ []) ns a.then' (record { distinct = names_behind before a.given h.distinct one.is; present = values_behind before a.given h.present (built_values a.given.of one.built); all_built = built_behind before a.given h.all_built one.built })

result_if : (c : Bool) (name : TypeName) (of : Ty) → (if c then accepted t.Void else type_of name) ≡ accepted of → IsOfPart of
result_if true name of e = settled IsOfPart t.Void of e void_part
result_if false name of e = built_part of (type_is name of e)

header_if : (c : Bool) (number at : ℕ) (h g : Header) → (if c then refuse number at else accepted h) ≡ accepted g → HeaderIs h → HeaderIs g
header_if true number at h g e x = cc
header_if false number at h g e x = settled HeaderIs h g e x

header_is : (f : Function) (before : List Header) (h : Header) → header_of f before ≡ Ok h → HeaderIs h
header_is f before h e =
    let a = passed (result_of f.result) (λ result. bind (parameters f.parameters []) (λ ps. if is_there (found_function before f.name.spelling (length ps)) then refuse _ f.name.at else accepted (header f.name.spelling ps result))) h e in
    let b = passed (parameters f.parameters []) (λ ps. if is_there (found_function before f.name.spelling (length ps)) then refuse _ f.name.at else accepted (header f.name.spelling ps a.given)) h a.then' in
    let names = parameters_are f.parameters [] b.given b.first (record { distinct = tt; present = tt; all_built = tt }) in
    header_if (is_there (found_function before f.name.spelling (length b.given))) _ f.name.at (header f.name.spelling b.given a.given) h b.then'
    (record { distinct = names.distinct; present = names.present; all_built = names.all_built; built = result_if (names_void f.result) f.result a.given a.first })

abbrev AllHeaders : List Header → Type 0
AllHeaders [] = Unit {0}
AllHeaders (h ∷ hs) = HeaderIs h × AllHeaders hs

all_behind : (hs : List Header) (h : Header) → AllHeaders hs → HeaderIs h → AllHeaders (hs ++ h ∷ [])
all_behind [] h a x = (x, tt)
all_behind (g ∷ hs) h a x = (a.0, all_behind hs h a.1 x)

record HeadersAre (count : ℕ) (hs : List Header) : Type 0 where
  all : AllHeaders hs
  many : length hs ≡ count

headers_are : (fs : List Function) (before hs : List Header) → headers fs before ≡ Ok hs → AllHeaders before → HeadersAre (length before + length fs) hs
headers_are [] before hs e h = settled (HeadersAre (length before + 0)) before hs e (record { all = h; many = omega arith })
headers_are (f ∷ fs) before hs e h =
    let a = passed (header_of f before) (λ g. headers fs (before ++ g ∷ [])) hs e in
    let rest = headers_are fs (before ++ a.given ∷ []) hs a.then' (all_behind before a.given h (header_is f before a.given a.first)) in
    record { all = rest.all; many = omega (arith, rest.many, length-append before (a.given ∷ [])) }

header_at : (hs : List Header) (number : ℕ) (h : Header) → AllHeaders hs → slice_get hs number ≡ Some h → HeaderIs h
header_at [] number h a is = cc
header_at (g ∷ hs) zero h a is = let same : g ≡ h = cc in subst HeaderIs same a.0
header_at (g ∷ hs) (suc number) h a is = header_at hs number h a.1 is

-- ---- what a function is

record Made (f : Function) (h : Header) (x : TypedFunction) : Type 0 where
  steps : List Step
  is : x ≡ function f h steps

made_if : (c : Bool) (number at : ℕ) (f : Function) (h : Header) (ys : List Step) (x : TypedFunction) → (if c then refuse number at else accepted (function f h ys)) ≡ accepted x → x ≡ function f h ys
made_if true number at f h ys x e = cc
made_if false number at f h ys x e = let same : function f h ys ≡ x = cc in sym same

finished_is : (f : Function) (h : Header) (ys : List Step) (x : TypedFunction) → finished f h ys ≡ Ok x → x ≡ function f h ys
finished_is f h ys x e = made_if (not (is_void h.result) && not (last_escapes ys)) _ f.name.at f h ys x e

-- a function agrees in its types, and each of its statements is reached
record FunIs (funs : Script) (fun : Fun) : Type 0 where
  agrees : FunAgrees funs fun
  reached : StmtsReached fun.body

record ProgramIs (funs : Script) : Type 0 where
  each : (number : ℕ) (fun : Fun) → slice_get funs.functions number ≡ Some fun → FunIs funs fun

module _ (allow : AllowList) (hs : List Header) where
  record FunctionIs (h : Header) (x : TypedFunction) : Type 0 where
    parameters : x.parameters ≡ h.parameters
    result : x.result ≡ h.result

  shaped : (f : Function) (h : Header) (x : TypedFunction) → function_of allow hs f h ≡ Ok x → FunctionIs h x
  shaped f h x e =
      let a = passed (ran (braces allow hs f.body).steps (function_start h)) (λ whole. finished f h whole.0) x e in
      let is = finished_is f h a.given.0 x a.then' in
      record { parameters = ap (λ (x : TypedFunction). x.parameters) is; result = ap (λ (x : TypedFunction). x.result) is }

  -- each header has its function
  record At (xs : List TypedFunction) (number : ℕ) (h : Header) : Type 0 where
    fun : TypedFunction
    is : slice_get xs number ≡ Some fun
    shape : FunctionIs h fun

  at_of : (xs ys : List TypedFunction) (number : ℕ) (h : Header) → xs ≡ ys → At xs number h → At ys number h
  at_of xs ys number h same x = subst (λ xs. At xs number h) same x

  functions_at : (fs : List Function) (rest : List Header) (xs : List TypedFunction) → functions allow hs fs rest ≡ Ok xs → length rest ≡ length fs → (number : ℕ) (h : Header) → slice_get rest number ≡ Some h → At xs number h
  functions_at [] [] xs e l number h is = cc
  functions_at [] (g ∷ rest) xs e l number h is = absurd (omega (arith, l))
  functions_at (f ∷ fs) [] xs e l number h is = cc
  functions_at (f ∷ fs) (g ∷ rest) xs e l zero h is =
      let a = passed (function_of allow hs f g) (λ x. bind (functions allow hs fs rest) (λ xs. accepted (x ∷ xs))) xs e in
      let b = passed (functions allow hs fs rest) (λ ys. accepted (a.given ∷ ys)) xs a.then' in
      let same : g ≡ h = cc in
      settled (λ xs. At xs zero h) (a.given ∷ b.given) xs b.then' (record { fun = a.given; is = refl; shape = subst (λ h. FunctionIs h a.given) same (shaped f g a.given a.first) })
  functions_at (f ∷ fs) (g ∷ rest) xs e l (suc number) h is =
      let a = passed (function_of allow hs f g) (λ x. bind (functions allow hs fs rest) (λ xs. accepted (x ∷ xs))) xs e in
      let b = passed (functions allow hs fs rest) (λ ys. accepted (a.given ∷ ys)) xs a.then' in
      let there = functions_at fs rest b.given b.first (omega (arith, l)) number h is in
      settled (λ xs. At xs (suc number) h) (a.given ∷ b.given) xs b.then' (record { fun = there.fun; is = there.is; shape = there.shape })

  -- ---- bodies agree

  module _ (script : Program) (heads : Heads (known allow script) hs) where
    abbrev funs : Script
    funs = known allow script

    began : (s : Standing) (ns : List Named) (of : Ty) (xs : Stmts) → StmtsAgree funs of false (in_sight (entries s ns)) xs → StmtsAgree funs of false (scope_of (map variable_of ns) []) xs
    began s ns of xs h = subst (λ vs. StmtsAgree funs of false (scope_of vs []) xs) (sight_of s ns) h

    body_is : (f : Function) (h : Header) (x : TypedFunction) → HeaderIs h → function_of allow hs f h ≡ Ok x → FunIs funs (fun_of x)
    body_is f h x good e =
        let a = passed (ran (braces allow hs f.body).steps (function_start h)) (λ whole. finished f h whole.0) x e in
        let is = finished_is f h a.given.0 x a.then' in
        let got = (block_is funs hs heads f.body).by (function_start h) (λ ys t. accepted (ys, t)) a.given (distinct_entries standing.Variable h.parameters good.distinct, part_aim h.result good.built) a.first in
        let agrees = began standing.Variable h.parameters h.result (stmts_of (statements_of got.given)) (got.leads Finish tt) in
        let same : got.given ≡ a.given.0 = settled (λ (p : Whole). got.given ≡ p.0) (got.given, got.state) a.given got.goes refl in
        subst (λ (x : TypedFunction). FunIs funs (fun_of x)) (sym is) (record {
          agrees = record {
            present = values_of h.parameters good.present;
            body = subst (λ ys. StmtsAgree funs h.result false (scope_of (map variable_of h.parameters) []) (stmts_of (statements_of ys))) same agrees;
          };
          reached = subst (λ ys. StmtsReached (stmts_of (statements_of ys))) same (got.reaches.reached Finish tt (λ e. refl));
        })

    abbrev AllAgree : List TypedFunction → Type 0
    AllAgree [] = Unit {0}
    AllAgree (x ∷ xs) = FunIs funs (fun_of x) × AllAgree xs

    bodies_are : (fs : List Function) (rest : List Header) (xs : List TypedFunction) → functions allow hs fs rest ≡ Ok xs → AllHeaders rest → AllAgree xs
    bodies_are [] rest xs e h = settled AllAgree [] xs e tt
    bodies_are (f ∷ fs) [] xs e h = settled AllAgree [] xs e tt
    bodies_are (f ∷ fs) (g ∷ rest) xs e h =
        let a = passed (function_of allow hs f g) (λ x. bind (functions allow hs fs rest) (λ xs. accepted (x ∷ xs))) xs e in
        let b = passed (functions allow hs fs rest) (λ ys. accepted (a.given ∷ ys)) xs a.then' in
        settled AllAgree (a.given ∷ b.given) xs b.then' (body_is f g a.given h.0 a.first, bodies_are fs rest b.given b.first h.1)

    all_statements : (all : List Statement) → AllSteps funs (map (doer allow hs) all)
    all_statements [] = tt
    all_statements (x ∷ xs) = (statement_is funs hs heads x, all_statements xs)

    main_is : (context : ContextTypes) (all : List Statement) (x : TypedFunction) → IsContext context → main_of allow context hs all ≡ Ok x → FunIs funs (fun_of x)
    main_is context all x good e =
        let a = passed (ran (statements true false (map (doer allow hs) all)) (main_start context)) (λ whole. accepted (main context whole.0)) x e in
        let got = (statements_are funs true false (map (doer allow hs) all) (all_statements all)).by (main_start context) (λ ys t. accepted (ys, t)) a.given (distinct_entries standing.Fixed context.variables good.distinct, result_aim context.result good.result) a.first in
        let agrees = began standing.Fixed context.variables context.result (stmts_of (statements_of got.given)) (got.leads Finish tt) in
        let same : got.given ≡ a.given.0 = settled (λ (p : Whole). got.given ≡ p.0) (got.given, got.state) a.given got.goes refl in
        settled (λ (x : TypedFunction). FunIs funs (fun_of x)) (main context a.given.0) x a.then' (record {
          agrees = record {
            present = values_of context.variables good.present;
            body = subst (λ ys. StmtsAgree funs context.result false (scope_of (map variable_of context.variables) []) (stmts_of (statements_of ys))) same agrees;
          };
          reached = subst (λ ys. StmtsReached (stmts_of (statements_of ys))) same (got.reaches.0.reached Finish tt (λ e. refl));
        })

-- ---- the whole program

mapped : (xs : List TypedFunction) (number : ℕ) (x : TypedFunction) → slice_get xs number ≡ Some x → slice_get (map fun_of xs) number ≡ Some (fun_of x)
mapped [] number x is = cc
mapped (y ∷ xs) zero x is = let same : y ≡ x = cc in ap (λ (x : TypedFunction). Some (fun_of x)) same
mapped (y ∷ xs) (suc number) x is = mapped xs number x is

each_agrees : (allow : AllowList) (hs : List Header) (all : Program) (heads : Heads (known allow all) hs) (xs : List TypedFunction) (number : ℕ) (fun : Fun) → AllAgree allow hs all heads xs → slice_get (map fun_of xs) number ≡ Some fun → FunIs (known allow all) fun
each_agrees allow hs all heads [] number fun a is = cc
each_agrees allow hs all heads (x ∷ xs) zero fun a is = let same : fun_of x ≡ fun = cc in subst (FunIs (known allow all)) same a.0
each_agrees allow hs all heads (x ∷ xs) (suc number) fun a is = each_agrees allow hs all heads xs number fun a.1 is

heads_of : (allow : AllowList) (hs : List Header) (fs : List Function) (xs : List TypedFunction) (m : TypedFunction) → functions allow hs fs hs ≡ Ok xs → HeadersAre (length fs) hs → Heads (known allow (program_of (program xs m))) hs
heads_of allow hs fs xs m e h = record {
  each = λ number head is.
      let there = functions_at allow hs fs hs xs e h.many number head is in
      record {
        fun = fun_of there.fun;
        is = mapped xs number there.fun there.is;
        takes = types_are there.fun.parameters ∙ ap (λ ns. map (λ (n : Named). n.of) ns) there.shape.parameters;
        gives = there.shape.result;
        built = (header_at hs number head h.all is).built;
        all_built = (header_at hs number head h.all is).all_built;
      };
}

formed : (allow : AllowList) (hs : List Header) (fs : List Function) (all : List Statement) (context : ContextTypes) (xs : List TypedFunction) (m : TypedFunction) → IsContext context
    → functions allow hs fs hs ≡ Ok xs → main_of allow context hs all ≡ Ok m → HeadersAre (length fs) hs → ProgramIs (known allow (program_of (program xs m)))
formed allow hs fs all context xs m good made ended h =
    let script = program_of (program xs m) in
    let heads = heads_of allow hs fs xs m made h in
    let bodies = bodies_are allow hs script heads fs hs xs made h.all in
    let first = main_is allow hs script heads context all m good ended in
    record { each = elim [ zero ↦ λ fun is. (let same : fun_of m ≡ fun = cc in subst (FunIs (known allow script)) same first) | suc number ↦ λ fun is. each_agrees allow hs script heads xs number fun bodies is ] }

sound : (allow : AllowList) (context : ContextTypes) (tree : Tree) (p : typed.Program) → IsContext context → typing_of allow context tree ≡ Ok p → ProgramIs (known allow (program_of p))
sound allow context tree p good e =
    let a = passed (headers tree.functions []) (λ hs. bind (functions allow hs tree.functions hs) (λ fs. bind (main_of allow context hs tree.statements) (λ m. accepted (program fs m)))) p e in
    let b = passed (functions allow a.given tree.functions a.given) (λ fs. bind (main_of allow context a.given tree.statements) (λ m. accepted (program fs m))) p a.then' in
    let c = passed (main_of allow context a.given tree.statements) (λ m. accepted (program b.given m)) p b.then' in
    let h = headers_are tree.functions [] a.given a.first tt in
    settled (λ p. ProgramIs (known allow (program_of p))) (program b.given c.given) p c.then' (formed allow a.given tree.functions tree.statements context b.given c.given good b.first c.first (record { all = h.all; many = omega (arith, h.many) }))

pub typing_is_sound : (allow : AllowList) (context : ContextTypes) (tree : Tree) (p : typed.Program) → IsContext context → typing_of allow context tree ≡ Ok p → WellFormed (known allow (program_of p))
typing_is_sound allow context tree p good e = record { each = λ number fun is. ((sound allow context tree p good e).each number fun is).agrees }

pub typing_reaches : (allow : AllowList) (context : ContextTypes) (tree : Tree) (p : typed.Program) → IsContext context → typing_of allow context tree ≡ Ok p → Reached (program_of p)
typing_reaches allow context tree p good e = record { each = λ number fun is. ((sound allow context tree p good e).each number fun is).reached }
