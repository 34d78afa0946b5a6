-- The contexts are contexts, and the arguments of what their lines are bound to are of the types of their variables.
use Rattle.std.proofs.Common.{◌≡◌, ◌≢◌, ℕ, Bool, true, false, if◌then◌else◌, List, Some, Ok, codes, get_or, length, map, refl, sym, ap, subst, arith}
use Rattle.std.proofs.lemmas.Option.{none-some, same_Some}
use Rattle.pl_types.specs.declared.ty.Ty.{out-Ty}
use Rattle.pl_types.specs.declared.ty.Ty.TheVariants as t
use Rattle.pl_types.specs.declared.primitive.Primitive.TheVariants as prim
use Rattle.object_values.specs.declared.value.Value.{Value}
use Rattle.script_engine.specs.SourceMeaningPrograms.{variable_of}
use Rattle.script_engine.specs.Types.{HaveAll}
use Rattle.script_engine.specs.Agreeing.{types_in}
use Rattle.script_engine.specs.typing_rules_declared.header.ContextTypes.{ContextTypes}
use Rattle.script_engine.specs.TypingSoundnessLaws.{IsContext}
use Rattle.script_engine.proofs.Types.{built_named, def_built, prim_built}
use Rattle.search_ctx.specs.declared.line.SearchKind.{SearchKind}
use Rattle.search_ctx.specs.declared.line.SearchKind.TheVariants as k
use Rattle.job_file.specs.declared.context.JobContext.{JobContext}
use Rattle.job_file.specs.declared.context.JobContext.TheVariants as c
use Rattle.job_file.specs.Jobs.{JobData}
use Rattle.document_replies.specs.write_ctx_declared.keys.WriteKind.{WriteKind}
use Rattle.document_replies.specs.write_ctx_declared.keys.WriteKind.TheVariants as w
use Rattle.document_replies.specs.Changes.{change_context as change_of}
use Rattle.document_replies.specs.Replies.{Context}
use Rattle.document_replies.specs.Searches.{HasArguments, search_context as search_of}
use Rattle.document_replies.specs.Starts.{Start}
use Rattle.document_replies.proofs.Changing.{HasCtx, changes_take}
use Rattle.document_replies.proofs.Starts.{documents_take}
use Rattle.job_commands.specs.Contexts.{change_types, changes_in, context_in, documents_in, is_test, keys_in, own_types, pipe_types, row_of, search_types, test_types, types_of}

params_no_doc : codes "params" ≢ codes "doc"
params_no_doc e = let n : 6 ≡ 3 = ap length e in omega (arith, n)

params_no_score : codes "params" ≢ codes "_score"
params_no_score e = let n : 112 ≡ 95 = ap (λ (l : List ℕ). get_or l 0 0) e in omega (arith, n)

doc_no_score : codes "doc" ≢ codes "_score"
doc_no_score e = let n : 3 ≡ 6 = ap length e in omega (arith, n)

params_no_ctx : codes "params" ≢ codes "ctx"
params_no_ctx e = let n : 6 ≡ 3 = ap length e in omega (arith, n)

pub search_context : (kind : SearchKind) → IsContext (search_types kind)
unfolding out-Ty denote.Hole.Carrier.out
search_context k.Filter = record { distinct = ((params_no_doc, tt), (tt, tt)); present = (tt, (tt, tt)); result = built_named (t.Prim prim.Boolean) (prim_built prim.Boolean) }
search_context k.Score = record {
  distinct = ((params_no_doc, (params_no_score, tt)), ((doc_no_score, tt), (tt, tt)));
  present = (tt, (tt, (tt, tt)));
  result = built_named (t.Prim prim.Long) (prim_built prim.Long);
}
search_context k.Field = record { distinct = ((params_no_doc, tt), (tt, tt)); present = (tt, (tt, tt)); result = built_named t.Def def_built }

change_context : IsContext change_types
unfolding out-Ty denote.Hole.Carrier.out
change_context = record { distinct = ((params_no_ctx, tt), (tt, tt)); present = (tt, (tt, tt)); result = tt }

test_context : IsContext test_types
unfolding out-Ty denote.Hole.Carrier.out
test_context = record { distinct = ((params_no_ctx, tt), (tt, tt)); present = (tt, (tt, tt)); result = built_named (t.Prim prim.Boolean) (prim_built prim.Boolean) }

pipe_context : (path : List ℕ) → IsContext (pipe_types path)
pipe_context path = by (is_test path) where
  by : (b : Bool) → IsContext (if b then test_types else change_types)
  by true = test_context
  by false = change_context

own_context : IsContext own_types
unfolding out-Ty denote.Hole.Carrier.out
own_context = record { distinct = tt; present = tt; result = built_named t.Def def_built }

-- each context gives its scripts one
pub row_context : (context : JobContext) (key : List ℕ) → IsContext (types_of context key)
row_context c.Eval key = own_context
row_context c.Filter key = search_context k.Filter
row_context c.Score key = search_context k.Score
row_context c.Field key = search_context k.Field
row_context c.Update key = change_context
row_context c.Ingest key = change_context
row_context c.Metric key = own_context
row_context c.Updates key = change_context
row_context c.Pipe key = pipe_context key
row_context c.Serve key = own_context
row_context c.FunctionScore key = own_context

-- where it is that of a context for a key
pub context_so : (context : JobContext) (key : List ℕ) (types : ContextTypes) → types ≡ types_of context key → IsContext types
context_so context key types is = subst IsContext (sym is) (row_context context key)

pub has_types : (kind : SearchKind) (args : List Value) → HasArguments kind args → HaveAll (types_in (map variable_of (search_types kind).variables)) args
unfolding out-Ty denote.Hole.Carrier.out
has_types k.Filter args (params, doc, is) = subst (HaveAll (types_in (map variable_of (search_types k.Filter).variables))) (sym is) (tt, (tt, tt))
has_types k.Score args (params, doc, score, is) = subst (HaveAll (types_in (map variable_of (search_types k.Score).variables))) (sym is) (tt, (tt, ((score, refl), tt)))
has_types k.Field args (params, doc, is) = subst (HaveAll (types_in (map variable_of (search_types k.Field).variables))) (sym is) (tt, (tt, tt))

pub ctx_types : (args : List Value) → HasCtx args → HaveAll (types_in (map variable_of change_types.variables)) args
unfolding out-Ty denote.Hole.Carrier.out
ctx_types args (params, ctx, is) = subst (HaveAll (types_in (map variable_of change_types.variables))) (sym is) (tt, (tt, tt))

-- the params and `ctx` are what each script of a pipeline takes
pub pipe_takes : (path : List ℕ) (args : List Value) → HasCtx args → HaveAll (types_in (map variable_of (pipe_types path).variables)) args
pipe_takes path args has = by (is_test path) where
  by : (b : Bool) → HaveAll (types_in (map variable_of (if b then test_types else change_types).variables)) args
  by true = ctx_types args has
  by false = ctx_types args has

-- ---- the starts of a context have arguments of the types of its variables

abbrev pub TakesAll : ContextTypes → Context → Type 0
TakesAll types context = (line : List ℕ) (start : Start) → context.start line ≡ Ok start → HaveAll (types_in (map variable_of types.variables)) start.args

search_takes : (kind : SearchKind) (job : JobData) → TakesAll (search_types kind) (search_of (documents_in kind job) (keys_in job))
search_takes kind job line start is = has_types kind start.args (documents_take (documents_in kind job) line start is)

change_takes : (kind : WriteKind) (job : JobData) → TakesAll change_types (change_of (changes_in kind job) (keys_in job))
change_takes kind job line start is = ctx_types start.args (changes_take (changes_in kind job) line start is)

same_takes : (types : ContextTypes) (context other : Context) → Some context ≡ Some other → TakesAll types context → TakesAll types other
same_takes types context other is takes =
    let same : context ≡ other = same_Some context other is in
    subst (TakesAll types) same takes

row_takes : (of : JobContext) (key : List ℕ) (job : JobData) (context : Context) → (row_of of).lines job ≡ Some context → TakesAll (types_of of key) context
row_takes c.Eval key job context is = absurd (none-some context is)
row_takes c.Filter key job context is = same_takes (search_types k.Filter) (search_of (documents_in k.Filter job) (keys_in job)) context is (search_takes k.Filter job)
row_takes c.Score key job context is = same_takes (search_types k.Score) (search_of (documents_in k.Score job) (keys_in job)) context is (search_takes k.Score job)
row_takes c.Field key job context is = same_takes (search_types k.Field) (search_of (documents_in k.Field job) (keys_in job)) context is (search_takes k.Field job)
row_takes c.Update key job context is = same_takes change_types (change_of (changes_in w.Update job) (keys_in job)) context is (change_takes w.Update job)
row_takes c.Ingest key job context is = same_takes change_types (change_of (changes_in w.Ingest job) (keys_in job)) context is (change_takes w.Ingest job)
row_takes c.Metric key job context is = absurd (none-some context is)
row_takes c.Updates key job context is = absurd (none-some context is)
row_takes c.Pipe key job context is = absurd (none-some context is)
row_takes c.Serve key job context is = absurd (none-some context is)
row_takes c.FunctionScore key job context is = absurd (none-some context is)

pub starts_take : (job : JobData) (key : List ℕ) (context : Context) → context_in job ≡ Some context → TakesAll (types_of job.context key) context
starts_take job key context is = row_takes job.context key job context is

-- .. and so have those over documents of a kind
pub field_takes : (of : JobContext) (key : List ℕ) (args : List Value) → of ≡ c.Field → HasArguments k.Field args → HaveAll (types_in (map variable_of (types_of of key).variables)) args
field_takes of key args is has =
    subst (λ (x : JobContext). HaveAll (types_in (map variable_of (types_of x key).variables)) args) (sym is) (has_types k.Field args has)
