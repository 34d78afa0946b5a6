-- What the lines of a job are bound to.
use Rattle.std.proofs.Common.{◌≡◌, ℕ, Bool, true, false, List, [], ◌∷◌, Option, Some, None, Result, Ok, Err, length, refl, sym, subst, if◌then◌else◌}
use Rattle.std.specs.Prelude.{is_some}
use Rattle.std.specs.Str.{is_utf8}
use Rattle.serde_json.specs.Data.{Data}
use Rattle.serde_json.specs.Find.{as_object}
use Rattle.serde_json.specs.Read.{read}
use Rattle.std.proofs.lemmas.Option.{none-some, same_Some}
use Rattle.pl_types.specs.declared.classes.TheConstants.{MAP}
use Rattle.pl_types.specs.declared.ty.Ty.TheVariants as t
use Rattle.object_values.specs.declared.object.Object.{Object}
use Rattle.object_values.specs.declared.value.Value.{Value}
use Rattle.object_heap.specs.Fits.{Rules, AllFit, have_types, kinds}
use Rattle.script_engine.specs.CodeRules.{rules_of_codes}
use Rattle.script_engine.specs.Codes.{empty_program}
use Rattle.script_engine.specs.Ends.{beside}
use Rattle.script_engine.specs.Keeping.{ProgramsKeepTheirRules}
use Rattle.script_engine.specs.ProgramRules.{rules_of}
use Rattle.script_engine.specs.Typed.{HasVariables}
use Rattle.script_engine.specs.typing_rules_declared.header.ContextTypes.{ContextTypes}
use Rattle.script_engine.proofs.Keeping.{all_typed}
use Rattle.job_file.specs.declared.context.JobCommand.{JobCommand}
use Rattle.job_file.specs.declared.context.JobContext.{JobContext}
use Rattle.job_file.specs.declared.context.JobContext.TheVariants as c
use Rattle.job_file.specs.declared.keys.Key.TheVariants as key
use Rattle.job_file.specs.Jobs as jobs
use Rattle.job_file.specs.Jobs.{JobData, job_of_read, object_of}
use Rattle.job_file.specs.Keys.{belongs}
use Rattle.search_ctx.specs.declared.line.SearchKind.{SearchKind}
use Rattle.search_ctx.specs.declared.line.SearchKind.TheVariants as k
use Rattle.search_ctx.specs.Laws.{LinesFit, StartFits}
use Rattle.search_ctx.specs.Lines.{bound_document, bound_line}
use Rattle.search_ctx.specs.Typed.{LinesTyped, ParamsAreObjects, StartTyped, argument_types}
use Rattle.command_parts.specs.Files.{file_told}
use Rattle.command_parts.specs.Told.{Told}
use Rattle.document_replies.specs.ChangeLaws.{ChangesFit, ChangesTyped, StartHasMaps}
use Rattle.document_replies.specs.Changes.{change_context, change_start}
use Rattle.document_replies.specs.Replies.{Context}
use Rattle.document_replies.specs.Searches.{Documents, search_context, start_of}
use Rattle.document_replies.specs.Starts.{Fault, Start, syntax}
use Rattle.document_replies.specs.write_ctx_declared.keys.WriteKind.{WriteKind}
use Rattle.document_replies.specs.write_ctx_declared.keys.WriteKind.TheVariants as w
use Rattle.job_loading.specs.Allow.{AllowList}
use Rattle.job_loading.specs.Loading.{JobUnder, job_in_bytes, job_in_file, job_told, job_under, list_named, under, with_list}
use Rattle.job_commands.specs.Contexts.{change_types, changes_in, documents_in, keys_in, row_of, search_types, types_of}
use Rattle.job_commands.specs.Running.{limits_in, world_in}
use Rattle.job_commands.specs.Scripts.{JobProgram, Prepared, PreparesJob, PreparesRead, RefusedScript, prepared}
use Rattle.job_commands.specs.Starts.{BindsLine, LinesRunTyped, LinesStartWell, StartsWell}
use Rattle.job_commands.proofs.Jobs.{program_read}
use Rattle.job_commands.proofs.Typed.{row_context}

-- ---- the job that was read

abbrev HasUnder : Prepared → Result JobUnder Told → Type 0
HasUnder p found = found ≡ Ok p.under

under_by : (u : JobUnder) (p : Prepared) (found : Result (List JobProgram) RefusedScript) → Ok p ≡ prepared u found → HasUnder p (Ok u)
under_by u p (Ok []) at = absurd cc
under_by u p (Ok (first ∷ more)) at =
    let same : p ≡ record { under = u; programs = record { first = first; more = more } } = cc in
    subst (λ (r : Prepared). HasUnder r (Ok u)) (sym same) refl
under_by u p (Err wrong) at = absurd cc

under_read : (found : Result JobUnder Told) (p : Prepared) → PreparesRead found (Ok p) → HasUnder p found
under_read (Ok u) p (found, is, at) = under_by u p found at
under_read (Err told) p h = absurd cc

abbrev HasJob : JobUnder → Result JobData Told → Type 0
HasJob u found = found ≡ Ok u.job

job_by : (job : JobData) (list : Result AllowList Told) (u : JobUnder) → under job list ≡ Ok u → HasJob u (Ok job)
job_by job (Ok allow) u h =
    let same : u ≡ record { job = job; allow = allow } = cc in
    subst (λ (r : JobUnder). HasJob r (Ok job)) (sym same) refl
job_by job (Err told) u h = absurd cc

job_read : (content : List ℕ → Option (List ℕ)) (found : Result JobData Told) (u : JobUnder) → with_list content found ≡ Ok u → HasJob u found
job_read content (Ok job) u h = job_by job (list_named content job.allow) u h
job_read content (Err told) u h = absurd cc

-- a job is of what some file is read as
abbrev IsRead : JobCommand → JobData → Type 0
IsRead command job = (file : Result Data jobs.Fault) × (job_of_read command file ≡ Ok job)

told_job : (found : Result JobData jobs.Fault) (job : JobData) → job_told found ≡ Ok job → found ≡ Ok job
told_job (Ok other) job h = cc
told_job (Err fault) job h = absurd cc

in_bytes : (command : JobCommand) (utf8 : Bool) (file : Result Data jobs.Fault) (job : JobData) → (if utf8 then job_of_read command file else Err jobs.syntax) ≡ Ok job → IsRead command job
in_bytes command true file job h = (file, h)
in_bytes command false file job h = absurd cc

in_file : (command : JobCommand) (bytes : Result (List ℕ) Told) (job : JobData) → job_in_file command bytes ≡ Ok job → IsRead command job
in_file command (Ok bytes) job h = in_bytes command (is_utf8 bytes) (object_of (read bytes)) job (told_job (job_in_bytes command bytes) job h)
in_file command (Err told) job h = absurd cc

read_so : (command : JobCommand) (content : List ℕ → Option (List ℕ)) (name : List ℕ) (p : Prepared) → PreparesJob command content name (Ok p) → IsRead command p.under.job
read_so command content name p h =
    in_file command (file_told (content name)) p.under.job
    (job_read content (job_in_file command (file_told (content name))) p.under (under_read (job_under command content name) p h))

has_params : (of : JobContext) (job : JobData) (context : Context) → (row_of of).lines job ≡ Some context → belongs key.Params of ≡ true
has_params c.Eval job context is = absurd (none-some context is)
has_params c.Filter job context is = refl
has_params c.Score job context is = refl
has_params c.Field job context is = refl
has_params c.Update job context is = refl
has_params c.Ingest job context is = refl
has_params c.Metric job context is = absurd (none-some context is)
has_params c.Updates job context is = absurd (none-some context is)
has_params c.Pipe job context is = absurd (none-some context is)
has_params c.Serve job context is = absurd (none-some context is)
has_params c.FunctionScore job context is = absurd (none-some context is)

-- ---- starts

-- what holds of what each document is bound to holds of what a line is
module _ (Holds : Result Start Fault → Type 0) (wrong : (fault : Fault) → Holds (Err fault)) where
  line_holds : (documents : Documents) → ((d : Data) → Holds (bound_document documents.kind documents.fields documents.params documents.room d))
      → (line : Option Data) → Holds (bound_line documents.kind documents.fields documents.params documents.room line)
  line_holds documents h None = wrong syntax
  line_holds documents h (Some d) = h d

  start_holds : (documents : Documents) → ((d : Data) → Holds (bound_document documents.kind documents.fields documents.params documents.room d)) → (line : List ℕ) → Holds (start_of documents line)
  start_holds documents h line = by (is_utf8 line) where
    by : (b : Bool) → Holds (if b then bound_line documents.kind documents.fields documents.params documents.room (read line) else Err syntax)
    by true = line_holds documents h (read line)
    by false = wrong syntax

  -- .. in a context over documents of a kind
  search_holds : (kind : SearchKind) (job : JobData) (context : Context) → Some (search_context (documents_in kind job) (keys_in job)) ≡ Some context
      → ((d : Data) → Holds (bound_document kind job.mapping job.params job.limits.room d)) → (line : List ℕ) → Holds (context.start line)
  search_holds kind job context is h line =
      let same : search_context (documents_in kind job) (keys_in job) ≡ context = same_Some (search_context (documents_in kind job) (keys_in job)) context is in
      subst (λ (x : Context). Holds (x.start line)) same (start_holds (documents_in kind job) h line)

-- what holds of what each line is bound to holds in a context of documents that a script changes
change_holds : (Holds : Result Start Fault → Type 0) (kind : WriteKind) (job : JobData) (context : Context) → Some (change_context (changes_in kind job) (keys_in job)) ≡ Some context
    → ((line : List ℕ) → Holds (change_start (changes_in kind job) line)) → (line : List ℕ) → Holds (context.start line)
change_holds Holds kind job context is h line =
    let same : change_context (changes_in kind job) (keys_in job) ≡ context = same_Some (change_context (changes_in kind job) (keys_in job)) context is in
    subst (λ (x : Context). Holds (x.start line)) same (h line)

-- the arguments of a start are of the types of variables
abbrev StartHas : ContextTypes → Result Start Fault → Type 0
StartHas types (Ok start) = HasVariables start.store.objects types start.args
StartHas types (Err fault) = Unit {0}

-- the types of a kind are those of its variables
of_kind : (objects : List Object) (kind : SearchKind) (args : List Value) → AllFit (length objects) args → have_types (kinds objects) (argument_types kind) args ≡ true
    → HasVariables objects (search_types kind) args
of_kind objects k.Filter args f h = all_typed objects (argument_types k.Filter) args f h
of_kind objects k.Score args f h = all_typed objects (argument_types k.Score) args f h
of_kind objects k.Field args f h = all_typed objects (argument_types k.Field) args f h

has_of : (rules : Rules) (kind : SearchKind) (bound : Result Start Fault) → StartFits rules bound → StartTyped kind bound → StartHas (search_types kind) bound
has_of rules kind (Ok start) fits typed = of_kind start.store.objects kind start.args fits.1 typed
has_of rules kind (Err fault) fits typed = tt

has_maps : (rules : Rules) (bound : Result Start Fault) → StartFits rules bound → StartHasMaps bound → StartHas change_types bound
has_maps rules (Ok start) fits maps = all_typed start.store.objects (t.Class MAP ∷ t.Class MAP ∷ []) start.args fits.1 maps
has_maps rules (Err fault) fits maps = tt

module _ (fit : LinesFit) (changes_fit : ChangesFit) where
  row_fits : (rules : Rules) (of : JobContext) (job : JobData) (context : Context) → (row_of of).lines job ≡ Some context → (line : List ℕ) → StartFits rules (context.start line)
  row_fits rules c.Eval job context is line = absurd (none-some context is)
  row_fits rules c.Filter job context is line = search_holds (StartFits rules) (λ fault. tt) k.Filter job context is (fit rules k.Filter job.mapping job.params job.limits.room) line
  row_fits rules c.Score job context is line = search_holds (StartFits rules) (λ fault. tt) k.Score job context is (fit rules k.Score job.mapping job.params job.limits.room) line
  row_fits rules c.Field job context is line = search_holds (StartFits rules) (λ fault. tt) k.Field job context is (fit rules k.Field job.mapping job.params job.limits.room) line
  row_fits rules c.Update job context is line = change_holds (StartFits rules) w.Update job context is (changes_fit rules (changes_in w.Update job)) line
  row_fits rules c.Ingest job context is line = change_holds (StartFits rules) w.Ingest job context is (changes_fit rules (changes_in w.Ingest job)) line
  row_fits rules c.Metric job context is line = absurd (none-some context is)
  row_fits rules c.Updates job context is line = absurd (none-some context is)
  row_fits rules c.Pipe job context is line = absurd (none-some context is)
  row_fits rules c.Serve job context is line = absurd (none-some context is)
  row_fits rules c.FunctionScore job context is line = absurd (none-some context is)

  module _ (typed : LinesTyped) (changes_typed : ChangesTyped) (rules : Rules) where
    search_has : (kind : SearchKind) (job : JobData) (context : Context) → Some (search_context (documents_in kind job) (keys_in job)) ≡ Some context → is_some (as_object job.params) ≡ true
        → (line : List ℕ) → StartHas (search_types kind) (context.start line)
    search_has kind job context is object =
        search_holds (StartHas (search_types kind)) (λ fault. tt) kind job context is
        (λ d. has_of rules kind (bound_document kind job.mapping job.params job.limits.room d) (fit rules kind job.mapping job.params job.limits.room d)
        (typed kind job.mapping job.params job.limits.room d object))

    change_has : (kind : WriteKind) (job : JobData) (context : Context) → Some (change_context (changes_in kind job) (keys_in job)) ≡ Some context → is_some (as_object job.params) ≡ true
        → (line : List ℕ) → StartHas change_types (context.start line)
    change_has kind job context is object =
        change_holds (StartHas change_types) kind job context is
        (λ line. has_maps rules (change_start (changes_in kind job) line) (changes_fit rules (changes_in kind job) line) (changes_typed (changes_in kind job) line object))

    row_has : (of : JobContext) (name : List ℕ) (job : JobData) (context : Context) → (row_of of).lines job ≡ Some context → is_some (as_object job.params) ≡ true
        → (line : List ℕ) → StartHas (types_of of name) (context.start line)
    row_has c.Eval name job context is object line = absurd (none-some context is)
    row_has c.Filter name job context is object line = search_has k.Filter job context is object line
    row_has c.Score name job context is object line = search_has k.Score job context is object line
    row_has c.Field name job context is object line = search_has k.Field job context is object line
    row_has c.Update name job context is object line = change_has w.Update job context is object line
    row_has c.Ingest name job context is object line = change_has w.Ingest job context is object line
    row_has c.Metric name job context is object line = absurd (none-some context is)
    row_has c.Updates name job context is object line = absurd (none-some context is)
    row_has c.Pipe name job context is object line = absurd (none-some context is)
    row_has c.Serve name job context is object line = absurd (none-some context is)
    row_has c.FunctionScore name job context is object line = absurd (none-some context is)

module _ (fit : LinesFit) (changes_fit : ChangesFit) (typed : LinesTyped) (changes_typed : ChangesTyped) (params : ParamsAreObjects) where
  pub lines_start : LinesStartWell
  lines_start p line start b =
      let job = read_so b.command b.content b.name p b.prepares in
      let object = params b.command job.0 p.under.job job.1 (has_params p.under.job.context p.under.job b.context b.over) in
      let fits : (rules : Rules) → StartFits rules (Ok start) = λ rules. subst (StartFits rules) b.binds (row_fits fit changes_fit rules p.under.job.context p.under.job b.context b.over line) in
      let name = p.programs.first.key in
      let rules = rules_of (beside p.programs.first.program empty_program) in
      let has : StartHas (types_of p.under.job.context name) (Ok start) =
      subst (StartHas (types_of p.under.job.context name)) b.binds (row_has fit changes_fit typed changes_typed rules p.under.job.context name p.under.job b.context b.over object line) in
      record {
        program = λ program. (fits (rules_of (beside program empty_program))).0;
        codes = λ codes. (fits (rules_of_codes codes)).0;
        typed = has;
      }

  pub lines_run : ProgramsKeepTheirRules → LinesRunTyped
  lines_run keep p line start b end run =
      let well = lines_start p line start b in
      let first = p.programs.first in
      let program = program_read (job_under b.command b.content b.name) p b.prepares in
      keep p.under.allow (types_of p.under.job.context first.key) program.0 first.program (row_context p.under.job.context first.key) program.1 (limits_in p) refl start.args (world_in p start.store) end
      (well.program first.program) well.typed run
