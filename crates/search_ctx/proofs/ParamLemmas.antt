-- The params of a job that is read are an object.
use Rattle.std.proofs.Common.{◌≡◌, ℕ, Bool, true, false, Option, Some, None, List, [], ◌∷◌, map, Result, Ok, Err, refl, sym, ap, ◌∙◌, subst, if◌then◌else◌, ◌||◌}
use Rattle.std.proofs.lemmas.Bool.{false≢true}
use Rattle.std.specs.Prelude.{is_some, not, option_map, unwrap_or}
use Rattle.serde_json.specs.Data.{Data, object, no_members, Members}
use Rattle.serde_json.specs.Find.{as_object, get}
use Rattle.job_file.specs.declared.context.JobCommand.{JobCommand}
use Rattle.job_file.specs.declared.context.JobContext.{JobContext}
use Rattle.job_file.specs.declared.keys.Key.{Key}
use Rattle.job_file.specs.declared.keys.Key.TheVariants as k
use Rattle.job_file.specs.Contexts.{context_of}
use Rattle.job_file.specs.Jobs.{Fault, JobData, fault_of, first, is_right, is_right_value, job_in, job_in_context, job_of, job_of_read, key_fault, or_fault, range_faults, unknown_key}
use Rattle.job_file.specs.Mappings.{bad_field, members_of}
use Rattle.job_file.specs.Keys.{belongs, keys, row_of, value_at}
use Rattle.job_file.specs.Values.{if_present, members_have_whole_numbers}
use Rattle.search_ctx.specs.Typed.{ParamsAreObjects}

-- where there is no first fault there is none
first_none : (one : Option Fault) (more : List (Option Fault)) → first (one ∷ more) ≡ None → (one ≡ None) × (first more ≡ None)
first_none None more h = (refl, h)
first_none (Some fault) more h = cc

no_fault : (right : Bool) (fault : Fault) → (if right then None else Some fault) ≡ None → right ≡ true
no_fault true fault h = refl
no_fault false fault h = cc

-- a key of the context that has no fault has a value of its type, or none
right_value : (context : JobContext) (file : Data) (key : Key) → belongs key context ≡ true → key_fault context file key ≡ None → is_right_value (row_of key) (get (row_of key).name file) ≡ true
right_value context file key there h =
    let value = is_right_value (row_of key) (get (row_of key).name file) in
    sym (ap (λ b. not b || value) there) ∙ no_fault (is_right context file key) (Fault.field (row_of key).name) h

present : (o : Option Members) → if_present members_have_whole_numbers o ≡ true → is_some o ≡ true
present None h = absurd (false≢true h)
present (Some ms) h = refl

object_there : (value : Option Data) → is_right_value (row_of k.Params) value ≡ true → is_some (as_object (unwrap_or value (object no_members))) ≡ true
object_there None h = refl
object_there (Some d) h = present (as_object d) h

-- no key of a list has a fault
abbrev EachRight : JobContext → Data → List Key → Type 0
EachRight context file [] = Unit {0}
EachRight context file (key ∷ more) = (key_fault context file key ≡ None) × EachRight context file more

each_right : (context : JobContext) (file : Data) (ks : List Key) → first (map (key_fault context file) ks) ≡ None → EachRight context file ks
each_right context file [] h = tt
each_right context file (key ∷ more) h =
    let none = first_none (key_fault context file key) (map (key_fault context file) more) h in
    (none.0, each_right context file more none.1)

params_object : (context : JobContext) (file : Data) → belongs k.Params context ≡ true → fault_of context file ≡ None → is_some (as_object (value_at k.Params file)) ≡ true
unfolding fault_of keys
params_object context file there h =
    let behind = first (range_faults context file) ∷ option_map Fault.mapping (bad_field (members_of (value_at k.Mapping file))) ∷ [] in
    let known = first_none (option_map Fault.field (unknown_key context file)) (first (map (key_fault context file) keys) ∷ behind) h in
    let right = first_none (first (map (key_fault context file) keys)) behind known.1 in
    let each = each_right context file keys right.0 in
    object_there (get (row_of k.Params).name file) (right_value context file k.Params there each.1.1.1.1.1.1.0)

-- ---- jobs

abbrev HasObject : Result JobData Fault → Type 0
HasObject (Ok job) = belongs k.Params job.context ≡ true → is_some (as_object job.params) ≡ true
HasObject (Err fault) = Unit {0}

or_object : (job : JobData) (fault : Option Fault) → (fault ≡ None → HasObject (Ok job)) → HasObject (or_fault job fault)
or_object job None h = h refl
or_object job (Some fault) h = tt

in_object : (context : Option JobContext) (file : Data) → HasObject (job_in_context context file)
unfolding job_in job_of
in_object None file = tt
in_object (Some context) file = or_object (job_of context file) (fault_of context file) (λ none there. params_object context file there none)

read_object : (command : JobCommand) (file : Result Data Fault) → HasObject (job_of_read command file)
read_object command (Err fault) = tt
read_object command (Ok file) = in_object (context_of command file) file

pub job_params : ParamsAreObjects
job_params command file job e = subst HasObject e (read_object command file)
