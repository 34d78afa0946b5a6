-- The steps of reading a job put together.
use Rattle.std.specs.Result.{IsErrAnd}
use Rattle.std.proofs.Common.{◌≡◌, ℕ, List, [], ◌∷◌, Option, Some, None, Result, Ok, Err, map, option_map, refl, sym, subst}
use Rattle.serde_json.specs.Data.{Data}
use Rattle.job_file.specs.declared.context.JobCommand.{JobCommand}
use Rattle.job_file.specs.declared.context.JobContext.{JobContext}
use Rattle.job_file.specs.declared.error.JobErr.{JobErr}
use Rattle.job_file.specs.declared.error.JobErr.TheVariants as e
use Rattle.job_file.specs.declared.job.Job.{Job}
use Rattle.job_file.specs.declared.keys.Key.TheVariants as k
use Rattle.job_file.specs.declared.limits.Limit.TheVariants as l
use Rattle.job_file.specs.declared.mapping.Mapping.{Mapping}
use Rattle.job_file.specs.declared.numbers.Numbers.{Numbers}
use Rattle.job_file.specs.Answers.{Answered, IsFault, fields_view, job_view, parts_of}
use Rattle.job_file.specs.Contexts.{context_of}
use Rattle.job_file.specs.Jobs.{Fault, JobData, fault_of, field, first, job_in, job_in_context, job_of, job_of_read, key_fault, limits_of, mapping, range_faults, shards_of, unknown_key}
use Rattle.job_file.specs.Keys.{keys, value_at}
use Rattle.job_file.specs.Limits.{entries_of, natural, number_of, numbers}
use Rattle.job_file.specs.Mappings.{bad_field, fields_of, members_of}

-- ---- the first fault

first_of_four : (a : Option (List ℕ)) (b c : Option Fault) (d : Option (List ℕ)) → a ≡ None → b ≡ None → c ≡ None → d ≡ None
    → first (option_map field a ∷ b ∷ c ∷ option_map mapping d ∷ []) ≡ None
first_of_four a b c d h i j k = rw (h, i, j, k) refl

pub no_fault : (context : JobContext) (file : Data) → unknown_key context file ≡ None → first (map (key_fault context file) keys) ≡ None → first (range_faults context file) ≡ None
    → bad_field (members_of (value_at k.Mapping file)) ≡ None → fault_of context file ≡ None
unfolding fault_of
no_fault context file known right within good = first_of_four _ _ _ _ known right within good

-- ---- an answer of a step is the answer

refused : (context : JobContext) (file : Data) (f : Fault) → fault_of context file ≡ Some f → job_in context file ≡ Err f
unfolding job_in
refused context file f h = rw h refl

-- a fault of the job is its answer
pub fault_answers : (context : JobContext) (file : Data) (error : JobErr) → IsFault error (fault_of context file) → Answered job_view (Err error) (job_in context file)
fault_answers context file e.Syntax h = refused context file _ h
fault_answers context file (e.Field key) h = refused context file _ h
fault_answers context file (e.Range key) h = refused context file _ h
fault_answers context file (e.Mapping name) h = refused context file _ h
fault_answers context file e.NoMemory h = tt

passes_on : (error : JobErr) (x y : Option Fault) → ((f : Fault) → x ≡ Some f → y ≡ Some f) → IsFault error x → IsFault error y
passes_on e.Syntax x y on h = on _ h
passes_on (e.Field key) x y on h = on _ h
passes_on (e.Range key) x y on h = on _ h
passes_on (e.Mapping name) x y on h = on _ h
passes_on e.NoMemory x y on h = tt

at_first : (a b c d : Option Fault) (f : Fault) → a ≡ Some f → first (a ∷ b ∷ c ∷ d ∷ []) ≡ Some f
at_first a b c d f h = rw h refl

at_second : (a : Option (List ℕ)) (b c d : Option Fault) (f : Fault) → a ≡ None → b ≡ Some f → first (option_map field a ∷ b ∷ c ∷ d ∷ []) ≡ Some f
at_second a b c d f h i = rw (h, i) refl

at_third : (a : Option (List ℕ)) (b c d : Option Fault) (f : Fault) → a ≡ None → b ≡ None → c ≡ Some f → first (option_map field a ∷ b ∷ c ∷ d ∷ []) ≡ Some f
at_third a b c d f h i j = rw (h, i, j) refl

at_fourth : (a : Option (List ℕ)) (b c d : Option Fault) (f : Fault) → a ≡ None → b ≡ None → c ≡ None → d ≡ Some f → first (option_map field a ∷ b ∷ c ∷ d ∷ []) ≡ Some f
at_fourth a b c d f h i j k = rw (h, i, j, k) refl

pub unknown_answers : (context : JobContext) (file : Data) (error : JobErr) → IsFault error (option_map field (unknown_key context file)) → Answered job_view (Err error) (job_in context file)
unfolding fault_of
unknown_answers context file error h = fault_answers context file error (passes_on error _ (fault_of context file) (λ f. at_first _ _ _ _ f) h)

pub types_answer : (context : JobContext) (file : Data) (error : JobErr) → unknown_key context file ≡ None → IsFault error (first (map (key_fault context file) keys)) → Answered job_view (Err error) (job_in context file)
unfolding fault_of
types_answer context file error known h = fault_answers context file error (passes_on error _ (fault_of context file) (λ f. at_second _ _ _ _ f known) h)

pub range_answers : (context : JobContext) (file : Data) (error : JobErr) → unknown_key context file ≡ None → first (map (key_fault context file) keys) ≡ None
    → IsFault error (first (range_faults context file)) → Answered job_view (Err error) (job_in context file)
unfolding fault_of
range_answers context file error known right h = fault_answers context file error (passes_on error _ (fault_of context file) (λ f. at_third _ _ _ _ f known right) h)

pub mapping_answers : (context : JobContext) (file : Data) (error : JobErr) → unknown_key context file ≡ None → first (map (key_fault context file) keys) ≡ None → first (range_faults context file) ≡ None
    → IsFault error (option_map mapping (bad_field (members_of (value_at k.Mapping file)))) → Answered job_view (Err error) (job_in context file)
unfolding fault_of
mapping_answers context file error known right within h = fault_answers context file error (passes_on error _ (fault_of context file) (λ f. at_fourth _ _ _ _ f known right within) h)

-- ---- the job

pub job_answers : (context : JobContext) (file : Data) (job : JobData) → fault_of context file ≡ None → job ≡ job_of context file → job_in context file ≡ Ok job
unfolding job_in
job_answers context file job h same = rw (h, same) refl

pub parts_are_the_job : (context : JobContext) (file : Data) (made : Numbers) (fields : Mapping) → made.limits ≡ limits_of file → made.shards ≡ shards_of file
    → made.order.items ≡ numbers (entries_of (value_at k.Order file)) → made.slice ≡ natural (number_of l.Slice file) → made.capacity ≡ natural (number_of l.Capacity file) → fields_view fields.fields.items ≡ fields_of (members_of (value_at k.Mapping file))
    → parts_of context file made fields ≡ job_of context file
unfolding job_of
parts_are_the_job context file made fields limits shards order slice capacity mapped = rw (limits, shards, order, slice, capacity, mapped) refl

-- ---- exits

-- what the exit of a step answers
pub exit_answers : (result : Result Job JobErr) (error : JobErr) (meaning : Result JobData Fault) → IsErrAnd result (λ x. x ≡ error) → Answered job_view (Err error) meaning → Answered job_view result meaning
exit_answers (Ok job) error meaning h a = absurd h
exit_answers (Err x) error meaning h a = subst (λ y. Answered job_view (Err y) meaning) (sym h) a

-- the job of an object is that of the file that is read as it
pub object_answers : (result : Result Job JobErr) (with : JobCommand) (found : Result Data Fault) (file : Data) → found ≡ Ok file → Answered job_view result (job_in_context (context_of with file) file)
    → Answered job_view result (job_of_read with found)
object_answers result with found file h a = subst (λ x. Answered job_view result (job_of_read with x)) (sym h) a
