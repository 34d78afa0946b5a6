-- The pipeline that a value denotes, or the first place of it that is wrong. The processors are met in their order, those of
-- a list for failures inside; of a processor an unknown key comes first, then the keys in the order of their names by bytes,
-- then a key that it lacks.
use Rattle.std.specs.Prelude.{◌≡◌, ℕ, zero, suc, ◌+◌, ◌++◌, Bool, List, [], ◌∷◌, Option, Some, None, Result, Ok, Err, length, nat_lt, option_map, string_bytes, if◌then◌else◌, ⊤}
use Rattle.job_file.specs.Contexts.{named}
use Rattle.serde_json.specs.Data.{Data, Items, no_items, item, Members, no_members, member}
use Rattle.serde_json.specs.Find.{get, as_array, as_object}
use Rattle.ingest_pipe.specs.declared.error.PipeErr.{PipeErr}
use Rattle.ingest_pipe.specs.declared.error.PipeErr.TheVariants as e
use Rattle.ingest_pipe.specs.declared.keys.Kind.{Kind}
use Rattle.ingest_pipe.specs.declared.processors.Action.{Action}
use Rattle.ingest_pipe.specs.declared.processors.Guard.{Guard}
use Rattle.ingest_pipe.specs.declared.processors.Pipeline.{Pipeline}
use Rattle.ingest_pipe.specs.declared.processors.Processors.{Processors}
use Rattle.ingest_pipe.specs.declared.processors.Processors.TheVariants.{End, Then}
use Rattle.ingest_pipe.specs.declared.reading.Met.{Met}
use Rattle.ingest_pipe.specs.declared.reading.Processor.{Processor}
use Rattle.ingest_pipe.specs.declared.scripts.PipeScript.{PipeScript}
use Rattle.ingest_pipe.specs.Forms.{first_wrong}
use Rattle.ingest_pipe.specs.Keys.{key_name, keys_before, keys_behind, kind_names, on_failure, unknown_key}
use Rattle.ingest_pipe.specs.Paths.{below, no_fault, numbered, whole_path}
use Rattle.ingest_pipe.specs.Settings.{action_of, change_of, follows_of, given, test_of}

-- what was read, and what was met by then
pub record Read (X : Type 0) : Type 0 where
  pub made : X
  pub met : Met

-- or the path of the first place that is wrong
abbrev pub Reading : Type 0 → Type 0
Reading X = Result (Read X) (List ℕ)

abbrev pub read : {X : Type 0} → X → Met → Reading X
read made met = Ok (record { made = made; met = met })

-- what comes behind something that was read
abbrev pub behind : {X Y : Type 0} → Reading X → (X → Met → Reading Y) → Reading Y
behind (Ok one) next = next one.made one.met
behind (Err path) next = Err path

-- ---- one processor

-- the name and the value of the only member of an object
pub record Member : Type 0 where
  pub name : List ℕ
  pub value : Data

abbrev pub only_of : Option Members → Option Member
only_of None = None
only_of (Some no_members) = None
only_of (Some (member name d no_members)) = Some (record { name = name; value = d })
only_of (Some (member name d (member other e ms))) = None

abbrev pub only_member : Data → Option Member
only_member d = only_of (as_object d)

abbrev pub first : Option (List ℕ) → Option (List ℕ) → Option (List ℕ)
first (Some name) other = Some name
first None other = other

-- what is wrong before the list for failures: an unknown key, or a key with something of another form
abbrev pub fault_before : Kind → Members → Data → Option (List ℕ)
fault_before kind ms d = first (unknown_key kind ms) (option_map key_name (first_wrong kind keys_before d))

-- and behind it
abbrev pub fault_behind : Kind → Data → Option (List ℕ)
fault_behind kind d = option_map key_name (first_wrong kind keys_behind d)

-- a script that is met, if there is one
abbrev pub met_with : Met → Option PipeScript → Met
met_with met None = met
met_with met (Some script) = record met { scripts = met.scripts ++ script ∷ [] }

-- where the script that tests a document stands among the scripts, if there is one
abbrev pub place_of_test : Met → Option PipeScript → Option ℕ
place_of_test met test = option_map (λ script. length met.scripts) test

abbrev pub guard_of : List ℕ → Data → Met → Guard
guard_of path d met = record { test = place_of_test met (test_of path d); follows = follows_of d }

-- how a list for failures is read: at a path, from a value, behind what was met
abbrev pub Inner : Type 0
Inner = List ℕ → Data → Met → Reading Processors

abbrev pub failures_in : Inner → List ℕ → Option Data → Met → Reading Processors
failures_in inner path None met = read End met
failures_in inner path (Some d) met = inner (below path on_failure) d met

abbrev pub unless : {X : Type 0} → List ℕ → Option (List ℕ) → Reading X → Reading X
unless path None reading = reading
unless path (Some name) reading = Err (below path name)

-- what the processor does, and its script is met
abbrev pub acting : List ℕ → Kind → Data → Met → Result Action (List ℕ) → Reading Action
acting path kind d met (Ok action) = read action (met_with met (change_of path kind d))
acting path kind d met (Err wrong) = Err wrong

-- what is behind the list for failures
abbrev pub ended : List ℕ → Kind → Data → Met → Reading Action
ended path kind d met = unless path (fault_behind kind d) (acting path kind d met (action_of path kind (length met.scripts) d))

abbrev pub processor : Guard → Action → Processors → Processor
processor guard action failures = record { guard = guard; action = action; on_failure = failures }

-- the processor of a kind, from the members of the object at its path
abbrev pub processor_of : Inner → List ℕ → Kind → Members → Data → Met → Reading Processor
processor_of inner path kind ms d met =
    unless path (fault_before kind ms d)
    (behind (failures_in inner path (get on_failure d) (met_with met (test_of path d)))
    (λ failures after. behind (ended path kind d after) (λ action last. read (processor (guard_of path d met) action failures) last)))

abbrev pub kind_of : Inner → List ℕ → Kind → Option Members → Data → Met → Reading Processor
kind_of inner path kind None d met = Err path
kind_of inner path kind (Some ms) d met = processor_of inner path kind ms d met

abbrev pub named_of : Inner → List ℕ → Option Kind → Data → Met → Reading Processor
named_of inner path None d met = Err path
named_of inner path (Some kind) d met = kind_of inner path kind (as_object d) d met

abbrev pub member_of : Inner → List ℕ → Option Member → Met → Reading Processor
member_of inner path None met = Err path
member_of inner path (Some m) met = named_of inner (below path m.name) (named m.name kind_names) m.value met

-- The processor at a path. Behind 256 none is looked at.
abbrev pub processor_at : Inner → List ℕ → Data → Met → Reading Processor
processor_at inner path d met = if nat_lt met.count 256 then member_of inner path (only_member d) (record met { count = met.count + 1 }) else Err path

-- ---- a list of processors

abbrev pub listed : Processor → List Processor → Met → Reading (List Processor)
listed one rest met = read (one ∷ rest) met

-- the processors of a list from the one with this number on
abbrev pub processors_from : Inner → List ℕ → ℕ → Items → Met → Reading (List Processor)
processors_from inner path number no_items met = read [] met
processors_from inner path number (item d ds) met =
    behind (processor_at inner (numbered path number) d met) (λ one after. behind (processors_from inner path (number + 1) ds after) (listed one))

-- processors before others
abbrev pub chained : List Processor → Processors → Processors
chained [] rest = rest
chained (one ∷ more) rest = Then one.guard one.action one.on_failure (chained more rest)

abbrev pub list_at : Inner → List ℕ → Items → Met → Reading Processors
list_at inner path ds met = behind (processors_from inner path 0 ds met) (λ all after. read (chained all End) after)

abbrev pub some_at : Inner → List ℕ → Option Items → Met → Reading Processors
some_at inner path None met = Err path
some_at inner path (Some no_items) met = Err path
some_at inner path (Some (item d ds)) met = list_at inner path (item d ds) met

-- A list for failures, which is not empty. It may hold others, so many levels deep.
unfoldable pub failures_at : ℕ → List ℕ → Data → Met → Reading Processors
failures_at zero path d met = Err path
failures_at (suc levels) path d met = some_at (failures_at levels) path (as_array d) met

-- ---- a pipeline

abbrev pub nothing_met : Met
nothing_met = record { count = 0; scripts = [] }

abbrev pub whole : Reading Processors → Result Pipeline (List ℕ)
whole (Ok all) = Ok (record { processors = all.made; scripts = all.met.scripts })
whole (Err path) = Err path

abbrev pub pipeline_in : Option Items → Result Pipeline (List ℕ)
pipeline_in None = Err whole_path
pipeline_in (Some ds) = whole (list_at (failures_at 16) whole_path ds nothing_met)

-- The pipeline that a value denotes, or the path of the first place that is wrong: a list of processors, which may be empty.
abbrev pub pipeline_of : Data → Result Pipeline (List ℕ)
pipeline_of d = pipeline_in (as_array d)

-- ---- answers

-- What was read is what is meant, with what was met by then, or the error tells the path of what is wrong. Want of memory is
-- free.
abbrev pub IsRead : {X : Type 0} → Reading X → Met → Result X PipeErr → Type 0
IsRead meaning met (Ok made) = meaning ≡ read made met
IsRead meaning met (Err (e.Bad told)) = meaning ≡ Err (string_bytes told)
IsRead meaning met (Err e.NoMemory) = Unit {0}
