-- The job that runs over the documents of the generator.
use Rattle.std.specs.Prelude.{ℕ, List, [], ◌∷◌, false, None, codes}
use Rattle.serde_json.specs.Data.{object, no_members}
use Rattle.job_loading.specs.Allow.{full_list}
use Rattle.job_file.specs.declared.context.JobContext.TheVariants as c
use Rattle.job_file.specs.declared.limits.Limit.TheVariants as l
use Rattle.job_file.specs.declared.limits.JobLimits.{JobLimits}
use Rattle.job_file.specs.declared.mapping.FieldKind.TheVariants as f
use Rattle.job_file.specs.Answers.{no_particulars}
use Rattle.job_file.specs.Jobs.{JobData}
use Rattle.job_file.specs.Limits.{row_of_limit}
use Rattle.job_loading.specs.Loading.{JobUnder}

-- the limits of a job that says none
abbrev pub default_limits : JobLimits
default_limits = record {
  loops = (row_of_limit l.Loop).default;
  depth = (row_of_limit l.Depth).default;
  ticks = (row_of_limit l.Ticks).default;
  room = (row_of_limit l.Room).default;
  input = (row_of_limit l.Input).default;
}

-- its script
abbrev pub fixed_script : List ℕ
fixed_script = codes "doc['n'].value * 2 + doc['tag'].value.length()"

abbrev pub fixed_job : JobData
fixed_job = record {
  context = c.Field;
  scripts = (codes "script", fixed_script) ∷ [];
  params = object no_members;
  mapping = (codes "n", f.Long) ∷ (codes "tag", f.Keyword) ∷ [];
  allow = None;
  limits = default_limits;
  shards = (row_of_limit l.Shards).default;
  order = [];
  slice = (row_of_limit l.Slice).default;
  listing = false;
  steps = false;
  members = false;
  prelude = false;
  particulars = no_particulars;
}

-- under the full catalogue
abbrev pub fixed_under : JobUnder
fixed_under = record { job = fixed_job; allow = full_list }
