-- What makes something may want memory.
use Rattle.std.proofs.Common.{List, ℕ}
use Rattle.object_values.specs.declared.object.Object.{Object}
use Rattle.object_values.specs.declared.value.Value.{Value}
use Rattle.value_walks.specs.declared.TheConstants.{VISITS}
use Rattle.value_walks.specs.Texts.{Text, Wrote, TooDeep, TooLarge, text_of}
use Rattle.api_map.specs.Bulk as bulk
use Rattle.api_map.specs.Maps.{no_field}
use Rattle.container_outcomes.specs.Outcomes.{NeedsMemory, says}
use Rattle.api_map.specs.Maps.{followed_by}

walk_needs : (walk : Text) → NeedsMemory (followed_by walk no_field)
unfolding says no_field
walk_needs (Wrote text visits) = tt
walk_needs TooDeep = tt
walk_needs TooLarge = tt

pub field_needs : (objects : List Object) (key : Value) → NeedsMemory (followed_by (text_of objects key VISITS) no_field)
field_needs objects key = walk_needs (text_of objects key VISITS)

-- a map or a set with the pairs that stay is made
pub map_needs : (id class changes before : ℕ) (sifted : bulk.Sifted) → NeedsMemory (bulk.map_sifted id class changes before sifted)
unfolding says
map_needs id class changes before (bulk.Left left) = tt
map_needs id class changes before bulk.TooDeep = tt
map_needs id class changes before bulk.TooLarge = tt

pub set_needs : (id class changes before : ℕ) (sifted : bulk.Sifted) → NeedsMemory (bulk.set_sifted id class changes before sifted)
unfolding says
set_needs id class changes before (bulk.Left left) = tt
set_needs id class changes before bulk.TooDeep = tt
set_needs id class changes before bulk.TooLarge = tt
