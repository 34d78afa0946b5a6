-- Commands of the code as commands.
use Rattle.std.specs.Prelude.{Option, unwrap_or, option_map}
use Rattle.serde_json.specs.Data.{Data, object, no_members}
use Rattle.serde_json.specs.View.{view}
use Rattle.script_store.specs.Script.{script}
use Rattle.serve_lines.specs.declared.command.ServeCommand.{ServeCommand}
use Rattle.serve_lines.specs.declared.command.ServeCommand.TheVariants as c
use Rattle.serve_lines.specs.Commands.{Asked, puts, gets, deletes, runs, counts}

-- an empty object where there are none
abbrev pub params_seen : Option Data → Data
params_seen params = unwrap_or params (object no_members)

abbrev pub command_seen : ServeCommand → Asked
command_seen (c.Put id kind source) = puts id.now (script kind source.now)
command_seen (c.Get id) = gets id.now
command_seen (c.Delete id) = deletes id.now
command_seen (c.Run id line params) = runs id.now (view line.now) (params_seen (option_map (λ d. view d.now) params))
command_seen c.Stats = counts
