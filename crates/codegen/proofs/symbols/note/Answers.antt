use Rattle.std.proofs.Common.{Some}
use Rattle.std.specs.String.{string_bytes}
use Rattle.std.proofs.lemmas.Map.Text.{hash_map_updates_text}
use Rattle.codegen.proofs.symbols.note.Goals as goal

pub returns : goal.returns
returns c = hash_map_updates_text (string_bytes c.args.name) c.args.places.now c.insert.new.self (Some c.args.at) c.in_ok-insert.ensures.updates
