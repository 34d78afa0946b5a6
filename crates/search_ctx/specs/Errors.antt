-- What an error of a document is for a line.
use Rattle.json_bridge.specs.declared.error.BindErr.{BindErr}
use Rattle.json_bridge.specs.declared.error.BindErr.TheVariants as b
use Rattle.search_ctx.specs.declared.error.DocErr.{DocErr}
use Rattle.search_ctx.specs.declared.error.DocErr.TheVariants as d

abbrev pub bind_of_doc : DocErr → BindErr
bind_of_doc d.Field = b.Field
bind_of_doc d.NoMemory = b.NoMemory
