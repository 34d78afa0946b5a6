use Rattle.std.proofs.Common.{sym, ap, ◌∙◌}
use Rattle.compiler_relation.specs.Representation.{representation_of}
use Rattle.codegen.proofs.Opened.{type_opened}
use Rattle.codegen.proofs.expressions.representation_in.Goals as goal

pub returns : goal.returns
returns c = c.representation_of.ensures ∙ sym (ap representation_of (type_opened c.args.e.now))
