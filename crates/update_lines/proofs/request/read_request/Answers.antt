use Rattle.update_lines.proofs.Asking.{asked_line}
use Rattle.update_lines.proofs.request.read_request.Goals as goal

pub returns : goal.returns
returns c = asked_line c.args.line.now c.requested.result c.requested.ensures.text c.requested.ensures.bytes
