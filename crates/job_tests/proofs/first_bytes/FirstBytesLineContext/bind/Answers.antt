-- A line is bound to its first byte.
use Rattle.job_tests.proofs.Bytes.{bound_so}
use Rattle.job_tests.proofs.first_bytes.FirstBytesLineContext.bind.Goals as goal

pub returns : goal.returns
returns c = (
  bound_so c.args.line.now c.new-heap.result c.in_ok-args.args c.first_byte-kept.result c.first_byte-kept.ensures c.in_ok-args.ensures c.new-heap.ensures,
  c.in_ok-args.ensures,
)
