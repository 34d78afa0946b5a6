use Rattle.pl_code.proofs.Exact.{codes_same, read_is_code}
use Rattle.pl_code.proofs.laws.listing_laws.Goals as goal

pub returns : goal.returns
returns c = record {
  one_code = codes_same;
  read_back = read_is_code;
}
