use Rattle.pl_code.proofs.Exact.{answered, only_ok, only_syntax, only_version}
use Rattle.pl_code.proofs.reading.read_listing.Goals as goal

pub returns : goal.returns
returns c = record {
  exact = answered c.args.bytes.now c.listing_of.result c.listing_of.ensures;
  only_code = only_ok c.args.bytes.now c.listing_of.result c.listing_of.ensures;
  only_syntax = only_syntax c.args.bytes.now c.listing_of.result c.listing_of.ensures;
  only_version = only_version c.args.bytes.now c.listing_of.result c.listing_of.ensures;
}
