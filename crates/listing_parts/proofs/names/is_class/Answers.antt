use Rattle.std.proofs.Common.{rules}
use Rattle.std.proofs.lemmas.Iterator.Search.{all_from_yields_List}
use Rattle.std.proofs.lemmas.Iterator.Splits.{YieldsList-from_slice_split}
use Rattle.listing_parts.specs.Names.{is_name, is_joint, is_class}
use Rattle.listing_parts.proofs.names.is_class.Goals as goal

pub returns : goal.returns
unfolding is_class
returns c = all_from_yields_List is_name _ _ _ c.all.ensures.ran (YieldsList-from_slice_split _ is_joint c.args.text.now c.split.ensures.rest c.split.ensures.done c.split.ensures.closure (λ x b q k. search rules)) (λ x b q k. search rules)
