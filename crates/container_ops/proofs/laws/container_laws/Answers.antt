use Rattle.container_ops.proofs.Keeping.{array_filled_fits, array_made_fits, element_given_fits, element_read_fits, element_written_fits, has_more_fits, iterated_fits, length_of_fits, list_made_fits, map_made_fits, next_element_fits}
use Rattle.container_ops.proofs.Leaving.{array_filled_leaves, array_made_leaves, element_given_leaves, element_read_leaves, element_written_leaves, has_more_leaves, iterated_leaves, length_of_leaves, list_made_leaves, map_made_leaves, next_element_leaves, element_read_gives, has_more_gives, length_of_gives}
use Rattle.container_ops.proofs.laws.container_laws.Goals as goal

pub returns-clause-fit : goal.returns-clause-fit
returns-clause-fit c = record {
  lists = list_made_fits;
  maps = map_made_fits;
  filled = array_filled_fits;
  arrays = array_made_fits;
  read = element_read_fits;
  given = element_given_fits;
  written = element_written_fits;
  lengths = length_of_fits;
  iterators = iterated_fits;
  more = has_more_fits;
  next = next_element_fits;
}

pub returns-clause-leave : goal.returns-clause-leave
returns-clause-leave c = record {
  lists = list_made_leaves;
  maps = map_made_leaves;
  filled = array_filled_leaves;
  arrays = array_made_leaves;
  read = element_read_leaves;
  given = element_given_leaves;
  written = element_written_leaves;
  lengths = length_of_leaves;
  iterators = iterated_leaves;
  more = has_more_leaves;
  next = next_element_leaves;
}

pub returns-clause-primitives : goal.returns-clause-primitives
returns-clause-primitives c = record { read = element_read_gives; lengths = length_of_gives; more = has_more_gives }
