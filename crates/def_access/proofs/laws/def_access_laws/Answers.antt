use Rattle.def_access.proofs.Confined.{index_read_confined, index_written_confined, method_called_confined, name_read_confined, name_written_confined}
use Rattle.def_access.proofs.Keeping.{index_read_fits, index_read_leaves, index_written_fits, index_written_leaves, method_called_fits, method_called_leaves, name_read_fits, name_read_leaves, name_written_fits, name_written_leaves}
use Rattle.def_access.proofs.laws.def_access_laws.Goals as goal

pub returns-clause-confined : goal.returns-clause-confined
returns-clause-confined c = record {
  index_read = index_read_confined;
  index_written = index_written_confined;
  name_read = name_read_confined;
  name_written = name_written_confined;
  method_called = method_called_confined;
}

pub returns-clause-fit : goal.returns-clause-fit
returns-clause-fit c = record {
  index_read = index_read_fits;
  index_written = index_written_fits;
  name_read = name_read_fits;
  name_written = name_written_fits;
  method_called = method_called_fits;
}

pub returns-clause-leave : goal.returns-clause-leave
returns-clause-leave c = record {
  index_read = index_read_leaves;
  index_written = index_written_leaves;
  name_read = name_read_leaves;
  name_written = name_written_leaves;
  method_called = method_called_leaves;
}
