use Rattle.def_resolve.proofs.Inheriting.{one_instance, same_member}
use Rattle.def_resolve.proofs.Tables.{method_arity}
use Rattle.def_resolve.proofs.Taking.{of_its_class, takes_interface}
use Rattle.def_resolve.proofs.laws.resolution_laws.Goals as goal

pub returns-clause-same : goal.returns-clause-same
returns-clause-same c = same_member c.catalogue_laws.ensures.depth_first

pub returns-clause-one : goal.returns-clause-one
returns-clause-one c = one_instance c.class_laws.ensures.transitive

pub returns-clause-class : goal.returns-clause-class
returns-clause-class c = of_its_class

pub returns-clause-arity : goal.returns-clause-arity
returns-clause-arity c iface number h = (method_arity iface number h).0

pub returns-clause-takes : goal.returns-clause-takes
returns-clause-takes c = takes_interface
