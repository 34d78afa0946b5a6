use Rattle.verifier.proofs.Whole.{shapes_are_unique, sound_is_well_shaped, breaks_where_shapes_end}
use Rattle.verifier.proofs.Steps.{fitting_goes_on}
use Rattle.verifier.proofs.laws.shape_laws.Goals as goal

pub returns : goal.returns
returns c = record { unique = shapes_are_unique; well_shaped = sound_is_well_shaped; first = breaks_where_shapes_end; goes_on = fitting_goes_on }
