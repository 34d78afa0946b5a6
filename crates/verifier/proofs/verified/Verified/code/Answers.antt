use Rattle.std.proofs.Common.{subst}
use Rattle.verifier.specs.Verified.{IsSound}
use Rattle.verifier.proofs.verified.Verified.code.Goals as goal

pub returns-clause-shaped : goal.returns-clause-shaped
returns-clause-shaped c =
    let sound : IsSound c.args.self.now = subst IsSound c.self.view_is c.self.invariant.0 in
    (c.shape_laws.ensures.well_shaped c.args.self.now.allow c.args.self.now.code).0 sound.none
