-- The sides of operators, as the code has them.
use Rattle.typing_rules.specs.Rules.Operators as spec
use Rattle.typing_rules.specs.declared.rules.sides.Side.{Side}
use Rattle.typing_rules.specs.declared.rules.sides.Side.TheVariants as s

abbrev pub seen : Side → spec.Side
seen s.Void = spec.OfVoid
seen s.Null = spec.OfNull
seen s.Primitive = spec.OfPrimitive
seen s.Def = spec.OfDef
seen s.Text = spec.OfText
seen s.Container = spec.OfContainer
seen s.Other = spec.OfOther
