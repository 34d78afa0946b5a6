use Rattle.std.proofs.Common.{◌≡◌, ◌<◌, ◌-◌, inl, inr, subst, arith, rules}
use Rattle.std.proofs.lemmas.Bool.{cases_lt}
use Rattle.pl_units.specs.Places.{StandsAt}
use Rattle.pl_units.proofs.search.rfind_by_place.Goals as goal

pub loop-place-init : goal.loop-place-init
loop-place-init c =
    λ place after stands.
    let within : place < c.place_count-place.result = (c.place_count-place.ensures place).1 stands.0 in
    omega arith

pub stands_at-requires : goal.stands_at-requires
stands_at-requires c = (c.place_count-place.ensures _).0 (omega arith)

pub returns-then-stands_at-clause-found : goal.returns-then-stands_at-clause-found
returns-then-stands_at-clause-found c = record {
  stands = search rules;
  greatest = λ later after. c.loop-place.invariant later (omega arith);
}

pub loop-place-preserved : goal.loop-place-preserved
loop-place-preserved c =
    λ place after stands.
    elim (cases_lt place c.loop-place.place) [
      | inl here ↦
          let at : place ≡ c.loop-place.place - 1 = omega arith in
          let there = subst (StandsAt c.args.text.now c.args.part.now) at stands in
          search rules
      | inr later ↦ c.loop-place.invariant place later stands
    ]

pub returns-clause-none : goal.returns-clause-none
returns-clause-none c = λ place. c.loop-place.invariant place (omega arith)
