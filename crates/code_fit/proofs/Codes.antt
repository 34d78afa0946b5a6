-- A run of codes keeps to their rules.
use Rattle.code_meaning.specs.Machine.{start}
use Rattle.code_fit.specs.Laws.{CodesFit}
use Rattle.code_fit.proofs.Steps.{starts_fit_all, runs_fit}

pub codes_fit : CodesFit
codes_fit codes limits words w steps f h = runs_fit w.store.objects codes limits steps (start codes words w) (starts_fit_all codes words w f h)
