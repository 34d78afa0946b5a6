-- A run of a main script keeps to the rules of its program.
use Rattle.std.proofs.Common.{[], subst}
use Rattle.object_values.specs.declared.object.Owner.TheVariants.{Script}
use Rattle.run_fit.specs.Worlds.{count_in}
use Rattle.run_fit.proofs.Effects.{beginnings_fit}
use Rattle.source_meaning.specs.Meaning.{entry, meaning}
use Rattle.source_fit.specs.Laws.{MainsFit}
use Rattle.source_fit.specs.ProgramRules.{rules_of}
use Rattle.source_fit.proofs.Meanings.{meanings_fit}
use Rattle.source_fit.proofs.Values.{EntryFits, entry_fits}

pub mains_fit : MainsFit
mains_fit funs limits bound main is w arguments f g e entered =
    (meanings_fit w.store.objects funs limits bound).stmts main.body (record { text = Script; depth = 0 }) (record { world = w; turns = 0 }) e
    (beginnings_fit (rules_of funs) w f, subst (EntryFits (count_in w)) entered (entry_fits (count_in w) main.params arguments [] g tt))
