use Rattle.std.proofs.Common.{[], ◌∷◌, ◌++◌}
use Rattle.object_heap.specs.Objects.{with_inserted, with_all_inserted, with_put, with_all_put, with_units, with_spliced, renewed_by}
use Rattle.object_heap.specs.Store.{with_change}
use Rattle.object_heap.proofs.Fitting.{added_fits, put_fits, grow_fits, extend_fits, cut_fits, map_put_fits, map_extend_fits, map_cut_fits, map_cut_at_fits, append_fits, splice_fits, renew_fits, refill_fits, items_fit, values_fit, captures_fit}
use Rattle.object_heap.proofs.Keeping.{pays_fits, pays_surely_fits, throws_fits, answers_fit}
use Rattle.object_heap.proofs.laws.heap_keeps_fit.Goals as goal

pub returns-clause-new : goal.returns-clause-new
returns-clause-new c rules = record { each = tt }

pub returns-clause-refill : goal.returns-clause-refill
returns-clause-refill c = refill_fits

pub returns-clause-charge : goal.returns-clause-charge
returns-clause-charge c rules old new units result p f = pays_fits rules old new old.objects units result p f f

pub returns-clause-place : goal.returns-clause-place
returns-clause-place c = added_fits

pub returns-clause-add : goal.returns-clause-add
returns-clause-add c rules old new object result p f h = pays_fits rules old new (old.objects ++ object ∷ []) 0 result p f (added_fits rules old.objects object f h)

pub returns-clause-renew : goal.returns-clause-renew
returns-clause-renew c rules old new id object result p f h =
    pays_surely_fits rules old new (with_change old.objects id (renewed_by object)) 0 result p f (renew_fits rules old.objects id object f h)

pub returns-clause-put : goal.returns-clause-put
returns-clause-put c = put_fits

pub returns-clause-grow : goal.returns-clause-grow
returns-clause-grow c rules old new id at value result p f h =
    pays_fits rules old new (with_change old.objects id (with_inserted at value)) 0 result p f (grow_fits rules old.objects id at value f h)

pub returns-clause-extend : goal.returns-clause-extend
returns-clause-extend c rules old new id at more result p f h =
    pays_fits rules old new (with_change old.objects id (with_all_inserted at more)) 0 result p f (extend_fits rules old.objects id at more f h)

pub returns-clause-cut : goal.returns-clause-cut
returns-clause-cut c = cut_fits

pub returns-clause-map_put : goal.returns-clause-map_put
returns-clause-map_put c rules old new id key value result p f k h =
    pays_fits rules old new (with_change old.objects id (with_put key value)) 0 result p f (map_put_fits rules old.objects id key value f k h)

pub returns-clause-map_extend : goal.returns-clause-map_extend
returns-clause-map_extend c rules old new id more result p f h =
    pays_fits rules old new (with_change old.objects id (with_all_put more)) 0 result p f (map_extend_fits rules old.objects id more f h)

pub returns-clause-map_cut : goal.returns-clause-map_cut
returns-clause-map_cut c = map_cut_fits

pub returns-clause-map_cut_at : goal.returns-clause-map_cut_at
returns-clause-map_cut_at c = map_cut_at_fits

pub returns-clause-append : goal.returns-clause-append
returns-clause-append c rules old new id more result p f =
    pays_fits rules old new (with_change old.objects id (with_units more)) 0 result p f (append_fits rules old.objects id more f)

pub returns-clause-splice : goal.returns-clause-splice
returns-clause-splice c rules old new id from to more result p f =
    pays_fits rules old new (with_change old.objects id (with_spliced from to more)) 0 result p f (splice_fits rules old.objects id from to more f)

pub returns-clause-throw : goal.returns-clause-throw
returns-clause-throw c rules old new class message answer p f h = answers_fit rules _ old new answer p f (throws_fits rules old class message f h)

pub returns-clause-answers : goal.returns-clause-answers
returns-clause-answers c = answers_fit

pub returns-clause-items : goal.returns-clause-items
returns-clause-items c = items_fit

pub returns-clause-values : goal.returns-clause-values
returns-clause-values c = values_fit

pub returns-clause-captures : goal.returns-clause-captures
returns-clause-captures c = captures_fit
