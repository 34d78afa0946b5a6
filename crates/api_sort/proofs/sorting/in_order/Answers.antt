use Rattle.std.proofs.Common.{◌∙◌, List, ap, is_lt, rules, ◌≡◌}
use Rattle.std.specs.Cmp.{IsStrictWeakOrder, int_cmp_total, on_total, then_total}
use Rattle.std.specs.Cmp.Lexicographic.{on_texts}
use Rattle.std.proofs.lemmas.Fn.{always_returns_same}
use Rattle.std.proofs.lemmas.List.Sorted.{ranks_by}
use Rattle.object_values.specs.declared.value.Value.{Value}
use Rattle.api_sort.specs.Keys.{key_before, number_in, units_in}
use Rattle.api_sort.specs.Sorting.{sorted_by}
use Rattle.api_sort.proofs.Sorts.{sorted_is}
use Rattle.api_sort.proofs.sorting.in_order.Goals as goal

keys_rank : IsStrictWeakOrder key_before
keys_rank = ranks_by (then_total (on_total number_in int_cmp_total) (on_texts units_in)) (λ (value : Value). value)

pub returns : goal.returns
returns c =
    let told = always_returns_same _ (λ a r. is_lt r ≡ key_before a.0.now a.1.0.now) _ (λ a r f' k. search rules) in
    c.from_vec.ensures
    ∙ (sorted_is key_before keys_rank _ _ (c.in_ok-sort_by.ensures.sorted key_before keys_rank told) (c.in_ok-sort_by.ensures.stable key_before keys_rank told)
    ∙ ap (λ (items : List Value). sorted_by key_before items) (c.into_vec-sorted.ensures ∙ c.in_ok-copy.ensures))
