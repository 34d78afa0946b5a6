use Rattle.std.proofs.Common.{◌≡◌, ap, sym, subst}
use Rattle.object_heap.specs.Parts.{units_of}
use Rattle.value_walks.specs.declared.TheConstants.{VISITS}
use Rattle.value_walks.specs.Texts.{TooDeep, TooLarge, text_of}
use Rattle.api_text.specs.Builders.{put_at}
use Rattle.api_text.specs.Outcomes.{Tells, followed_by}
use Rattle.api_text.proofs.builders.inserted_to_builder.Goals as goal

pub returns-in-Err-Deep : goal.returns-in-Err-Deep
returns-in-Err-Deep c =
    let store = c.args.heap.now in
    let walk : text_of store.objects c.args.value.now VISITS ≡ TooDeep = rw c.in-Err-Deep.field-0-is at c.in-Err-Deep.ensures in
    let told = ap (λ text. followed_by text (put_at c.args.builder (units_of store.objects c.args.builder) c.args.at)) walk in
    c.settle.ensures.does _ (subst (λ outcome. Tells store outcome c.too_deep.result) (sym told) c.too_deep.ensures)

pub returns-in-Err-Large : goal.returns-in-Err-Large
returns-in-Err-Large c =
    let store = c.args.heap.now in
    let walk : text_of store.objects c.args.value.now VISITS ≡ TooLarge = rw c.in-Err-Large.field-0-is at c.in-Err-Large.ensures in
    let told = ap (λ text. followed_by text (put_at c.args.builder (units_of store.objects c.args.builder) c.args.at)) walk in
    c.settle-in-Err-Large.ensures.does _ (subst (λ outcome. Tells store outcome c.too_large.result) (sym told) c.too_large.ensures)
