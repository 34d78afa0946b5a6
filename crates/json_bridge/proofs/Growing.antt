-- Heaps that grow go on beginning with what was there.
use Rattle.std.proofs.Common.{◌≡◌, List, [], ◌∷◌, ◌++◌, sym, ap, ◌∙◌, append-nil, append_assoc}
use Rattle.object_values.specs.declared.object.Object.{Object}
use Rattle.object_heap.specs.Store.{Store}
use Rattle.json_bridge.specs.Binding.{Grown}

pub grown_same : (old new : Store) → new ≡ old → Grown old new
grown_same old new e = record {
  more = [];
  objects = ap (λ (s : Store). s.objects) e ∙ sym (append-nil old.objects);
  room = ap (λ (s : Store). s.room) e;
}

pub grown_once : (old new : Store) (next : Object) → new ≡ record old { objects = old.objects ++ next ∷ [] } → Grown old new
grown_once old new next e = record {
  more = next ∷ [];
  objects = ap (λ (s : Store). s.objects) e;
  room = ap (λ (s : Store). s.room) e;
}

pub grown_twice : (old middle new : Store) → Grown old middle → Grown middle new → Grown old new
grown_twice old middle new a b = record {
  more = a.more ++ b.more;
  objects = b.objects ∙ ap (λ (front : List Object). front ++ b.more) a.objects ∙ append_assoc old.objects a.more b.more;
  room = b.room ∙ a.room;
}
