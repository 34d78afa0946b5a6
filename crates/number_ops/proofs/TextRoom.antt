-- Texts that are made if there is room for them.
use Rattle.std.proofs.Common.{◌≡◌, ℕ, ◌+◌, ◌-◌, ◌≤◌, ◌∙◌, List, [], ◌++◌, Option, Result, Some, Ok, length, refl, ap, sym, subst, arith}
use Rattle.object_values.specs.declared.value.Value.{Value}
use Rattle.object_heap.specs.Effects.{NoRoom}
use Rattle.object_heap.specs.Store.{Store}
use Rattle.object_heap.proofs.Paying.{not_charged}
use Rattle.value_walks.specs.declared.TheConstants.{VISITS}
use Rattle.value_walks.specs.declared.error.TextErr.{TextErr}
use Rattle.value_walks.specs.declared.outputs.Output.{Output}
use Rattle.value_walks.specs.declared.outputs.Output.TheVariants.{Kept}
use Rattle.value_walks.specs.Texts.{Text, Wrote, TooDeep, TooLarge, GivesWithin, IsLonger, Writes, follow, text_of}
use Rattle.number_ops.specs.declared.affording.Afforded.{Afforded}
use Rattle.number_ops.specs.declared.outcome.Outcome.{Outcome}
use Rattle.number_ops.specs.declared.outcome.Outcome.TheVariants.{Makes}
use Rattle.number_ops.specs.Operators.{both_texts, concatenated, followed_by}
use Rattle.number_ops.specs.Outcomes.{Affords, NeedsMemory, Tells, effect, too_deep, too_large}
use Rattle.number_ops.proofs.Needing.{walk_needs}

pub made_whole : (room : ℕ) (walk : Text) (text : List ℕ) → GivesWithin room walk (Ok (Some text)) → followed_by walk Makes ≡ Makes text
made_whole room walk text h = ap (λ (w : Text). followed_by w Makes) h.1

-- a text costs its units and 1
no_room_for_text : (store : Store) (text : List ℕ) → store.room ≤ length text → effect store (Makes text) ≡ NoRoom
no_room_for_text store text h = rw (not_charged store (length text + 1) (omega arith)) refl

pub no_room_for_walk : (store : Store) (walk : Text) → IsLonger (store.room - 1) walk → effect store (followed_by walk Makes) ≡ NoRoom
no_room_for_walk store (Wrote text visits) h = no_room_for_text store text (omega arith)
no_room_for_walk store TooDeep h = absurd h
no_room_for_walk store TooLarge h = absurd h

pub walk_makes : (walk : Text) → NeedsMemory (followed_by walk Makes)
walk_makes walk = walk_needs walk Makes (λ text. tt)

pub deep_told : (walk : Text) (result : Outcome) → walk ≡ TooDeep → Tells too_deep result → Tells (followed_by walk Makes) result
deep_told walk result h told = subst (λ (w : Text). Tells (followed_by w Makes) result) (sym h) told

pub large_told : (walk : Text) (result : Outcome) → walk ≡ TooLarge → Tells too_large result → Tells (followed_by walk Makes) result
large_told walk result h told = subst (λ (w : Text). Tells (followed_by w Makes) result) (sym h) told

-- one walk over both texts
both_followed : (a b : Text) → followed_by (follow a (λ rest. b)) Makes ≡ followed_by a (λ text. followed_by b (λ more. Makes (text ++ more)))
both_followed (Wrote text visits) (Wrote more rest) = refl
both_followed (Wrote text visits) TooDeep = refl
both_followed (Wrote text visits) TooLarge = refl
both_followed TooDeep b = refl
both_followed TooLarge b = refl

pub told_of_both : (store : Store) (a b : Value) (room : ℕ) (old out : Output) (walked : Result ℕ TextErr) (made : Result (Option (List ℕ)) TextErr) (result : Afforded)
    → room ≡ store.room - 1 → old ≡ Kept [] room → Writes (both_texts store.objects a b) old out walked
    → ((limit : ℕ) (walk : Text) → Writes walk (Kept [] limit) out walked → GivesWithin limit walk made)
    → ((walk : Text) → GivesWithin (store.room - 1) walk made → Affords store (followed_by walk Makes) result)
    → Affords store (concatenated store.objects a b) result
told_of_both store a b room old out walked made result r o w gives told =
    let same : old ≡ Kept [] (store.room - 1) = o ∙ ap (Kept []) r in
    let written : Writes (both_texts store.objects a b) (Kept [] (store.room - 1)) out walked =
    subst (λ (from : Output). Writes (both_texts store.objects a b) from out walked) same w in
    subst (λ (t : Outcome). Affords store t result) (both_followed (text_of store.objects a VISITS) (text_of store.objects b VISITS))
    (told (both_texts store.objects a b) (gives (store.room - 1) (both_texts store.objects a b) written))
