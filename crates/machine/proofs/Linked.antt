-- What instructions name.
use Rattle.std.proofs.Common.{◌≡◌, ℕ, suc, List, [], Option, Some, sym, ap, subst, ◌∙◌}
use Rattle.object_values.specs.declared.object.Object.{Object}
use Rattle.object_heap.specs.Store.{Store}
use Rattle.def_access.specs.Access.{method_called}
use Rattle.machine_parts.specs.Members.{method_of, constructor_of, field_of}
use Rattle.pl_code.specs.declared.code.Instruction.{Instruction}
use Rattle.pl_code.specs.declared.code.Instruction.TheVariants as i
use Rattle.pl_code.specs.declared.kinds.Sized.{Sized}
use Rattle.pl_code.specs.declared.kinds.Typed.{Typed}
use Rattle.pl_code.specs.declared.kinds.Way.{Way}
use Rattle.run_state.specs.World as world
use Rattle.run_state.specs.World.{World, allowed_in}
use Rattle.code_meaning.specs.Members.{references_in}
use Rattle.code_meaning.specs.Machine.{Codes, Frame, Next, act, on_access, on_first, on_values, on_words, take_words, sized_act, typed_act, cast_act, member_act, on_type, is_written}
use Rattle.machine_parts.specs.Links.{instruction_at, link_at, type_in, linked_member}
use Rattle.machine.specs.Sparing.{InstructionSpares, MemberSpares, CastSpares, OnType, OnValue, TypedSpares}
use Rattle.machine.specs.declared.configuration.Limits.{Limits}
use Rattle.machine.specs.Seen.{Executable, codes_in, limits_in, text_of}
use Rattle.allowlist.specs.Allow.{AllowList}
use Rattle.machine_parts.proofs.Linked as linked

-- a call of a method by its name, with the members of a list
abbrev pub called_by_list : Codes → world.Limits → AllowList → List ℕ → ℕ → Frame → List Frame → World → Next
called_by_list codes limits list name n f below w =
    on_words (take_words (suc n) f.stack []) (λ words stack. on_values (references_in words) (λ values. on_first values (λ receiver arguments.
    on_access codes limits (method_called list w.store receiver name arguments) f below w stack)))

-- at an instruction of the code
module _ (e : Executable) (l : Limits) (line : Instruction) (f : Frame) (there : instruction_at e f ≡ Some line) where
  -- the members that its text may call
  abbrev list : AllowList
  list = (text_of e f.text).allow

  allowed : allowed_in (limits_in e l) f.text ≡ list
  allowed = linked.allows e l.loops l.depth f.text

  -- what such an instruction does is what its link makes of it
  module _ (below : List Frame) (w : World) where
    abbrev acts : Instruction → Next
    acts line = act (codes_in e) (limits_in e l) line f below w

    pub typed_acts : (kind : Typed) (of : List ℕ) → line ≡ i.Typed kind of → acts line ≡ on_type (type_in (link_at e f)) (λ of. typed_act (codes_in e) (limits_in e l) kind of f below w)
    typed_acts kind of is = ap acts is ∙ ap (λ o. on_type o (λ of. typed_act (codes_in e) (limits_in e l) kind of f below w)) (sym (linked.typed_names e line f there kind of is))

    pub sized_acts : (kind : Sized) (of : List ℕ) (n : ℕ) → line ≡ i.Sized kind of n → acts line ≡ on_type (type_in (link_at e f)) (λ of. sized_act (codes_in e) (limits_in e l) kind of n f below w)
    sized_acts kind of n is = ap acts is ∙ ap (λ o. on_type o (λ of. sized_act (codes_in e) (limits_in e l) kind of n f below w)) (sym (linked.sized_names e line f there kind of n is))

    pub called_acts : (name : List ℕ) (n : ℕ) → line ≡ i.DefCall name n → acts line ≡ called_by_list (codes_in e) (limits_in e l) (text_of e f.text).allow name n f below w
    called_acts name n is = ap acts is ∙ ap (λ (list : AllowList). called_by_list (codes_in e) (limits_in e l) list name n f below w) allowed

    pub cast_acts : (to : List ℕ) (way : Way) → line ≡ i.Cast to way → acts line ≡ on_type (type_in (link_at e f)) (λ to. cast_act (codes_in e) (limits_in e l) to (is_written way) f below w)
    cast_acts to way is = ap acts is ∙ ap (λ o. on_type o (λ to. cast_act (codes_in e) (limits_in e l) to (is_written way) f below w)) (sym (linked.cast_names e line f there to way is))

    -- a member that is called
    abbrev calls : Option ℕ → Next
    calls o = member_act (codes_in e) (limits_in e l) (text_of e f.text).allow o f below w

    pub method_acts : (method : List ℕ) → line ≡ i.Invoke method → acts line ≡ member_act (codes_in e) (limits_in e l) (text_of e f.text).allow (linked_member (link_at e f)) f below w
    method_acts method is =
        ap acts is ∙ ap (λ (list : AllowList). member_act (codes_in e) (limits_in e l) list (method_of list method) f below w) allowed ∙ ap calls (sym (linked.method_names e line f there method is))

    pub constructor_acts : (constructor : List ℕ) → line ≡ i.New constructor → acts line ≡ member_act (codes_in e) (limits_in e l) (text_of e f.text).allow (linked_member (link_at e f)) f below w
    constructor_acts constructor is =
        ap acts is ∙ ap (λ (list : AllowList). member_act (codes_in e) (limits_in e l) list (constructor_of list constructor) f below w) allowed ∙ ap calls (sym (linked.constructor_names e line f there constructor is))

    pub field_acts : (field : List ℕ) → line ≡ i.Field field → acts line ≡ member_act (codes_in e) (limits_in e l) (text_of e f.text).allow (linked_member (link_at e f)) f below w
    field_acts field is =
        ap acts is ∙ ap (λ (list : AllowList). member_act (codes_in e) (limits_in e l) list (field_of list field) f below w) allowed ∙ ap calls (sym (linked.field_names e line f there field is))

  -- and it spares memory where that does
  module _ (store : Store) where
    abbrev objects : List Object
    objects = store.objects

    abbrev Sparing : Instruction → Type 0
    Sparing line = InstructionSpares (allowed_in (limits_in e l) f.text) line f store

    pub typed_spares : (kind : Typed) (of : List ℕ) → line ≡ i.Typed kind of → Sparing line → OnType (type_in (link_at e f)) (λ of. TypedSpares kind of f.stack store)
    typed_spares kind of is h = subst (λ o. OnType o (λ of. TypedSpares kind of f.stack store)) (sym (linked.typed_names e line f there kind of is)) (subst Sparing is h)

    pub cast_spares : (to : List ℕ) (way : Way) → line ≡ i.Cast to way → Sparing line → OnType (type_in (link_at e f)) (λ to. OnValue f.stack (CastSpares objects to (is_written way)))
    cast_spares to way is h = subst (λ o. OnType o (λ to. OnValue f.stack (CastSpares objects to (is_written way)))) (sym (linked.cast_names e line f there to way is)) (subst Sparing is h)

    abbrev Called : Option ℕ → Type 0
    Called o = MemberSpares (text_of e f.text).allow o f.stack objects

    pub method_spares : (method : List ℕ) → line ≡ i.Invoke method → Sparing line → MemberSpares (text_of e f.text).allow (linked_member (link_at e f)) f.stack objects
    method_spares method is h =
        subst Called (sym (linked.method_names e line f there method is)) (subst (λ (list : AllowList). MemberSpares list (method_of list method) f.stack objects) allowed (subst Sparing is h))

    pub constructor_spares : (constructor : List ℕ) → line ≡ i.New constructor → Sparing line → MemberSpares (text_of e f.text).allow (linked_member (link_at e f)) f.stack objects
    constructor_spares constructor is h =
        subst Called (sym (linked.constructor_names e line f there constructor is)) (subst (λ (list : AllowList). MemberSpares list (constructor_of list constructor) f.stack objects) allowed (subst Sparing is h))

    pub field_spares : (field : List ℕ) → line ≡ i.Field field → Sparing line → MemberSpares (text_of e f.text).allow (linked_member (link_at e f)) f.stack objects
    field_spares field is h =
        subst Called (sym (linked.field_names e line f there field is)) (subst (λ (list : AllowList). MemberSpares list (field_of list field) f.stack objects) allowed (subst Sparing is h))
