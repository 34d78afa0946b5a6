-- What members give is of their types, and what they throw is an exception.
use Rattle.std.proofs.Common.{arith, ◌≡◌, ◌≤◌, ◌-◌, ℕ, ◌==◌, ◌||◌, ◌&&◌, Bool, true, false, not, ℤ, Option, Some, None, List, [], ◌∷◌, refl, sym, ap, ◌∙◌, subst, slice_get, is_some, if◌then◌else◌}
use Rattle.std.proofs.lemmas.Bool.{and_parts, cond_both, eqb-true, leb-true}
use Rattle.std.proofs.lemmas.Option.{get_or_from_slice_get}
use Rattle.pl_types.specs.Host.{HostMeaning}
use Rattle.pl_types.specs.declared.classes.TheConstants.{STRING_BUILDER}
use Rattle.pl_types.specs.declared.primitive.Primitive.{Primitive}
use Rattle.pl_types.specs.declared.primitive.Primitive.TheVariants as prim
use Rattle.pl_types.specs.declared.ty.Ty.{Ty, out-Ty}
use Rattle.pl_types.specs.declared.ty.Ty.TheVariants as ty
use Rattle.pl_types.specs.declared.ty.Ty.TheOpen.{Ty-F}
use Rattle.allowlist.specs.declared.member.MemberKind.{MemberKind}
use Rattle.allowlist.specs.declared.member.MemberKind.TheVariants as kind
use Rattle.allowlist.specs.declared.member.MemberType.{MemberType}
use Rattle.allowlist.specs.Catalogue.{catalogue, constructor}
use Rattle.allowlist.specs.Index.{member_at}
use Rattle.object_values.specs.declared.object.Object.{Object}
use Rattle.object_values.specs.declared.value.Value.{Value}
use Rattle.object_heap.specs.Effects.{Effect, Gives, Throws, NoRoom}
use Rattle.object_heap.specs.Fits.{Rules, Fits}
use Rattle.object_heap.specs.Store.{Store}
use Rattle.number_ops.specs.Members as numbers
use Rattle.number_ops.specs.Operators.{is_null}
use Rattle.api_text.specs.Members as texts
use Rattle.api_text.specs.Outcomes as text_outcomes
use Rattle.container_calls.specs.Members.{is_of_containers}
use Rattle.container_calls.specs.Types.{primitive_in}
use Rattle.container_calls.proofs.Ranges.{no_container}
use Rattle.run_fit.specs.MemberCallsLaws.{ActLeaves}
use Rattle.run_fit.specs.Members.{is_of_numbers, is_of_texts, is_built, is_of_host, first_of_host, given_by_host, asked_of_host, longs_in, does}
use Rattle.run_fit.specs.MemberCallsTypes.{ActGives}
use Rattle.run_fit.proofs.Built.{no_number, no_text}
use Rattle.run_fit.proofs.Doing.{does_of_numbers, does_of_texts, does_of_containers, does_of_host}
use Rattle.run_fit.proofs.MemberCallsLeaving.{act_leaves}
use Rattle.run_fit.proofs.Owners.{built_stand}
use Rattle.run_fit.proofs.Types.{act_gives}
use Rattle.value_typing.specs.Typing.{is_typed, are_typed, takes_typed_by, takes_typed}
use Rattle.value_typing.specs.Laws.{MembersKeepTypes, HostKeepsTypes}
use Rattle.value_typing.proofs.Effects.{EffectTyped, ActTyped, ActThrows, act_is}
use Rattle.value_typing.proofs.ContainerThrows.{container_throws}
use Rattle.value_typing.proofs.MemberContainers.{container_typed}
use Rattle.value_typing.proofs.MemberNumbers.{number_found_typed, number_throws}
use Rattle.value_typing.proofs.MemberTables.{builder, reference_in, reference_layer, is_builder, is_changer_by, number_row_at, text_row_at, receiver_row_at}
use Rattle.value_typing.proofs.MemberTexts.{TextTyped, FirstIsBuilder, object_is, text_found_typed, text_settled, text_throws}

-- ---- exceptions

act_throws : (rules : Rules) (host : HostMeaning) (number : ℕ) (values : List Value) (store : Store) → Fits rules store.objects → ActThrows (does host number values store)
unfolding does
act_throws rules host number values store f =
    cond_both (is_of_numbers number) _ _ ActThrows (λ _. number_throws rules store (numbers.does_numbered store.objects number values) f)
    (λ _. cond_both (is_of_texts number) _ _ ActThrows (λ _. text_throws rules store (texts.does_numbered store.objects number values) f)
    (λ _. cond_both (is_of_containers number) _ _ ActThrows (λ _. container_throws rules store number values f)
    (λ _. cond_both (is_of_host number) _ _ ActThrows (λ _. text_throws rules store (asked_of_host host number values) f) (λ _. tt))))

-- ---- references

receiver_is : (objects : List Object) (owner : ℕ) (params : List Ty) (receiver : Value) (values : List Value)
    → takes_typed_by kind.Instance owner objects params (receiver ∷ values) ≡ true → is_typed objects (ty.Class owner) receiver ≡ true
receiver_is objects owner params receiver values h =
    let typed = (and_parts (not (is_null receiver)) (is_typed objects (ty.Class owner) receiver && are_typed objects params values) h).1 in
    (and_parts (is_typed objects (ty.Class owner) receiver) (are_typed objects params values) typed).0

-- the receiver of a member that gives its receiver
first_is_builder : (objects : List Object) (sort : MemberKind) (member : MemberType) (values : List Value) → is_changer_by sort member ≡ true
    → takes_typed_by sort member.owner objects member.params values ≡ true → FirstIsBuilder objects values
first_is_builder objects kind.Static member values c h = cc
first_is_builder objects kind.Constructor member values c h = cc
first_is_builder objects kind.Field member values c h = cc
first_is_builder objects kind.Instance member [] c h = cc
first_is_builder objects kind.Instance member (receiver ∷ values) c h = λ id e.
    let typed = receiver_is objects member.owner member.params receiver values h in
    let owner : member.owner ≡ STRING_BUILDER = either (is_builder (out-Ty member.result)) c in
    subst (λ (value : Value). is_typed objects builder value ≡ true) (object_is receiver id e)
    (subst (λ (class : ℕ). is_typed objects (ty.Class class) receiver ≡ true) owner typed)
  where
    either : (b : Bool) → (if b then member.owner == STRING_BUILDER else false) ≡ true → member.owner ≡ STRING_BUILDER
    either true x = eqb-true member.owner STRING_BUILDER x
    either false x = cc

module _ (rules : Rules) (host : HostMeaning) (number : ℕ) (member : MemberType) (values : List Value) (store : Store) (f : Fits rules store.objects)
    (is : slice_get catalogue number ≡ Some member) (takes : takes_typed store.objects member values ≡ true) where
  of_texts : (reference_in member.result ≡ Some member.result) → is_of_numbers number ≡ false → is_of_texts number ≡ true → ActTyped (out-Ty member.result) (does host number values store)
  of_texts reference not_so is_so =
      let same = does_of_texts host number values store not_so is_so in
      let leaves : ActLeaves store.objects (Some (text_outcomes.effect store (texts.does_numbered store.objects number values))) =
      subst (ActLeaves store.objects) same (act_leaves host number values store) in
      subst (ActTyped (out-Ty member.result)) (sym same)
      (text_found_typed store (texts.numbered number) member.result values (text_row_at number member is_so is ∙ reference)
      (λ changes. first_is_builder store.objects member.kind member values (sym (receiver_row_at number member is_so is) ∙ changes) takes) leaves)

  of_numbers : (reference_in member.result ≡ Some member.result) → is_of_numbers number ≡ true → ActTyped (out-Ty member.result) (does host number values store)
  of_numbers reference is_so =
      subst (ActTyped (out-Ty member.result)) (sym (does_of_numbers host number values store is_so))
      (number_found_typed store (numbers.numbered number) member.result values (number_row_at number member is_so is ∙ reference))

  of_containers : (reference_in member.result ≡ Some member.result) → is_of_numbers number ≡ false → is_of_texts number ≡ false → is_of_containers number ≡ true
      → ActTyped (out-Ty member.result) (does host number values store)
  of_containers reference e g is_so =
      subst (ActTyped (out-Ty member.result)) (sym (does_of_containers host number values store e g is_so))
      (container_typed rules store number member values f is_so is reference)

  built_else : is_built number ≡ true → is_of_numbers number ≡ false → is_of_texts number ≡ false → is_of_containers number ≡ true
  unfolding is_built
  built_else b e g = ap (λ second. second || is_of_containers number) (sym g) ∙ ap (λ first. (first || is_of_texts number) || is_of_containers number) (sym e) ∙ b

  reference_typed : (reference_in member.result ≡ Some member.result) → is_built number ≡ true → ActTyped (out-Ty member.result) (does host number values store)
  reference_typed reference built = either (is_of_numbers number) (is_of_texts number) refl refl
    where
      either : (a b : Bool) → is_of_numbers number ≡ a → is_of_texts number ≡ b → ActTyped (out-Ty member.result) (does host number values store)
      either true b is_so e = of_numbers reference is_so
      either false true e is_so = of_texts reference e is_so
      either false false e g = of_containers reference e g (built_else built e g)

-- ---- all types

-- where every value is of a type
every : (l : Ty-F Ty) (o : Option Effect) → ((store : Store) (value : Value) → EffectTyped l (Gives value store)) → ActTyped l o
every l None h = tt
every l (Some (Gives value store)) h = h store value
every l (Some (Throws id store)) h = tt
every l (Some NoRoom) h = tt

primitive_act : (p : Primitive) (o : Option Effect) → ActGives (Some p) o → ActTyped (Ty-F.Prim p) o
primitive_act p None h = tt
primitive_act p (Some (Gives value store)) h = h
primitive_act p (Some (Throws id store)) h = tt
primitive_act p (Some NoRoom) h = tt

typed_act : (rules : Rules) (host : HostMeaning) (number : ℕ) (member : MemberType) (values : List Value) (store : Store) → Fits rules store.objects → is_built number ≡ true
    → slice_get catalogue number ≡ Some member → takes_typed store.objects member values ≡ true → (l : Ty-F Ty) → out-Ty member.result ≡ l → ActTyped l (does host number values store)
typed_act rules host number member values store f built is takes Ty-F.Void e = every Ty-F.Void (does host number values store) (λ store value. refl)
typed_act rules host number member values store f built is takes Ty-F.Def e = every Ty-F.Def (does host number values store) (λ store value. refl)
typed_act rules host number member values store f built is takes (Ty-F.Prim p) e =
    primitive_act p (does host number values store)
    (subst (λ (l : Ty-F Ty). ActGives (primitive_in l) (does host number values store)) e
    (act_gives host number member values store is))
typed_act rules host number member values store f built is takes l e =
    subst (λ (l : Ty-F Ty). ActTyped l (does host number values store)) e
    (reference_typed rules host number member values store f is takes (ap (reference_layer member.result) e) built)

-- the member of a number that is built
stands : (number : ℕ) → is_built number ≡ true → slice_get catalogue number ≡ Some (member_at number)
stands number built = by (slice_get catalogue number) refl (built_stand number built)
  where
    by : (o : Option MemberType) → slice_get catalogue number ≡ o → is_some o ≡ true → slice_get catalogue number ≡ Some (member_at number)
    by None e h = cc
    by (Some member) e h = e ∙ ap Some (sym (get_or_from_slice_get catalogue number member (constructor 0 []) e))

pub members_keep_types : MembersKeepTypes
members_keep_types rules host number values store f built takes =
    act_is (member_at number).result (does host number values store)
    (typed_act rules host number (member_at number) values store f built (stands number built) takes (out-Ty (member_at number).result) refl)
    (act_throws rules host number values store f)

-- ---- functions of the host

long_given : (objects : List Object) (given : Option ℤ) → TextTyped objects (ty.Prim prim.Long) (given_by_host given)
unfolding out-Ty denote.Hole.Carrier.out text_outcomes.says
long_given objects None = tt
long_given objects (Some number) = refl

host_typed : (host : HostMeaning) (number : ℕ) (values : List Value) (store : Store) → is_of_host number ≡ true → ActTyped (out-Ty (ty.Prim prim.Long)) (does host number values store)
unfolding is_of_host
host_typed host number values store is_so =
    let past : first_of_host ≤ number = leb-true first_of_host number is_so in
    let same = does_of_host host number values store (no_number number (omega (arith, past))) (no_text number (omega (arith, past))) (no_container number (omega (arith, past))) is_so in
    let leaves : ActLeaves store.objects (Some (text_outcomes.effect store (asked_of_host host number values))) = subst (ActLeaves store.objects) same (act_leaves host number values store) in
    subst (ActTyped (out-Ty (ty.Prim prim.Long))) (sym same)
    (text_settled (ty.Prim prim.Long) store (asked_of_host host number values) (long_given store.objects (host (number - first_of_host) (longs_in values))) leaves)

pub host_keeps_types : HostKeepsTypes
host_keeps_types rules host number values store f is_so =
    act_is (ty.Prim prim.Long) (does host number values store) (host_typed host number values store is_so) (act_throws rules host number values store f)
