-- A call of a member: it pays its tick, reaches a member of the list, and goes on with what the member gives or throws.
use Rattle.std.proofs.Common.{◌≡◌, ℕ, suc, ◌+◌, ◌-◌, ◌*◌, ◌==◌, ◌<◌, ◌≤◌, Bool, true, false, ◌&&◌, List, [], ◌∷◌, ◌++◌, reverse, Option, Some, None, refl, sym, ap, ◌∙◌, subst, arith, append-nil, mul-le-mul_right}
use Rattle.std.specs.Prelude.{slice_get, is_some, option_map, if◌then◌else◌, ◌||◌}
use Rattle.std.specs.List.{list_all, list_any}
use Rattle.std.proofs.lemmas.Bool.{false≢true, and_parts}
use Rattle.object_values.specs.declared.value.Value.{Value}
use Rattle.number_ops.specs.Effects.{Effect}
use Rattle.number_ops.specs.Outcomes.{effect, null_error}
use Rattle.pl_types.specs.declared.classes.TheConstants.{CLASS_CAST_EXCEPTION, NULL_POINTER_EXCEPTION}
use Rattle.pl_code.specs.declared.code.FunCode.{FunCode}
use Rattle.pl_code.specs.declared.code.Instruction.{Instruction}
use Rattle.allowlist.specs.declared.member.MemberType.{MemberType}
use Rattle.allowlist.specs.Allow.{AllowList, flag, members_in}
use Rattle.allowlist.specs.Catalogue.{catalogue}
use Rattle.allowlist.specs.Index.{member_at, member_in}
use Rattle.instruction_types.specs.declared.flow.Flow.TheVariants as flow
use Rattle.instruction_types.specs.Effects.{flow_of, left_by, invokes, makes, reads}
use Rattle.instruction_types.specs.Members.{method_of, constructor_of, field_of, member_takes}
use Rattle.instruction_types.specs.Types.{kind_of_type}
use Rattle.instruction_types.proofs.Named.{at_number}
use Rattle.member_calls.specs.Members.{does, is_built, is_of_host}
use Rattle.member_calls.specs.ContainerCallsTypes.{primitive_of}
use Rattle.member_calls.specs.Types.{ActGives}
use Rattle.member_calls.proofs.Doing.{built_act}
use Rattle.member_calls.proofs.Owners.{built_stand}
use Rattle.member_calls.proofs.Types.{act_gives}
use Rattle.verifier.specs.Meets.{left_in}
use Rattle.run_state.specs.Calls.{suits_member, wrong_class}
use Rattle.run_state.specs.World.{World, Limits, Counted, Counts, Passes, allowed_in, pay_tick, reach, reaches, pay_member}
use Rattle.code_meaning.specs.declared.word.Word.{Word}
use Rattle.code_meaning.specs.Members.{Receiving, Unfit, OnNull, Receives, Reads, received, count_of, given_as}
use Rattle.code_meaning.specs.Machine.{Codes, Frame, Next, Goes, Ends, Stuck, code_in, on_words, on_act, on_paid, on_tested, on_received, member_act, take_words}
use Rattle.verifier_soundness.specs.Fits.{AreWellShaped, kinds_of, ReachesAllowed}
use Rattle.verifier_soundness.specs.Rows.{member_has_row}
use Rattle.verifier_soundness.proofs.Words.{exchanged, exchange_of, take_kinds}
use Rattle.verifier_soundness.proofs.Casts.{throws_is}
use Rattle.verifier_soundness.proofs.Lowering.{lines_in, left_at, left_of, lines_below, tick_worth}
use Rattle.verifier_soundness.proofs.Moves.{CountsSo, tick_is_paid, Moves, Here, StandsAt, same_reached}
use Rattle.verifier_soundness.proofs.Throwing.{effect_moves}
use Rattle.verifier_soundness.proofs.Members.{method_found, constructor_found, field_found, catalogue_shaped, is_shaped_by, made_is, takes_by, method_takes, constructor_takes, field_takes, takes_many, IsReceived, is_received, gives_so}
use Rattle.object_values.specs.declared.object.Owner.{Owner}
use Rattle.object_values.specs.declared.object.Owner.TheVariants.{Script, Prelude}

-- ---- what a member of a list that is built is

pub record Rowed (allow : AllowList) (number : ℕ) : Type 0 where
  pub built : is_built number ≡ true
  pub stands : slice_get (members_in allow) number ≡ Some (member_in allow number)
  pub shaped : is_shaped_by (member_in allow number).kind (member_in allow number).params (member_in allow number).result ≡ true

stands_at : (number : ℕ) (o : Option MemberType) → slice_get catalogue number ≡ o → is_some o ≡ true → slice_get catalogue number ≡ Some (member_at number)
stands_at number None q h = absurd (false≢true h)
stands_at number (Some m) q h = q ∙ ap Some (sym (at_number number m q))

rowed : (allow : AllowList) (number : ℕ) → is_built number ≡ true → Rowed allow number
rowed allow number built =
    let stands = stands_at number (slice_get catalogue number) refl (built_stand number built) in
    record { built = built; stands = stands; shaped = catalogue_shaped number (member_at number) stands }

-- ---- what is paid

all_and : {X : Type 0} (test : X → Bool) (xs : List X) (x : X) → list_all test xs ≡ true → test x ≡ true → list_all test (xs ++ x ∷ []) ≡ true
all_and test [] x all h = (λ i. h i && true)
all_and test (y ∷ ys) x all h =
    let p = and_parts (test y) (list_all test ys) all in
    (λ i. p.0 i && all_and test ys x p.1 h i)

less_most : (x a b : ℕ) → x < a → a ≤ b → x < b
less_most x a b h k = omega (arith, h, k)

module _ (codes : Codes) (limits : Limits) where
  abbrev pub MemberPaid : World → Counted → Type 0
  MemberPaid w (Passes limit w') = ReachesAllowed limits.ground.allowed w'
  MemberPaid w (Counts w') = (w'.ticks ≤ w.ticks) × ReachesAllowed limits.ground.allowed w'

  reached_more : (number : ℕ) (w : World) → flag limits.ground.allowed.members number ≡ true → ReachesAllowed limits.ground.allowed w → ReachesAllowed limits.ground.allowed (reach number w)
  unfolding reach
  reached_more number w allowed reached = by_test (list_any (λ n. n == number) w.reached)
    where
      by_test : (b : Bool) → list_all (flag limits.ground.allowed.members) (if b then w.reached else w.reached ++ number ∷ []) ≡ true
      by_test true = reached
      by_test false = all_and (flag limits.ground.allowed.members) w.reached number reached allowed

  same_ticks : (number : ℕ) (w : World) → (reach number w).ticks ≡ w.ticks
  unfolding reach
  same_ticks number w = refl

  no_more : (a b c : ℕ) → suc a ≡ b → c ≡ a → c ≤ b
  no_more a b c h e = omega (arith, h, e)

  reaches_so : (number : ℕ) (w : World) (c : Counted) → flag limits.ground.allowed.members number ≡ true → ReachesAllowed limits.ground.allowed w → CountsSo w c → MemberPaid w (reaches number c)
  unfolding reaches
  reaches_so number w (Passes limit w') allowed reached s = same_reached codes limits w w' s reached
  reaches_so number w (Counts w') allowed reached s =
      (no_more w'.ticks w.ticks (reach number w').ticks s.0 (same_ticks number w'), reached_more number w' allowed (same_reached codes limits w w' s.1 reached))

  pays_so : (w : World) (c : Counted) → ReachesAllowed limits.ground.allowed w → CountsSo w c → MemberPaid w c
  pays_so w (Passes limit w') reached s = same_reached codes limits w w' s reached
  pays_so w (Counts w') reached s = (no_more w'.ticks w.ticks w'.ticks s.0 refl, same_reached codes limits w w' s.1 reached)

  -- what the script's text calls is reached, and its list allows it
  pub member_is_paid : (text : Owner) (number : ℕ) (w : World) → flag (allowed_in limits text).members number ≡ true → ReachesAllowed limits.ground.allowed w → MemberPaid w (pay_member text number w)
  unfolding pay_member
  member_is_paid Script number w allowed reached = reaches_so number w (pay_tick w) allowed reached (tick_is_paid w)
  member_is_paid Prelude number w allowed reached = pays_so w (pay_tick w) reached (tick_is_paid w)

  -- with less left it goes on as with more
  pub sooner : (a b : ℕ) (n : Next) → a ≤ b → Moves codes limits a n → Moves codes limits b n
  sooner a b (Goes c) h m = record { fits = m.fits; less = less_most (left_of codes limits c) a b m.less h }
  sooner a b (Ends r) h m = m
  sooner a b Stuck h m = m

  plus_most : (p q r : ℕ) → p ≤ q → p + r ≤ q + r
  plus_most p q r h = omega arith

  pub fewer_ticks : (f : Frame) (below : List Frame) (w w' : World) → w'.ticks ≤ w.ticks → left_at codes limits f below w' ≤ left_at codes limits f below w
  fewer_ticks f below w w' h =
      plus_most (w'.ticks * tick_worth codes limits) (w.ticks * tick_worth codes limits) ((lines_in (code_in codes f.text) f.fun - f.line) + lines_below codes below) (mul-le-mul_right (tick_worth codes limits) h)

module _ (codes : Codes) (limits : Limits) (well : AreWellShaped codes limits) (function : FunCode) (f : Frame) (below : List Frame) (i : Instruction) (s : StandsAt codes limits function f i) (goes : flow_of i ≡ flow.GoesOn) where
  -- what a member does
  acts_move : (w : World) → Here codes limits function f below w → (m : MemberType) (stack : List Word) (o : Option Effect) → is_some o ≡ true → ActGives (primitive_of m.result) o
      → kind_of_type m.result ∷ kinds_of stack ≡ s.left → Moves codes limits (left_at codes limits f below w) (on_act codes limits o m f below w stack)
  acts_move w here m stack None some gives kinds = absurd (false≢true some)
  acts_move w here m stack (Some e) some gives kinds =
      effect_moves codes limits well function f below w i s here (given_as m.result) (kind_of_type m.result) stack e goes kinds (gives_so m.result e gives)

  does_move : (w : World) → Here codes limits function f below w → (number : ℕ) (stack : List Word) (arguments : List Value) → Rowed (allowed_in limits f.text) number
      → kind_of_type (member_in (allowed_in limits f.text) number).result ∷ kinds_of stack ≡ s.left
      → Moves codes limits (left_at codes limits f below w) (on_act codes limits (does limits.ground.host number arguments w.store) (member_in (allowed_in limits f.text) number) f below w stack)
  does_move w here number stack arguments r kinds =
      acts_move w here (member_in (allowed_in limits f.text) number) stack (does limits.ground.host number arguments w.store) (built_act limits.ground.host number arguments w.store ∙ (λ i. r.built i || is_of_host number))
      (act_gives limits.ground.host number (member_in (allowed_in limits f.text) number) arguments w.store r.stands) kinds

  paid_moves : (w : World) → Here codes limits function f below w → (number : ℕ) (stack : List Word) (arguments : List Value) → Rowed (allowed_in limits f.text) number
      → kind_of_type (member_in (allowed_in limits f.text) number).result ∷ kinds_of stack ≡ s.left → (c : Counted) → MemberPaid codes limits w c
      → Moves codes limits (left_at codes limits f below w) (on_paid codes limits c number arguments (member_in (allowed_in limits f.text) number) f below stack)
  paid_moves w here number stack arguments r kinds (Passes limit w') paid = paid
  paid_moves w here number stack arguments r kinds (Counts w') paid =
      sooner codes limits (left_at codes limits f below w') (left_at codes limits f below w) (on_act codes limits (does limits.ground.host number arguments w'.store) (member_in (allowed_in limits f.text) number) f below w' stack)
      (fewer_ticks codes limits f below w w' paid.0)
      (does_move w' (record { fits = here.fits; belows = here.belows; within = here.within; reached = paid.1 }) number stack arguments r kinds)

  tested_moves : (w : World) → Here codes limits function f below w → (number : ℕ) (stack : List Word) (arguments : List Value) → Rowed (allowed_in limits f.text) number → flag (allowed_in limits f.text).members number ≡ true
      → kind_of_type (member_in (allowed_in limits f.text) number).result ∷ kinds_of stack ≡ s.left → (suits : Bool)
      → Moves codes limits (left_at codes limits f below w) (on_tested codes limits suits number arguments (member_in (allowed_in limits f.text) number) f below w stack)
  tested_moves w here number stack arguments r allowed kinds false =
      effect_moves codes limits well function f below w i s here (given_as (member_in (allowed_in limits f.text) number).result) (kind_of_type (member_in (allowed_in limits f.text) number).result) stack (effect w.store wrong_class) goes kinds
      (throws_is (given_as (member_in (allowed_in limits f.text) number).result) (kind_of_type (member_in (allowed_in limits f.text) number).result) w.store CLASS_CAST_EXCEPTION None)
  tested_moves w here number stack arguments r allowed kinds true =
      paid_moves w here number stack arguments r kinds (pay_member f.text number w) (member_is_paid codes limits f.text number w allowed here.reached)

  received_moves : (w : World) → Here codes limits function f below w → (number : ℕ) (stack : List Word) → Rowed (allowed_in limits f.text) number → flag (allowed_in limits f.text).members number ≡ true
      → kind_of_type (member_in (allowed_in limits f.text) number).result ∷ kinds_of stack ≡ s.left → (received : Receiving) → IsReceived received
      → Moves codes limits (left_at codes limits f below w) (on_received codes limits received number (member_in (allowed_in limits f.text) number) f below w stack)
  received_moves w here number stack r allowed kinds Unfit so = absurd so
  received_moves w here number stack r allowed kinds OnNull so =
      effect_moves codes limits well function f below w i s here (given_as (member_in (allowed_in limits f.text) number).result) (kind_of_type (member_in (allowed_in limits f.text) number).result) stack (effect w.store null_error) goes kinds
      (throws_is (given_as (member_in (allowed_in limits f.text) number).result) (kind_of_type (member_in (allowed_in limits f.text) number).result) w.store NULL_POINTER_EXCEPTION None)
  received_moves w here number stack r allowed kinds (Receives arguments) so =
      tested_moves w here number stack arguments r allowed kinds (suits_member w.store.objects (member_in (allowed_in limits f.text) number) arguments)
  received_moves w here number stack r allowed kinds Reads so = does_move w here number stack [] r kinds

  -- the call of a member of the list
  member_moves : (w : World) → Here codes limits function f below w → (number : ℕ) → Rowed (allowed_in limits f.text) number → flag (allowed_in limits f.text).members number ≡ true
      → exchanged (takes_by (member_in (allowed_in limits f.text) number).kind (member_in (allowed_in limits f.text) number).params) (kind_of_type (member_in (allowed_in limits f.text) number).result ∷ []) (kinds_of f.stack) ≡ Some s.left
      → Moves codes limits (left_at codes limits f below w) (member_act codes limits (allowed_in limits f.text) (Some number) f below w)
  member_moves w here number r allowed leaves =
      let m = member_in (allowed_in limits f.text) number in
      let takes = takes_by m.kind m.params in
      let x = exchange_of takes (kind_of_type m.result ∷ []) (kinds_of f.stack) s.left leaves in
      let t = take_kinds takes f.stack [] x.rest x.is in
      let took : take_words (count_of m) f.stack [] ≡ Some (t.words, t.others) = ap (λ n. take_words n f.stack []) (takes_many m.kind m.params) ∙ t.is in
      let given : kinds_of t.words ≡ reverse takes = t.kinds ∙ append-nil (reverse takes) in
      let left : kind_of_type m.result ∷ kinds_of t.others ≡ s.left = ap (λ ks. kind_of_type m.result ∷ ks) t.left ∙ x.left_so in
      subst (λ o. Moves codes limits (left_at codes limits f below w) (on_words o (λ words stack. on_received codes limits (received m words) number m f below w stack))) (sym took)
      (received_moves w here number t.others r allowed left (received m t.words) (is_received m.kind m.params t.words given))

  -- ---- by what names it

  pub invoked_moves : (w : World) → Here codes limits function f below w → (text : List ℕ) (o : Option ℕ) → method_of (allowed_in limits f.text) text ≡ o → member_has_row o ≡ true → left_in (option_map (invokes (allowed_in limits f.text)) o) (kinds_of f.stack) ≡ Some s.left
      → Moves codes limits (left_at codes limits f below w) (member_act codes limits (allowed_in limits f.text) o f below w)
  unfolding invokes member_takes left_by
  invoked_moves w here text None is row leaves = absurd (false≢true row)
  invoked_moves w here text (Some number) is row leaves =
      let m = member_in (allowed_in limits f.text) number in
      let found = method_found (allowed_in limits f.text) text number is in
      member_moves w here number (rowed (allowed_in limits f.text) number row) found.allowed
      (ap (λ takes. exchanged takes (kind_of_type m.result ∷ []) (kinds_of f.stack)) (sym (method_takes m.kind m.params found.looked_for)) ∙ leaves)

  pub made_moves : (w : World) → Here codes limits function f below w → (text : List ℕ) (o : Option ℕ) → constructor_of (allowed_in limits f.text) text ≡ o → member_has_row o ≡ true → left_in (option_map (makes (allowed_in limits f.text)) o) (kinds_of f.stack) ≡ Some s.left
      → Moves codes limits (left_at codes limits f below w) (member_act codes limits (allowed_in limits f.text) o f below w)
  unfolding makes left_by
  made_moves w here text None is row leaves = absurd (false≢true row)
  made_moves w here text (Some number) is row leaves =
      let m = member_in (allowed_in limits f.text) number in
      let found = constructor_found (allowed_in limits f.text) text number is in
      let r = rowed (allowed_in limits f.text) number row in
      member_moves w here number r found.allowed
      ((λ i. exchanged (sym (constructor_takes m.kind m.params found.looked_for) i) (made_is m.kind m.params m.result found.looked_for r.shaped i ∷ []) (kinds_of f.stack)) ∙ leaves)

  pub read_moves : (w : World) → Here codes limits function f below w → (text : List ℕ) (o : Option ℕ) → field_of (allowed_in limits f.text) text ≡ o → member_has_row o ≡ true → left_in (option_map (reads (allowed_in limits f.text)) o) (kinds_of f.stack) ≡ Some s.left
      → Moves codes limits (left_at codes limits f below w) (member_act codes limits (allowed_in limits f.text) o f below w)
  unfolding reads left_by
  read_moves w here text None is row leaves = absurd (false≢true row)
  read_moves w here text (Some number) is row leaves =
      let m = member_in (allowed_in limits f.text) number in
      let found = field_found (allowed_in limits f.text) text number is in
      member_moves w here number (rowed (allowed_in limits f.text) number row) found.allowed
      (ap (λ takes. exchanged takes (kind_of_type m.result ∷ []) (kinds_of f.stack)) (sym (field_takes m.kind m.params found.looked_for)) ∙ leaves)
