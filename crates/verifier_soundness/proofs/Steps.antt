-- A step from a configuration that fits, a family of instructions at a time.
use Rattle.std.proofs.Common.{◌≡◌, ℕ, true, false, suc, ◌+◌, List, [], ◌∷◌, length, Option, Some, None, refl, sym, ap, ◌∙◌, subst, arith}
use Rattle.std.proofs.lemmas.Bool.{cond_both, false≢true}
use Rattle.std.specs.Prelude.{◌*◌, slice_get, is_some, pos, replicate}
use Rattle.std.specs.Int.{w8, w16, w32}
use Rattle.arithmetic.specs.Arithmetic.{wrapped, low_bits}
use Rattle.pl_types.specs.declared.ty.Ty.{Ty}
use Rattle.pl_types.specs.declared.ty.Ty.TheVariants as ty
use Rattle.pl_types.specs.Texts.{type_of_full}
use Rattle.object_values.specs.Utf16.{units}
use Rattle.object_values.specs.declared.value.Value.{Value}
use Rattle.object_values.specs.declared.value.Value.TheVariants as v
use Rattle.code_meaning.specs.Elements.{element_read, element_written, length_of}
use Rattle.code_meaning.specs.Loops.{has_more, iterated, next_element}
use Rattle.code_meaning.specs.Making.{array_filled, array_made, list_made, map_made}
use Rattle.code_meaning.specs.Access.{index_read, index_written, method_called, name_read, name_written}
use Rattle.code_meaning.proofs.Confined.{index_read_confined, index_written_confined, method_called_confined, name_read_confined, name_written_confined}
use Rattle.number_ops.specs.Outcomes.{effect}
use Rattle.number_ops.specs.Casts.{cast_at_run_time}
use Rattle.number_ops.specs.Operators.{binary, compares, concatenated, is_unary, number_in, operate}
use Rattle.number_ops.specs.Relations.{equal, is_same, is_instance, thrown}
use Rattle.pl_code.specs.declared.kinds.Plain.{Plain}
use Rattle.pl_code.specs.declared.kinds.Plain.TheVariants as plain
use Rattle.pl_code.specs.declared.kinds.Numbered.{Numbered}
use Rattle.pl_code.specs.declared.kinds.Numbered.TheVariants as numbered
use Rattle.pl_code.specs.declared.kinds.Quoting.{Quoting}
use Rattle.pl_code.specs.declared.kinds.Quoting.TheVariants as quoting
use Rattle.pl_code.specs.declared.kinds.Typed.{Typed}
use Rattle.pl_code.specs.declared.kinds.Typed.TheVariants as typed
use Rattle.pl_code.specs.declared.kinds.Sized.{Sized}
use Rattle.pl_code.specs.declared.kinds.Sized.TheVariants as sized
use Rattle.pl_code.specs.declared.kinds.DynamicOp.{DynamicOp}
use Rattle.pl_code.specs.declared.kinds.DynamicOp.TheVariants as dynamic
use Rattle.pl_code.specs.declared.kinds.Way.{Way}
use Rattle.pl_code.specs.declared.kinds.Slot.{Slot}
use Rattle.pl_code.specs.declared.kinds.Slot.TheVariants as slot
use Rattle.pl_code.specs.declared.code.FunCode.{FunCode}
use Rattle.pl_code.specs.declared.code.Instruction.{Instruction}
use Rattle.pl_code.specs.declared.code.Instruction.TheVariants as i
use Rattle.instruction_types.specs.declared.copying.Copying.TheVariants as copying
use Rattle.instruction_types.specs.Effects.{effect_of, flow_of, left_by, local_kind}
use Rattle.instruction_types.specs.Members.{method_of, constructor_of, field_of}
use Rattle.instruction_types.specs.Types.{kind_of_primitive, kind_of_text, kind_of_type}
use Rattle.run_state.specs.World.{World, Limits, acts_in, allowed_in}
use Rattle.code_meaning.specs.declared.word.Word.{Word}
use Rattle.code_meaning.specs.declared.word.Word.TheVariants.{I, J, R}
use Rattle.code_meaning.specs.Members.{given_as, ints_in, references_in, taken, taken_alike}
use Rattle.code_meaning.specs.Words.{calculation, unboxed, bit, op_of_dynamic}
use Rattle.code_meaning.specs.Machine.{Codes, Frame, Config, Next, to_line, on_outcome, on_done, on_thrown, on_type, on_value, on_values, on_ints, on_first, on_access, on_write, on_operated, dynamic_given, is_written, plain_act, numbered_act, quoted_act, typed_act, sized_act, method_act, operator_act, cast_act, member_act, act, acts, lines_of, step, code_in, function_of}
use Rattle.verifier_soundness.specs.Rows.{has_row}
use Rattle.verifier_soundness.specs.Fits.{AreWellShaped, kind_of, kinds_of, frame_kinds, FitsConfig}
use Rattle.verifier_soundness.specs.Laws.{AllHaveRows}
use Rattle.verifier_soundness.proofs.Words.{exchanged, left_is, AreAll, on_one_int, on_one_long, on_one_reference, on_two_references, on_three_references, on_alike, on_references, on_sizes, on_some, on_next, on_place, as_reference}
use Rattle.verifier_soundness.proofs.Operators.{calculates}
use Rattle.verifier_soundness.proofs.Casts.{EffectIs, cast_is}
use Rattle.verifier_soundness.proofs.References.{whole_is, equal_is, thrown_is, type_is, type_read}
use Rattle.verifier_soundness.proofs.TextKinds.{text_kind}
use Rattle.verifier_soundness.proofs.Members.{there_is, one_there, alike_there}
use Rattle.verifier_soundness.proofs.Forms.{comparison_is, element_is, length_is, more_is}
use Rattle.verifier_soundness.proofs.Accesses.{access_moves, write_moves}
use Rattle.verifier_soundness.proofs.Standing.{standing}
use Rattle.verifier_soundness.proofs.Lowering.{left_at, left_of}
use Rattle.verifier_soundness.proofs.Moves.{Moves, Here, StandsAt}
use Rattle.verifier_soundness.proofs.Throwing.{done_moves, effect_moves, throw_moves}
use Rattle.verifier_soundness.proofs.Calling.{call_moves, return_moves}
use Rattle.verifier_soundness.proofs.Calls.{invoked_moves, made_moves, read_moves}
use Rattle.verifier_soundness.proofs.Plains.{puts, next_with, copies, pops, dups, dups_two, dups_under_one, dups_under_two, loads_local, stores_local, calculated, boxes, jumps, branches_at_zero, branches_at_others, branches_at_null, loops}

module _ (codes : Codes) (limits : Limits) (well : AreWellShaped codes limits) (function : FunCode) (f : Frame) (below : List Frame) (w : World) (here : Here codes limits function f below w) where
  abbrev Moved : Next → Type 0
  Moved next = Moves codes limits (left_at codes limits f below w) next

  abbrev At : Instruction → Type 0
  At instruction = StandsAt codes limits function f instruction

  suc_is : (n : ℕ) → suc n ≡ n + 1
  suc_is n = omega arith

  -- what is put into an array, and what arrays are made of
  taken_moves : (of : Ty) (word : Word) → kind_of word ≡ kind_of_type of → (next : Value → Next) → ((value : Value) → Moved (next value)) → Moved (on_value (taken of word) next)
  taken_moves of word kind next h = let x = there_is (taken of word) (one_there of word kind) in subst (λ o. Moved (on_value o next)) (sym x.1) (h x.0)

  alike_moves : (of : Ty) (words : List Word) → AreAll (kind_of_type of) words → (next : List Value → Next) → ((values : List Value) → Moved (next values)) → Moved (on_values (taken_alike of words) next)
  alike_moves of words kinds next h = let x = there_is (taken_alike of words) (alike_there of words kinds) in subst (λ o. Moved (on_values o next)) (sym x.1) (h x.0)

  plain_moves : (p : Plain) → At (i.Plain p) → Moved (plain_act codes limits p f below w)
  unfolding effect_of flow_of left_by
  plain_moves plain.Null s = puts codes limits well function f below w (i.Plain plain.Null) s here (R v.Null) refl s.leaves
  plain_moves plain.Pop s = copies codes limits well function f below w (i.Plain plain.Pop) s here plain.Pop copying.Drop pops refl s.leaves
  plain_moves plain.Dup s = copies codes limits well function f below w (i.Plain plain.Dup) s here plain.Dup copying.One dups refl s.leaves
  plain_moves plain.Dup2 s = copies codes limits well function f below w (i.Plain plain.Dup2) s here plain.Dup2 copying.Two dups_two refl s.leaves
  plain_moves plain.DupX1 s = copies codes limits well function f below w (i.Plain plain.DupX1) s here plain.DupX1 copying.UnderOne dups_under_one refl s.leaves
  plain_moves plain.DupX2 s = copies codes limits well function f below w (i.Plain plain.DupX2) s here plain.DupX2 copying.UnderTwo dups_under_two refl s.leaves
  plain_moves plain.IntToLong s =
      on_one_int Moved (slot.J ∷ []) s.left f.stack (λ a stack. to_line f below w (suc f.line) (J a ∷ stack)) s.leaves
      (λ a stack kinds. next_with codes limits well function f below w (i.Plain plain.IntToLong) s here (J a ∷ stack) refl kinds)
  plain_moves plain.LongToInt s =
      on_one_long Moved (slot.I ∷ []) s.left f.stack (λ a stack. to_line f below w (suc f.line) (I (wrapped w32 a) ∷ stack)) s.leaves
      (λ a stack kinds. next_with codes limits well function f below w (i.Plain plain.LongToInt) s here (I (wrapped w32 a) ∷ stack) refl kinds)
  plain_moves plain.IntToByte s =
      on_one_int Moved (slot.I ∷ []) s.left f.stack (λ a stack. to_line f below w (suc f.line) (I (wrapped w8 a) ∷ stack)) s.leaves
      (λ a stack kinds. next_with codes limits well function f below w (i.Plain plain.IntToByte) s here (I (wrapped w8 a) ∷ stack) refl kinds)
  plain_moves plain.IntToShort s =
      on_one_int Moved (slot.I ∷ []) s.left f.stack (λ a stack. to_line f below w (suc f.line) (I (wrapped w16 a) ∷ stack)) s.leaves
      (λ a stack kinds. next_with codes limits well function f below w (i.Plain plain.IntToShort) s here (I (wrapped w16 a) ∷ stack) refl kinds)
  plain_moves plain.IntToChar s =
      on_one_int Moved (slot.I ∷ []) s.left f.stack (λ a stack. to_line f below w (suc f.line) (I (pos (low_bits 16 a)) ∷ stack)) s.leaves
      (λ a stack kinds. next_with codes limits well function f below w (i.Plain plain.IntToChar) s here (I (pos (low_bits 16 a)) ∷ stack) refl kinds)
  plain_moves plain.Ret s = return_moves codes limits well function f below w s.left here s.leaves
  plain_moves plain.Concat s =
      on_two_references Moved (slot.R ∷ []) s.left f.stack (λ b a stack. on_outcome codes limits (acts_in w (effect w.store (concatenated w.store.objects a b))) R f below w stack) s.leaves
      (λ b a stack kinds. effect_moves codes limits well function f below w (i.Plain plain.Concat) s here R slot.R stack
      (effect w.store (concatenated w.store.objects a b)) refl kinds (whole_is (effect w.store (concatenated w.store.objects a b))))
  plain_moves plain.Same s =
      on_two_references Moved (slot.I ∷ []) s.left f.stack (λ b a stack. to_line f below w (suc f.line) (I (bit (is_same a b)) ∷ stack)) s.leaves
      (λ b a stack kinds. next_with codes limits well function f below w (i.Plain plain.Same) s here (I (bit (is_same a b)) ∷ stack) refl kinds)
  plain_moves plain.Equal s =
      on_two_references Moved (slot.I ∷ []) s.left f.stack (λ b a stack. on_outcome codes limits (acts_in w (effect w.store (equal w.store.objects a b))) unboxed f below w stack) s.leaves
      (λ b a stack kinds. effect_moves codes limits well function f below w (i.Plain plain.Equal) s here unboxed slot.I stack
      (effect w.store (equal w.store.objects a b)) refl kinds (equal_is w.store a b))
  plain_moves plain.ArrayLength s =
      on_one_reference Moved (slot.I ∷ []) s.left f.stack (λ value stack. on_outcome codes limits (acts_in w (length_of w.store value)) unboxed f below w stack) s.leaves
      (λ value stack kinds. effect_moves codes limits well function f below w (i.Plain plain.ArrayLength) s here unboxed slot.I stack (length_of w.store value) refl kinds (length_is w.store value))
  plain_moves plain.GetIndex s =
      on_two_references Moved (slot.R ∷ []) s.left f.stack (λ index receiver stack. on_access codes limits (index_read (allowed_in limits f.text) w.store receiver index) f below w stack) s.leaves
      (λ index receiver stack kinds. access_moves codes limits well function f below (i.Plain plain.GetIndex) s refl w here stack (index_read (allowed_in limits f.text) w.store receiver index)
      (index_read_confined (allowed_in limits f.text) w.store receiver index) kinds)
  plain_moves plain.PutIndex s =
      on_three_references Moved [] s.left f.stack (λ value index receiver stack. on_write codes limits (index_written (allowed_in limits f.text) w.store receiver index value) f below w stack) s.leaves
      (λ value index receiver stack kinds. write_moves codes limits well function f below (i.Plain plain.PutIndex) s refl w here stack (index_written (allowed_in limits f.text) w.store receiver index value)
      (index_written_confined (allowed_in limits f.text) w.store receiver index value) kinds)
  plain_moves plain.Iter s =
      on_one_reference Moved (slot.R ∷ []) s.left f.stack (λ value stack. on_outcome codes limits (acts_in w (iterated w.store value)) R f below w stack) s.leaves
      (λ value stack kinds. effect_moves codes limits well function f below w (i.Plain plain.Iter) s here R slot.R stack (iterated w.store value) refl kinds (whole_is (iterated w.store value)))
  plain_moves plain.Has s =
      on_one_reference Moved (slot.I ∷ []) s.left f.stack (λ value stack. on_outcome codes limits (acts_in w (has_more w.store value)) unboxed f below w stack) s.leaves
      (λ value stack kinds. effect_moves codes limits well function f below w (i.Plain plain.Has) s here unboxed slot.I stack (has_more w.store value) refl kinds (more_is w.store value))
  plain_moves plain.Next s =
      on_one_reference Moved (slot.R ∷ []) s.left f.stack (λ value stack. on_outcome codes limits (acts_in w (next_element w.store value)) R f below w stack) s.leaves
      (λ value stack kinds. effect_moves codes limits well function f below w (i.Plain plain.Next) s here R slot.R stack (next_element w.store value) refl kinds (whole_is (next_element w.store value)))
  plain_moves plain.Throw s =
      on_one_reference Moved [] s.left f.stack (λ value stack. on_thrown codes limits (acts_in w (thrown w.store value)) f below w) s.leaves
      (λ value stack kinds. throw_moves codes limits well function f below w here (thrown w.store value) (thrown_is w.store value))

  local_is : (k : ℕ) → slice_get (kinds_of f.locals) k ≡ local_kind function k
  unfolding local_kind
  local_is k = ap (λ ks. slice_get ks k) here.fits.locals

  numbered_moves : (n : Numbered) (k : ℕ) → At (i.Numbered n k) → Moved (numbered_act codes limits n k f below w)
  unfolding effect_of flow_of left_by
  numbered_moves numbered.Load k s = loads_local codes limits well function f below w (i.Numbered numbered.Load k) s here k (local_kind function k) refl (local_is k) s.leaves
  numbered_moves numbered.Store k s = stores_local codes limits well function f below w (i.Numbered numbered.Store k) s here k (local_kind function k) refl (local_is k) s.leaves
  numbered_moves numbered.Goto k s = jumps codes limits well function f below w (i.Numbered numbered.Goto k) s here k refl s.leaves
  numbered_moves numbered.IfZero k s = branches_at_zero codes limits well function f below w (i.Numbered numbered.IfZero k) s here k refl s.leaves
  numbered_moves numbered.IfNotZero k s = branches_at_others codes limits well function f below w (i.Numbered numbered.IfNotZero k) s here k refl s.leaves
  numbered_moves numbered.Loop k s = loops codes limits well function f below w (i.Numbered numbered.Loop k) s here k refl s.leaves
  numbered_moves numbered.Call k s =
      call_moves codes limits well function f below w (i.Numbered numbered.Call k) s here k (slice_get (code_in codes f.text) k) refl refl s.leaves
  numbered_moves numbered.IfNull k s = branches_at_null codes limits well function f below w (i.Numbered numbered.IfNull k) s here k refl s.leaves
  numbered_moves numbered.List k s =
      on_alike Moved slot.R k (slot.R ∷ []) s.left f.stack (λ words stack. on_values (references_in words) (λ items. on_outcome codes limits (acts_in w (list_made w.store items)) R f below w stack)) s.leaves
      (λ words stack all many kinds. on_references Moved words (λ items. on_outcome codes limits (acts_in w (list_made w.store items)) R f below w stack) all
      (λ items as_many. effect_moves codes limits well function f below w (i.Numbered numbered.List k) s here R slot.R stack (list_made w.store items) refl kinds (whole_is (list_made w.store items))))
  numbered_moves numbered.Map k s =
      on_alike Moved slot.R (2 * k) (slot.R ∷ []) s.left f.stack (λ words stack. on_values (references_in words) (λ parts. on_outcome codes limits (acts_in w (map_made w.store parts)) R f below w stack)) s.leaves
      (λ words stack all many kinds. on_references Moved words (λ parts. on_outcome codes limits (acts_in w (map_made w.store parts)) R f below w stack) all
      (λ parts as_many. effect_moves codes limits well function f below w (i.Numbered numbered.Map k) s here R slot.R stack (map_made w.store parts) refl kinds (whole_is (map_made w.store parts))))

  quoted_moves : (q : Quoting) (text : List ℕ) → At (i.Quoted q text) → Moved (quoted_act codes limits q text f below w)
  unfolding effect_of flow_of left_by
  quoted_moves quoting.Constant text s = puts codes limits well function f below w (i.Quoted quoting.Constant text) s here (R (v.Str (units text))) refl s.leaves
  quoted_moves quoting.GetName name s =
      on_one_reference Moved (slot.R ∷ []) s.left f.stack (λ receiver stack. on_access codes limits (name_read (allowed_in limits f.text) w.store receiver name) f below w stack) s.leaves
      (λ receiver stack kinds. access_moves codes limits well function f below (i.Quoted quoting.GetName name) s refl w here stack (name_read (allowed_in limits f.text) w.store receiver name)
      (name_read_confined (allowed_in limits f.text) w.store receiver name) kinds)
  quoted_moves quoting.PutName name s =
      on_two_references Moved [] s.left f.stack (λ value receiver stack. on_write codes limits (name_written (allowed_in limits f.text) w.store receiver name value) f below w stack) s.leaves
      (λ value receiver stack kinds. write_moves codes limits well function f below (i.Quoted quoting.PutName name) s refl w here stack (name_written (allowed_in limits f.text) w.store receiver name value)
      (name_written_confined (allowed_in limits f.text) w.store receiver name value) kinds)

  typed_moves : (t : Typed) (of : List ℕ) → is_some (type_of_full of) ≡ true → At (i.Typed t of) → Moved (on_type (type_of_full of) (λ of. typed_act codes limits t of f below w))
  unfolding effect_of flow_of left_by
  typed_moves typed.IsA of row s =
      type_is Moved (type_of_full of) (λ of. typed_act codes limits typed.IsA of f below w) row
      (λ is. on_one_reference Moved (slot.I ∷ []) s.left f.stack (λ value stack. to_line f below w (suc f.line) (I (bit (is_instance w.store.objects value is)) ∷ stack)) s.leaves
      (λ value stack kinds. next_with codes limits well function f below w (i.Typed typed.IsA of) s here (I (bit (is_instance w.store.objects value is)) ∷ stack) refl kinds))
  typed_moves typed.LoadElement of row s =
      type_read Moved (type_of_full of) (λ of. typed_act codes limits typed.LoadElement of f below w) row
      (λ is read. on_place Moved (kind_of_text of ∷ []) s.left f.stack (λ at array stack. on_outcome codes limits (acts_in w (element_read w.store is array at)) (given_as is) f below w stack) s.leaves
      (λ at array stack kinds. effect_moves codes limits well function f below w (i.Typed typed.LoadElement of) s here (given_as is) (kind_of_type is) stack (element_read w.store is array at) refl
      (ap (λ k. k ∷ kinds_of stack) (sym (text_kind of is read)) ∙ kinds) (element_is is w.store array at)))
  typed_moves typed.StoreElement of row s =
      type_read Moved (type_of_full of) (λ of. typed_act codes limits typed.StoreElement of f below w) row
      (λ is read. on_next Moved (kind_of_text of) (slot.I ∷ slot.R ∷ []) [] s.left f.stack _ s.leaves
      (λ third more kind left. taken_moves is third (kind ∙ text_kind of is read) _ (λ value. on_place Moved [] s.left more (λ at array stack. on_done codes limits (acts_in w (element_written w.store is array at value)) f below w stack) left
      (λ at array stack kinds. done_moves codes limits well function f below w (i.Typed typed.StoreElement of) s here stack (element_written w.store is array at value) refl kinds))))

  sized_moves : (t : Sized) (of : List ℕ) (n : ℕ) → is_some (type_of_full of) ≡ true → At (i.Sized t of n) → Moved (on_type (type_of_full of) (λ of. sized_act codes limits t of n f below w))
  unfolding effect_of flow_of left_by
  sized_moves sized.Filled of n row s =
      type_read Moved (type_of_full of) (λ of. sized_act codes limits sized.Filled of n f below w) row
      (λ elem read. on_alike Moved (kind_of_text of) n (slot.R ∷ []) s.left f.stack (λ words stack. on_values (taken_alike elem words) (λ items. on_outcome codes limits (acts_in w (array_filled w.store elem items)) R f below w stack)) s.leaves
      (λ words stack all many kinds. alike_moves elem words (subst (λ k. AreAll k words) (text_kind of elem read) all) _
      (λ items. effect_moves codes limits well function f below w (i.Sized sized.Filled of n) s here R slot.R stack (array_filled w.store elem items) refl kinds (whole_is (array_filled w.store elem items)))))
  sized_moves sized.Empty of n row s =
      type_read Moved (type_of_full of) (λ of. sized_act codes limits sized.Empty of n f below w) row
      (λ is read. on_alike Moved slot.I n (slot.R ∷ []) s.left f.stack (λ words stack. on_ints (ints_in words) (λ sizes. on_outcome codes limits (acts_in w (array_made w.store is sizes)) R f below w stack)) s.leaves
      (λ words stack all many kinds. on_sizes Moved words (λ sizes. on_outcome codes limits (acts_in w (array_made w.store is sizes)) R f below w stack) all
      (λ sizes. effect_moves codes limits well function f below w (i.Sized sized.Empty of n) s here R slot.R stack (array_made w.store is sizes) refl kinds (whole_is (array_made w.store is sizes)))))

  method_moves : (name : List ℕ) (n : ℕ) → At (i.DefCall name n) → Moved (method_act codes limits name n f below w)
  unfolding effect_of flow_of left_by
  method_moves name n s =
      on_alike Moved slot.R (suc n) (slot.R ∷ []) s.left f.stack
      (λ words stack. on_values (references_in words) (λ values. on_first values (λ receiver arguments. on_access codes limits (method_called (allowed_in limits f.text) w.store receiver name arguments) f below w stack)))
      (subst (λ m. exchanged (replicate m slot.R) (slot.R ∷ []) (kinds_of f.stack) ≡ Some s.left) (sym (suc_is n)) s.leaves)
      (λ words stack all many kinds. on_references Moved words (λ values. on_first values (λ receiver arguments. on_access codes limits (method_called (allowed_in limits f.text) w.store receiver name arguments) f below w stack)) all
      (λ values as_many. on_some Moved n values (λ receiver arguments. on_access codes limits (method_called (allowed_in limits f.text) w.store receiver name arguments) f below w stack) (as_many ∙ many)
      (λ receiver arguments. access_moves codes limits well function f below (i.DefCall name n) s refl w here stack (method_called (allowed_in limits f.text) w.store receiver name arguments)
      (method_called_confined (allowed_in limits f.text) w.store receiver name arguments) kinds)))

  -- ---- operators on values of any types

  one_operated : (d : DynamicOp) → is_unary (op_of_dynamic d) ≡ true → (k : Slot) → ((a : Value) → EffectIs (dynamic_given codes limits (op_of_dynamic d)) k (effect w.store (operate w.store.objects (op_of_dynamic d) a a)))
      → (s : At (i.Dynamic d)) → exchanged (slot.R ∷ []) (k ∷ []) (kinds_of f.stack) ≡ Some s.left → Moved (operator_act codes limits (op_of_dynamic d) f below w)
  unfolding flow_of
  one_operated d unary k is s leaves =
      on_next Moved slot.R [] (k ∷ []) s.left f.stack _ leaves (λ upper rest word left. as_reference Moved upper _ word (λ b.
      cond_both (is_unary (op_of_dynamic d)) _ _ Moved
      (λ _. effect_moves codes limits well function f below w (i.Dynamic d) s here (dynamic_given codes limits (op_of_dynamic d)) k rest (effect w.store (operate w.store.objects (op_of_dynamic d) b b)) refl (left_is (k ∷ []) (kinds_of rest) s.left left) (is b))
      (λ no. absurd (false≢true (sym no ∙ unary)))))

  two_operated : (d : DynamicOp) → is_unary (op_of_dynamic d) ≡ false → (k : Slot) → ((a b : Value) → EffectIs (dynamic_given codes limits (op_of_dynamic d)) k (effect w.store (operate w.store.objects (op_of_dynamic d) a b)))
      → (s : At (i.Dynamic d)) → exchanged (slot.R ∷ slot.R ∷ []) (k ∷ []) (kinds_of f.stack) ≡ Some s.left → Moved (operator_act codes limits (op_of_dynamic d) f below w)
  unfolding flow_of
  two_operated d binary k is s leaves =
      on_next Moved slot.R (slot.R ∷ []) (k ∷ []) s.left f.stack _ leaves (λ upper rest word left. as_reference Moved upper _ word (λ b.
      cond_both (is_unary (op_of_dynamic d)) _ _ Moved (λ yes. absurd (false≢true (sym binary ∙ yes)))
      (λ _. on_one_reference Moved (k ∷ []) s.left rest (λ a stack. on_operated codes limits (op_of_dynamic d) a b f below w stack) left
      (λ a stack kinds. effect_moves codes limits well function f below w (i.Dynamic d) s here (dynamic_given codes limits (op_of_dynamic d)) k stack (effect w.store (operate w.store.objects (op_of_dynamic d) a b)) refl kinds (is a b)))))

  -- what is no comparison gives a reference
  whole_of : (d : DynamicOp) (a b : Value) → EffectIs R slot.R (effect w.store (operate w.store.objects (op_of_dynamic d) a b))
  whole_of d a b = whole_is (effect w.store (operate w.store.objects (op_of_dynamic d) a b))

  compared : (d : DynamicOp) → compares (op_of_dynamic d) ≡ true → (a b : Value) → EffectIs unboxed slot.I (effect w.store (binary w.store.objects (op_of_dynamic d) a b))
  compared d is a b = comparison_is w.store (op_of_dynamic d) is a b (number_in a) (number_in b)

  dynamic_moves : (d : DynamicOp) → At (i.Dynamic d) → Moved (operator_act codes limits (op_of_dynamic d) f below w)
  unfolding effect_of left_by
  dynamic_moves dynamic.Add s = two_operated dynamic.Add refl slot.R (whole_of dynamic.Add) s s.leaves
  dynamic_moves dynamic.Sub s = two_operated dynamic.Sub refl slot.R (whole_of dynamic.Sub) s s.leaves
  dynamic_moves dynamic.Mul s = two_operated dynamic.Mul refl slot.R (whole_of dynamic.Mul) s s.leaves
  dynamic_moves dynamic.Div s = two_operated dynamic.Div refl slot.R (whole_of dynamic.Div) s s.leaves
  dynamic_moves dynamic.Rem s = two_operated dynamic.Rem refl slot.R (whole_of dynamic.Rem) s s.leaves
  dynamic_moves dynamic.And s = two_operated dynamic.And refl slot.R (whole_of dynamic.And) s s.leaves
  dynamic_moves dynamic.Or s = two_operated dynamic.Or refl slot.R (whole_of dynamic.Or) s s.leaves
  dynamic_moves dynamic.Xor s = two_operated dynamic.Xor refl slot.R (whole_of dynamic.Xor) s s.leaves
  dynamic_moves dynamic.Shl s = two_operated dynamic.Shl refl slot.R (whole_of dynamic.Shl) s s.leaves
  dynamic_moves dynamic.Shr s = two_operated dynamic.Shr refl slot.R (whole_of dynamic.Shr) s s.leaves
  dynamic_moves dynamic.Ushr s = two_operated dynamic.Ushr refl slot.R (whole_of dynamic.Ushr) s s.leaves
  dynamic_moves dynamic.Neg s = one_operated dynamic.Neg refl slot.R (λ a. whole_of dynamic.Neg a a) s s.leaves
  dynamic_moves dynamic.Not s = one_operated dynamic.Not refl slot.R (λ a. whole_of dynamic.Not a a) s s.leaves
  dynamic_moves dynamic.Pos s = one_operated dynamic.Pos refl slot.R (λ a. whole_of dynamic.Pos a a) s s.leaves
  dynamic_moves dynamic.Lt s = two_operated dynamic.Lt refl slot.I (compared dynamic.Lt refl) s s.leaves
  dynamic_moves dynamic.Le s = two_operated dynamic.Le refl slot.I (compared dynamic.Le refl) s s.leaves
  dynamic_moves dynamic.Gt s = two_operated dynamic.Gt refl slot.I (compared dynamic.Gt refl) s s.leaves
  dynamic_moves dynamic.Ge s = two_operated dynamic.Ge refl slot.I (compared dynamic.Ge refl) s s.leaves

  cast_moves : (to : List ℕ) (way : Way) → is_some (type_of_full to) ≡ true → At (i.Cast to way) → Moved (on_type (type_of_full to) (λ to. cast_act codes limits to (is_written way) f below w))
  unfolding effect_of flow_of left_by
  cast_moves to way row s =
      type_is Moved (type_of_full to) (λ to. cast_act codes limits to (is_written way) f below w) row
      (λ is. on_one_reference Moved (slot.R ∷ []) s.left f.stack
      (λ value stack. on_outcome codes limits (acts_in w (effect w.store (cast_at_run_time w.store.objects value is (is_written way)))) R f below w stack) s.leaves
      (λ value stack kinds. effect_moves codes limits well function f below w (i.Cast to way) s here R slot.R stack
      (effect w.store (cast_at_run_time w.store.objects value is (is_written way))) refl kinds (whole_is (effect w.store (cast_at_run_time w.store.objects value is (is_written way))))))

  act_moves : (instruction : Instruction) → has_row (allowed_in limits f.text) instruction ≡ true → At instruction → Moved (act codes limits instruction f below w)
  unfolding effect_of flow_of left_by
  act_moves (i.Plain p) row s = plain_moves p s
  act_moves (i.Arithmetic o width) row s =
      calculated codes limits well function f below w (i.Arithmetic o width) s here (calculation o width f.stack) refl (calculates o width f.stack s.left s.leaves)
  act_moves (i.Int a) row s = puts codes limits well function f below w (i.Int a) s here (I a) refl s.leaves
  act_moves (i.Long a) row s = puts codes limits well function f below w (i.Long a) s here (J a) refl s.leaves
  act_moves (i.Numbered n k) row s = numbered_moves n k s
  act_moves (i.Boxing p) row s = boxes codes limits well function f below w (i.Boxing p) s here p refl s.leaves
  act_moves (i.Unboxing p way) row s =
      on_one_reference Moved (kind_of_primitive p ∷ []) s.left f.stack
      (λ value stack. on_outcome codes limits (acts_in w (effect w.store (cast_at_run_time w.store.objects value (ty.Prim p) (is_written way)))) unboxed f below w stack) s.leaves
      (λ value stack kinds. effect_moves codes limits well function f below w (i.Unboxing p way) s here unboxed (kind_of_primitive p) stack
      (effect w.store (cast_at_run_time w.store.objects value (ty.Prim p) (is_written way))) refl kinds (cast_is p w.store value (is_written way)))
  act_moves (i.Dynamic o) row s = dynamic_moves o s
  act_moves (i.Quoted q text) row s = quoted_moves q text s
  act_moves (i.Cast to way) row s = cast_moves to way row s
  act_moves (i.Typed t of) row s = typed_moves t of row s
  act_moves (i.Sized t of n) row s = sized_moves t of n row s
  act_moves (i.DefCall name n) row s = method_moves name n s
  act_moves (i.Invoke m) row s =
      invoked_moves codes limits well function f below (i.Invoke m) s refl w here m (method_of (allowed_in limits f.text) m) refl row s.leaves
  act_moves (i.New m) row s =
      made_moves codes limits well function f below (i.New m) s refl w here m (constructor_of (allowed_in limits f.text) m) refl row s.leaves
  act_moves (i.Field m) row s =
      read_moves codes limits well function f below (i.Field m) s refl w here m (field_of (allowed_in limits f.text) m) refl row s.leaves
  act_moves (i.Lambda interface k n) row s = absurd (false≢true row)
  act_moves (i.Ref interface of word) row s = absurd (false≢true row)
  act_moves (i.NewRef interface of) row s = absurd (false≢true row)

-- A configuration that fits takes a step to one that fits, of which less is left, or ends.
pub step_moves : (codes : Codes) (limits : Limits) → AreWellShaped codes limits → AllHaveRows codes limits → (c : Config) → FitsConfig codes limits c
    → Moves codes limits (left_of codes limits c) (step codes limits c)
step_moves codes limits well rows c fits =
    let here : Here codes limits fits.function c.top c.below c.world = record { fits = fits.top; belows = fits.below; within = fits.within; reached = fits.reached } in
    let st = standing (allowed_in limits c.top.text) (code_in codes c.top.text) fits.function (frame_kinds c.top) (well c.top.text) fits.top in
    let row = (rows c.top.text).each c.top.fun c.top.line fits.function st.instruction fits.top.is st.is in
    let there : slice_get (lines_of codes limits (function_of codes c.top)) c.top.line ≡ Some st.instruction = ap (λ o. slice_get (lines_of codes limits o) c.top.line) fits.top.is ∙ st.is in
    subst (λ o. Moves codes limits (left_of codes limits c) (acts codes limits o c.top c.below c.world)) (sym there)
    (act_moves codes limits well fits.function c.top c.below c.world here st.instruction row st.stands)
