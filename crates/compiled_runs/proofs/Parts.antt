-- The instructions of what is strict have rows.
use Rattle.std.proofs.Common.{◌≡◌, ℕ, zero, suc, ◌&&◌, Bool, true, List, [], ◌∷◌, ◌++◌, Option, Some, None, refl, sym, ap, ◌∙◌}
use Rattle.std.specs.Prelude.{is_some}
use Rattle.std.specs.List.{list_all}
use Rattle.std.proofs.lemmas.List.Folds.{list_all-append}
use Rattle.pl_types.specs.declared.primitive.Primitive.{Primitive}
use Rattle.pl_types.specs.declared.primitive.Primitive.TheVariants as prim
use Rattle.pl_types.specs.declared.ty.Ty.{Ty, out-Ty}
use Rattle.pl_types.specs.declared.ty.Ty.TheOpen.{Ty-F}
use Rattle.pl_types.specs.declared.ty.Ty.TheFolds.{fold-roll-Ty}
use Rattle.pl_types.specs.declared.ty.Ty.TheVariants as t
use Rattle.pl_types.specs.declared.classes.TheConstants.{STRING}
use Rattle.pl_types.specs.Texts.{full_text, type_of_full, known_layer, is_known}
use Rattle.pl_types.proofs.TypeTexts.{read_back}
use Rattle.pl_types.specs.declared.conversion.Cast.{Cast}
use Rattle.pl_types.specs.declared.conversion.Cast.TheVariants as cast
use Rattle.arithmetic.specs.declared.operator.Op.{Op}
use Rattle.arithmetic.specs.declared.operator.Op.TheVariants as op
use Rattle.verifier_soundness.specs.Types.{element_of}
use Rattle.pl_code.specs.declared.kinds.Plain.TheVariants as plain
use Rattle.pl_code.specs.declared.kinds.Sized.TheVariants as sized
use Rattle.pl_code.specs.declared.kinds.Typed.TheVariants as typed
use Rattle.pl_code.specs.declared.kinds.Way.{Way}
use Rattle.pl_code.specs.declared.kinds.Way.TheVariants as way
use Rattle.pl_code.specs.declared.kinds.Width.{Width}
use Rattle.pl_code.specs.declared.kinds.Width.TheVariants as width
use Rattle.pl_code.specs.declared.code.Instruction.{Instruction}
use Rattle.pl_code.specs.declared.code.Instruction.TheVariants as i
use Rattle.typed_tree.specs.declared.operation.Constant.{Constant}
use Rattle.typed_tree.specs.declared.operation.Constant.TheVariants as constant
use Rattle.typed_tree.specs.declared.operation.Operator.{Operator}
use Rattle.typed_tree.specs.declared.operation.Operator.TheVariants as operator
use Rattle.typed_tree.specs.declared.operation.Operation.{Operation}
use Rattle.typed_tree.specs.declared.operation.Operation.TheVariants as operation
use Rattle.typed_tree.specs.declared.operation.Gives.{Gives}
use Rattle.typed_tree.specs.declared.operation.Gives.TheVariants as gives
use Rattle.allowlist.specs.declared.member.MemberKind.{MemberKind}
use Rattle.allowlist.specs.declared.member.MemberKind.TheVariants as kind
use Rattle.allowlist.specs.Allow.{AllowList}
use Rattle.member_names.specs.Names.{TextsName, named_by}
use Rattle.typed_tree.specs.declared.operation.Member.{Member}
use Rattle.compiled_shapes.specs.Tree.{Exprs, None', One, Program}
use Rattle.compiled_shapes.specs.Agreeing.{known, Applies, MemberAgrees, Guards, Reads, Writes, types_of}
use Rattle.compiled_shapes.specs.Representation.{Representation, Unboxed, Boxed, Absent, representation_of}
use Rattle.compiled_shapes.specs.Parts.{constant_code, default_code_layer, default_code, arithmetic_code, boolean_code, dynamic_code, operator_code, typed_code, from_int_code, from_long_code, from_byte_code, from_short_code, from_char_code, number_code, run_time_code_layer, run_time_code, cast_code, operation_code, member_code, without_null, pops, read_code, write_code, kept_under, copies, kept_before, kept_behind}
use Rattle.compiled_shapes.specs.Stands.{AsksKnown, OperatorFits, Fitting, ReadFits, WriteFits, representations, count}
use Rattle.verifier_soundness.specs.Rows.{member_has_row, has_row}

module _ (allow : AllowList) where
  -- each of some instructions has a row
  abbrev pub AllRows : List Instruction → Type 0
  AllRows lines = list_all (has_row allow) lines ≡ true

  pub constant_row : (c : Constant) → has_row allow (constant_code c) ≡ true
  constant_row constant.Null = refl
  constant_row (constant.Boolean a) = refl
  constant_row (constant.Byte a) = refl
  constant_row (constant.Short a) = refl
  constant_row (constant.Char a) = refl
  constant_row (constant.Int a) = refl
  constant_row (constant.Long a) = refl

  arithmetic_rows : (o : Op) (w : Width) → AllRows (arithmetic_code o w)
  arithmetic_rows op.Add w = refl
  arithmetic_rows op.Sub w = refl
  arithmetic_rows op.Mul w = refl
  arithmetic_rows op.Div w = refl
  arithmetic_rows op.Rem w = refl
  arithmetic_rows op.And w = refl
  arithmetic_rows op.Or w = refl
  arithmetic_rows op.Xor w = refl
  arithmetic_rows op.Shl w = refl
  arithmetic_rows op.Shr w = refl
  arithmetic_rows op.Ushr w = refl
  arithmetic_rows op.Neg w = refl
  arithmetic_rows op.Not w = refl
  arithmetic_rows op.Pos w = refl
  arithmetic_rows op.Lt w = refl
  arithmetic_rows op.Le w = refl
  arithmetic_rows op.Gt w = refl
  arithmetic_rows op.Ge w = refl
  arithmetic_rows op.Eq w = refl
  arithmetic_rows op.Ne w = refl

  boolean_rows : (o : Op) → AllRows (boolean_code o)
  boolean_rows op.Add = refl
  boolean_rows op.Sub = refl
  boolean_rows op.Mul = refl
  boolean_rows op.Div = refl
  boolean_rows op.Rem = refl
  boolean_rows op.And = refl
  boolean_rows op.Or = refl
  boolean_rows op.Xor = refl
  boolean_rows op.Shl = refl
  boolean_rows op.Shr = refl
  boolean_rows op.Ushr = refl
  boolean_rows op.Neg = refl
  boolean_rows op.Not = refl
  boolean_rows op.Pos = refl
  boolean_rows op.Lt = refl
  boolean_rows op.Le = refl
  boolean_rows op.Gt = refl
  boolean_rows op.Ge = refl
  boolean_rows op.Eq = refl
  boolean_rows op.Ne = refl

  dynamic_rows : (o : Op) → AllRows (dynamic_code o)
  dynamic_rows op.Add = refl
  dynamic_rows op.Sub = refl
  dynamic_rows op.Mul = refl
  dynamic_rows op.Div = refl
  dynamic_rows op.Rem = refl
  dynamic_rows op.And = refl
  dynamic_rows op.Or = refl
  dynamic_rows op.Xor = refl
  dynamic_rows op.Shl = refl
  dynamic_rows op.Shr = refl
  dynamic_rows op.Ushr = refl
  dynamic_rows op.Neg = refl
  dynamic_rows op.Not = refl
  dynamic_rows op.Pos = refl
  dynamic_rows op.Lt = refl
  dynamic_rows op.Le = refl
  dynamic_rows op.Gt = refl
  dynamic_rows op.Ge = refl
  dynamic_rows op.Eq = refl
  dynamic_rows op.Ne = refl

  pub operator_rows : (o : Operator) → AllRows (operator_code o)
  operator_rows (operator.Int o) = arithmetic_rows o width.Int
  operator_rows (operator.Long o) = arithmetic_rows o width.Long
  operator_rows (operator.Boolean o) = boolean_rows o
  operator_rows operator.Equal = refl
  operator_rows operator.NotEqual = refl
  operator_rows operator.Same = refl
  operator_rows operator.NotSame = refl
  operator_rows operator.Concat = refl
  operator_rows (operator.Def o) = dynamic_rows o
  operator_rows other = refl

  from_int_rows : (p : Primitive) → AllRows (from_int_code p)
  from_int_rows prim.Boolean = refl
  from_int_rows prim.Byte = refl
  from_int_rows prim.Short = refl
  from_int_rows prim.Char = refl
  from_int_rows prim.Int = refl
  from_int_rows prim.Long = refl

  from_long_rows : (p : Primitive) → AllRows (from_long_code p)
  from_long_rows prim.Boolean = refl
  from_long_rows prim.Byte = refl
  from_long_rows prim.Short = refl
  from_long_rows prim.Char = refl
  from_long_rows prim.Int = refl
  from_long_rows prim.Long = refl

  from_byte_rows : (p : Primitive) → AllRows (from_byte_code p)
  from_byte_rows prim.Boolean = refl
  from_byte_rows prim.Byte = refl
  from_byte_rows prim.Short = refl
  from_byte_rows prim.Char = refl
  from_byte_rows prim.Int = refl
  from_byte_rows prim.Long = refl

  from_short_rows : (p : Primitive) → AllRows (from_short_code p)
  from_short_rows prim.Boolean = refl
  from_short_rows prim.Byte = refl
  from_short_rows prim.Short = refl
  from_short_rows prim.Char = refl
  from_short_rows prim.Int = refl
  from_short_rows prim.Long = refl

  from_char_rows : (p : Primitive) → AllRows (from_char_code p)
  from_char_rows prim.Boolean = refl
  from_char_rows prim.Byte = refl
  from_char_rows prim.Short = refl
  from_char_rows prim.Char = refl
  from_char_rows prim.Int = refl
  from_char_rows prim.Long = refl

  number_rows : (from to : Primitive) → AllRows (number_code from to)
  number_rows prim.Boolean to = refl
  number_rows prim.Byte to = from_byte_rows to
  number_rows prim.Short to = from_short_rows to
  number_rows prim.Char to = from_char_rows to
  number_rows prim.Int to = from_int_rows to
  number_rows prim.Long to = from_long_rows to

  both_rows : (xs ys : List Instruction) → AllRows xs → AllRows ys → AllRows (xs ++ ys)
  both_rows xs ys a b = list_all-append (has_row allow) xs ys ∙ (λ i. a i && b i)

  -- the full text of a known type is read as it
  known_row : (of : Ty) → is_known of ≡ true → is_some (type_of_full (full_text of)) ≡ true
  known_row of known = ap is_some (read_back of known)

  one_row : (instruction : Instruction) → has_row allow instruction ≡ true → AllRows (instruction ∷ [])
  one_row instruction row = λ i. row i && true

  run_time_layer_rows : (l : Ty-F Ty) (to : Ty) (way : Way) → is_known to ≡ true → AllRows (run_time_code_layer l to way)
  run_time_layer_rows Ty-F.Void to way known = one_row (i.Cast (full_text to) way) (known_row to known)
  run_time_layer_rows Ty-F.Null to way known = one_row (i.Cast (full_text to) way) (known_row to known)
  run_time_layer_rows Ty-F.Def to way known = one_row (i.Cast (full_text to) way) (known_row to known)
  run_time_layer_rows (Ty-F.Prim p) to way known = refl
  run_time_layer_rows (Ty-F.Class class) to way known = one_row (i.Cast (full_text to) way) (known_row to known)
  run_time_layer_rows (Ty-F.Array element) to way known = one_row (i.Cast (full_text to) way) (known_row to known)

  run_time_rows : (to : Ty) (way : Way) → is_known to ≡ true → AllRows (run_time_code to way)
  run_time_rows to way known = run_time_layer_rows (out-Ty to) to way known

  text_is_known : is_known (t.Class STRING) ≡ true
  text_is_known = ap is_known (sym (t.rolls-Class STRING)) ∙ fold-roll-Ty Bool known_layer (Ty-F.Class STRING)

  pub cast_rows : (c : Cast) (to : Ty) → AsksKnown c to → AllRows (cast_code c to)
  cast_rows (cast.Number p q) to asks = number_rows p q
  cast_rows (cast.Wrap p q) to asks = both_rows (number_code p q) (i.Boxing q ∷ []) (number_rows p q) refl
  cast_rows (cast.Unwrap p q) to asks = number_rows p q
  cast_rows cast.Implicit to asks = run_time_rows to way.Implicit asks
  cast_rows cast.Explicit to asks = run_time_rows to way.Explicit asks
  cast_rows cast.CharToText to asks = one_row (i.Cast (full_text (t.Class STRING)) way.Explicit) (known_row (t.Class STRING) text_is_known)
  cast_rows cast.TextToChar to asks = refl
  cast_rows other to asks = refl

  -- ---- members

  pub null_rows : (k : Representation) → AllRows (without_null k)
  null_rows Unboxed = refl
  null_rows Boxed = refl
  null_rows Absent = refl

  row_and : (instruction : Instruction) (lines : List Instruction) → has_row allow instruction ≡ true → AllRows lines → AllRows (instruction ∷ lines)
  row_and instruction lines row rows = λ i. row i && rows i

  module _ (texts : TextsName) (funs : Program) where
    -- the text of a member that agrees names it, and it is built
    member_row : (k : MemberKind) (m : Member) (ofs : List Ty) (of : Ty) → MemberAgrees (known allow funs) k m ofs of → member_has_row (named_by k allow m.text) ≡ true
    member_row k m ofs of a =
        let named : named_by k allow m.text ≡ Some m.number =
        (λ i. named_by (sym a.sort i) allow (a.text i)) ∙ texts allow m.number a.member a.is a.allowed in
        ap member_has_row named ∙ a.built

    -- of a call that a null receiver leaves out
    pub guard_rows : (o : Operation) (ofs : List Ty) (of : Ty) (n : ℕ) → Guards (known allow funs) o ofs of → AllRows (member_code o n)
    guard_rows (operation.Instance m) ofs of n guards = one_row (i.Invoke m.text) (member_row kind.Instance m ofs of guards.agrees)
    guard_rows (operation.DefCall name) ofs of n guards = refl
    guard_rows (operation.DefName name) ofs of n guards = refl
    guard_rows other ofs of n guards = absurd guards.sort

    -- an operator of a node of a type, on parts that are represented as it takes them
    typed_rows : (o : Operator) (ks : List Representation) (of : Ty) (n : ℕ) → OperatorFits o ks of → AllRows (typed_code o of n)
    typed_rows operator.List ks of n fits = refl
    typed_rows operator.Map ks of n fits = refl
    typed_rows operator.NewArray ks of n fits = one_row (i.Sized sized.Empty (full_text of) n) (known_row of fits.2)
    typed_rows operator.ArrayOf ks of n fits = one_row (i.Sized sized.Filled (full_text (element_of of)) n) (known_row (element_of of) fits.2.known)
    typed_rows operator.Element ks of n fits = one_row (i.Typed typed.LoadElement (full_text of)) (known_row of fits.1.known)
    typed_rows operator.PutElement ks of n fits = absurd fits
    typed_rows (operator.Int o) ks of n fits = operator_rows (operator.Int o)
    typed_rows (operator.Long o) ks of n fits = operator_rows (operator.Long o)
    typed_rows (operator.Boolean o) ks of n fits = operator_rows (operator.Boolean o)
    typed_rows (operator.Def o) ks of n fits = operator_rows (operator.Def o)
    typed_rows other ks of n fits = refl

    -- an operation on parts that agree and are represented as it takes them
    pub operation_rows : (o : Operation) (parts : Exprs) (of : Ty) → Applies (known allow funs) o (types_of parts) of → Fitting funs o (representations parts) of → AllRows (operation_code o of (count parts))
    operation_rows (operation.Operator o) parts of applies fits = typed_rows o (representations parts) of (count parts) fits
    operation_rows (operation.Cast c) None' of applies fits = absurd applies
    operation_rows (operation.Cast c) (One a None') of applies fits = cast_rows c of fits.asks
    operation_rows (operation.Cast c) (One a (One b others)) of applies fits = absurd applies
    operation_rows (operation.InstanceOf is) parts of applies fits = one_row (i.Typed typed.IsA (full_text is)) (known_row is fits.2)
    operation_rows (operation.Function k) parts of applies fits = refl
    operation_rows (operation.Instance m) parts of applies fits =
        row_and (i.Invoke m.text) (without_null (representation_of of)) (member_row kind.Instance m (types_of parts) of applies) (null_rows (representation_of of))
    operation_rows (operation.Static m) parts of applies fits =
        row_and (i.Invoke m.text) (without_null (representation_of of)) (member_row kind.Static m (types_of parts) of applies) (null_rows (representation_of of))
    operation_rows (operation.Constructor m) parts of applies fits =
        row_and (i.New m.text) (without_null (representation_of of)) (member_row kind.Constructor m (types_of parts) of applies) (null_rows (representation_of of))
    operation_rows (operation.Field m) parts of applies fits =
        row_and (i.Field m.text) (without_null (representation_of of)) (member_row kind.Field m (types_of parts) of applies) (null_rows (representation_of of))
    operation_rows (operation.DefCall name) parts of applies fits = refl
    operation_rows (operation.DefName name) parts of applies fits = refl
    operation_rows operation.DefIndex parts of applies fits = refl
    operation_rows other parts of applies fits = absurd fits

    pub read_rows : (read : Option Operation) (parts : Exprs) (of : Ty) → Reads (known allow funs) read (types_of parts) of → ReadFits funs read (representations parts) of
        → AllRows (read_code read of (count parts))
    read_rows None parts of reads fits = refl
    read_rows (Some read) parts of reads fits = operation_rows read parts of reads fits

    pub write_rows : (write : Operation) (ofs : List Ty) (ks : List Representation) (of : Ty) → Writes (known allow funs) write ofs of → WriteFits write ks of → AllRows (write_code write of)
    write_rows (operation.Operator operator.PutElement) ofs ks of writes fits = one_row (i.Typed typed.StoreElement (full_text of)) (known_row of fits.1)
    write_rows (operation.Instance m) ofs ks of writes fits =
        row_and (i.Invoke m.text) (i.Plain plain.Pop ∷ []) (member_row kind.Instance m (ofs ++ of ∷ []) writes.given writes.agrees) refl
    write_rows (operation.PutDefName name) ofs ks of writes fits = refl
    write_rows operation.PutDefIndex ofs ks of writes fits = refl
    write_rows other ofs ks of writes fits = absurd fits

  default_layer_rows : (l : Ty-F Ty) → AllRows (default_code_layer l)
  default_layer_rows Ty-F.Void = refl
  default_layer_rows Ty-F.Null = refl
  default_layer_rows Ty-F.Def = refl
  default_layer_rows (Ty-F.Prim prim.Boolean) = refl
  default_layer_rows (Ty-F.Prim prim.Byte) = refl
  default_layer_rows (Ty-F.Prim prim.Short) = refl
  default_layer_rows (Ty-F.Prim prim.Char) = refl
  default_layer_rows (Ty-F.Prim prim.Int) = refl
  default_layer_rows (Ty-F.Prim prim.Long) = refl
  default_layer_rows (Ty-F.Class class) = refl
  default_layer_rows (Ty-F.Array of) = refl

  pub default_rows : (of : Ty) → AllRows (default_code of)
  default_rows of = default_layer_rows (out-Ty of)

  pub pops_rows : (k : Representation) → AllRows (pops k)
  pops_rows Unboxed = refl
  pops_rows Boxed = refl
  pops_rows Absent = refl

  pub under_rows : (n : ℕ) → AllRows (kept_under n)
  under_rows zero = refl
  under_rows (suc zero) = refl
  under_rows (suc (suc n)) = refl

  pub copies_rows : (n : ℕ) → AllRows (copies n)
  copies_rows zero = refl
  copies_rows (suc zero) = refl
  copies_rows (suc (suc n)) = refl

  pub before_rows : (n : ℕ) (g : Gives) → AllRows (kept_before n g)
  before_rows n gives.Old = under_rows n
  before_rows n gives.New = refl

  pub behind_rows : (n : ℕ) (g : Gives) → AllRows (kept_behind n g)
  behind_rows n gives.Old = refl
  behind_rows n gives.New = under_rows n
