-- What instructions take from the stack and put on it, and where they go on. The stack is a list of kinds, its top first.
use Rattle.std.specs.Prelude.{ℕ, ◌+◌, ◌*◌, Bool, true, false, List, [], ◌∷◌, ◌++◌, Option, Some, None, if◌then◌else◌, reverse, replicate, slice_get, option_map}
use Rattle.pl_code.specs.declared.kinds.Plain.{Plain}
use Rattle.pl_code.specs.declared.kinds.Plain.TheVariants as plain
use Rattle.pl_code.specs.declared.kinds.ArithmeticOp.{ArithmeticOp}
use Rattle.pl_code.specs.declared.kinds.ArithmeticOp.TheVariants as arithmetic
use Rattle.pl_code.specs.declared.kinds.DynamicOp.{DynamicOp}
use Rattle.pl_code.specs.declared.kinds.DynamicOp.TheVariants as dynamic
use Rattle.pl_code.specs.declared.kinds.Numbered.{Numbered}
use Rattle.pl_code.specs.declared.kinds.Numbered.TheVariants as numbered
use Rattle.pl_code.specs.declared.kinds.Quoting.{Quoting}
use Rattle.pl_code.specs.declared.kinds.Quoting.TheVariants as quoting
use Rattle.pl_code.specs.declared.kinds.Typed.{Typed}
use Rattle.pl_code.specs.declared.kinds.Typed.TheVariants as typed
use Rattle.pl_code.specs.declared.kinds.Sized.{Sized}
use Rattle.pl_code.specs.declared.kinds.Sized.TheVariants as sized
use Rattle.pl_code.specs.declared.kinds.Width.{Width}
use Rattle.pl_code.specs.declared.kinds.Width.TheVariants as width
use Rattle.pl_code.specs.declared.kinds.Slot.{Slot}
use Rattle.pl_code.specs.declared.kinds.Slot.TheVariants.{I, J, R}
use Rattle.pl_code.specs.declared.code.FunCode.{FunCode}
use Rattle.pl_code.specs.declared.code.Instruction.{Instruction}
use Rattle.pl_code.specs.declared.code.Instruction.TheVariants as code
use Rattle.allowlist.specs.Allow.{AllowList}
use Rattle.allowlist.specs.Index.{member_in}
use Rattle.instruction_types.specs.declared.copying.Copying.{Copying}
use Rattle.instruction_types.specs.declared.copying.Copying.TheVariants as copying
use Rattle.instruction_types.specs.declared.flow.Flow.{Flow}
use Rattle.instruction_types.specs.declared.flow.Flow.TheVariants as flow
use Rattle.instruction_types.specs.Types.{kind_of_primitive, kind_of_text, kind_of_type}
use Rattle.instruction_types.specs.Members.{method_of, constructor_of, field_of, member_takes, argument_kinds}

-- What an instruction does to the stack.
pub data Effect : Type 0 where
  -- takes these kinds off, and puts those on
  Exchanges : (takes gives : List Slot) → Effect
  -- copies what lies there, of whichever kinds
  Copies : Copying → Effect
  -- takes an int, and nothing may lie below it
  Empties : Effect

abbrev pub same_slots : Slot → Slot → Bool
same_slots I I = true
same_slots J J = true
same_slots R R = true
same_slots a b = false

-- what is left of a stack when these kinds were taken off; nothing where others lie there
abbrev pub taken : List Slot → List Slot → Option (List Slot)
taken [] stack = Some stack
taken (k ∷ ks) [] = None
taken (k ∷ ks) (x ∷ stack) = if same_slots k x then taken ks stack else None

abbrev pub copied : Copying → List Slot → Option (List Slot)
copied copying.Drop (x ∷ s) = Some s
copied copying.One (x ∷ s) = Some (x ∷ x ∷ s)
copied copying.Two (y ∷ x ∷ s) = Some (y ∷ x ∷ y ∷ x ∷ s)
copied copying.UnderOne (y ∷ x ∷ s) = Some (y ∷ x ∷ y ∷ s)
copied copying.UnderTwo (z ∷ y ∷ x ∷ s) = Some (z ∷ y ∷ x ∷ z ∷ s)
copied c s = None

abbrev pub emptied : List Slot → Option (List Slot)
emptied (I ∷ []) = Some []
emptied s = None

-- what an effect leaves of a stack; nothing where the stack does not fit it
unfoldable pub left_by : Effect → List Slot → Option (List Slot)
left_by (Exchanges takes gives) stack = option_map (λ left. gives ++ left) (taken takes stack)
left_by (Copies c) stack = copied c stack
left_by Empties stack = emptied stack

-- ---- the table, by shapes of instructions

abbrev pub one : Slot → List Slot
one k = k ∷ []

abbrev pub result_kinds : Option Slot → List Slot
result_kinds None = []
result_kinds (Some k) = one k

abbrev pub plain_effect : Option Slot → Plain → Effect
plain_effect result plain.Null = Exchanges [] (one R)
plain_effect result plain.Pop = Copies copying.Drop
plain_effect result plain.Dup = Copies copying.One
plain_effect result plain.Dup2 = Copies copying.Two
plain_effect result plain.DupX1 = Copies copying.UnderOne
plain_effect result plain.DupX2 = Copies copying.UnderTwo
plain_effect result plain.IntToLong = Exchanges (one I) (one J)
plain_effect result plain.LongToInt = Exchanges (one J) (one I)
plain_effect result plain.IntToByte = Exchanges (one I) (one I)
plain_effect result plain.IntToShort = Exchanges (one I) (one I)
plain_effect result plain.IntToChar = Exchanges (one I) (one I)
plain_effect result plain.Concat = Exchanges (R ∷ R ∷ []) (one R)
plain_effect result plain.Same = Exchanges (R ∷ R ∷ []) (one I)
plain_effect result plain.Equal = Exchanges (R ∷ R ∷ []) (one I)
plain_effect result plain.ArrayLength = Exchanges (one R) (one I)
plain_effect result plain.GetIndex = Exchanges (R ∷ R ∷ []) (one R)
plain_effect result plain.PutIndex = Exchanges (R ∷ R ∷ R ∷ []) []
plain_effect result plain.Iter = Exchanges (one R) (one R)
plain_effect result plain.Has = Exchanges (one R) (one I)
plain_effect result plain.Next = Exchanges (one R) (one R)
plain_effect result plain.Throw = Exchanges (one R) []
plain_effect result plain.Ret = Exchanges (result_kinds result) []

abbrev pub kind_of_width : Width → Slot
kind_of_width width.Int = I
kind_of_width width.Long = J

-- a shift's distance is an int
abbrev pub arithmetic_effect : ArithmeticOp → Slot → Effect
arithmetic_effect arithmetic.Add k = Exchanges (k ∷ k ∷ []) (one k)
arithmetic_effect arithmetic.Sub k = Exchanges (k ∷ k ∷ []) (one k)
arithmetic_effect arithmetic.Mul k = Exchanges (k ∷ k ∷ []) (one k)
arithmetic_effect arithmetic.Div k = Exchanges (k ∷ k ∷ []) (one k)
arithmetic_effect arithmetic.Rem k = Exchanges (k ∷ k ∷ []) (one k)
arithmetic_effect arithmetic.And k = Exchanges (k ∷ k ∷ []) (one k)
arithmetic_effect arithmetic.Or k = Exchanges (k ∷ k ∷ []) (one k)
arithmetic_effect arithmetic.Xor k = Exchanges (k ∷ k ∷ []) (one k)
arithmetic_effect arithmetic.Neg k = Exchanges (one k) (one k)
arithmetic_effect arithmetic.Not k = Exchanges (one k) (one k)
arithmetic_effect arithmetic.Shl k = Exchanges (I ∷ k ∷ []) (one k)
arithmetic_effect arithmetic.Shr k = Exchanges (I ∷ k ∷ []) (one k)
arithmetic_effect arithmetic.Ushr k = Exchanges (I ∷ k ∷ []) (one k)
arithmetic_effect arithmetic.Lt k = Exchanges (k ∷ k ∷ []) (one I)
arithmetic_effect arithmetic.Le k = Exchanges (k ∷ k ∷ []) (one I)
arithmetic_effect arithmetic.Gt k = Exchanges (k ∷ k ∷ []) (one I)
arithmetic_effect arithmetic.Ge k = Exchanges (k ∷ k ∷ []) (one I)
arithmetic_effect arithmetic.Eq k = Exchanges (k ∷ k ∷ []) (one I)
arithmetic_effect arithmetic.Ne k = Exchanges (k ∷ k ∷ []) (one I)

abbrev pub dynamic_effect : DynamicOp → Effect
dynamic_effect dynamic.Add = Exchanges (R ∷ R ∷ []) (one R)
dynamic_effect dynamic.Sub = Exchanges (R ∷ R ∷ []) (one R)
dynamic_effect dynamic.Mul = Exchanges (R ∷ R ∷ []) (one R)
dynamic_effect dynamic.Div = Exchanges (R ∷ R ∷ []) (one R)
dynamic_effect dynamic.Rem = Exchanges (R ∷ R ∷ []) (one R)
dynamic_effect dynamic.And = Exchanges (R ∷ R ∷ []) (one R)
dynamic_effect dynamic.Or = Exchanges (R ∷ R ∷ []) (one R)
dynamic_effect dynamic.Xor = Exchanges (R ∷ R ∷ []) (one R)
dynamic_effect dynamic.Neg = Exchanges (one R) (one R)
dynamic_effect dynamic.Not = Exchanges (one R) (one R)
dynamic_effect dynamic.Pos = Exchanges (one R) (one R)
dynamic_effect dynamic.Shl = Exchanges (R ∷ R ∷ []) (one R)
dynamic_effect dynamic.Shr = Exchanges (R ∷ R ∷ []) (one R)
dynamic_effect dynamic.Ushr = Exchanges (R ∷ R ∷ []) (one R)
dynamic_effect dynamic.Lt = Exchanges (R ∷ R ∷ []) (one I)
dynamic_effect dynamic.Le = Exchanges (R ∷ R ∷ []) (one I)
dynamic_effect dynamic.Gt = Exchanges (R ∷ R ∷ []) (one I)
dynamic_effect dynamic.Ge = Exchanges (R ∷ R ∷ []) (one I)

abbrev pub quoting_effect : Quoting → Effect
quoting_effect quoting.Constant = Exchanges [] (one R)
quoting_effect quoting.GetName = Exchanges (one R) (one R)
quoting_effect quoting.PutName = Exchanges (R ∷ R ∷ []) []

-- the kind of a local: the parameters come first
unfoldable pub local_kind : FunCode → ℕ → Option Slot
local_kind f number = slice_get (f.params ++ f.locals) number

abbrev pub loads : Slot → Effect
loads k = Exchanges [] (one k)

abbrev pub stores : Slot → Effect
stores k = Exchanges (one k) []

-- the parameters, the last on the top, for the result
unfoldable pub calls : FunCode → Effect
calls f = Exchanges (reverse f.params) (result_kinds f.result)

abbrev pub numbered_effect : List FunCode → FunCode → Numbered → ℕ → Option Effect
numbered_effect functions f numbered.Load n = option_map loads (local_kind f n)
numbered_effect functions f numbered.Store n = option_map stores (local_kind f n)
numbered_effect functions f numbered.Goto n = Some (Exchanges [] [])
numbered_effect functions f numbered.IfZero n = Some (Exchanges (one I) [])
numbered_effect functions f numbered.IfNotZero n = Some (Exchanges (one I) [])
numbered_effect functions f numbered.IfNull n = Some (Exchanges (one R) [])
numbered_effect functions f numbered.Loop n = Some Empties
numbered_effect functions f numbered.List n = Some (Exchanges (replicate n R) (one R))
numbered_effect functions f numbered.Map n = Some (Exchanges (replicate (2 * n) R) (one R))
numbered_effect functions f numbered.Call n = option_map calls (slice_get functions n)

abbrev pub typed_effect : Typed → Slot → Effect
typed_effect typed.IsA k = Exchanges (one R) (one I)
typed_effect typed.LoadElement k = Exchanges (I ∷ R ∷ []) (one k)
typed_effect typed.StoreElement k = Exchanges (k ∷ I ∷ R ∷ []) []

abbrev pub sized_effect : Sized → Slot → ℕ → Effect
sized_effect sized.Filled k n = Exchanges (replicate n k) (one R)
sized_effect sized.Empty k n = Exchanges (replicate n I) (one R)

-- a method that gives nothing leaves null
unfoldable pub invokes : AllowList → ℕ → Effect
invokes allow member = Exchanges (member_takes (member_in allow member)) (one (kind_of_type (member_in allow member).result))

unfoldable pub makes : AllowList → ℕ → Effect
makes allow member = Exchanges (argument_kinds (member_in allow member).params) (one R)

unfoldable pub reads : AllowList → ℕ → Effect
reads allow member = Exchanges [] (one (kind_of_type (member_in allow member).result))

-- The effect of an instruction of a function; nothing where what it names is not there.
unfoldable pub effect_of : AllowList → List FunCode → FunCode → Instruction → Option Effect
effect_of allow functions f (code.Plain p) = Some (plain_effect f.result p)
effect_of allow functions f (code.Arithmetic op w) = Some (arithmetic_effect op (kind_of_width w))
effect_of allow functions f (code.Dynamic op) = Some (dynamic_effect op)
effect_of allow functions f (code.Int n) = Some (Exchanges [] (one I))
effect_of allow functions f (code.Long n) = Some (Exchanges [] (one J))
effect_of allow functions f (code.Quoted q text) = Some (quoting_effect q)
effect_of allow functions f (code.Numbered numbered n) = numbered_effect functions f numbered n
effect_of allow functions f (code.Boxing p) = Some (Exchanges (one (kind_of_primitive p)) (one R))
effect_of allow functions f (code.Unboxing p way) = Some (Exchanges (one R) (one (kind_of_primitive p)))
effect_of allow functions f (code.Cast ty way) = Some (Exchanges (one R) (one R))
effect_of allow functions f (code.Typed t ty) = Some (typed_effect t (kind_of_text ty))
effect_of allow functions f (code.Sized s ty n) = Some (sized_effect s (kind_of_text ty) n)
effect_of allow functions f (code.DefCall word n) = Some (Exchanges (replicate (n + 1) R) (one R))
effect_of allow functions f (code.Invoke m) = option_map (invokes allow) (method_of allow m)
effect_of allow functions f (code.New m) = option_map (makes allow) (constructor_of allow m)
effect_of allow functions f (code.Field m) = option_map (reads allow) (field_of allow m)
effect_of allow functions f (code.Lambda interface function n) = Some (Exchanges (replicate n R) (one R))
effect_of allow functions f (code.Ref interface ty word) = Some (Exchanges [] (one R))
effect_of allow functions f (code.NewRef interface ty) = Some (Exchanges [] (one R))

-- ---- where an instruction goes on

abbrev pub plain_flow : Plain → Flow
plain_flow plain.Throw = flow.Ends
plain_flow plain.Ret = flow.Ends
plain_flow p = flow.GoesOn

abbrev pub numbered_flow : Numbered → ℕ → Flow
numbered_flow numbered.Goto n = flow.Jumps n
numbered_flow numbered.IfZero n = flow.Branches n
numbered_flow numbered.IfNotZero n = flow.Branches n
numbered_flow numbered.IfNull n = flow.Branches n
numbered_flow numbered.Loop n = flow.Turns n
numbered_flow other n = flow.GoesOn

unfoldable pub flow_of : Instruction → Flow
flow_of (code.Plain p) = plain_flow p
flow_of (code.Numbered numbered n) = numbered_flow numbered n
flow_of i = flow.GoesOn
