-- Bodies, and functions of which some are typed.
use Rattle.std.proofs.Common.{◌≡◌, refl, sym, ap, ◌∙◌, true, false, List, [], ◌∷◌, ◌++◌, map, Ok, Err, append-nil, subst, arith}
use Rattle.std.specs.Prelude.{Result}
use Rattle.std.proofs.lemmas.Grind.{common_steps}
use Rattle.pl_types.specs.declared.refusal.Refusal.{Refusal}
use Rattle.pl_types.specs.declared.ty.Ty.{Ty}
use Rattle.pl_tree.specs.declared.tree.Block.{out-Block}
use Rattle.pl_tree.specs.declared.tree.Function.{Function}
use Rattle.pl_tree.specs.declared.tree.Statement.{Statement}
use Rattle.pl_tree.specs.declared.tree.Tree.{Tree}
use Rattle.pl_tree.specs.declared.tree.Argument.TheFolds.{fold_out-Block}
use Rattle.typed_tree.specs.declared.program.TypedFunction.{TypedFunction}
use Rattle.typed_tree.specs.declared.statement.TypedVariable.{TypedVariable}
use Rattle.typing_rules.specs.declared.header.ContextTypes.{ContextTypes}
use Rattle.allowlist.specs.Allow.{AllowList}
use Rattle.typing_rules.specs.declared.header.Header.{Header}
use Rattle.typing_rules.specs.declared.part.Caught.{Caught}
use Rattle.typing_rules.specs.declared.part.Part.{Part}
use Rattle.typing_rules.specs.declared.part.Step.{Step}
use Rattle.typing_rules.specs.Outcomes.{Out, bind}
use Rattle.typing_rules.specs.Doing.{Doing, Whole}
use Rattle.typing_rules.specs.Rules.Functions.{headers, function_start, main_start, finished, main}
use Rattle.typing_rules.specs.Typing.{Reading, Doer, Braces, Seen, ran, doer, statements, function_of, main_of, functions, program, typing_of, argument_step, body_step, expression_step, first_step, lambda_step, statement_step, block_step, catch_step, declaration_step, entry_step, variable_step}
use Rattle.pl_types.specs.declared.refusal.Fail.{Fail}
use Rattle.pl_types.specs.declared.refusal.Fail.TheVariants.{Refused, NoMemory}
use Rattle.typing_rules.specs.Outcomes.{Keeps}
use Rattle.static_types.specs.Bodies.{steps_of, KeepsSteps}

twice : {B : Type 0} (o : Out Whole) (f : List Step → Out B) → bind o (λ w. f w.0) ≡ bind (bind o (λ w. Ok w.0)) f
twice (Ok w) f = refl
twice (Err r) f = refl

pub function_by : (allow : AllowList) (hs : List Header) (f : Function) (h : Header)
    → function_of allow hs f h ≡ bind (steps_of allow hs false (out-Block f.body).statements (function_start h)) (λ ys. finished f h ys)
function_by allow hs f h =
    ap (λ (x : Braces). bind (ran x.steps (function_start h)) (λ whole. finished f h whole.0)) (fold_out-Block (Doing Part) (Doing Step) Reading (Doing Step) Seen Doer Braces (Doing Caught) Doer (Doing (Part × Part)) (Ty → Doing TypedVariable) (argument_step allow hs) (body_step allow hs) (expression_step allow hs) (first_step allow hs) (lambda_step allow hs) (statement_step allow hs) (block_step allow hs) (catch_step allow hs) (declaration_step allow hs) (entry_step allow hs) (variable_step allow hs) f.body)
    ∙ twice (ran (statements false false (map (doer allow hs) (out-Block f.body).statements)) (function_start h)) (finished f h)

pub main_by : (context : ContextTypes) (allow : AllowList) (hs : List Header) (all : List Statement) → main_of allow context hs all ≡ bind (steps_of allow hs true all (main_start context)) (λ ys. Ok (main context ys))
main_by context allow hs all = twice (ran (statements true false (map (doer allow hs) all)) (main_start context)) (λ ys. Ok (main context ys))

abbrev pub behind : {A : Type 0} → List A → Out (List A) → Out (List A)
behind done rest = bind rest (λ xs. Ok (done ++ xs))

pub no_functions : (allow : AllowList) (hs : List Header) (fs : List Function) → functions allow hs fs [] ≡ Ok []
no_functions allow hs [] = refl
no_functions allow hs (f ∷ fs) = refl

-- no header is left
pub behind_none : (done : List TypedFunction) (allow : AllowList) (hs : List Header) (fs : List Function) (left : List Header) → left ≡ [] → behind done (functions allow hs fs left) ≡ Ok done
behind_none done allow hs fs left is =
    ap (λ (l : List Header). behind done (functions allow hs fs l)) is ∙ ap (behind done) (no_functions allow hs fs) ∙ ap (λ (xs : List TypedFunction). Ok xs) (append-nil done)

moved : (done : List TypedFunction) (x : TypedFunction) (o : Out (List TypedFunction)) → behind done (bind o (λ ys. Ok (x ∷ ys))) ≡ behind (done ++ x ∷ []) o
moved done x (Ok ys) = ap (λ (zs : List TypedFunction). Ok zs) (grind (arith, common_steps))
moved done x (Err r) = refl

-- one function more
pub behind_more : (done : List TypedFunction) (allow : AllowList) (hs : List Header) (f : Function) (fs : List Function) (h : Header) (left : List Header) (x : TypedFunction)
    → function_of allow hs f h ≡ Ok x → behind done (functions allow hs (f ∷ fs) (h ∷ left)) ≡ behind (done ++ x ∷ []) (functions allow hs fs left)
behind_more done allow hs f fs h left x is =
    ap (λ (o : Out TypedFunction). behind done (bind o (λ y. bind (functions allow hs fs left) (λ ys. Ok (y ∷ ys))))) is ∙ moved done x (functions allow hs fs left)

pub behind_fails : (done : List TypedFunction) (allow : AllowList) (hs : List Header) (f : Function) (fs : List Function) (h : Header) (left : List Header) (r : Refusal)
    → function_of allow hs f h ≡ Err r → behind done (functions allow hs (f ∷ fs) (h ∷ left)) ≡ Err r
behind_fails done allow hs f fs h left r is = ap (λ (o : Out TypedFunction). behind done (bind o (λ y. bind (functions allow hs fs left) (λ ys. Ok (y ∷ ys))))) is

pub function_is : (allow : AllowList) (hs : List Header) (f : Function) (h : Header) (ys : List Step)
    → steps_of allow hs false (out-Block f.body).statements (function_start h) ≡ Ok ys → function_of allow hs f h ≡ finished f h ys
function_is allow hs f h ys is = function_by allow hs f h ∙ ap (λ (o : Out (List Step)). bind o (λ zs. finished f h zs)) is

pub function_fails : (allow : AllowList) (hs : List Header) (f : Function) (h : Header) (r : Refusal)
    → steps_of allow hs false (out-Block f.body).statements (function_start h) ≡ Err r → function_of allow hs f h ≡ Err r
function_fails allow hs f h r is = function_by allow hs f h ∙ ap (λ (o : Out (List Step)). bind o (λ zs. finished f h zs)) is

-- headers, bodies and the main script
pub typing_is : (context : ContextTypes) (tree : Tree) (allow : AllowList) (hs : List Header) (fs : List TypedFunction) (m : TypedFunction)
    → headers tree.functions [] ≡ Ok hs → functions allow hs tree.functions hs ≡ Ok fs → main_of allow context hs tree.statements ≡ Ok m
    → typing_of allow context tree ≡ Ok (program fs m)
typing_is context tree allow hs fs m a b c =
    ap (λ (o : Out (List Header)). bind o (λ hs. bind (functions allow hs tree.functions hs) (λ fs. bind (main_of allow context hs tree.statements) (λ m. Ok (program fs m))))) a
    ∙ ap (λ (o : Out (List TypedFunction)). bind o (λ fs. bind (main_of allow context hs tree.statements) (λ m. Ok (program fs m)))) b
    ∙ ap (λ (o : Out TypedFunction). bind o (λ m. Ok (program fs m))) c

pub main_fails : (context : ContextTypes) (tree : Tree) (allow : AllowList) (hs : List Header) (fs : List TypedFunction) (r : Refusal)
    → headers tree.functions [] ≡ Ok hs → functions allow hs tree.functions hs ≡ Ok fs → main_of allow context hs tree.statements ≡ Err r
    → typing_of allow context tree ≡ Err r
main_fails context tree allow hs fs r a b c =
    ap (λ (o : Out (List Header)). bind o (λ hs. bind (functions allow hs tree.functions hs) (λ fs. bind (main_of allow context hs tree.statements) (λ m. Ok (program fs m))))) a
    ∙ ap (λ (o : Out (List TypedFunction)). bind o (λ fs. bind (main_of allow context hs tree.statements) (λ m. Ok (program fs m)))) b
    ∙ ap (λ (o : Out TypedFunction). bind o (λ m. Ok (program fs m))) c

-- a function whose body is typed is what it comes to, and one whose body is refused is refused
pub function_goes : (allow : AllowList) (hs : List Header) (f : Function) (h : Header) (ys : List Step) (result : Result TypedFunction Fail)
    → steps_of allow hs false (out-Block f.body).statements (function_start h) ≡ Ok ys → Keeps (finished f h ys) result → Keeps (function_of allow hs f h) result
function_goes allow hs f h ys result is k = subst (λ o. Keeps o result) (sym (function_is allow hs f h ys is)) k

pub function_refuses : (allow : AllowList) (hs : List Header) (f : Function) (h : Header) (fail : Fail)
    → KeepsSteps (steps_of allow hs false (out-Block f.body).statements (function_start h)) (Err fail) → Keeps (function_of allow hs f h) (Err fail)
function_refuses allow hs f h (Refused r) is = function_fails allow hs f h r is
function_refuses allow hs f h NoMemory is = tt
