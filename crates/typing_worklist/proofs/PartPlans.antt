-- The plan of each part of an expression or a statement comes to what the part comes to.
use Rattle.std.proofs.Common.{◌≡◌, ℕ, List, ◌∷◌, ◌++◌, Option, Some, None, refl, ap, ◌∙◌}
use Rattle.pl_tree.specs.declared.tree.Argument.{Argument, out-Argument}
use Rattle.pl_tree.specs.declared.tree.Body.{Body, out-Body}
use Rattle.pl_tree.specs.declared.tree.Expr.{Expr}
use Rattle.pl_tree.specs.declared.tree.First.{First, out-First}
use Rattle.pl_tree.specs.declared.tree.LambdaBody.{LambdaBody, out-LambdaBody}
use Rattle.pl_tree.specs.declared.tree.TypeName.{TypeName}
use Rattle.pl_tree.specs.declared.tree.Argument.TheOpen.{Argument-F, Body-F, First-F, LambdaBody-F}
use Rattle.allowlist.specs.Allow.{AllowList}
use Rattle.typing_rules.specs.declared.header.Header.{Header}
use Rattle.typing_rules.specs.declared.part.Part.{Part}
use Rattle.typing_rules.specs.declared.part.Step.{Step}
use Rattle.typing_rules.specs.Doing.{Doing}
use Rattle.typing_rules.specs.Rules.Statements as rules
use Rattle.typing_rules.specs.Typing.{Braces, Seen, reading, argument, argument_step, body_step, first_step, lambda_step}
use Rattle.typing_actions.specs.declared.config.Config.{Config}
use Rattle.typing_worklist.specs.Item as j
use Rattle.typing_worklist.specs.Item.{Item}
use Rattle.typing_worklist.specs.Machine.{run, part_to, step_to, refused_at}
use Rattle.typing_worklist.specs.Plans.{Open, argument_plan, inner_plan, body_plan, first_plan, loop_body_plan, first_if_plan, condition_plan, update_if_plan, otherwise_plan, returned_plan, initial_plan, for_plan}
use Rattle.typing_worklist.proofs.Behind.{behind}
use Rattle.typing_worklist.proofs.Opened.{argument_over, argument_is, body_over, body_is, first_over, first_is, lambda_over, lambda_is, block_is}

module _ (allow : AllowList) (hs : List Header) (js : List Item) (c : Config) where
  argument_by : (y : Open Argument-F) → argument_step allow hs (argument_over allow hs y) c.state (part_to c (run allow hs js)) ≡ run allow hs (argument_plan y ++ js) c
  unfolding run
  argument_by (Argument-F.Value value) = refl
  argument_by (Argument-F.Lambda at parameters body) = refl
  argument_by (Argument-F.Reference of spelling) = refl
  argument_by (Argument-F.NewReference of) = refl
  argument_by (Argument-F.ThisReference at spelling) = refl

  pub argument_planned : (e : Argument) → run allow hs (j.Given e ∷ js) c ≡ run allow hs (argument_plan (out-Argument e) ++ js) c
  unfolding run
  argument_planned e = ap (λ (x : Doing Part). x c.state (part_to c (run allow hs js))) (argument_is allow hs e) ∙ argument_by (out-Argument e)

  inner_by : (at : ℕ) (y : Open LambdaBody-F) → lambda_step allow hs (lambda_over allow hs y) c.state (refused_at at) ≡ run allow hs (inner_plan at y ++ js) c
  unfolding run
  inner_by at (LambdaBody-F.«LambdaBody::Block» block) = ap (λ (x : Braces). x.steps c.state (λ ys s. refused_at at ys s)) (block_is allow hs block)
  inner_by at (LambdaBody-F.«LambdaBody::Expression» value) = refl

  pub inner_planned : (at : ℕ) (e : LambdaBody) → run allow hs (j.UnbuiltInner e at ∷ js) c ≡ run allow hs (inner_plan at (out-LambdaBody e) ++ js) c
  unfolding run
  inner_planned at e = ap (λ (x : Seen). x c.state (refused_at at)) (lambda_is allow hs e) ∙ inner_by at (out-LambdaBody e)

  body_by : (y : Open Body-F) → body_step allow hs (body_over allow hs y) c.state (step_to c (run allow hs js)) ≡ run allow hs (body_plan y ++ js) c
  unfolding run
  body_by (Body-F.«Body::Block» block) = refl
  body_by (Body-F.Statement statement) = refl

  pub body_planned : (e : Body) → run allow hs (j.Body_ e ∷ js) c ≡ run allow hs (body_plan (out-Body e) ++ js) c
  unfolding run
  body_planned e = ap (λ (x : Doing Step). x c.state (step_to c (run allow hs js))) (body_is allow hs e) ∙ body_by (out-Body e)

  first_by : (y : Open First-F) → first_step allow hs (first_over allow hs y) c.state (step_to c (run allow hs js)) ≡ run allow hs (first_plan y ++ js) c
  unfolding run
  first_by (First-F.«First::Declare» declaration) = refl
  first_by (First-F.«First::Expression» value) = refl

  pub first_planned : (e : First) → run allow hs (j.First_ e ∷ js) c ≡ run allow hs (first_plan (out-First e) ++ js) c
  unfolding run
  first_planned e = ap (λ (x : Doing Step). x c.state (step_to c (run allow hs js))) (first_is allow hs e) ∙ first_by (out-First e)

  pub loop_body_planned : (e : Option Body) → run allow hs (j.LoopBody e ∷ js) c ≡ run allow hs (loop_body_plan e ++ js) c
  unfolding run
  loop_body_planned None = refl
  loop_body_planned (Some e) = refl

  pub first_if_planned : (e : Option First) → run allow hs (j.FirstIf e ∷ js) c ≡ run allow hs (first_if_plan e ++ js) c
  unfolding run
  first_if_planned None = refl
  first_if_planned (Some e) = refl

  pub condition_planned : (e : Option Expr) → run allow hs (j.Condition e ∷ js) c ≡ run allow hs (condition_plan e ++ js) c
  unfolding run
  condition_planned None = refl
  condition_planned (Some e) = λ i. (reading allow hs e).value c.state (λ x s. behind (rules.loop_test x) (λ t. record c { tests = t ∷ c.tests; state = s }) (run allow hs js) i)

  pub update_if_planned : (e : Option Expr) → run allow hs (j.UpdateIf e ∷ js) c ≡ run allow hs (update_if_plan e ++ js) c
  unfolding run
  update_if_planned None = refl
  update_if_planned (Some e) = refl

  pub otherwise_planned : (at : ℕ) (e : Option Body) → run allow hs (j.Otherwise at e ∷ js) c ≡ run allow hs (otherwise_plan at e ++ js) c
  unfolding run
  otherwise_planned at None = refl
  otherwise_planned at (Some e) = refl

  pub returned_planned : (at : ℕ) (e : Option Argument) → run allow hs (j.Returned at e ∷ js) c ≡ run allow hs (returned_plan at e ++ js) c
  unfolding run
  returned_planned at None = behind (rules.nothing_returned at c.state) (λ y. record c { steps = y ∷ c.steps; state = c.state }) (run allow hs js)
  returned_planned at (Some e) = λ i. argument allow hs e c.state (λ x s. behind (rules.return_of at x s) (λ y. record c { steps = y ∷ c.steps; state = s }) (run allow hs js) i)

  pub initial_planned : (of : TypeName) (e : Option Argument) → run allow hs (j.Initial of e ∷ js) c ≡ run allow hs (initial_plan of e ++ js) c
  unfolding run
  initial_planned of None = refl
  initial_planned of (Some e) = refl

  pub for_planned : (at : ℕ) (f : Option First) (d u : Option Expr) (b : Option Body) → run allow hs (j.ForParts at f d u b ∷ js) c ≡ run allow hs (for_plan at f d u b ++ js) c
  unfolding run
  for_planned at None d u None = refl
  for_planned at None d u (Some b) = refl
  for_planned at (Some f) d u None = refl
  for_planned at (Some f) d u (Some b) = refl
