-- The plan of each statement comes to what the statement comes to.
use Rattle.std.proofs.Common.{◌≡◌, Bool, true, false, List, ◌∷◌, ◌++◌, map, Some, None, Ok, refl, sym, ap, ◌∙◌}
use Rattle.pl_tree.specs.declared.tree.Statement.{Statement, out-Statement}
use Rattle.pl_tree.specs.declared.tree.Argument.TheOpen.{Statement-F}
use Rattle.allowlist.specs.Allow.{AllowList}
use Rattle.typing_rules.specs.declared.header.Header.{Header}
use Rattle.typing_rules.specs.Doing.{and_then}
use Rattle.typing_rules.specs.Rules.Statements as rules
use Rattle.typing_rules.specs.Typing.{Doer, reading, doer, braces, statement_step, scoped, looping, handlers}
use Rattle.typing_actions.specs.declared.config.Config.{Config}
use Rattle.typing_worklist.specs.declared.item.StatementAct.TheVariants as sa
use Rattle.typing_worklist.specs.Folds.{handler}
use Rattle.typing_worklist.specs.Item as j
use Rattle.typing_worklist.specs.Item.{Item}
use Rattle.typing_worklist.specs.Machine.{run, step_to}
use Rattle.typing_worklist.specs.Plans.{Open, statement_plan, statement_place}
use Rattle.typing_worklist.proofs.Above.{above_stacked}
use Rattle.typing_worklist.proofs.Behind.{behind, behind_with}
use Rattle.typing_worklist.proofs.Opened.{statement_over, statement_is, declaration_is}

module _ (allow : AllowList) (hs : List Header) (js : List Item) (c : Config) where
  statement_by : (last : Bool) (y : Open Statement-F) → (statement_step allow hs (statement_over allow hs y)).typed last c.state (step_to c (run allow hs js)) ≡ run allow hs (statement_plan last y ++ js) c
  unfolding run
  statement_by last (Statement-F.If at condition chosen None) = (λ i. (reading allow hs condition).value c.state (λ x s. behind_with (rules.test x) (λ t. Some t) (λ t. record c { tests = t ∷ c.tests; state = s }) (run allow hs (j.Body_ chosen ∷ j.Otherwise at None ∷ js)) i))
  statement_by last (Statement-F.If at condition chosen (Some other)) = (λ i. (reading allow hs condition).value c.state (λ x s. behind_with (rules.test x) (λ t. Some t) (λ t. record c { tests = t ∷ c.tests; state = s }) (run allow hs (j.Body_ chosen ∷ j.Otherwise at (Some other) ∷ js)) i))
  statement_by last (Statement-F.While at condition None) = (λ i. (reading allow hs condition).value c.state (λ x s. behind (rules.loop_test x) (λ t. record c { tests = t ∷ c.tests; state = s }) (run allow hs (j.DoStatement sa.NoTest ∷ j.LoopBody None ∷ j.DoStatement (sa.Loop at false false) ∷ js)) i))
  statement_by last (Statement-F.While at condition (Some body_)) = (λ i. (reading allow hs condition).value c.state (λ x s. behind (rules.loop_test x) (λ t. record c { tests = t ∷ c.tests; state = s }) (run allow hs (j.DoStatement sa.NoTest ∷ j.LoopBody (Some body_) ∷ j.DoStatement (sa.Loop at false true) ∷ js)) i))
  statement_by last (Statement-F.For at None None None None) = refl
  statement_by last (Statement-F.For at None None None (Some b)) = refl
  statement_by last (Statement-F.For at None None (Some u) None) = refl
  statement_by last (Statement-F.For at None None (Some u) (Some b)) = refl
  statement_by last (Statement-F.For at None (Some d) None None) = refl
  statement_by last (Statement-F.For at None (Some d) None (Some b)) = refl
  statement_by last (Statement-F.For at None (Some d) (Some u) None) = refl
  statement_by last (Statement-F.For at None (Some d) (Some u) (Some b)) = refl
  statement_by last (Statement-F.For at (Some f) None None None) = refl
  statement_by last (Statement-F.For at (Some f) None None (Some b)) = refl
  statement_by last (Statement-F.For at (Some f) None (Some u) None) = refl
  statement_by last (Statement-F.For at (Some f) None (Some u) (Some b)) = refl
  statement_by last (Statement-F.For at (Some f) (Some d) None None) = refl
  statement_by last (Statement-F.For at (Some f) (Some d) None (Some b)) = refl
  statement_by last (Statement-F.For at (Some f) (Some d) (Some u) None) = refl
  statement_by last (Statement-F.For at (Some f) (Some d) (Some u) (Some b)) = refl
  statement_by last (Statement-F.ForEach at of name over body_) = refl
  statement_by last (Statement-F.ForIn at name over body_) = refl
  statement_by last (Statement-F.Try at block catches) = sym (λ i. scoped (braces allow hs block).steps c.state (λ ys t. handlers (map (handler allow hs) catches) t (λ xs s. and_then (above_stacked xs c.catches (λ zs below. Ok (record c { steps = rules.try_of at (rules.block_of (braces allow hs block).at ys) zs ∷ c.steps; catches = below; state = s })) i) (run allow hs js))))
  statement_by last (Statement-F.Do at block condition) = (λ i. looping (scoped (braces allow hs block).steps) c.state (λ ys w. (reading allow hs condition).value w (λ x s. behind (rules.loop_test x) (λ t. record c { tests = t ∷ c.tests; steps = rules.block_of (braces allow hs block).at ys ∷ c.steps; state = s }) (run allow hs (j.DoStatement (sa.DoLoop at) ∷ js)) i)))
  statement_by last (Statement-F.«Statement::Declare» declaration) = refl
  statement_by last (Statement-F.Continue at) = (λ i. behind (rules.continue_of at c.state) (λ y. record c { steps = y ∷ c.steps; state = c.state }) (run allow hs js) i)
  statement_by last (Statement-F.Break at) = (λ i. behind (rules.break_of at c.state) (λ y. record c { steps = y ∷ c.steps; state = c.state }) (run allow hs js) i)
  statement_by last (Statement-F.Return at None) = refl
  statement_by last (Statement-F.Return at (Some value)) = refl
  statement_by last (Statement-F.Throw at value) = (λ i. (reading allow hs value).value c.state (λ x s. behind (rules.throw_of at x) (λ y. record c { steps = y ∷ c.steps; state = s }) (run allow hs js) i))
  statement_by last (Statement-F.«Statement::Expression» at value) = (λ i. (reading allow hs value).value c.state (λ x s. behind (rules.expression_of at last x s) (λ y. record c { steps = y ∷ c.steps; state = s }) (run allow hs js) i))

  pub statement_planned : (last : Bool) (e : Statement) → run allow hs (j.Statement_ e last ∷ js) c ≡ run allow hs (statement_plan last (out-Statement e) ++ js) c
  unfolding run
  statement_planned last e = ap (λ (x : Doer). x.typed last c.state (step_to c (run allow hs js))) (statement_is allow hs e) ∙ statement_by last (out-Statement e)

-- where a statement stands
place_by : (allow : AllowList) (hs : List Header) (y : Open Statement-F) → (statement_step allow hs (statement_over allow hs y)).at ≡ statement_place y
place_by allow hs (Statement-F.ForEach at of name over body_) = refl
place_by allow hs (Statement-F.ForIn at name over body_) = refl
place_by allow hs (Statement-F.Try at block catches) = refl
place_by allow hs (Statement-F.Do at block condition) = refl
place_by allow hs (Statement-F.«Statement::Declare» declaration) = ap (λ (x : Doer). x.at) (declaration_is allow hs declaration)
place_by allow hs (Statement-F.Continue at) = refl
place_by allow hs (Statement-F.Break at) = refl
place_by allow hs (Statement-F.Throw at value) = refl
place_by allow hs (Statement-F.«Statement::Expression» at value) = refl
place_by allow hs (Statement-F.If at condition chosen otherwise) = refl
place_by allow hs (Statement-F.While at condition body_) = refl
place_by allow hs (Statement-F.For at first condition update body_) = refl
place_by allow hs (Statement-F.Return at value) = refl

pub place_is : (allow : AllowList) (hs : List Header) (e : Statement) → (doer allow hs e).at ≡ statement_place (out-Statement e)
place_is allow hs e = ap (λ (x : Doer). x.at) (statement_is allow hs e) ∙ place_by allow hs (out-Statement e)
