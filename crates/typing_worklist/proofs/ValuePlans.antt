-- The plan of each expression comes to what the expression comes to.
use Rattle.std.proofs.Common.{◌≡◌, ℕ, List, ◌∷◌, ◌++◌, length, map, Option, Some, None, Ok, refl, sym, ap, subst, ◌∙◌}
use Rattle.pl_types.specs.declared.ty.Ty.{Ty}
use Rattle.pl_tree.specs.declared.operator.Access.{Access}
use Rattle.pl_tree.specs.declared.operator.Access.TheVariants as access
use Rattle.pl_tree.specs.declared.operator.UnaryOperator.TheVariants as sign
use Rattle.pl_tree.specs.declared.tree.Argument.{Argument}
use Rattle.pl_tree.specs.declared.tree.Entry.{Entry}
use Rattle.pl_tree.specs.declared.tree.TypeName.{TypeName}
use Rattle.pl_tree.specs.declared.tree.Expr.{Expr, out-Expr}
use Rattle.pl_tree.specs.declared.tree.Argument.TheOpen.{Expr-F}
use Rattle.typed_tree.specs.declared.operation.Gives.TheVariants as g
use Rattle.allowlist.specs.Allow.{AllowList}
use Rattle.typing_rules.specs.declared.header.Header.{Header}
use Rattle.typing_rules.specs.declared.part.Part.{Part}
use Rattle.typing_rules.specs.declared.part.Place.{Place}
use Rattle.typing_rules.specs.declared.part.Place.TheVariants as place
use Rattle.typing_rules.specs.Doing.{Doing, and_then, ◌>>=◌, pure, by_rule}
use Rattle.typing_rules.specs.Outcomes.{Out, bind}
use Rattle.typing_rules.specs.Rules.Types.{type_of}
use Rattle.typing_rules.specs.Rules.Accesses as accesses
use Rattle.typing_rules.specs.Rules.Containers as containers
use Rattle.typing_rules.specs.Rules.Literals as literals
use Rattle.typing_rules.specs.Rules.Locations as locations
use Rattle.typing_rules.specs.Rules.Casts as casts
use Rattle.typing_rules.specs.Rules.Members as members
use Rattle.typing_rules.specs.Rules.Operators as operators
use Rattle.typing_rules.specs.Rules.Places as places
use Rattle.typing_rules.specs.Typing.{Reading, value_of, reading, argument, parts, entries, read, read_at, method, element, fixed, member_place, element_place, expression_step}
use Rattle.typing_actions.specs.declared.config.Config.{Config}
use Rattle.typing_actions.specs.Stacks.{one, above}
use Rattle.typing_worklist.specs.declared.item.Act.TheVariants as a
use Rattle.typing_worklist.specs.Folds.{entry}
use Rattle.typing_worklist.specs.Item as j
use Rattle.typing_worklist.specs.Item.{Item}
use Rattle.typing_worklist.specs.Machine.{run, stacked, part_to, place_to}
use Rattle.typing_worklist.specs.Plans.{Open, type_in, member_plan, method_plan, element_plan, value_plan, negated_plan, member_target, element_target, target_plan}
use Rattle.typing_worklist.proofs.Above.{above_stacked}
use Rattle.typing_worklist.proofs.Opened.{expression_over, expression_is}
use Rattle.typing_worklist.proofs.Begins.{names_by, names_are}
use Rattle.typing_worklist.proofs.Behind.{behind, behind_next, again}

-- behind a minus, what is no literal is a value with the operator
abbrev PlainNegated : Reading → Type 0
PlainNegated x = (minus : ℕ) → x.negated minus ≡ (do y ← x.value; by_rule (operators.unary_of sign.Minus minus y))

-- what is no name is not written to
abbrev PlainPlace : Reading → Type 0
PlainPlace x = (by : Option ℕ) → x.place by ≡ (do y ← x.value; pure place.Fixed)

module _ (allow : AllowList) (hs : List Header) (js : List Item) (c : Config) where
  -- a rule for arguments, which are put above what is there
  calls_of : (given : List Argument) (f : List Part → Out Part) (d : Config)
      → parts (map (argument allow hs) given) d.state (λ xs s. and_then (f xs) (λ z. run allow hs js (record d { parts = z ∷ d.parts; state = s })))
      ≡ parts (map (argument allow hs) given) d.state (λ xs s. and_then (above (length d.parts) (stacked xs d.parts) (λ ys rest. bind (f ys) (λ z. Ok (record d { parts = z ∷ rest; state = s })))) (run allow hs js))
  calls_of given f d =
      (λ i. parts (map (argument allow hs) given) d.state (λ xs s. behind (f xs) (λ z. record d { parts = z ∷ d.parts; state = s }) (run allow hs js) i))
      ∙ sym (λ i. parts (map (argument allow hs) given) d.state (λ xs s. and_then (above_stacked xs d.parts (λ ys rest. bind (f ys) (λ z. Ok (record d { parts = z ∷ rest; state = s }))) i) (run allow hs js)))

  -- the same of values, and of entries
  values_of : (all : List Expr) (f : List Part → Out Part) (d : Config)
      → parts (map value_of (map (reading allow hs) all)) d.state (λ xs s. and_then (f xs) (λ z. run allow hs js (record d { parts = z ∷ d.parts; state = s })))
      ≡ parts (map value_of (map (reading allow hs) all)) d.state (λ xs s. and_then (above (length d.parts) (stacked xs d.parts) (λ ys rest. bind (f ys) (λ z. Ok (record d { parts = z ∷ rest; state = s })))) (run allow hs js))
  values_of all f d =
      (λ i. parts (map value_of (map (reading allow hs) all)) d.state (λ xs s. behind (f xs) (λ z. record d { parts = z ∷ d.parts; state = s }) (run allow hs js) i))
      ∙ sym (λ i. parts (map value_of (map (reading allow hs) all)) d.state (λ xs s. and_then (above_stacked xs d.parts (λ ys rest. bind (f ys) (λ z. Ok (record d { parts = z ∷ rest; state = s }))) i) (run allow hs js)))

  entries_of : (all : List Entry) (f : List Part → Out Part) (d : Config)
      → entries (map (entry allow hs) all) d.state (λ xs s. and_then (f xs) (λ z. run allow hs js (record d { parts = z ∷ d.parts; state = s })))
      ≡ entries (map (entry allow hs) all) d.state (λ xs s. and_then (above (length d.parts) (stacked xs d.parts) (λ ys rest. bind (f ys) (λ z. Ok (record d { parts = z ∷ rest; state = s })))) (run allow hs js))
  entries_of all f d =
      (λ i. entries (map (entry allow hs) all) d.state (λ xs s. behind (f xs) (λ z. record d { parts = z ∷ d.parts; state = s }) (run allow hs js) i))
      ∙ sym (λ i. entries (map (entry allow hs) all) d.state (λ xs s. and_then (above_stacked xs d.parts (λ ys rest. bind (f ys) (λ z. Ok (record d { parts = z ∷ rest; state = s }))) i) (run allow hs js)))

  read_by : (access : Access) (at : ℕ) (receiver : Expr) (name : List ℕ) (type : Option TypeName)
      → read allow hs access at (reading allow hs receiver) (names_by type) name c.state (part_to c (run allow hs js)) ≡ run allow hs (member_plan access at receiver type name ++ js) c
  unfolding run
  read_by access at receiver name None = λ i. (reading allow hs receiver).value c.state (λ x s. behind (accesses.read_of allow access at name x) (λ z. record c { parts = z ∷ c.parts; state = s }) (run allow hs js) i)
  read_by access at receiver name (Some of) = behind_next (type_of of) (λ t. members.field_of allow access at name t) (λ z. record c { parts = z ∷ c.parts; state = c.state }) (run allow hs js)

  method_by : (access : Access) (at : ℕ) (receiver : Expr) (name : List ℕ) (given : List Argument) (type : Option TypeName)
      → method allow hs access at (reading allow hs receiver) (names_by type) name (map (argument allow hs) given) c.state (part_to c (run allow hs js)) ≡ run allow hs (method_plan access at receiver type name given ++ js) c
  unfolding run
  method_by access at receiver name given None =
      (λ i. (reading allow hs receiver).value c.state (λ x s. parts (map (argument allow hs) given) s (λ xs t. behind (members.method_of allow access at name x xs) (λ z. record c { parts = z ∷ c.parts; state = t }) (run allow hs js) i)))
      ∙ sym (λ i. (reading allow hs receiver).value c.state (λ x s. parts (map (argument allow hs) given) s (λ xs t. and_then (above_stacked xs (x ∷ c.parts) (λ ys below. one below (λ y rest. bind (members.method_of allow access at name y ys) (λ z. Ok (record c { parts = z ∷ rest; state = t })))) i) (run allow hs js))))
  method_by access at receiver name given (Some of) =
      (λ i. and_then (type_of of) (λ t. calls_of given (λ xs. members.static_of allow access at name t xs) c i))
      ∙ again (type_of of) (λ p. parts (map (argument allow hs) given) c.state (λ xs s. and_then (above (length c.parts) (stacked xs c.parts) (λ ys rest. bind (bind p (λ t. members.static_of allow access at name t ys)) (λ z. Ok (record c { parts = z ∷ rest; state = s })))) (run allow hs js)))

  element_by : (access : Access) (at : ℕ) (receiver : Expr) (digits : List ℕ) (type : Option TypeName)
      → element allow hs access at (reading allow hs receiver) (names_by type) digits c.state (part_to c (run allow hs js)) ≡ run allow hs (element_plan access at receiver type digits ++ js) c
  unfolding run
  element_by access at receiver digits None = λ i. (reading allow hs receiver).value c.state (λ x s. behind (accesses.numbered_of allow access at digits x) (λ z. record c { parts = z ∷ c.parts; state = s }) (run allow hs js) i)
  element_by access at receiver digits (Some of) = refl

  value_by : (y : Open Expr-F) → (expression_step allow hs (expression_over allow hs y)).value c.state (part_to c (run allow hs js)) ≡ run allow hs (value_plan y ++ js) c
  unfolding run
  value_by (Expr-F.Assign operator at target value) = (λ i. (reading allow hs target).place (read_at at operator) c.state (λ p s. (reading allow hs value).value s (λ x t. behind (places.assign_of at operator p x) (λ z. record c { parts = z ∷ c.parts; state = t }) (run allow hs js) i)))
  value_by (Expr-F.Conditional at condition left right) = (λ i. (reading allow hs condition).value c.state (λ w s. (reading allow hs left).value s (λ x t. (reading allow hs right).value t (λ y u. behind (operators.choice_of at w x y) (λ z. record c { parts = z ∷ c.parts; state = u }) (run allow hs js) i))))
  value_by (Expr-F.Elvis at left right) = (λ i. (reading allow hs left).value c.state (λ x s. (reading allow hs right).value s (λ y t. behind (operators.elvis_of at x y) (λ z. record c { parts = z ∷ c.parts; state = t }) (run allow hs js) i)))
  value_by (Expr-F.Binary operator at left right) = (λ i. (reading allow hs left).value c.state (λ x s. (reading allow hs right).value s (λ y t. behind (operators.binary_of operator at x y) (λ z. record c { parts = z ∷ c.parts; state = t }) (run allow hs js) i)))
  value_by (Expr-F.Instanceof at operand of) = (λ i. (reading allow hs operand).value c.state (λ x s. behind_next (type_of of) (λ to. operators.instance_of at x to) (λ z. record c { parts = z ∷ c.parts; state = s }) (run allow hs js) i))
  value_by (Expr-F.Unary sign.Plus at operand) = (λ i. (reading allow hs operand).value c.state (λ x s. behind (operators.unary_of sign.Plus at x) (λ z. record c { parts = z ∷ c.parts; state = s }) (run allow hs js) i))
  value_by (Expr-F.Unary sign.Minus at operand) = refl
  value_by (Expr-F.Unary sign.Not at operand) = (λ i. (reading allow hs operand).value c.state (λ x s. behind (operators.unary_of sign.Not at x) (λ z. record c { parts = z ∷ c.parts; state = s }) (run allow hs js) i))
  value_by (Expr-F.Unary sign.Complement at operand) = (λ i. (reading allow hs operand).value c.state (λ x s. behind (operators.unary_of sign.Complement at x) (λ z. record c { parts = z ∷ c.parts; state = s }) (run allow hs js) i))
  value_by (Expr-F.Prefix step at target) = (λ i. (reading allow hs target).place (Some at) c.state (λ p s. behind (places.step_of at step g.New p) (λ z. record c { parts = z ∷ c.parts; state = s }) (run allow hs js) i))
  value_by (Expr-F.Postfix step at target) = (λ i. (reading allow hs target).place (Some at) c.state (λ p s. behind (places.step_of at step g.Old p) (λ z. record c { parts = z ∷ c.parts; state = s }) (run allow hs js) i))
  value_by (Expr-F.Cast at of operand) =
      (λ i. and_then (type_of of) (λ to. (reading allow hs operand).value c.state (λ x s. behind (casts.asked at to x) (λ z. record c { parts = z ∷ c.parts; state = s }) (run allow hs js) i)))
      ∙ again (type_of of) (λ p. (reading allow hs operand).value c.state (λ x s. and_then (bind (bind p (λ to. casts.asked at to x)) (λ z. Ok (record c { parts = z ∷ c.parts; state = s }))) (run allow hs js)))
  value_by (Expr-F.Bracketed at inner) = refl
  value_by (Expr-F.Integer at spelling) = (λ i. behind (literals.integer at spelling) (λ z. record c { parts = z ∷ c.parts; state = c.state }) (run allow hs js) i)
  value_by (Expr-F.Text at spelling) = (λ i. behind (literals.text at spelling) (λ z. record c { parts = z ∷ c.parts; state = c.state }) (run allow hs js) i)
  value_by (Expr-F.Constant constant at) = (λ i. behind (literals.constant at constant) (λ z. record c { parts = z ∷ c.parts; state = c.state }) (run allow hs js) i)
  value_by (Expr-F.List at items) = values_of items (λ xs. containers.list_of at xs) c
  value_by (Expr-F.Map at pairs) = entries_of pairs (λ xs. containers.map_of at xs) c
  value_by (Expr-F.Name at spelling) = (λ i. behind (places.local at spelling c.state) (λ z. record c { parts = z ∷ c.parts; state = c.state }) (run allow hs js) i)
  value_by (Expr-F.Call at spelling given) = refl
  value_by (Expr-F.New at of given) =
      (λ i. and_then (type_of of) (λ t. calls_of given (λ xs. members.new_of allow at t xs) c i))
      ∙ again (type_of of) (λ p. parts (map (argument allow hs) given) c.state (λ xs s. and_then (above (length c.parts) (stacked xs c.parts) (λ ys rest. bind (bind p (λ t. members.new_of allow at t ys)) (λ z. Ok (record c { parts = z ∷ rest; state = s })))) (run allow hs js)))
  value_by (Expr-F.NewArray at of sizes) =
      (λ i. and_then (type_of of) (λ t. values_of sizes (λ xs. containers.array_of at t xs) c i))
      ∙ again (type_of of) (λ p. parts (map value_of (map (reading allow hs) sizes)) c.state (λ xs s. and_then (above (length c.parts) (stacked xs c.parts) (λ ys rest. bind (bind p (λ t. containers.array_of at t ys)) (λ z. Ok (record c { parts = z ∷ rest; state = s })))) (run allow hs js)))
  value_by (Expr-F.NewItems at of items) =
      (λ i. and_then (type_of of) (λ t. values_of items (λ xs. containers.array_with at t xs) c i))
      ∙ again (type_of of) (λ p. parts (map value_of (map (reading allow hs) items)) c.state (λ xs s. and_then (above (length c.parts) (stacked xs c.parts) (λ ys rest. bind (bind p (λ t. containers.array_with at t ys)) (λ z. Ok (record c { parts = z ∷ rest; state = s })))) (run allow hs js)))
  value_by (Expr-F.Type of) = refl
  value_by (Expr-F.Member access at receiver spelling) =
      ap (λ (n : Option (Doing Ty)). read allow hs access at (reading allow hs receiver) n spelling c.state (part_to c (run allow hs js))) (names_are allow hs receiver)
      ∙ read_by access at receiver spelling (type_in (out-Expr receiver))
  value_by (Expr-F.Method access at receiver spelling given) =
      ap (λ (n : Option (Doing Ty)). method allow hs access at (reading allow hs receiver) n spelling (map (argument allow hs) given) c.state (part_to c (run allow hs js))) (names_are allow hs receiver)
      ∙ method_by access at receiver spelling given (type_in (out-Expr receiver))
  value_by (Expr-F.Element access at receiver digits) =
      ap (λ (n : Option (Doing Ty)). element allow hs access at (reading allow hs receiver) n digits c.state (part_to c (run allow hs js))) (names_are allow hs receiver)
      ∙ element_by access at receiver digits (type_in (out-Expr receiver))
  value_by (Expr-F.Index at receiver index) = (λ i. (reading allow hs receiver).value c.state (λ x s. (reading allow hs index).value s (λ y t. behind (accesses.index_of allow at x y) (λ z. record c { parts = z ∷ c.parts; state = t }) (run allow hs js) i)))

  pub value_planned : (e : Expr) → run allow hs (j.Value e ∷ js) c ≡ run allow hs (value_plan (out-Expr e) ++ js) c
  unfolding run
  value_planned e = ap (λ (x : Reading). x.value c.state (part_to c (run allow hs js))) (expression_is allow hs e) ∙ value_by (out-Expr e)

  negated_other : (minus : ℕ) (e : Expr) → PlainNegated (reading allow hs e) → run allow hs (j.Negated e minus ∷ js) c ≡ run allow hs (j.Value e ∷ j.Do (a.Unary minus sign.Minus) ∷ js) c
  unfolding run
  negated_other minus e is = ap (λ (d : Doing Part). d c.state (part_to c (run allow hs js))) (is minus)
      ∙ (λ i. (reading allow hs e).value c.state (λ x s. behind (operators.unary_of sign.Minus minus x) (λ z. record c { parts = z ∷ c.parts; state = s }) (run allow hs js) i))

  target_other : (by : Option ℕ) (e : Expr) → PlainPlace (reading allow hs e) → run allow hs (j.Target e by ∷ js) c ≡ run allow hs (j.Value e ∷ j.Do a.Fixed ∷ js) c
  unfolding run
  target_other by e is = ap (λ (d : Doing Place). d c.state (place_to c (run allow hs js))) (is by)

  negated_by : (minus : ℕ) (e : Expr) (y : Open Expr-F) → reading allow hs e ≡ expression_step allow hs (expression_over allow hs y)
      → run allow hs (j.Negated e minus ∷ js) c ≡ run allow hs (negated_plan minus e y ++ js) c
  unfolding run
  negated_by minus e (Expr-F.Assign operator at target value) is = negated_other minus e (subst PlainNegated (sym is) (λ m. refl))
  negated_by minus e (Expr-F.Conditional at condition left right) is = negated_other minus e (subst PlainNegated (sym is) (λ m. refl))
  negated_by minus e (Expr-F.Elvis at left right) is = negated_other minus e (subst PlainNegated (sym is) (λ m. refl))
  negated_by minus e (Expr-F.Binary operator at left right) is = negated_other minus e (subst PlainNegated (sym is) (λ m. refl))
  negated_by minus e (Expr-F.Instanceof at operand of) is = negated_other minus e (subst PlainNegated (sym is) (λ m. refl))
  negated_by minus e (Expr-F.Unary sign.Plus at operand) is = negated_other minus e (subst PlainNegated (sym is) (λ m. refl))
  negated_by minus e (Expr-F.Unary sign.Minus at operand) is = negated_other minus e (subst PlainNegated (sym is) (λ m. refl))
  negated_by minus e (Expr-F.Unary sign.Not at operand) is = negated_other minus e (subst PlainNegated (sym is) (λ m. refl))
  negated_by minus e (Expr-F.Unary sign.Complement at operand) is = negated_other minus e (subst PlainNegated (sym is) (λ m. refl))
  negated_by minus e (Expr-F.Prefix step at target) is = negated_other minus e (subst PlainNegated (sym is) (λ m. refl))
  negated_by minus e (Expr-F.Postfix step at target) is = negated_other minus e (subst PlainNegated (sym is) (λ m. refl))
  negated_by minus e (Expr-F.Cast at of operand) is = negated_other minus e (subst PlainNegated (sym is) (λ m. refl))
  negated_by minus e (Expr-F.Bracketed at inner) is = negated_other minus e (subst PlainNegated (sym is) (λ m. refl))
  negated_by minus e (Expr-F.Integer at spelling) is = ap (λ (x : Reading). x.negated minus c.state (part_to c (run allow hs js))) is
      ∙ (λ i. behind (literals.negated_integer minus at spelling) (λ z. record c { parts = z ∷ c.parts; state = c.state }) (run allow hs js) i)
  negated_by minus e (Expr-F.Text at spelling) is = negated_other minus e (subst PlainNegated (sym is) (λ m. refl))
  negated_by minus e (Expr-F.Constant constant at) is = negated_other minus e (subst PlainNegated (sym is) (λ m. refl))
  negated_by minus e (Expr-F.List at items) is = negated_other minus e (subst PlainNegated (sym is) (λ m. refl))
  negated_by minus e (Expr-F.Map at entries) is = negated_other minus e (subst PlainNegated (sym is) (λ m. refl))
  negated_by minus e (Expr-F.Name at spelling) is = negated_other minus e (subst PlainNegated (sym is) (λ m. refl))
  negated_by minus e (Expr-F.Call at spelling given) is = negated_other minus e (subst PlainNegated (sym is) (λ m. refl))
  negated_by minus e (Expr-F.New at of given) is = negated_other minus e (subst PlainNegated (sym is) (λ m. refl))
  negated_by minus e (Expr-F.NewArray at of sizes) is = negated_other minus e (subst PlainNegated (sym is) (λ m. refl))
  negated_by minus e (Expr-F.NewItems at of items) is = negated_other minus e (subst PlainNegated (sym is) (λ m. refl))
  negated_by minus e (Expr-F.Type of) is = negated_other minus e (subst PlainNegated (sym is) (λ m. refl))
  negated_by minus e (Expr-F.Member access at receiver spelling) is = negated_other minus e (subst PlainNegated (sym is) (λ m. refl))
  negated_by minus e (Expr-F.Method access at receiver spelling given) is = negated_other minus e (subst PlainNegated (sym is) (λ m. refl))
  negated_by minus e (Expr-F.Element access at receiver spelling) is = negated_other minus e (subst PlainNegated (sym is) (λ m. refl))
  negated_by minus e (Expr-F.Index at receiver index) is = negated_other minus e (subst PlainNegated (sym is) (λ m. refl))

  pub negated_planned : (minus : ℕ) (e : Expr) → run allow hs (j.Negated e minus ∷ js) c ≡ run allow hs (negated_plan minus e (out-Expr e) ++ js) c
  negated_planned minus e = negated_by minus e (out-Expr e) (expression_is allow hs e)

  -- a name behind a dot, by what it is as a value
  member_by : (by : Option ℕ) (access : Access) (at : ℕ) (e receiver : Expr) (name : List ℕ) (type : Option TypeName) (value : Doing Part) → value ≡ (reading allow hs e).value
      → member_place allow hs access at (reading allow hs receiver) (names_by type) name value by c.state (place_to c (run allow hs js)) ≡ run allow hs (member_target access at e receiver type name by ++ js) c
  unfolding run
  member_by by access.Plain at e receiver name None value is = λ i. (reading allow hs receiver).value c.state (λ x s. behind (locations.name_location allow by at name x) (λ z. record c { places = z ∷ c.places; state = s }) (run allow hs js) i)
  member_by by access.Plain at e receiver name (Some of) value is = ap (λ (d : Doing Part). fixed d by c.state (place_to c (run allow hs js))) is
  member_by by access.Guarded at e receiver name type value is = ap (λ (d : Doing Part). fixed d by c.state (place_to c (run allow hs js))) is

  numbered_by : (by : Option ℕ) (access : Access) (at : ℕ) (e receiver : Expr) (digits : List ℕ) (type : Option TypeName) (value : Doing Part) → value ≡ (reading allow hs e).value
      → element_place allow hs access at (reading allow hs receiver) (names_by type) digits value by c.state (place_to c (run allow hs js)) ≡ run allow hs (element_target access at e receiver type digits by ++ js) c
  unfolding run
  numbered_by by access.Plain at e receiver digits None value is = λ i. (reading allow hs receiver).value c.state (λ x s. behind (locations.number_location allow by at digits x) (λ z. record c { places = z ∷ c.places; state = s }) (run allow hs js) i)
  numbered_by by access.Plain at e receiver digits (Some of) value is = ap (λ (d : Doing Part). fixed d by c.state (place_to c (run allow hs js))) is
  numbered_by by access.Guarded at e receiver digits type value is = ap (λ (d : Doing Part). fixed d by c.state (place_to c (run allow hs js))) is

  target_by : (by : Option ℕ) (e : Expr) (y : Open Expr-F) → reading allow hs e ≡ expression_step allow hs (expression_over allow hs y)
      → run allow hs (j.Target e by ∷ js) c ≡ run allow hs (target_plan e by y ++ js) c
  unfolding run
  target_by by e (Expr-F.Assign operator at target value) is = target_other by e (subst PlainPlace (sym is) (λ b. refl))
  target_by by e (Expr-F.Conditional at condition left right) is = target_other by e (subst PlainPlace (sym is) (λ b. refl))
  target_by by e (Expr-F.Elvis at left right) is = target_other by e (subst PlainPlace (sym is) (λ b. refl))
  target_by by e (Expr-F.Binary operator at left right) is = target_other by e (subst PlainPlace (sym is) (λ b. refl))
  target_by by e (Expr-F.Instanceof at operand of) is = target_other by e (subst PlainPlace (sym is) (λ b. refl))
  target_by by e (Expr-F.Unary sign.Plus at operand) is = target_other by e (subst PlainPlace (sym is) (λ b. refl))
  target_by by e (Expr-F.Unary sign.Minus at operand) is = target_other by e (subst PlainPlace (sym is) (λ b. refl))
  target_by by e (Expr-F.Unary sign.Not at operand) is = target_other by e (subst PlainPlace (sym is) (λ b. refl))
  target_by by e (Expr-F.Unary sign.Complement at operand) is = target_other by e (subst PlainPlace (sym is) (λ b. refl))
  target_by by e (Expr-F.Prefix step at target) is = target_other by e (subst PlainPlace (sym is) (λ b. refl))
  target_by by e (Expr-F.Postfix step at target) is = target_other by e (subst PlainPlace (sym is) (λ b. refl))
  target_by by e (Expr-F.Cast at of operand) is = target_other by e (subst PlainPlace (sym is) (λ b. refl))
  target_by by e (Expr-F.Bracketed at inner) is = target_other by e (subst PlainPlace (sym is) (λ b. refl))
  target_by by e (Expr-F.Integer at spelling) is = target_other by e (subst PlainPlace (sym is) (λ b. refl))
  target_by by e (Expr-F.Text at spelling) is = target_other by e (subst PlainPlace (sym is) (λ b. refl))
  target_by by e (Expr-F.Constant constant at) is = target_other by e (subst PlainPlace (sym is) (λ b. refl))
  target_by by e (Expr-F.List at items) is = target_other by e (subst PlainPlace (sym is) (λ b. refl))
  target_by by e (Expr-F.Map at entries) is = target_other by e (subst PlainPlace (sym is) (λ b. refl))
  target_by by e (Expr-F.Name at spelling) is = ap (λ (x : Reading). x.place by c.state (place_to c (run allow hs js))) is
      ∙ (λ i. behind (places.written at spelling c.state) (λ z. record c { places = z ∷ c.places }) (run allow hs js) i)
  target_by by e (Expr-F.Call at spelling given) is = target_other by e (subst PlainPlace (sym is) (λ b. refl))
  target_by by e (Expr-F.New at of given) is = target_other by e (subst PlainPlace (sym is) (λ b. refl))
  target_by by e (Expr-F.NewArray at of sizes) is = target_other by e (subst PlainPlace (sym is) (λ b. refl))
  target_by by e (Expr-F.NewItems at of items) is = target_other by e (subst PlainPlace (sym is) (λ b. refl))
  target_by by e (Expr-F.Type of) is = target_other by e (subst PlainPlace (sym is) (λ b. refl))
  target_by by e (Expr-F.Member access at receiver spelling) is =
      ap (λ (x : Reading). x.place by c.state (place_to c (run allow hs js))) is
      ∙ ap (λ (n : Option (Doing Ty)). member_place allow hs access at (reading allow hs receiver) n spelling (read allow hs access at (reading allow hs receiver) (reading allow hs receiver).names spelling) by c.state (place_to c (run allow hs js))) (names_are allow hs receiver)
      ∙ member_by by access at e receiver spelling (type_in (out-Expr receiver)) (read allow hs access at (reading allow hs receiver) (reading allow hs receiver).names spelling) (sym (ap (λ (x : Reading). x.value) is))
  target_by by e (Expr-F.Method access at receiver spelling given) is = target_other by e (subst PlainPlace (sym is) (λ b. refl))
  target_by by e (Expr-F.Element access at receiver digits) is =
      ap (λ (x : Reading). x.place by c.state (place_to c (run allow hs js))) is
      ∙ ap (λ (n : Option (Doing Ty)). element_place allow hs access at (reading allow hs receiver) n digits (element allow hs access at (reading allow hs receiver) (reading allow hs receiver).names digits) by c.state (place_to c (run allow hs js))) (names_are allow hs receiver)
      ∙ numbered_by by access at e receiver digits (type_in (out-Expr receiver)) (element allow hs access at (reading allow hs receiver) (reading allow hs receiver).names digits) (sym (ap (λ (x : Reading). x.value) is))
  target_by by e (Expr-F.Index at receiver index) is = ap (λ (x : Reading). x.place by c.state (place_to c (run allow hs js))) is
      ∙ (λ i. (reading allow hs receiver).value c.state (λ x s. (reading allow hs index).value s (λ y t. behind (locations.index_location allow by at x y) (λ z. record c { places = z ∷ c.places; state = t }) (run allow hs js) i)))

  pub target_planned : (e : Expr) (by : Option ℕ) → run allow hs (j.Target e by ∷ js) c ≡ run allow hs (target_plan e by (out-Expr e) ++ js) c
  target_planned e by = target_by by e (out-Expr e) (expression_is allow hs e)
