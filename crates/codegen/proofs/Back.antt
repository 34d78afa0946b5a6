-- What stands later stood earlier: one lemma for each thing that is written.
use Rattle.std.proofs.Common.{◌≡◌, ◌≢◌, ℕ, zero, suc, ◌+◌, List, [], ◌∷◌, ◌++◌, length, Option, Some, None, refl, sym, ap, ◌∙◌, subst, append_assoc}
use Rattle.std.specs.Prelude.{map, slice_get, slice_set}
use Rattle.pl_types.specs.declared.conversion.Cast.{Cast}
use Rattle.pl_types.specs.declared.ty.Ty.{Ty}
use Rattle.typed_tree.specs.declared.operation.Operation.{Operation}
use Rattle.pl_code.specs.declared.kinds.Numbered.{Numbered}
use Rattle.pl_code.specs.declared.code.FunCode.{FunCode}
use Rattle.pl_code.specs.declared.code.Instruction.{Instruction}
use Rattle.pl_code.specs.declared.code.Instruction.TheVariants as i
use Rattle.allowlist.specs.declared.member.MemberKind.{MemberKind}
use Rattle.codegen.specs.Called.{call_code}
use Rattle.source_meaning.specs.Tree.{Name, Program}
use Rattle.pl_code.specs.declared.kinds.Numbered.TheVariants as numbered
use Rattle.compiler_relation.specs.Representation.{Representation}
use Rattle.compiler_relation.specs.Parts.{cast_code, operation_code, write_code}
use Rattle.compiler_relation.specs.Stands.{At, AllAt, end_all}
use Rattle.compiler_relation.specs.Placed.{untrapped}
use Rattle.codegen.specs.Checks.{denoted}
use Rattle.codegen.specs.Labels.{or_first, bound, settled_line}
use Rattle.codegen.specs.Worklist.{Item, Put, Convert, Operate, Write, Call, Jump, Bind, Load, Store, Stand, Trapped, Holds, Back, IsLocal, scope_in, next_in, whole_in}
use Rattle.codegen.specs.declared.config.Config.{Config}
use Rattle.codegen.specs.declared.config.Flow.{Flow}
use Rattle.codegen.specs.declared.labels.Line.{Line}
use Rattle.codegen.specs.declared.labels.Line.TheVariants as line

-- ---- lists

pub before : {A : Type 0} (xs ys : List A) (at : ℕ) (x : A) → slice_get xs at ≡ Some x → slice_get (xs ++ ys) at ≡ Some x
before [] ys at x e = absurd cc
before (z ∷ xs) ys zero x e = e
before (z ∷ xs) ys (suc at) x e = before xs ys at x e

pub seam : {A : Type 0} (xs : List A) (y : A) (ys : List A) → slice_get (xs ++ y ∷ ys) (length xs) ≡ Some y
seam [] y ys = refl
seam (x ∷ xs) y ys = seam xs y ys

pub one_longer : {A : Type 0} (xs : List A) (y : A) → length (xs ++ y ∷ []) ≡ suc (length xs)
one_longer [] y = refl
one_longer (x ∷ xs) y = ap suc (one_longer xs y)

got_set : {A : Type 0} (xs : List A) (k : ℕ) (x y : A) → slice_get xs k ≡ Some x → slice_get (slice_set xs k y) k ≡ Some y
got_set [] k x y e = absurd cc
got_set (z ∷ xs) zero x y e = refl
got_set (z ∷ xs) (suc k) x y e = got_set xs k x y e

-- where k had another item, what was there stays
kept_set : {A : Type 0} (xs : List A) (k at : ℕ) (x y z : A) → slice_get xs k ≡ Some z → slice_get xs at ≡ Some x → z ≢ x → slice_get (slice_set xs k y) at ≡ Some x
kept_set [] k at x y z h e n = e
kept_set (w ∷ xs) zero zero x y z h e n = absurd (n cc)
kept_set (w ∷ xs) zero (suc at) x y z h e n = e
kept_set (w ∷ xs) (suc k) zero x y z h e n = e
kept_set (w ∷ xs) (suc k) (suc at) x y z h e n = kept_set xs k at x y z h e n

-- ---- lines

-- these lines stand, with their jumps settled
abbrev Lines : FunCode → List (Option ℕ) → List Line → Type 0
Lines f labels lines = (at : ℕ) (l : Line) → slice_get lines at ≡ Some l → slice_get f.lines at ≡ Some (settled_line labels l)

pub one_at : (f : FunCode) (labels : List (Option ℕ)) (xs : List Line) (l : Line) (ys : List Line) → Lines f labels (xs ++ l ∷ ys) → At (untrapped f) [] (length xs) (settled_line labels l)
one_at f labels xs l ys h = record { here = h (length xs) l (seam xs l ys); traps = refl }

all_at : (f : FunCode) (labels : List (Option ℕ)) (xs : List Line) (is : List Instruction) → Lines f labels (xs ++ map line.Fixed is) → AllAt (untrapped f) [] (length xs) is
all_at f labels xs [] h = tt
all_at f labels xs (x ∷ is) h = (
  one_at f labels xs (line.Fixed x) (map line.Fixed is) h,
  subst (λ p. AllAt (untrapped f) [] p is) (one_longer xs (line.Fixed x))
      (all_at f labels (xs ++ line.Fixed x ∷ []) is (subst (λ ls. Lines f labels ls) (sym (append_assoc xs (line.Fixed x ∷ []) (map line.Fixed is))) h)),
)

all_end : (xs : List Line) (is : List Instruction) → end_all (length xs) is ≡ length (xs ++ map line.Fixed is)
all_end xs [] = ap length (sym (Rattle.std.proofs.Common.append-nil xs))
all_end xs (x ∷ is) =
    ap (λ p. end_all p is) (sym (one_longer xs (line.Fixed x))) ∙ all_end (xs ++ line.Fixed x ∷ []) is ∙ ap length (append_assoc xs (line.Fixed x ∷ []) (map line.Fixed is))

-- ---- what is written

-- lines that are put at the end
holds_before : (f : FunCode) (labels : List (Option ℕ)) (c : Config) (more : List Line) → Holds f labels (record c { lines = c.lines ++ more }) → Holds f labels c
holds_before f labels c more h = record {
  lines = λ at l e. h.lines at l (before c.lines more at l e);
  bound = h.bound;
  params = h.params;
  locals = h.locals;
}

module _ (funs : Program) (todo : List Item) (c : Config) where
  -- what is to be written is another list, with nothing written
  pub planned : (todo' : List Item) → ((f : FunCode) (labels : List (Option ℕ)) (g : _) (n p : ℕ) (flows : List Flow) (whole : Trapped) → Stand funs (denoted c.result) f labels todo' g n p flows whole → Stand funs (denoted c.result) f labels todo g n p flows whole)
      → Back funs todo c todo' c
  planned todo' h = record { by = λ f labels m. record { holds = m.holds; stand = h f labels (scope_in c) (next_in c) (length c.lines) c.flows (whole_in c) m.stand } }

  -- the same at the place where it is done
  pub planned_here : (todo' : List Item) → ((f : FunCode) (labels : List (Option ℕ)) → Stand funs (denoted c.result) f labels todo' (scope_in c) (next_in c) (length c.lines) c.flows (whole_in c) → Stand funs (denoted c.result) f labels todo (scope_in c) (next_in c) (length c.lines) c.flows (whole_in c))
      → Back funs todo c todo' c
  planned_here todo' h = record { by = λ f labels m. record { holds = m.holds; stand = h f labels m.stand } }

  pub put_more : (is : List Instruction) → Back funs (Put is ∷ todo) c todo (record c { lines = c.lines ++ map line.Fixed is })
  put_more is = record {
    by = λ f labels m. record {
      holds = holds_before f labels c (map line.Fixed is) m.holds;
      stand = (
        all_at f labels c.lines is m.holds.lines,
        subst (λ p. Stand funs (denoted c.result) f labels todo (scope_in c) (next_in c) p c.flows (whole_in c)) (sym (all_end c.lines is)) m.stand,
      );
    };
  }

  pub jump_more : (kind : Numbered) (label : ℕ) → Back funs (Jump kind label ∷ todo) c todo (record c { lines = c.lines ++ line.Jump kind label ∷ [] })
  jump_more kind label = record {
    by = λ f labels m. record {
      holds = holds_before f labels c (line.Jump kind label ∷ []) m.holds;
      stand = (
        one_at f labels c.lines (line.Jump kind label) [] m.holds.lines,
        subst (λ p. Stand funs (denoted c.result) f labels todo (scope_in c) (next_in c) p c.flows (whole_in c)) (one_longer c.lines (line.Jump kind label)) m.stand,
      );
    };
  }

  pub bind_more : (label : ℕ) → slice_get c.labels label ≡ Some None → Back funs (Bind label ∷ todo) c todo (record c { labels = slice_set c.labels label (Some (length c.lines)) })
  bind_more label free = record {
    by = λ f labels m. record {
      holds = record {
        lines = m.holds.lines;
        bound = λ at l e. m.holds.bound at l (kept_set c.labels label at (Some l) (Some (length c.lines)) None free e (λ k. cc));
        params = m.holds.params;
        locals = m.holds.locals;
      };
      stand = (
        ap (λ o. or_first (bound o)) (m.holds.bound label (length c.lines) (got_set c.labels label None (Some (length c.lines)) free)),
        m.stand,
      );
    };
  }

  -- labels that are new
  pub labels_more : (more : List (Option ℕ)) → Back funs todo c todo (record c { labels = c.labels ++ more })
  labels_more more = record {
    by = λ f labels m. record {
      holds = record {
        lines = m.holds.lines;
        bound = λ at l e. m.holds.bound at l (before c.labels more at (Some l) e);
        params = m.holds.params;
        locals = m.holds.locals;
      };
      stand = m.stand;
    };
  }

pub back_all : (funs : Program) (todo todo' todo'' : List Item) (c c' c'' : Config) → Back funs todo c todo' c' → Back funs todo' c' todo'' c'' → Back funs todo c todo'' c''
back_all funs todo todo' todo'' c c' c'' b b' = record { by = λ f labels m. b.by f labels (b'.by f labels m) }

pub back_same : (funs : Program) (todo : List Item) (c : Config) → Back funs todo c todo c
back_same funs todo c = record { by = λ f labels m. m }

-- ---- with what a call gives

module _ (funs : Program) (todo : List Item) (c : Config) where
  pub put_back : (is : List Instruction) (xs : List Line) → xs ≡ c.lines ++ map line.Fixed is → Back funs (Put is ∷ todo) c todo (record c { lines = xs })
  put_back is xs e = subst (λ xs. Back funs (Put is ∷ todo) c todo (record c { lines = xs })) (sym e) (put_more funs todo c is)

  pub convert_back : (by : Cast) (to : Ty) (xs : List Line) → xs ≡ c.lines ++ map line.Fixed (cast_code by to) → Back funs (Convert by to ∷ todo) c todo (record c { lines = xs })
  convert_back by to xs e = record { by = λ f labels m. let before = (put_back (cast_code by to) xs e).by f labels m in record { holds = before.holds; stand = before.stand } }

  pub operate_back : (does : Operation) (of : Ty) (count : ℕ) (xs : List Line) → xs ≡ c.lines ++ map line.Fixed (operation_code does of count)
      → Back funs (Operate does of count ∷ todo) c todo (record c { lines = xs })
  operate_back does of count xs e =
      record { by = λ f labels m. let before = (put_back (operation_code does of count) xs e).by f labels m in record { holds = before.holds; stand = before.stand } }

  pub write_back : (does : Operation) (of : Ty) (xs : List Line) → xs ≡ c.lines ++ map line.Fixed (write_code does of) → Back funs (Write does of ∷ todo) c todo (record c { lines = xs })
  write_back does of xs e =
      record { by = λ f labels m. let before = (put_back (write_code does of) xs e).by f labels m in record { holds = before.holds; stand = before.stand } }

  pub call_back : (kind : MemberKind) (text : List ℕ) (xs : List Line) → xs ≡ c.lines ++ line.Fixed (call_code kind text) ∷ [] → Back funs (Call kind text ∷ todo) c todo (record c { lines = xs })
  call_back kind text xs e = record { by = λ f labels m. let before = (put_back (call_code kind text ∷ []) xs e).by f labels m in record { holds = before.holds; stand = (before.stand.0.0, before.stand.1) } }

  pub jump_back : (kind : Numbered) (label : ℕ) (xs : List Line) → xs ≡ c.lines ++ line.Jump kind label ∷ [] → Back funs (Jump kind label ∷ todo) c todo (record c { lines = xs })
  jump_back kind label xs e = subst (λ xs. Back funs (Jump kind label ∷ todo) c todo (record c { lines = xs })) (sym e) (jump_more funs todo c kind label)

  pub bind_back : (label n : ℕ) (ls : List (Option ℕ)) → n ≡ length c.lines → slice_get c.labels label ≡ Some None → ls ≡ slice_set c.labels label (Some n) → Back funs (Bind label ∷ todo) c todo (record c { labels = ls })
  bind_back label n ls e free is =
      subst (λ ls. Back funs (Bind label ∷ todo) c todo (record c { labels = ls })) (sym (is ∙ ap (λ n. slice_set c.labels label (Some n)) e)) (bind_more funs todo c label free)

  pub with_label : (todo' : List Item) (ls : List (Option ℕ)) → ls ≡ c.labels ++ None ∷ [] → Back funs todo c todo' c → Back funs todo c todo' (record c { labels = ls })
  with_label todo' ls e b =
      subst (λ ls. Back funs todo c todo' (record c { labels = ls })) (sym e) (back_all funs todo todo' todo' c c (record c { labels = c.labels ++ None ∷ [] }) b (labels_more funs todo' c (None ∷ [])))

  pub with_labels : (todo' : List Item) (ls ls' : List (Option ℕ)) → ls ≡ c.labels ++ None ∷ [] → ls' ≡ ls ++ None ∷ [] → Back funs todo c todo' c → Back funs todo c todo' (record c { labels = ls' })
  with_labels todo' ls ls' e e' b =
      subst (λ ls. Back funs todo c todo' (record c { labels = ls })) (sym (e' ∙ ap (λ ls. ls ++ None ∷ []) e))
      (back_all funs todo todo' todo' c (record c { labels = c.labels ++ None ∷ [] }) _ (back_all funs todo todo' todo' c c (record c { labels = c.labels ++ None ∷ [] }) b (labels_more funs todo' c (None ∷ [])))
      (labels_more funs todo' (record c { labels = c.labels ++ None ∷ [] }) (None ∷ [])))

  pub label_more : (todo' : List Item) (ls ls' : List (Option ℕ)) → ls' ≡ ls ++ None ∷ [] → Back funs todo c todo' (record c { labels = ls }) → Back funs todo c todo' (record c { labels = ls' })
  label_more todo' ls ls' e b =
      subst (λ ls. Back funs todo c todo' (record c { labels = ls })) (sym e)
      (back_all funs todo todo' todo' c (record c { labels = ls }) _ b (labels_more funs todo' (record c { labels = ls }) (None ∷ [])))

  load_more : (x : Name) (representation : Representation) (local : ℕ) → IsLocal (scope_in c) x representation local → Back funs (Load x representation ∷ todo) c todo (record c { lines = c.lines ++ line.Fixed (i.Numbered numbered.Load local) ∷ [] })
  load_more x representation local l = record {
    by = λ f labels m. record {
      holds = holds_before f labels c (line.Fixed (i.Numbered numbered.Load local) ∷ []) m.holds;
      stand = (
        (l.entry, l.is, l.represented_so, subst (λ n. At (untrapped f) [] (length c.lines) (i.Numbered numbered.Load n)) l.number (one_at f labels c.lines (line.Fixed (i.Numbered numbered.Load local)) [] m.holds.lines)),
        subst (λ p. Stand funs (denoted c.result) f labels todo (scope_in c) (next_in c) p c.flows (whole_in c)) (one_longer c.lines (line.Fixed (i.Numbered numbered.Load local))) m.stand,
      );
    };
  }

  store_more : (x : Name) (representation : Representation) (local : ℕ) → IsLocal (scope_in c) x representation local → Back funs (Store x representation ∷ todo) c todo (record c { lines = c.lines ++ line.Fixed (i.Numbered numbered.Store local) ∷ [] })
  store_more x representation local l = record {
    by = λ f labels m. record {
      holds = holds_before f labels c (line.Fixed (i.Numbered numbered.Store local) ∷ []) m.holds;
      stand = (
        (l.entry, l.is, l.represented_so, subst (λ n. At (untrapped f) [] (length c.lines) (i.Numbered numbered.Store n)) l.number (one_at f labels c.lines (line.Fixed (i.Numbered numbered.Store local)) [] m.holds.lines)),
        subst (λ p. Stand funs (denoted c.result) f labels todo (scope_in c) (next_in c) p c.flows (whole_in c)) (one_longer c.lines (line.Fixed (i.Numbered numbered.Store local))) m.stand,
      );
    };
  }

  pub load_back : (x : Name) (representation : Representation) (local : ℕ) (xs : List Line) → IsLocal (scope_in c) x representation local → xs ≡ c.lines ++ line.Fixed (i.Numbered numbered.Load local) ∷ [] → Back funs (Load x representation ∷ todo) c todo (record c { lines = xs })
  load_back x representation local xs l e = subst (λ xs. Back funs (Load x representation ∷ todo) c todo (record c { lines = xs })) (sym e) (load_more x representation local l)

  pub store_back : (x : Name) (representation : Representation) (local : ℕ) (xs : List Line) → IsLocal (scope_in c) x representation local → xs ≡ c.lines ++ line.Fixed (i.Numbered numbered.Store local) ∷ [] → Back funs (Store x representation ∷ todo) c todo (record c { lines = xs })
  store_back x representation local xs l e = subst (λ xs. Back funs (Store x representation ∷ todo) c todo (record c { lines = xs })) (sym e) (store_more x representation local l)

pub is_local : (g : _) (x : Name) (y : _) (representation representation' : Representation) → Rattle.compiler_relation.specs.Stands.entry_of g x ≡ Some y → representation ≡ representation' → representation' ≡ Rattle.compiler_relation.specs.Representation.representation_of y.of → IsLocal g x representation y.local
is_local g x y representation representation' e k l = record { entry = y; is = record { is = e }; represented_so = k ∙ l; number = refl }
