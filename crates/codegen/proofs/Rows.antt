-- Statements and variables from one on, and the names in sight.
use Rattle.std.proofs.Common.{◌≡◌, ◌≢◌, ℕ, zero, suc, ◌+◌, List, [], ◌∷◌, ◌++◌, length, drop, take, refl, sym, ap, ◌∙◌, subst, Option, Some, None, arith}
use Rattle.std.specs.Prelude.{map, slice_get, reverse}
use Rattle.std.proofs.lemmas.List.{reverse-append}
use Rattle.pl_types.specs.declared.ty.Ty.{Ty}
use Rattle.pl_code.specs.declared.kinds.Numbered.TheVariants as numbered
use Rattle.pl_code.specs.declared.kinds.Slot.{Slot}
use Rattle.pl_code.specs.declared.code.Instruction.TheVariants as i
use Rattle.typed_tree.specs.declared.statement.TypedStatement.{TypedStatement}
use Rattle.typed_tree.specs.declared.statement.TypedVariable.{TypedVariable}
use Rattle.source_meaning.specs.Tree.{Name, Maybe, Missing, Given, Stmts, Finish, Declare, Program}
use Rattle.source_meaning.specs.Programs.{before, declared, stmts_of, maybe_of}
use Rattle.compiler_relation.specs.Representation.{representation_of, kind_of, Absent}
use Rattle.compiler_relation.specs.Stands.{Entry}
use Rattle.codegen.specs.Checks.{denoted}
use Rattle.codegen.specs.Worklist.{Item, Run, Declared, Close, Stand, First, IsFirst, lowest, entry, scope_in, next_in, whole_in, Back}
use Rattle.codegen.specs.declared.config.Config.{Config}
use Rattle.codegen.specs.declared.symbols.Entry as d
use Rattle.codegen.specs.declared.labels.Line.{Line}
use Rattle.codegen.specs.declared.labels.Line.TheVariants as line
use Rattle.codegen.specs.declared.work_item.Exits.{Exits}
use Rattle.codegen.proofs.Back.{before as got_before, seam, one_at, one_longer, back_same}
use Rattle.codegen.proofs.Bodies.{given_plan, default_plan}
use Rattle.codegen.proofs.Parts.{drop_one, drop_end}

map_parts : {A B : Type 0} (f : A → B) (xs ys : List A) → map f (xs ++ ys) ≡ map f xs ++ map f ys
map_parts f [] ys = refl
map_parts f (x ∷ xs) ys = ap (λ zs. f x ∷ zs) (map_parts f xs ys)

map_reversed : {A B : Type 0} (f : A → B) (xs : List A) → map f (reverse xs) ≡ reverse (map f xs)
map_reversed f [] = refl
map_reversed f (x ∷ xs) = ap (map f) (reverse-append (x ∷ []) xs) ∙ map_parts f (reverse xs) (x ∷ []) ∙ ap (λ ys. ys ++ f x ∷ []) (map_reversed f xs) ∙ sym (reverse-append (f x ∷ []) (map f xs))

map_taken : {A B : Type 0} (f : A → B) (n : ℕ) (xs : List A) → map f (take n xs) ≡ take n (map f xs)
map_taken f zero xs = refl
map_taken f (suc n) [] = refl
map_taken f (suc n) (x ∷ xs) = ap (λ ys. f x ∷ ys) (map_taken f n xs)

pub kept_mapped : {A B : Type 0} (f : A → B) (height : ℕ) (xs : List A) → map f (lowest height xs) ≡ lowest height (map f xs)
kept_mapped f height xs = map_reversed f (take height (reverse xs)) ∙ ap reverse (map_taken f height (reverse xs) ∙ ap (take height) (map_reversed f xs))

-- behind a front that is known
got_behind : (xs ys front : List Slot) (k : ℕ) (o : Option Slot) → xs ≡ front → slice_get ys k ≡ o → slice_get (xs ++ ys) (length front + k) ≡ o
got_behind xs ys front k o e h = ap (λ (xs : List Slot). slice_get (xs ++ ys) (length front + k)) e ∙ nested front
  where
    nested : (xs : List Slot) → slice_get (xs ++ ys) (length xs + k) ≡ o
    nested [] = let e : 0 + k ≡ k = omega arith in ap (slice_get ys) e ∙ h
    nested (x ∷ xs) = let e : suc (length xs) + k ≡ suc (length xs + k) = omega arith in ap (slice_get (x ∷ (xs ++ ys))) e ∙ nested xs

module _ (funs : Program) (todo : List Item) (c : Config) where
  pub close_back : (height : ℕ) (new : List d.Entry) → new ≡ lowest height c.scope → Back funs (Close height ∷ todo) c todo (record c { scope = new })
  close_back height new e = record {
    by = λ f labels m. record {
      holds = record { lines = m.holds.lines; bound = m.holds.bound; params = m.holds.params; locals = m.holds.locals };
      stand = subst (λ g. Stand funs (denoted c.result) f labels todo g (next_in c) (length c.lines) c.flows (whole_in c)) (ap (map entry) e ∙ kept_mapped entry height c.scope) m.stand;
    };
  }

  declare_more : (x : Name) (of : Ty) (y : d.Entry) (slot : Slot) → slot ≡ kind_of of → representation_of of ≢ Absent → entry y ≡ record { name = x; of = of; local = next_in c }
      → Back funs (Declared x of ∷ todo) c todo (record c { scope = y ∷ c.scope; locals = c.locals ++ slot ∷ []; lines = c.lines ++ line.Fixed (i.Numbered numbered.Store (next_in c)) ∷ [] })
  declare_more x of y slot kind present e = record {
    by = λ f labels m.
        let long = one_longer c.locals slot in
        record {
          holds = record {
            lines = λ at l h. m.holds.lines at l (got_before c.lines (line.Fixed (i.Numbered numbered.Store (next_in c)) ∷ []) at l h);
            bound = m.holds.bound;
            params = m.holds.params;
            locals = λ at k h. m.holds.locals at k (got_before c.locals (slot ∷ []) at k h);
          };
          stand = (
            (present, record { is = got_behind f.params f.locals c.params (length c.locals) (Some slot) m.holds.params (m.holds.locals (length c.locals) slot (seam c.locals slot [])) ∙ ap (λ k. Some k) kind }, one_at f labels c.lines (line.Fixed (i.Numbered numbered.Store (next_in c))) [] m.holds.lines),
            subst (λ p. Stand funs (denoted c.result) f labels todo (record { name = x; of = of; local = next_in c } ∷ scope_in c) (suc (next_in c)) p c.flows (whole_in c)) (one_longer c.lines (line.Fixed (i.Numbered numbered.Store (next_in c))))
                (subst (λ n. Stand funs (denoted c.result) f labels todo (record { name = x; of = of; local = next_in c } ∷ scope_in c) n (length (c.lines ++ line.Fixed (i.Numbered numbered.Store (next_in c)) ∷ [])) c.flows (whole_in c)) (omega (arith, long))
                (subst (λ (z : Entry). Stand funs (denoted c.result) f labels todo (z ∷ scope_in c) (length c.params + length (c.locals ++ slot ∷ [])) (length (c.lines ++ line.Fixed (i.Numbered numbered.Store (next_in c)) ∷ [])) c.flows (whole_in c)) e m.stand)),
          );
        };
  }

  pub declare_back : (x : Name) (of : Ty) (y : d.Entry) (slot : Slot) (n : ℕ) (scope : List d.Entry) (locals : List Slot) (lines : List Line) → n ≡ next_in c → slot ≡ kind_of of → representation_of of ≢ Absent → entry y ≡ record { name = x; of = of; local = n }
      → scope ≡ y ∷ c.scope → locals ≡ c.locals ++ slot ∷ [] → lines ≡ c.lines ++ line.Fixed (i.Numbered numbered.Store n) ∷ []
      → Back funs (Declared x of ∷ todo) c todo (record c { scope = scope; locals = locals; lines = lines })
  declare_back x of y slot n scope locals lines en kind present e es ek ei =
      let whole : entry y ≡ record { name = x; of = of; local = next_in c } = e ∙ ap (λ n. record { name = x; of = of; local = n }) en in
      let lined : lines ≡ c.lines ++ line.Fixed (i.Numbered numbered.Store (next_in c)) ∷ [] = ei ∙ ap (λ n. c.lines ++ line.Fixed (i.Numbered numbered.Store n) ∷ []) en in
      subst (λ scope. Back funs (Declared x of ∷ todo) c todo (record c { scope = scope; locals = locals; lines = lines })) (sym es)
      (subst (λ locals. Back funs (Declared x of ∷ todo) c todo (record c { scope = y ∷ c.scope; locals = locals; lines = lines })) (sym ek)
      (subst (λ lines. Back funs (Declared x of ∷ todo) c todo (record c { scope = y ∷ c.scope; locals = c.locals ++ slot ∷ []; lines = lines })) (sym lined)
      (declare_more x of y slot kind present whole)))

module _ (funs : Program) (todo : List Item) (c : Config) (exits : Option Exits) where
  pub row_go : (all : List TypedStatement) (at : ℕ) (s : TypedStatement) → slice_get all at ≡ Some s
      → Back funs (Run (stmts_of (drop at all)) exits ∷ todo) c (Run (before s (stmts_of (drop (at + 1) all))) exits ∷ todo) c
  row_go all at s e =
      subst (λ (ss : List TypedStatement). Back funs (Run (stmts_of ss) exits ∷ todo) c (Run (before s (stmts_of (drop (at + 1) all))) exits ∷ todo) c) (sym (drop_one at all s e)) (back_same funs (Run (before s (stmts_of (drop (at + 1) all))) exits ∷ todo) c)

  pub row_end : (all : List TypedStatement) (at : ℕ) (todo' : List Item) → slice_get all at ≡ None → Back funs (Run Finish exits ∷ todo) c todo' c → Back funs (Run (stmts_of (drop at all)) exits ∷ todo) c todo' c
  row_end all at todo' e b = subst (λ (ss : List TypedStatement). Back funs (Run (stmts_of ss) exits ∷ todo) c todo' c) (sym (drop_end at all e)) b

  pub variables_end : (all : List TypedVariable) (at : ℕ) (rest : Stmts) → slice_get all at ≡ None → Back funs (Run (declared (drop at all) rest) exits ∷ todo) c (Run rest exits ∷ todo) c
  variables_end all at rest e = subst (λ (xs : List TypedVariable). Back funs (Run (declared xs rest) exits ∷ todo) c (Run rest exits ∷ todo) c) (sym (drop_end at all e)) (back_same funs (Run rest exits ∷ todo) c)

  first_plan : (x : Name) (of : Ty) (m : Maybe) (rest : Stmts) (first : Item) → First of m first → Back funs (Run (Declare x of m rest) exits ∷ todo) c (first ∷ Declared x of ∷ Run rest exits ∷ todo) c
  first_plan x of Missing rest first e = subst (λ first. Back funs (Run (Declare x of Missing rest) exits ∷ todo) c (first ∷ Declared x of ∷ Run rest exits ∷ todo) c) (sym e) (default_plan funs todo c exits x of rest)
  first_plan x of (Given a) rest first e = subst (λ first. Back funs (Run (Declare x of (Given a) rest) exits ∷ todo) c (first ∷ Declared x of ∷ Run rest exits ∷ todo) c) (sym e.1) (given_plan funs todo c exits x of a rest e.0)

  pub variables_go : (all : List TypedVariable) (at : ℕ) (x : TypedVariable) (rest : Stmts) (first : Item) → slice_get all at ≡ Some x → IsFirst x first
      → Back funs (Run (declared (drop at all) rest) exits ∷ todo) c (first ∷ Declared x.name x.of ∷ Run (declared (drop (at + 1) all) rest) exits ∷ todo) c
  variables_go all at x rest first e h =
      subst (λ (xs : List TypedVariable). Back funs (Run (declared xs rest) exits ∷ todo) c (first ∷ Declared x.name x.of ∷ Run (declared (drop (at + 1) all) rest) exits ∷ todo) c) (sym (drop_one at all x e))
      (first_plan x.name x.of (maybe_of x.value) (declared (drop (at + 1) all) rest) first h)
