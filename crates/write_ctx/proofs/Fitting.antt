-- What a line is bound to fits every program and code.
use Rattle.std.proofs.Common.{◌≡◌, ℕ, ◌≤◌, ◌&&◌, Bool, true, false, List, [], ◌∷◌, ◌++◌, length, Ok, Err, refl, ap, subst, arith, length-append, if◌then◌else◌}
use Rattle.pl_types.specs.declared.classes.TheConstants.{HASH_MAP}
use Rattle.serde_json.specs.Data.{Data, object}
use Rattle.object_values.specs.declared.value.Value.{Value}
use Rattle.object_values.specs.declared.value.Value.TheVariants as v
use Rattle.object_values.specs.declared.object.Object.{Object}
use Rattle.object_values.specs.declared.object.Object.TheVariants as o
use Rattle.object_values.specs.declared.object.Guard.{Guard}
use Rattle.object_values.specs.declared.object.Guard.TheVariants as g
use Rattle.object_heap.specs.Objects.{Kind, kind_of}
use Rattle.object_heap.specs.Fits.{Rules, ValueFits, ObjectsFit, Fits, kinds}
use Rattle.job_file.specs.Values.{has_whole_numbers}
use Rattle.json_bridge.specs.Binding.{Bound, bound, bound_members}
use Rattle.json_bridge.specs.Laws.{BindFits}
use Rattle.json_bridge.specs.Starts.{number_outside, field}
use Rattle.write_ctx.specs.declared.keys.WriteKind.{WriteKind}
use Rattle.write_ctx.specs.declared.keys.WriteKind.TheVariants as kind
use Rattle.write_ctx.specs.Keys.{is_line, keys_of}
use Rattle.write_ctx.specs.Laws.{LinesFit, StartFits}
use Rattle.write_ctx.specs.Lines.{started}
use Rattle.write_ctx.specs.Placing.{ctx_placed, ingest_members, no_pairs, put_keys, update_at}
use Rattle.write_ctx.proofs.Beginning.{Begins, begins_then, bound_begins, longer, members_begin, one_more}

value_more : (n m : ℕ) → n ≤ m → (value : Value) → ValueFits n value → ValueFits m value
value_more n m h (v.Ref id) f = omega arith
value_more n m h value f = tt

-- ---- what guards a map does not matter

module _ (class : ℕ) (pairs : List (Value × Value)) (guard other : Guard) where
  kinds_same : (objects : List Object) → kinds (objects ++ o.Map class pairs guard 0 ∷ []) ≡ kinds (objects ++ o.Map class pairs other 0 ∷ [])
  kinds_same [] = refl
  kinds_same (x ∷ objects) = ap (λ (ks : List Kind). kind_of x ∷ ks) (kinds_same objects)

  each_same : (rules : Rules) (ks : List Kind) (objects : List Object) → ObjectsFit rules ks (objects ++ o.Map class pairs guard 0 ∷ [])
      → ObjectsFit rules ks (objects ++ o.Map class pairs other 0 ∷ [])
  each_same rules ks [] f = f
  each_same rules ks (x ∷ objects) f = (f.0, each_same rules ks objects f.1)

  guarded_fits : (rules : Rules) (objects : List Object) → Fits rules (objects ++ o.Map class pairs guard 0 ∷ []) → Fits rules (objects ++ o.Map class pairs other 0 ∷ [])
  guarded_fits rules objects f = record {
    each = subst (λ ks. ObjectsFit rules ks (objects ++ o.Map class pairs other 0 ∷ [])) (kinds_same objects) (each_same rules _ objects f.each);
  }

-- ---- ctx

-- a value and its store fit, and the objects that were there come first
record KeepsCtx (rules : Rules) (before : List Object) (after : Bound) : Type 0 where
  pub fits : Fits rules after.objects
  pub value : ValueFits (length after.objects) after.value
  pub begins : Begins before after.objects

update_fits : BindFits → (rules : Rules) (objects : List Object) (line : Data) → Fits rules objects → KeepsCtx rules objects (ctx_placed kind.Update objects line)
update_fits bind rules objects line f =
    let ms = update_at line (keys_of kind.Update) in
    let members = bound_members false (no_pairs objects) ms in
    let next = o.Map HASH_MAP members.pairs (g.Keys put_keys) 0 in
    record {
      fits = guarded_fits HASH_MAP members.pairs g.Open (g.Keys put_keys) rules members.objects (bind rules false objects (object ms) f).0;
      value = omega (arith, length-append members.objects (next ∷ []));
      begins = begins_then objects members.objects _ (members_begin false (no_pairs objects) ms) (one_more members.objects next);
    }

ingest_fits : BindFits → (rules : Rules) (objects : List Object) (line : Data) → Fits rules objects → KeepsCtx rules objects (ctx_placed kind.Ingest objects line)
ingest_fits bind rules objects line f =
    let given = bind rules false objects (object (ingest_members line)) f in
    record { fits = given.0; value = given.1; begins = bound_begins false objects (object (ingest_members line)) }

test_fits : BindFits → (rules : Rules) (objects : List Object) (line : Data) → Fits rules objects → KeepsCtx rules objects (ctx_placed kind.Test objects line)
test_fits bind rules objects line f =
    let given = bind rules true objects (object (ingest_members line)) f in
    record { fits = given.0; value = given.1; begins = bound_begins true objects (object (ingest_members line)) }

ctx_fits : BindFits → (rules : Rules) (which : WriteKind) (objects : List Object) (line : Data) → Fits rules objects → KeepsCtx rules objects (ctx_placed which objects line)
ctx_fits bind rules kind.Update objects line f = update_fits bind rules objects line f
ctx_fits bind rules kind.Ingest objects line f = ingest_fits bind rules objects line f
ctx_fits bind rules kind.Test objects line f = test_fits bind rules objects line f

-- ---- lines

started_fits : BindFits → (rules : Rules) (which : WriteKind) (params : Data) (room : ℕ) (line : Data) → StartFits rules (Ok (started which params room line))
started_fits bind rules which params room line =
    let first = bound true [] params in
    let given = bind rules true [] params (record { each = tt }) in
    let kept = ctx_fits bind rules which first.objects line given.0 in
    (kept.fits, (value_more _ _ (longer first.objects _ kept.begins) first.value given.1, (kept.value, tt)))

pub bound_lines_fit : BindFits → LinesFit
bound_lines_fit bind rules which params room line = by_case (has_whole_numbers line && has_whole_numbers params) (is_line which line) where
  by_case : (whole right : Bool) → StartFits rules (if whole then (if right then Ok (started which params room line) else Err field) else Err number_outside)
  by_case true true = started_fits bind rules which params room line
  by_case true false = tt
  by_case false right = tt
