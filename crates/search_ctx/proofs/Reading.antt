-- What is read as JSON has the names of each object in rising order, so the fields of a mapping that is read have names of their own.
use Rattle.std.proofs.Common.{◌≡◌, ◌∙◌, ℕ, Bool, true, false, List, Option, Some, None, Result, Ok, Err, option_map, option_and_then, is_some, unwrap_or, Ordering, Less, Equal, Greater, nat_cmp, is_eq, bytes_eq, refl, sym, ap, subst}
use Rattle.std.specs.Cmp.Lexicographic.{slice_cmp}
use Rattle.std.specs.List.{AllByRecursion}
use Rattle.std.specs.Ordering.{match_ordering, ordering_reverse}
use Rattle.std.specs.Prelude.{if◌then◌else◌}
use Rattle.std.proofs.lemmas.Cmp.{nat_list_cmp_total}
use Rattle.std.proofs.lemmas.Map.Text.{is_eq-slice_cmp}
use Rattle.json.specs.Lex.{tokens}
use Rattle.json.specs.Json as json
use Rattle.serde_json.specs.Data.{Data, null, boolean, number, string, array, object, Items, no_items, item, Members, no_members, member, put}
use Rattle.serde_json.specs.Find.{as_object, get, get_member}
use Rattle.serde_json.specs.Read.{max_depth, number_of, of_json, of_items, of_members, read}
use Rattle.job_file.specs.declared.context.JobCommand.{JobCommand}
use Rattle.job_file.specs.declared.context.JobContext.{JobContext}
use Rattle.job_file.specs.declared.keys.Key.TheVariants as k
use Rattle.job_file.specs.declared.mapping.FieldKind.{FieldKind}
use Rattle.job_file.specs.Contexts.{context_of}
use Rattle.job_file.specs.Jobs.{Fault, JobData, fault_of, job_in, job_in_context, job_of, job_of_read, object_of, or_fault}
use Rattle.job_file.specs.Keys.{default_data, row_of, value_at}
use Rattle.job_file.specs.Mappings.{add_field, fields_of, kind_of, members_of}
use Rattle.search_ctx.specs.Fields.{HasDistinctNames}
use Rattle.search_ctx.specs.Laws.{ReadFieldsAreDistinct, JobFieldsAreDistinct}

-- ---- names that rise

abbrev Below : List ℕ → List ℕ → Type 0
Below name other = slice_cmp nat_cmp name other ≡ Less

-- a name is below those of these members
abbrev BelowAll : List ℕ → Members → Type 0
BelowAll name no_members = Unit {0}
BelowAll name (member other d ms) = Below name other × BelowAll name ms

-- in each object of a value the names rise
abbrev mutual
  Rises : Data → Type 0
  Rises null = Unit {0}
  Rises (boolean b) = Unit {0}
  Rises (number n) = Unit {0}
  Rises (string s) = Unit {0}
  Rises (array ds) = ItemsRise ds
  Rises (object ms) = MembersRise ms

  ItemsRise : Items → Type 0
  ItemsRise no_items = Unit {0}
  ItemsRise (item d ds) = Rises d × ItemsRise ds

  MembersRise : Members → Type 0
  MembersRise no_members = Unit {0}
  MembersRise (member name d ms) = BelowAll name ms × Rises d × MembersRise ms

below_further : (name other : List ℕ) (ms : Members) → Below name other → BelowAll other ms → BelowAll name ms
below_further name other no_members h b = tt
below_further name other (member next d ms) h b = (nat_list_cmp_total.trans name other next h b.0, below_further name other ms h b.1)

below_picked : (o : Ordering) (name : List ℕ) (a b c : Members) → BelowAll name a → BelowAll name b → BelowAll name c → BelowAll name (match_ordering o a b c)
below_picked Less name a b c p q r = p
below_picked Equal name a b c p q r = q
below_picked Greater name a b c p q r = r

below_put : (name other : List ℕ) (d : Data) (ms : Members) → Below name other → BelowAll name ms → BelowAll name (put other d ms)
below_put name other d no_members h b = (h, tt)
below_put name other d (member next e ms) h b =
    below_picked _ name (member other d (member next e ms)) (member next d ms) (member next e (put other d ms)) (h, b) b (b.0, below_put name other d ms h b.1)

above : (name other : List ℕ) → slice_cmp nat_cmp name other ≡ Greater → Below other name
above name other h = nat_list_cmp_total.antisymm other name ∙ ap ordering_reverse h

put_at : (o : Ordering) (name other : List ℕ) (d e : Data) (ms : Members) → slice_cmp nat_cmp name other ≡ o → Rises d → MembersRise (member other e ms) → MembersRise (put name d ms)
    → MembersRise (match_ordering o (member name d (member other e ms)) (member other d ms) (member other e (put name d ms)))
put_at Less name other d e ms is r h later = ((is, below_further name other ms is h.0), r, h)
put_at Equal name other d e ms is r h later = (h.0, r, h.2)
put_at Greater name other d e ms is r h later = (below_put other name d ms (above name other is) h.0, h.1, later)

rises_put : (name : List ℕ) (d : Data) (ms : Members) → Rises d → MembersRise ms → MembersRise (put name d ms)
rises_put name d no_members r h = (tt, r, tt)
rises_put name d (member other e ms) r h = put_at _ name other d e ms refl r h (rises_put name d ms r h.2)

-- ---- what is read

abbrev If : {A : Type 0} → (A → Type 0) → Option A → Type 0
If P None = Unit {0}
If P (Some a) = P a

if_mapped : {A B : Type 0} (P : A → Type 0) (Q : B → Type 0) (f : A → B) → ((a : A) → P a → Q (f a)) → (o : Option A) → If P o → If Q (option_map f o)
if_mapped P Q f h None p = tt
if_mapped P Q f h (Some a) p = h a p

if_then : {A B : Type 0} (P : A → Type 0) (Q : B → Type 0) (f : A → Option B) → ((a : A) → P a → If Q (f a)) → (o : Option A) → If P o → If Q (option_and_then f o)
if_then P Q f h None p = tt
if_then P Q f h (Some a) p = h a p

abbrev Any : {A : Type 0} → A → Type 0
Any a = Unit {0}

any : {A : Type 0} (o : Option A) → If Any o
any None = tt
any (Some a) = tt

mutual
  json_rises : (j : json.Json) → If Rises (of_json j)
  json_rises json.null = tt
  json_rises (json.boolean b) = tt
  json_rises (json.number s) = if_mapped Any Rises number (λ n p. tt) (number_of s) (any (number_of s))
  json_rises (json.string s) = tt
  json_rises (json.array js) = if_mapped ItemsRise Rises array (λ ds p. p) (of_items js) (items_rise js)
  json_rises (json.object ms) = if_mapped MembersRise Rises object (λ ds p. p) (of_members ms no_members) (members_rise ms no_members tt)

  items_rise : (js : json.Items) → If ItemsRise (of_items js)
  items_rise json.no_items = tt
  items_rise (json.item j js) =
      if_then Rises ItemsRise _ (λ d p. if_mapped ItemsRise ItemsRise (item d) (λ ds q. (p, q)) (of_items js) (items_rise js)) (of_json j) (json_rises j)

  members_rise : (ms : json.Members) (found : Members) → MembersRise found → If MembersRise (of_members ms found)
  members_rise json.no_members found h = h
  members_rise (json.member name j ms) found h =
      if_then Rises MembersRise _ (λ d p. members_rise ms (put name d found) (rises_put name d found p h)) (of_json j) (json_rises j)

last_rises : (o : Option json.Json) → If Rises (option_and_then of_json o)
last_rises None = tt
last_rises (Some j) = json_rises j

read_rises : (text : List ℕ) (d : Data) → read text ≡ Some d → Rises d
read_rises text d e = subst (If Rises) e (last_rises (option_and_then (λ p. json.if_last p.0 p.1) (json.value max_depth (tokens text))))

-- ---- what stands in it

found_picked : (o : Ordering) (a b c : Option Data) → If Rises a → If Rises b → If Rises c → If Rises (match_ordering o a b c)
found_picked Less a b c p q r = p
found_picked Equal a b c p q r = q
found_picked Greater a b c p q r = r

found_rises : (name : List ℕ) (ms : Members) → MembersRise ms → If Rises (get_member name ms)
found_rises name no_members h = tt
found_rises name (member other d ms) h =
    found_picked (slice_cmp nat_cmp name other) (get_member name ms) (Some d) (get_member name ms) (found_rises name ms h.2) h.1 (found_rises name ms h.2)

got_rises : (name : List ℕ) (d : Data) → Rises d → If Rises (get name d)
got_rises name null h = tt
got_rises name (boolean b) h = tt
got_rises name (number n) h = tt
got_rises name (string s) h = tt
got_rises name (array ds) h = tt
got_rises name (object ms) h = found_rises name ms h

or_rises : (o : Option Data) (d : Data) → If Rises o → Rises d → Rises (unwrap_or o d)
or_rises None d h r = r
or_rises (Some e) d h r = h

mapping_rises : (file : Data) → Rises file → Rises (value_at k.Mapping file)
mapping_rises file h = or_rises (get (row_of k.Mapping).name file) (default_data (row_of k.Mapping).default) (got_rises (row_of k.Mapping).name file h) tt

-- ---- fields

differs : (name other : List ℕ) → Below name other → bytes_eq other name ≡ false
differs name other h = sym (is_eq-slice_cmp other name) ∙ ap is_eq (nat_list_cmp_total.antisymm other name ∙ ap ordering_reverse h)

abbrev Apart : List ℕ → List (List ℕ × FieldKind) → Type 0
Apart name fields = AllByRecursion (λ (field : List ℕ × FieldKind). bytes_eq field.0 name ≡ false) fields

apart_added : (name other : List ℕ) (kind : Option FieldKind) (rest : List (List ℕ × FieldKind)) → bytes_eq other name ≡ false → Apart name rest → Apart name (add_field other kind rest)
apart_added name other None rest e h = h
apart_added name other (Some kind) rest e h = (e, h)

apart_fields : (name : List ℕ) (ms : Members) → BelowAll name ms → Apart name (fields_of ms)
apart_fields name no_members h = tt
apart_fields name (member other d ms) h = apart_added name other (kind_of d) (fields_of ms) (differs name other h.0) (apart_fields name ms h.1)

distinct_added : (name : List ℕ) (kind : Option FieldKind) (rest : List (List ℕ × FieldKind)) → Apart name rest → HasDistinctNames rest → HasDistinctNames (add_field name kind rest)
distinct_added name None rest a h = h
distinct_added name (Some kind) rest a h = (a, h)

distinct_fields : (ms : Members) → MembersRise ms → HasDistinctNames (fields_of ms)
distinct_fields no_members h = tt
distinct_fields (member name d ms) h = distinct_added name (kind_of d) (fields_of ms) (apart_fields name ms h.0) (distinct_fields ms h.2)

distinct_of : (d : Data) → Rises d → HasDistinctNames (fields_of (members_of d))
distinct_of null h = tt
distinct_of (boolean b) h = tt
distinct_of (number n) h = tt
distinct_of (string s) h = tt
distinct_of (array ds) h = tt
distinct_of (object ms) h = distinct_fields ms h

pub read_distinct : ReadFieldsAreDistinct
read_distinct text d e = distinct_of d (read_rises text d e)

-- ---- jobs

abbrev JobDistinct : Result JobData Fault → Type 0
JobDistinct (Ok job) = HasDistinctNames job.mapping
JobDistinct (Err fault) = Unit {0}

or_distinct : (job : JobData) (fault : Option Fault) → HasDistinctNames job.mapping → JobDistinct (or_fault job fault)
or_distinct job None h = h
or_distinct job (Some fault) h = tt

in_distinct : (context : Option JobContext) (file : Data) → Rises file → JobDistinct (job_in_context context file)
unfolding job_in job_of
in_distinct None file h = tt
in_distinct (Some context) file h = or_distinct (job_of context file) (fault_of context file) (distinct_of (value_at k.Mapping file) (mapping_rises file h))

object_distinct : (command : JobCommand) (b : Bool) (d : Data) → Rises d → JobDistinct (job_of_read command (if b then Ok d else Err Fault.syntax))
object_distinct command true d h = in_distinct (context_of command d) d h
object_distinct command false d h = tt

read_job_distinct : (command : JobCommand) (text : List ℕ) (o : Option Data) → read text ≡ o → JobDistinct (job_of_read command (object_of o))
read_job_distinct command text None e = tt
read_job_distinct command text (Some d) e = object_distinct command (is_some (as_object d)) d (read_rises text d e)

pub job_distinct : JobFieldsAreDistinct
job_distinct command text job e = subst JobDistinct e (read_job_distinct command text (read text) refl)
