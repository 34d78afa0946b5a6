-- Where all numbers of a line are whole ones of 64 bits with a sign, so are those of what is bound of it.
use Rattle.std.proofs.Common.{◌≡◌, ℕ, ◌&&◌, Bool, true, false, List, Option, Some, None, refl, sym, ◌∙◌, unwrap_or}
use Rattle.std.proofs.lemmas.Bool.{and_from, false≢true}
use Rattle.std.specs.Prelude.{codes}
use Rattle.std.specs.Cmp.Lexicographic.{slice_cmp}
use Rattle.std.specs.Ordering.{nat_cmp, match_ordering}
use Rattle.std.specs.declared.cmp.Ordering.{Ordering}
use Rattle.std.specs.declared.cmp.Ordering.TheVariants.{Less, Equal, Greater}
use Rattle.serde_json.specs.Data.{Data, null, boolean, number, string, array, object, Members, no_members, member, put}
use Rattle.serde_json.specs.Find.{get, get_member}
use Rattle.job_file.specs.Keys.{default_data}
use Rattle.job_file.specs.Mappings.{members_of}
use Rattle.job_file.specs.Values.{has_whole_numbers, members_have_whole_numbers}
use Rattle.write_ctx.specs.declared.keys.WriteKind.{WriteKind}
use Rattle.write_ctx.specs.declared.keys.WriteKind.TheVariants as kind
use Rattle.write_ctx.specs.declared.keys.LineKey.{LineKey}
use Rattle.write_ctx.specs.declared.keys.LineKey.TheVariants as key
use Rattle.write_ctx.specs.Keys.{id_default, name_of, row_of, value_at}
use Rattle.write_ctx.specs.Placing.{ingest_members}

abbrev Whole : Data → Type 0
Whole d = has_whole_numbers d ≡ true

abbrev AllWhole : Members → Type 0
AllWhole ms = members_have_whole_numbers ms ≡ true

each : (a b : Bool) → (a && b) ≡ true → (a ≡ true) × (b ≡ true)
each true b h = (refl, h)
each false b h = absurd (false≢true h)

-- ---- what stands at a name

picked : (o : Ordering) (rest : Option Data) (e d : Data) → match_ordering o rest (Some e) rest ≡ Some d → Whole e → (rest ≡ Some d → Whole d) → Whole d
picked Less rest e d g h k = k g
picked Equal rest e d g h k = cc
picked Greater rest e d g h k = k g

member_whole : (name : List ℕ) (ms : Members) (d : Data) → get_member name ms ≡ Some d → AllWhole ms → Whole d
member_whole name no_members d g h = absurd (cc)
member_whole name (member other e ms) d g h =
    let parts = each (has_whole_numbers e) (members_have_whole_numbers ms) h in
    picked (slice_cmp nat_cmp name other) (get_member name ms) e d g parts.0 (λ k. member_whole name ms d k parts.1)

found_whole : (name : List ℕ) (line d : Data) → get name line ≡ Some d → Whole line → Whole d
found_whole name null d g h = absurd (cc)
found_whole name (boolean b) d g h = absurd (cc)
found_whole name (number n) d g h = absurd (cc)
found_whole name (string s) d g h = absurd (cc)
found_whole name (array ds) d g h = absurd (cc)
found_whole name (object ms) d g h = member_whole name ms d g h

turned : (line d : Data) (b : Bool) → has_whole_numbers line ≡ b → (Whole line → Whole d) → has_whole_numbers d ≡ false → has_whole_numbers line ≡ false
turned line d true e k h = absurd (false≢true (sym h ∙ k e))
turned line d false e k h = e

-- where a value has another number, so has the line
pub not_found_whole : (name : List ℕ) (line d : Data) → Some d ≡ get name line → has_whole_numbers d ≡ false → has_whole_numbers line ≡ false
not_found_whole name line d g h = turned line d (has_whole_numbers line) refl (found_whole name line d (sym g)) h

-- ---- defaults

id_whole : (which : WriteKind) → Whole (default_data (id_default which))
id_whole kind.Update = refl
id_whole kind.Ingest = refl
id_whole kind.Test = refl

pub default_whole : (which : WriteKind) (key : LineKey) → Whole (default_data (row_of which key).default)
default_whole which key.Id = id_whole which
default_whole which key.Index = refl
default_whole which key.Now = refl
default_whole which key.Routing = refl
default_whole which key.Source = refl
default_whole which key.Version = refl

pub default_is_whole : (which : WriteKind) (key : LineKey) → has_whole_numbers (default_data (row_of which key).default) ≡ false → ⊥
default_is_whole which key h = false≢true (sym h ∙ default_whole which key)

or_default : (found : Option Data) (default : Data) → ((d : Data) → found ≡ Some d → Whole d) → Whole default → Whole (unwrap_or found default)
or_default None default h k = k
or_default (Some d) default h k = h d refl

value_whole : (which : WriteKind) (line : Data) (key : LineKey) → Whole line → Whole (value_at which line key)
value_whole which line key h =
    or_default (get (name_of key) line) (default_data (row_of which key).default) (λ d g. found_whole (name_of key) line d g h) (default_whole which key)

-- ---- ingest

put_at : (o : Ordering) (a b c : Members) → AllWhole a → AllWhole b → AllWhole c → AllWhole (match_ordering o a b c)
put_at Less a b c h k l = h
put_at Equal a b c h k l = k
put_at Greater a b c h k l = l

put_whole : (name : List ℕ) (d : Data) (ms : Members) → Whole d → AllWhole ms → AllWhole (put name d ms)
put_whole name d no_members h k = and_from _ _ h refl
put_whole name d (member other e ms) h k =
    let parts = each (has_whole_numbers e) (members_have_whole_numbers ms) k in
    put_at (slice_cmp nat_cmp name other) _ _ _ (and_from _ _ h k) (and_from _ _ h parts.1) (and_from _ _ parts.0 (put_whole name d ms h parts.1))

members_whole : (d : Data) → Whole d → AllWhole (members_of d)
members_whole null h = refl
members_whole (boolean b) h = refl
members_whole (number n) h = refl
members_whole (string s) h = refl
members_whole (array ds) h = refl
members_whole (object ms) h = h

ingest_whole : (line : Data) → Whole line → AllWhole (ingest_members line)
ingest_whole line h =
    put_whole (codes "_id") (value_at kind.Ingest line key.Id) (put (codes "_index") (value_at kind.Ingest line key.Index) (members_of (value_at kind.Ingest line key.Source)))
    (value_whole kind.Ingest line key.Id h)
    (put_whole (codes "_index") (value_at kind.Ingest line key.Index) (members_of (value_at kind.Ingest line key.Source)) (value_whole kind.Ingest line key.Index h) (members_whole (value_at kind.Ingest line key.Source) (value_whole kind.Ingest line key.Source h)))

pub not_ingest_whole : (line : Data) → has_whole_numbers (object (ingest_members line)) ≡ false → has_whole_numbers line ≡ false
not_ingest_whole line h = turned line (object (ingest_members line)) (has_whole_numbers line) refl (ingest_whole line) h
