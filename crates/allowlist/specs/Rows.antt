-- What a row of the table says.
use Rattle.std.specs.Prelude.{ℕ, map}
use Rattle.pl_types.specs.declared.ty.Ty.{Ty}
use Rattle.pl_types.specs.declared.ty.Ty.TheVariants as ty
use Rattle.allowlist.specs.declared.member.MemberType.{MemberType}
use Rattle.allowlist.specs.declared.member.MemberKind.{MemberKind}
use Rattle.allowlist.specs.declared.member.MemberKind.TheVariants as kind
use Rattle.allowlist.specs.declared.member.Origin.{Origin}
use Rattle.allowlist.specs.declared.member.Origin.TheVariants as origin
use Rattle.allowlist.specs.declared.table.Element.{Element}
use Rattle.allowlist.specs.declared.table.Element.TheVariants as element
use Rattle.allowlist.specs.declared.table.TypeRow.{TypeRow}
use Rattle.allowlist.specs.declared.table.TypeRow.TheVariants as types
use Rattle.allowlist.specs.declared.table.How.{How}
use Rattle.allowlist.specs.declared.table.How.TheVariants as how
use Rattle.allowlist.specs.declared.table.Row.{Row}

abbrev pub seen_element : Element → Ty
seen_element element.Def = ty.Def
seen_element (element.Prim p) = ty.Prim p
seen_element (element.Class c) = ty.Class c

-- a type in the row of a class
abbrev pub seen_type : ℕ → TypeRow → Ty
seen_type owner types.Void = ty.Void
seen_type owner (types.One e) = seen_element e
seen_type owner (types.Array e) = ty.Array (seen_element e)
seen_type owner types.Owner = ty.Class owner

abbrev pub seen_kind : How → MemberKind
seen_kind how.Makes = kind.Constructor
seen_kind how.Field = kind.Field
seen_kind how.Static = kind.Static
seen_kind how.Instance = kind.Instance
seen_kind how.Added = kind.Instance
seen_kind how.Prelude = kind.Instance
seen_kind how.StaticPrelude = kind.Static
seen_kind how.AddedPrelude = kind.Instance

abbrev pub seen_origin : How → Origin
seen_origin how.Makes = origin.Java
seen_origin how.Field = origin.Java
seen_origin how.Static = origin.Java
seen_origin how.Instance = origin.Java
seen_origin how.Added = origin.Augmented
seen_origin how.Prelude = origin.Prelude
seen_origin how.StaticPrelude = origin.Prelude
seen_origin how.AddedPrelude = origin.AugmentedPrelude

abbrev pub seen_row : Row → MemberType
seen_row r = record { owner = r.0; kind = seen_kind r.1; origin = seen_origin r.1; result = seen_type r.0 r.2; name = r.3.now; params = map (seen_type r.0) r.4.now }
