-- What the readers of a line give, without where it lies in memory.
use Rattle.std.specs.Prelude.{ℕ, List, map}
use Rattle.std.specs.Borrow.{Bor}
use Rattle.allowlist.specs.declared.scan.TypeText.{TypeText}
use Rattle.allowlist.specs.declared.form.Form.{Form}
use Rattle.allowlist.specs.declared.form.Form.TheVariants as form
use Rattle.std.specs.Global.{Vec}
use Rattle.allowlist.specs.Lines as lines

abbrev pub seen_pair : Bor (List ℕ) × Bor (List ℕ) → List ℕ × List ℕ
seen_pair p = (p.0.now, p.1.now)

abbrev pub seen_counted : ℕ × Bor (List ℕ) → ℕ × List ℕ
seen_counted p = (p.0, p.1.now)

abbrev pub seen_text : TypeText → lines.TypeText
seen_text t = record { word = t.word.now; depth = t.depth }

abbrev pub seen_typed : TypeText × Bor (List ℕ) → lines.TypeText × List ℕ
seen_typed p = (seen_text p.0, p.1.now)

abbrev pub seen_list : Vec TypeText × Bor (List ℕ) → List lines.TypeText × List ℕ
seen_list p = (map seen_text p.0.items, p.1.now)

abbrev pub seen_form : Form → lines.Form
seen_form form.Blank = lines.Blank
seen_form (form.Opens name) = lines.Opens name.now
seen_form form.Imports = lines.Imports
seen_form form.Closes = lines.Closes
seen_form (form.Makes params) = lines.Makes (map seen_text params.items)
seen_form (form.Calls gives augmented name params) = lines.Calls (seen_text gives) augmented name.now (map seen_text params.items)
seen_form (form.Has gives name) = lines.Has (seen_text gives) name.now
