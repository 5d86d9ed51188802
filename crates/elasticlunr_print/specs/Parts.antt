-- What the parts of an index print.
use Rattle.std.specs.Prelude.{ℕ, List, codes, map, string_bytes}
use Rattle.serde_json.specs.Data.{Data, string, array, Members, no_members, member}
use Rattle.elasticlunr_commands.specs.Standing.{Plan}
use Rattle.elasticlunr_print.specs.Printed.{IsIndexValue, IsTextOf, texts}
use Rattle.elasticlunr_print.specs.declared.parts.Parts.{Parts}

-- how an index with these parts is built, as far as it is printed
abbrev pub plan_of_parts : Parts → Plan
plan_of_parts p = record {
  fields = map string_bytes p.fields.now;
  reference_field =
      p.ref_field.now;
  save = p.store.now.save;
  language = p.language.now;
  stages = map string_bytes
      p.stages.now;
}

-- the value of an index with these parts
abbrev pub IsPrinted : Parts → Data → Type 0
IsPrinted p value = IsIndexValue (plan_of_parts p) p.tries.now p.store.now value

-- the text of an index with these parts
abbrev pub IsPrintedText : (text_of : Data → List ℕ) → Parts → List ℕ → Type 0
IsPrintedText text_of p text = IsTextOf text_of (plan_of_parts p) p.tries.now p.store.now text

-- the last members of an index's value, which say how it was built
abbrev pub settings_members : Plan → Members
settings_members plan =
    member (codes "lang") (string plan.language)
    (member (codes "pipeline") (array (texts plan.stages))
    (member (codes "ref") (string plan.reference_field)
    (member (codes "version") (string (codes "0.9.5")) no_members)))
