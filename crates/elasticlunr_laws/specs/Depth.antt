-- How deep nests what is printed.
use Rattle.std.specs.Prelude.{◌<◌, List}
use Rattle.elasticlunr.specs.AnyLanguage.{AnyLanguage}
use Rattle.elasticlunr.specs.Calls.{Call}
use Rattle.elasticlunr.specs.Current.{IsReadableAfter}
use Rattle.elasticlunr.specs.Kept.{KeptReads}
use Rattle.elasticlunr.specs.Standing.{Plan}
use Rattle.elasticlunr.specs.Text.{Bytes}
use Rattle.elasticlunr.specs.Data.{depth}
use Rattle.elasticlunr.specs.Read.{max_depth}

-- what an index of this language and this plan prints after these calls nests deeper than
-- `serde_json` reads
abbrev pub NestsTooDeep : AnyLanguage → Plan → List Call → Type 0
NestsTooDeep language plan calls = (text : Bytes)
    × (printed : IsReadableAfter (KeptReads language) plan calls text)
    × (max_depth < depth printed.print.value)
