-- Which words of a document are indexed, and whether they are stemmed.
use Rattle.std.specs.Prelude.{ℕ, Bool, List, Option, None, Some, false, map, option_map}
use Rattle.elasticlunr_error.specs.Text.{Bytes}
use Rattle.elasticlunr_job_format.specs.declared.rules.WordRules as declared

-- the fields that are stored, and of which no word is indexed; how many characters a word may have;
-- and whether words are stemmed, in a language whose stemmer has a table
pub record WordRules : Type 0 where
  pub stored : List Bytes
  pub longest : Option ℕ
  pub stems : Bool

abbrev pub rules_told : declared.WordRules → WordRules
rules_told rules = record {
  stored = map (λ name. name.now) rules.stored.items;
  longest = rules.longest;
  stems = rules.stems;
}

-- without rules no word is stemmed so
abbrev pub stems_by : Option WordRules → Bool
stems_by None = false
stems_by (Some rules) = rules.stems

-- those of `src/`, if there are any
abbrev pub given_rules : Option declared.WordRules → Option WordRules
given_rules rules = option_map rules_told rules
