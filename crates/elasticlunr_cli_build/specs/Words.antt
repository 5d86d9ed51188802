-- What the words of the command line say.
use Rattle.std.specs.Prelude.{◌≡◌, ◌==◌, ℕ, List, [], Bool, true, false, Option, Some, None, codes}
use Rattle.std.specs.Prelude.{option_map, unwrap_or}
use Rattle.std.specs.List.{slice_split}
use Rattle.clap.specs.Words.{found_of, first_value, one_text}
use Rattle.clap.specs.declared.parser.matches.ArgMatches.{ArgMatches}
use Rattle.elasticlunr_text.specs.Text.{Bytes}
use Rattle.elasticlunr_input.specs.Settled.{Settings}
use Rattle.elasticlunr_job_format.specs.Rules.{WordRules}

-- the names in a text with commas between them
abbrev pub names_in : Bytes → List Bytes
names_in text = slice_split (λ b. b == 44) text

-- whether a flag was given: clap keeps that as a text
pub record IsFlag (words : ArgMatches) (id : Bytes) (given : Bool) : Type 0 where
  pub absent : one_text (found_of words) id ≡ None → given ≡ false
  pub yes : one_text (found_of words) id ≡ Some (codes "true") → given ≡ true
  pub no : one_text (found_of words) id ≡ Some (codes "false") → given ≡ false

-- the rules of the members that are only stored, of the characters that a word may have, and of
-- stems, where one of them is given
abbrev pub rules_in : Option (List Bytes) → Option ℕ → Bool → Option WordRules
rules_in None None false = None
rules_in stored longest stems = Some (record {
  stored = unwrap_or stored [];
  longest = longest;
  stems = stems;
})

-- these are the settings that the words give, in this language, and with this number of characters
pub record AreSettings (words : ArgMatches) (language : Option Bytes) (longest : Option ℕ)
    (settings : Settings) : Type 0 where
  pub reference : settings.reference ≡ first_value (found_of words) (codes "ref")
  pub fields : settings.fields ≡ option_map names_in (first_value (found_of words) (codes "fields"))
  pub in_language : settings.language ≡ language
  pub drops_texts : IsFlag words (codes "no-save") settings.drops_texts
  pub pretty : IsFlag words (codes "pretty") settings.pretty
  pub stems : Bool
  pub stems_given : IsFlag words (codes "stems") stems
  pub rules : settings.rules
      ≡ rules_in (option_map names_in (first_value (found_of words) (codes "store"))) longest stems
  pub indexes_reference : IsFlag words (codes "index-ref") settings.indexes_reference
