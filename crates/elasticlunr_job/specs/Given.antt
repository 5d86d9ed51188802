-- The values of a document as an index is given them, with the words that are kept of them.
use Rattle.std.specs.Prelude.{◌≡◌, ℕ, List, [], map, Option, None, Some, slice_get, IfSome}
use Rattle.std.specs.Prelude.{Bool, ◌&&◌, ◌==◌, is_none, length, if◌then◌else◌}
use Rattle.std.specs.List.{zip}
use Rattle.elasticlunr_text.specs.Text.{Text, Bytes, word_texts}
use Rattle.elasticlunr.specs.GivenTokens.{value_texts}
use Rattle.elasticlunr.specs.declared.values.FieldValue.{FieldValue}
use Rattle.elasticlunr.specs.declared.values.TokenSource.{TokenSource}
use Rattle.elasticlunr.specs.declared.values.TokenSource.TheVariants.{AsGiven, FromText}
use Rattle.elasticlunr.specs.declared.values.TokenSource.TheVariants.{IntoPipeline}
use Rattle.elasticlunr_job.specs.Commands.{kept_words}
use Rattle.elasticlunr_job_format.specs.Rules.{WordRules}

-- the words that rules keep of each value
abbrev pub chosen_lists : WordRules → (fields values : List Bytes) → List (List Text)
chosen_lists rules fields values = map (λ both. kept_words rules both.0 both.1) (zip fields values)

-- rules keep all words where no field is only stored, and words may have any length
abbrev pub keeps_all : WordRules → Bool
keeps_all rules = is_none rules.longest && (length rules.stored == 0)

-- the words that rules keep of each value; no list of words at all without rules, nor where they
-- keep all
abbrev pub kept_lists : Option WordRules → (fields values : List Bytes) → List (List Text)
kept_lists None fields values = []
kept_lists (Some rules) fields values = if keeps_all rules then [] else
    chosen_lists rules fields values

-- these words go through the pipeline, and where there are none, the words of the text
abbrev pub IsSourceOf : Option (List Text) → TokenSource → Type 0
IsSourceOf None FromText = Unit {0}
IsSourceOf None (IntoPipeline given) = ⊥
IsSourceOf None (AsGiven given) = ⊥
IsSourceOf (Some words) FromText = ⊥
IsSourceOf (Some words) (IntoPipeline given) = word_texts given.now ≡ words
IsSourceOf (Some words) (AsGiven given) = ⊥

-- the values have these texts, and these words where there are some
pub record AreGiven (texts : List Bytes) (words : List (List Text)) (values : List FieldValue)
    : Type 0 where
  pub texts_are : value_texts values ≡ texts
  pub sources : (i : ℕ) → IfSome (slice_get values i)
      (λ value. IsSourceOf (slice_get words i) value.tokens)
