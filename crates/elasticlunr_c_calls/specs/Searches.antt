-- What a search in the flat form finds in the text of an index.
use Rattle.std.specs.Prelude.{◌≡◌, ◌⊎◌, ◌++◌, ℕ, map, Option, Some, None, IsUtf8, codes}
use Rattle.std.specs.Prelude.{Bool, false, true, if◌then◌else◌, nat_eq}
use Rattle.elasticlunr.specs.Fields.{borrowed}
use Rattle.elasticlunr.specs.Text.{Bytes}
use Rattle.elasticlunr_flat.specs.Flat as flat
use Rattle.elasticlunr_hits.specs.InText.{AreLinesOf, IsNotFoundIn}
use Rattle.elasticlunr_hits.specs.declared.asked.Asked.{Asked}
use Rattle.elasticlunr_hits.specs.declared.asked.Needed.{Needed}
use Rattle.elasticlunr_hits.specs.declared.asked.Needed.TheVariants.{One, EachInOneField, Each}
use Rattle.elasticlunr_hits.specs.declared.lines.LineForm.TheVariants.{Json}
use Rattle.elasticlunr_job.specs.Answer.{line}
use Rattle.elasticlunr_search.specs.Unanswered.{refusal_text}
use Rattle.elasticlunr_search.specs.declared.answer.Refusal.{Refusal}
use Rattle.elasticlunr_search.specs.declared.answer.Refusal.TheVariants.{Memory, NotRead}
use Rattle.elasticlunr_c_calls.specs.declared.search.SearchOutcome.{SearchOutcome}
use Rattle.elasticlunr_c_calls.specs.declared.search.SearchOutcome.TheVariants.{Found, Refused}

abbrev pub needed_asked : Needed → flat.Needed
needed_asked One = flat.one
needed_asked EachInOneField = flat.each_in_one_field
needed_asked Each = flat.each

-- 0 is no limit
abbrev pub limit_of : ℕ → Option ℕ
limit_of n = if nat_eq n 0 then None else Some n

-- this is asked for by the search
pub record IsAskedBy (search : flat.Search) (asked : Asked) : Type 0 where
  pub query : asked.query.now ≡ search.query
  pub needed : needed_asked asked.needed ≡ search.needed
  pub expand : asked.expand ≡ search.expand
  pub fields : borrowed asked.fields.items ≡ search.fields
  pub boosts : map (λ boost. (boost.0.now, boost.1)) asked.boosts.items ≡ search.boosts
  pub limit : asked.limit ≡ limit_of search.limit

-- the bytes are the flat form of this search
pub record IsFormOfSearch (bytes : Bytes) (search : flat.Search) : Type 0 where
  pub fits : flat.IsSearch search
  pub are : bytes ≡ flat.flat_search search

-- the bytes are those of no search
abbrev pub IsNoSearch : Bytes → Type 0
IsNoSearch bytes = (search : flat.Search) → ¬ IsFormOfSearch bytes search

-- the bytes are those of a search, and this is what it asks for
abbrev pub Asks : Bytes → Asked → Type 0
Asks bytes asked = (search : flat.Search) × IsFormOfSearch bytes search × IsAskedBy search asked

-- the text is that of an index, and these are the lines of the hits in it
abbrev pub AreFoundIn : (index : Bytes) → Asked → (lines : Bytes) → Type 0
AreFoundIn index asked lines = AreLinesOf index asked Json lines

-- why nothing is searched
abbrev pub IsNotSearched : (index : Bytes) → Asked → Refusal → Type 0
IsNotSearched index asked NotRead = (¬ IsUtf8 index) ⊎ IsNotFoundIn index asked NotRead
IsNotSearched index asked refusal = IsNotFoundIn index asked refusal

abbrev pub is_memory : Refusal → Bool
is_memory Memory = true
is_memory refusal = false

abbrev pub refused_line : Refusal → Bytes
refused_line refusal = line (codes "refused: " ++ refusal_text refusal)

-- a search in the flat form has this outcome in the text of an index, and this answers it
abbrev pub IsSearched : (index search : Bytes) → SearchOutcome → (text : Bytes) → Type 0
IsSearched index search Found text = (asked : Asked) × Asks search asked
    × AreFoundIn index asked text
IsSearched index search (Refused refusal) text = (asked : Asked) × Asks search asked
    × IsNotSearched index asked refusal × (is_memory refusal ≡ false)
    × (text ≡ refused_line refusal)
