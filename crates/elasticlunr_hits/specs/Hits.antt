-- The hits of what is asked for.
use Rattle.std.specs.Prelude.{◌≡◌, ℕ, Bool, List, Option}
use Rattle.std.specs.Float.{Float}
use Rattle.std.specs.List.{filter, zip}
use Rattle.elasticlunr_text.specs.Text.{Text, Bytes, is_listed}
use Rattle.elasticlunr_lang.specs.Words.{words}
use Rattle.elasticlunr_lang.specs.declared.any.AnyLanguage.{AnyLanguage}
use Rattle.elasticlunr_stem_stage.specs.Stemmed.{leaves_with}
use Rattle.elasticlunr_store.specs.Contents.{Contents}
use Rattle.elasticlunr_store.specs.Options.{Options}
use Rattle.elasticlunr_trie.specs.Table.{Table}
use Rattle.elasticlunr.specs.Reading.{LanguageReads}
use Rattle.elasticlunr_ranking.specs.Choice.{fields_for}
use Rattle.elasticlunr_ranking.specs.Order.{AreRanked}
use Rattle.elasticlunr_search.specs.Query.{AreTokensOf}
use Rattle.elasticlunr_search.specs.Standing.{Speaks, fields_of, kept_contents}
use Rattle.elasticlunr_search.specs.Tries.{FindsAcross}
use Rattle.elasticlunr_search.specs.declared.searcher.Searcher.{Searcher}
use Rattle.elasticlunr_hits.specs.Asked.{AreOptionsOf, at_most, boosted, searched}
use Rattle.elasticlunr_hits.specs.declared.asked.Asked.{Asked}
use Rattle.elasticlunr_hits.specs.declared.asked.Needed.{Needed}
use Rattle.elasticlunr_hits.specs.declared.asked.Needed.TheVariants.{One, EachInOneField, Each}

-- a hit's reference and its score
abbrev pub Told : Type 0
Told = Bytes × Float

-- In each definition `reads` relates the number of a field and a text to the tokens that are read
-- of it.
module _ (reads : ℕ → Bytes → List Text → Type 0) (fields : List Bytes) (tables : List Table)
    (contents : Contents) (asked : Asked) where
  -- of the hits of a ranking those stay, in their order, whose document has each token of the query
  -- in one or more of the searched fields whose boost is not 0
  abbrev pub KeepsFound : (ranking kept : List Told) → Type 0
  KeepsFound ranking kept = (found : List Bytes)
      × FindsAcross reads fields tables (boosted asked.boosts.items (searched asked fields))
      asked.query.now found
      × (kept ≡ filter (λ hit. is_listed hit.0 found) ranking)

  -- those stay that have what is needed and the options don't say
  abbrev pub KeepsNeeded : Needed → (ranking kept : List Told) → Type 0
  KeepsNeeded One ranking kept = kept ≡ ranking
  KeepsNeeded EachInOneField ranking kept = kept ≡ ranking
  KeepsNeeded Each ranking kept = KeepsFound ranking kept

  -- in an index with these fields, their tries and these contents, by what is read of the query,
  -- these are the first hits that stay of the ranking by the options that are asked for
  pub record AreHitsBy (hits : List Told) : Type 0 where
    pub options : Options
    pub of_asked : AreOptionsOf asked fields options
    pub tokens : List Text
    pub of_query : (i : ℕ) → AreTokensOf reads i asked.query.now tokens
    pub ranking : List Told
    pub ranked : AreRanked (fields_for options contents (zip fields tables)) tokens ranking
    pub kept : List Told
    pub needed : KeepsNeeded asked.needed ranking kept
    pub are : hits ≡ at_most asked.limit kept

module _ {P X : Type 0} {O : X → Type 0} {p : _} where
  -- whatever built-in language it speaks, with stems or without, these are the hits by what this
  -- reads
  abbrev pub AreHitsOf : (leaves : (v : X) × O v → Text → Option Text)
      → Searcher AnyLanguage P X O p → Asked → (hits : List Told) → Type 0
  AreHitsOf leaves s asked hits = (stems : Bool) (language : AnyLanguage)
      → Speaks (leaves_with stems) leaves s language
      → AreHitsBy (LanguageReads words (leaves_with stems language)) (fields_of s)
      s.printed.tries.items (kept_contents s) asked hits

-- for private clauses: where these names and these options are what is asked of an index with these
-- fields
abbrev pub IfAsked : Asked → (all names : List Bytes) → Options → Type 0 → Type 0
IfAsked asked all names options P = names ≡ searched asked all → AreOptionsOf asked all options → P
