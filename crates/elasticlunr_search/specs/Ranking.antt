-- What a ranked search finds.
use Rattle.std.specs.Prelude.{ℕ, List, Option}
use Rattle.std.specs.Float.{Float}
use Rattle.std.specs.List.{zip}
use Rattle.elasticlunr_text.specs.Stages.{IsRunBy}
use Rattle.elasticlunr_text.specs.Text.{Text, Bytes}
use Rattle.elasticlunr_text.specs.declared.pipeline.run.Pipeline.{Pipeline}
use Rattle.elasticlunr_store.specs.Options.{Options}
use Rattle.elasticlunr.specs.Reading.{LanguageReads}
use Rattle.elasticlunr_ranking.specs.Choice.{fields_for}
use Rattle.elasticlunr_ranking.specs.Fields.{Field}
use Rattle.elasticlunr_ranking.specs.Order.{AreBest, AreRanked}
use Rattle.elasticlunr_search.specs.Query.{AreTokensOf, RunReads}
use Rattle.elasticlunr_search.specs.Standing.{IsChosen, Speaks, fields_of}
use Rattle.elasticlunr_search.specs.declared.searcher.Searcher.{Searcher}

module _ {L P X : Type 0} {O : X → Type 0} {p : _} where
  -- by the tokens of the query, these are what `Are` says of them in the fields that the options
  -- choose; `reads` relates the number of a field and a text to the tokens that are read of it
  pub record IsRankingOf (Are : List Field → List Text → List (Bytes × Float) → Type 0)
      (reads : ℕ → Bytes → List Text → Type 0) (s : Searcher L P X O p) (query : Bytes)
      (options : Options) (hits : List (Bytes × Float)) : Type 0 where
    pub tokens : List Text
    pub of_query : (i : ℕ) → AreTokensOf reads i query tokens
    pub are : Are (fields_for options s.printed.store (zip (fields_of s) s.printed.tries.items))
        tokens hits

  module _ (Are : List Field → List Text → List (Bytes × Float) → Type 0)
      (tokens_of : L → Text → List Text) (leaves_of : L → Text → Option Text → Type 0)
      (leaves : (v : X) × O v → Text → Option Text) (s : Searcher L P X O p) where
    -- whatever language it speaks, they are so by what this reads
    abbrev pub AreHits : (query : Bytes) → Options → (hits : List (Bytes × Float)) → Type 0
    AreHits query options hits = (language : L) → Speaks leaves_of leaves s language
        → IsRankingOf Are (LanguageReads (tokens_of language) (leaves_of language)) s query options
        hits

    -- whatever language and pipeline it has, by what the pipeline makes of the language's tokens
    abbrev pub AreHitsAsChosen : (query : Bytes) → Options → (hits : List (Bytes × Float)) → Type 0
    AreHitsAsChosen query options hits = (language : L) (pipeline : Pipeline P X O p)
        → IsChosen s language pipeline
        → IsRankingOf Are (RunReads (tokens_of language) (IsRunBy leaves pipeline)) s query options
        hits

  module _ (tokens_of : L → Text → List Text) (leaves_of : L → Text → Option Text → Type 0)
      (leaves : (v : X) × O v → Text → Option Text) (s : Searcher L P X O p) where
    -- these are all documents that are found, the best first
    abbrev pub AreRankedHits : (query : Bytes) → Options → (hits : List (Bytes × Float)) → Type 0
    AreRankedHits = AreHits AreRanked tokens_of leaves_of leaves s

    abbrev pub AreRankedAsChosen : (query : Bytes) → Options → (hits : List (Bytes × Float))
        → Type 0
    AreRankedAsChosen = AreHitsAsChosen AreRanked tokens_of leaves_of leaves s

    -- these are the first of them, at most so many
    abbrev pub AreBestHits : (query : Bytes) → Options → (limit : ℕ)
        → (hits : List (Bytes × Float)) → Type 0
    AreBestHits query options limit = AreHits (λ fields tokens. AreBest fields tokens limit)
        tokens_of leaves_of leaves s query options

    abbrev pub AreBestAsChosen : (query : Bytes) → Options → (limit : ℕ)
        → (hits : List (Bytes × Float)) → Type 0
    AreBestAsChosen query options limit =
        AreHitsAsChosen (λ fields tokens. AreBest fields tokens limit) tokens_of leaves_of leaves s
        query options
