-- From what is ranked to what a search finds.
use Rattle.std.proofs.Common.{ℕ, List, Option, sym, subst}
use Rattle.std.specs.Float.{Float}
use Rattle.std.specs.List.{zip}
use Rattle.elasticlunr_text.specs.Stages.{IsRunBy, LeavesBy}
use Rattle.elasticlunr_text.specs.Text.{Text, Bytes}
use Rattle.elasticlunr_store.specs.Options.{Options}
use Rattle.elasticlunr.specs.Reading.{LanguageReads}
use Rattle.elasticlunr_ranking.specs.Choice.{fields_for}
use Rattle.elasticlunr_ranking.specs.Fields.{Field}
use Rattle.elasticlunr_search.specs.Query.{AreTokensOf, RunReads}
use Rattle.elasticlunr_search.specs.Ranking.{AreHits, AreHitsAsChosen}
use Rattle.elasticlunr_search.specs.Standing.{fields_of}
use Rattle.elasticlunr_search.specs.declared.searcher.Searcher.{Searcher}

module _ {L P X : Type 0} {O : X → Type 0} {p : _} (Are : List Field → List Text → List (Bytes × Float) → Type 0)
    (tokens_of : L → Text → List Text) (leaves_of : L → Text → Option Text → Type 0)
    (leaves : (v : X) × O v → Text → Option Text) (s : Searcher L P X O p) (query : Bytes) (options : Options)
    (tokens : List Text) (hits : List (Bytes × Float))
    (are : Are (fields_for options s.printed.store (zip (fields_of s) s.printed.tries.items)) tokens hits) where
  pub hits_of : ((i : ℕ) → LeavesBy leaves s.pipeline (leaves_of s.language)
      → AreTokensOf (LanguageReads (tokens_of s.language) (leaves_of s.language)) i query tokens)
      → AreHits Are tokens_of leaves_of leaves s query options hits
  hits_of asks language speaks = record {
    tokens = tokens;
    of_query = λ i. subst (λ l. AreTokensOf (LanguageReads (tokens_of l) (leaves_of l)) i query tokens)
        speaks.its_language (asks i (subst (λ l. LeavesBy leaves s.pipeline (leaves_of l)) (sym speaks.its_language)
        speaks.stages));
    are = are;
  }

  pub hits_as_chosen : ((i : ℕ) → AreTokensOf (RunReads (tokens_of s.language) (IsRunBy leaves s.pipeline)) i query
      tokens)
      → AreHitsAsChosen Are tokens_of leaves_of leaves s query options hits
  hits_as_chosen asks language pipeline chosen = record {
    tokens = tokens;
    of_query = λ i. subst (λ l. AreTokensOf (RunReads (tokens_of l) (IsRunBy leaves pipeline)) i query tokens)
        chosen.its_language (subst (λ ps. AreTokensOf (RunReads (tokens_of s.language) (IsRunBy leaves ps)) i query
        tokens) chosen.its_pipeline (asks i));
    are = are;
  }
