-- The tokens of a query that a run of stages makes are those that are read of it by what the stages leave.
use Rattle.std.proofs.Common.{ℕ, List, Option}
use Rattle.std.specs.Str.{chars}
use Rattle.elasticlunr_text.specs.Stages.{IsRunBy, LeavesBy}
use Rattle.elasticlunr_text.specs.Text.{Text, Bytes}
use Rattle.elasticlunr_text.specs.declared.pipeline.run.Pipeline.{Pipeline}
use Rattle.elasticlunr_lang.specs.Words.{words}
use Rattle.elasticlunr.specs.Reading.{LanguageReads}
use Rattle.elasticlunr.proofs.Reading.{leaves_as}
use Rattle.elasticlunr_search.specs.Query.{AreTokensOf, RunReads}
use Rattle.elasticlunr_search.specs.Tries.{FindsAcross}
use Rattle.elasticlunr_trie.specs.Table.{Table}
use Rattle.elasticlunr_hits.proofs.WordTexts.{AreTexts}

module _ {P X : Type 0} {O : X → Type 0} {p : _} (leaves : (v : X) × O v → Text → Option Text)
    (pipeline : Pipeline P X O p) (R : Text → Option Text → Type 0) (same : LeavesBy leaves pipeline R) (query : Bytes)
    (texts : AreTexts (words (chars query))) where
  pub tokens_read : (i : ℕ) (tokens : List Text) → AreTokensOf (RunReads words (IsRunBy leaves pipeline)) i query tokens
      → AreTokensOf (LanguageReads words R) i query tokens
  tokens_read i tokens by = record {
    all = by.all;
    read = record {
      lefts = by.read.0;
      each = leaves_as _ R (λ token left text. (same token left text).0) (words (chars query)) by.read.0 texts
          by.read.1;
      are = by.read.2;
    };
    no_other = λ others reads. by.no_other others (
      reads.lefts,
      leaves_as R _ (λ token left text. (same token left text).1) (words (chars query)) reads.lefts texts reads.each,
      reads.are,
    );
    are = by.are;
  }

  -- and what is found with each of them
  pub across_read : (fields : List Bytes) (tables : List Table) (names found : List Bytes)
      → FindsAcross (RunReads words (IsRunBy leaves pipeline)) fields tables names query found
      → FindsAcross (LanguageReads words R) fields tables names query found
  across_read fields tables names found by = record {
    searched = by.searched;
    of_fields = by.of_fields;
    tokens = by.tokens;
    of_query = λ i. tokens_read i by.tokens (by.of_query i);
    are = by.are;
  }
