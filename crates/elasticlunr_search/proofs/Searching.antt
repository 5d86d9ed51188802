-- From the trie of a field to what is found.
use Rattle.std.proofs.Common.{◌≡◌, ℕ, List, Option, Some, sym, subst}
use Rattle.std.specs.List.{slice_get}
use Rattle.elasticlunr_text.specs.Stages.{IsRunBy, LeavesBy}
use Rattle.elasticlunr_text.specs.Text.{Text, Bytes}
use Rattle.elasticlunr_store.specs.Contents.{Contents}
use Rattle.elasticlunr_trie.specs.Table.{Table}
use Rattle.elasticlunr.specs.History.{Commands}
use Rattle.elasticlunr.specs.Reading.{LanguageReads}
use Rattle.elasticlunr.specs.Shape.{ArePartsOf}
use Rattle.elasticlunr.specs.Standing.{IsTableOf, Plan}
use Rattle.elasticlunr_search.specs.Query.{AreTokensOf, IsFound, RunReads}
use Rattle.elasticlunr_search.specs.Standing.{AreFoundAsChosen, AreFoundInTrie, AreFoundWithinTries, AreTriesOf}
use Rattle.elasticlunr_search.specs.Standing.{AreFoundWithinTriesAsChosen, fields_of}
use Rattle.elasticlunr_search.specs.Tries.{FindsInTrie, Have, HaveAllAmong, IsTrieOf}
use Rattle.elasticlunr_search.specs.Words.{FindsJoined}
use Rattle.elasticlunr_search.specs.declared.searcher.Searcher.{Searcher}
use Rattle.elasticlunr_search.specs.declared.words.Join.{Join}
use Rattle.elasticlunr_search.specs.declared.words.Join.TheVariants.{Any, All}
use Rattle.elasticlunr_search.proofs.Asking.{PostingsTell, finds_all, finds_any, table_at}

-- what is found of the query's tokens in the trie of the field is found of the query
pub in_trie : {L P X : Type 0} {O : X → Type 0} {p : _} (tokens_of : L → Text → List Text) (leaves_of : L → Text
    → Option Text → Type 0) (leaves : (v : X) × O v → Text → Option Text) (s : Searcher L P X O p)
    → (join : Join) (i : ℕ) (table : Table) (field query : Bytes) (tokens : List Text) (found : List Bytes)
    → slice_get (fields_of s) i ≡ Some field → slice_get s.printed.tries.items i ≡ Some table
    → (LeavesBy leaves s.pipeline (leaves_of s.language)
    → AreTokensOf (LanguageReads (tokens_of s.language) (leaves_of s.language)) i query tokens)
    → Have join table tokens found → AreFoundInTrie tokens_of leaves_of leaves s join field query found
in_trie tokens_of leaves_of leaves s join i table field query tokens found at there asks have language speaks = record {
  place = i;
  of_field = at;
  tokens = tokens;
  of_query = subst (λ l. AreTokensOf (LanguageReads (tokens_of l) (leaves_of l)) i query tokens) speaks.its_language
      (asks (subst (λ l. LeavesBy leaves s.pipeline (leaves_of l)) (sym speaks.its_language) speaks.stages));
  are = (table, there, have);
}

-- so it is by the language and the pipeline that were chosen
pub as_chosen : {L P X : Type 0} {O : X → Type 0} {p : _} (tokens_of : L → Text → List Text) (leaves_of : L → Text
    → Option Text → Type 0) (leaves : (v : X) × O v → Text → Option Text) (s : Searcher L P X O p)
    → (join : Join) (i : ℕ) (table : Table) (field query : Bytes) (tokens : List Text) (found : List Bytes)
    → slice_get (fields_of s) i ≡ Some field → slice_get s.printed.tries.items i ≡ Some table
    → AreTokensOf (RunReads (tokens_of s.language) (IsRunBy leaves s.pipeline)) i query tokens
    → Have join table tokens found → AreFoundAsChosen tokens_of leaves_of leaves s join field query found
as_chosen tokens_of leaves_of leaves s join i table field query tokens found at there asks have language pipeline chosen
    = record {
      place = i;
      of_field = at;
      tokens = tokens;
      of_query = subst (λ l. AreTokensOf (RunReads (tokens_of l) (IsRunBy leaves pipeline)) i query tokens)
          chosen.its_language (subst (λ ps. AreTokensOf (RunReads (tokens_of s.language) (IsRunBy leaves ps)) i query
          tokens) chosen.its_pipeline asks);
      are = (table, there, have);
    }

-- so is what is found in the tries of several fields
pub across_tries : {L P X : Type 0} {O : X → Type 0} {p : _} (tokens_of : L → Text → List Text) (leaves_of : L → Text
    → Option Text → Type 0) (leaves : (v : X) × O v → Text → Option Text) (s : Searcher L P X O p)
    → (names : List Bytes) (searched : List Table) (query : Bytes) (tokens : List Text) (found : List Bytes)
    → AreTriesOf s names searched
    → ((i : ℕ) → LeavesBy leaves s.pipeline (leaves_of s.language)
    → AreTokensOf (LanguageReads (tokens_of s.language) (leaves_of s.language)) i query tokens)
    → HaveAllAmong searched tokens found → AreFoundWithinTries tokens_of leaves_of leaves s All names query found
across_tries tokens_of leaves_of leaves s names searched query tokens found are asks have language speaks = record {
  searched = searched;
  of_fields = are;
  tokens = tokens;
  of_query = λ i. subst (λ l. AreTokensOf (LanguageReads (tokens_of l) (leaves_of l)) i query tokens)
      speaks.its_language (asks i (subst (λ l. LeavesBy leaves s.pipeline (leaves_of l)) (sym speaks.its_language)
      speaks.stages));
  are = have;
}

pub across_chosen : {L P X : Type 0} {O : X → Type 0} {p : _} (tokens_of : L → Text → List Text) (leaves_of : L → Text
    → Option Text → Type 0) (leaves : (v : X) × O v → Text → Option Text) (s : Searcher L P X O p)
    → (names : List Bytes) (searched : List Table) (query : Bytes) (tokens : List Text) (found : List Bytes)
    → AreTriesOf s names searched
    → ((i : ℕ) → AreTokensOf (RunReads (tokens_of s.language) (IsRunBy leaves s.pipeline)) i query tokens)
    → HaveAllAmong searched tokens found
    → AreFoundWithinTriesAsChosen tokens_of leaves_of leaves s All names query found
across_chosen tokens_of leaves_of leaves s names searched query tokens found are asks have language pipeline chosen =
    record {
      searched = searched;
      of_fields = are;
      tokens = tokens;
      of_query = λ i. subst (λ l. AreTokensOf (RunReads (tokens_of l) (IsRunBy leaves pipeline)) i query tokens)
          chosen.its_language (subst (λ ps. AreTokensOf (RunReads (tokens_of s.language) (IsRunBy leaves ps)) i query
          tokens) chosen.its_pipeline (asks i));
      are = have;
    }

-- what is found in the tries that commands left is found of the commands
pub of_commands : (reads : ℕ → Bytes → List Text → Type 0) (plan : Plan) (commands : Commands) (names : List Bytes)
    (tables : List Table) (contents : Contents) → ArePartsOf plan commands names tables contents
    → (join : Join) (Finds : ℕ → List Text → List Bytes → Type 0)
    → ((i : ℕ) (table : Table) (tokens : List Text) (found : List Bytes) → IsTableOf commands i table
    → Have join table tokens found → Finds i tokens found)
    → (field query : Bytes) (found : List Bytes) → FindsInTrie reads names tables join field query found
    → IsFound Finds reads plan.fields field query found
of_commands reads plan commands names tables contents parts join Finds finds field query found f = record {
  place = f.place;
  of_field = subst (λ ns. slice_get ns f.place ≡ Some field) parts.fields f.of_field;
  tokens = f.tokens;
  of_query = f.of_query;
  are = finds f.place f.are.0 f.tokens found (table_at commands f.place _ f.are.0 f.are.1 (parts.holds.each f.place))
      f.are.2;
}

-- so is what is found there of tokens
pub of_tokens : PostingsTell → (names : List Bytes) (tables : List Table) (contents : Contents) (plan : Plan)
    (commands : Commands) → ArePartsOf plan commands names tables contents
    → (join : Join) (field : Bytes) (table : Table) (tokens : List Text) (found : List Bytes)
    → IsTrieOf names tables field table → Have join table tokens found
    → (i : ℕ) × (slice_get plan.fields i ≡ Some field) × FindsJoined join commands i tokens found
of_tokens tell names tables contents plan commands parts Any field table tokens found there have = (
  there.0,
  subst (λ ns. slice_get ns there.0 ≡ Some field) parts.fields there.1,
  finds_any tell commands there.0
      table tokens found (table_at commands there.0 _ table there.2 (parts.holds.each there.0)) have,
)
of_tokens tell names tables contents plan commands parts All field table tokens found there have = (
  there.0,
  subst (λ ns. slice_get ns there.0 ≡ Some field) parts.fields there.1,
  finds_all tell commands there.0
      table tokens found (table_at commands there.0 _ table there.2 (parts.holds.each there.0)) have,
)
