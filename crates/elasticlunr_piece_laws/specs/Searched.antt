-- What a searcher searches.
use Rattle.std.specs.Prelude.{◌≡◌, List}
use Rattle.elasticlunr_lang.specs.declared.any.AnyLanguage.{AnyLanguage}
use Rattle.elasticlunr_search.specs.Standing.{fields_of, kept_contents}
use Rattle.elasticlunr_search.specs.declared.searcher.Searcher.{Searcher}
use Rattle.elasticlunr_store.specs.Contents.{Contents}
use Rattle.elasticlunr_error.specs.Text.{Bytes}
use Rattle.elasticlunr_trie.specs.Table.{Table}

-- it searches an index of fields with these names, with these tables and these contents
pub record Searches (fields : List Bytes) (tables : List Table) (contents : Contents)
    {P X : Type 0} {O : X → Type 0} {p : _} (s : Searcher AnyLanguage P X O p) : Type 0 where
  pub its_fields : fields_of s ≡ fields
  pub its_tables : s.printed.tries.items ≡ tables
  pub its_contents : kept_contents s ≡ contents
