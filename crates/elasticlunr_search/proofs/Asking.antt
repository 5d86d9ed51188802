-- The tokens of a query, and what is found of them.
use Rattle.std.proofs.Common.{◌≡◌, ◌↔◌, ℕ, not, nat_eq, List, Option, Some, IfSome, String, Global, string_len, sym, ap}
use Rattle.std.proofs.Common.{subst, ◌∙◌}
use Rattle.std.specs.Prelude.{IsSome}
use Rattle.std.specs.List.{filter}
use Rattle.elasticlunr_text.specs.Text.{Text, Bytes, text_of, texts_of, is_not_empty}
use Rattle.elasticlunr_text.proofs.TextLemmas.{is_not_empty-text_of}
use Rattle.elasticlunr_trie.specs.Table.{Table, posting}
use Rattle.elasticlunr.specs.Found.{Matches, FindsAny, FindsAll}
use Rattle.elasticlunr.specs.History.{Commands}
use Rattle.elasticlunr.specs.Standing.{IsTableOf}
use Rattle.elasticlunr_search.specs.Query.{AreTokensOf}
use Rattle.elasticlunr_search.specs.Tries.{HaveAny, HaveAll}
use Rattle.elasticlunr_search.proofs.Steps.{map-filter}
use Rattle.elasticlunr_search.proofs.Those.{alike}

-- what is read of the query and nothing else, without empty ones, are its tokens
pub asked : (reads : ℕ → Bytes → List Text → Type 0) (i : ℕ) (query : Bytes) (left kept : List (String Global))
    → reads i query (texts_of left)
    → ((others : List Text) → reads i query others → others ≡ texts_of left) → kept
    ≡ filter (λ s. not (nat_eq (string_len s) 0)) left → AreTokensOf reads i query (texts_of kept)
asked reads i query left kept is only kept_is = record {
  all = texts_of left;
  read = is;
  no_other = only;
  are = ap texts_of kept_is ∙ map-filter text_of is_not_empty (λ s. not (nat_eq (string_len s) 0))
      (λ s. sym (is_not_empty-text_of s)) left;
}

-- what the library says of postings
abbrev pub PostingsTell : Type 0
PostingsTell = (commands : Commands) (i : ℕ) (table : Table) (token : Text) (r : Bytes) → IsTableOf commands i table
    → IsSome (posting table token r) ↔ Matches commands i r token

pub table_at : (commands : Commands) (i : ℕ) (o : Option Table) (table : Table) → o ≡ Some table
    → IfSome o (IsTableOf commands i)
    → IsTableOf commands i table
table_at commands i o table at is = subst (λ p. IfSome p (IsTableOf commands i)) at is

-- what is found in the table of a field is found of the commands
pub finds_any : PostingsTell → (commands : Commands) (i : ℕ) (table : Table) (tokens : List Text)
    (references : List Bytes)
    → IsTableOf commands i table → HaveAny table tokens references → FindsAny commands i tokens references
finds_any tell commands i table tokens references is have = alike _ _ references have
    (λ r. (
      λ w. (w.0, w.1, (tell commands i table w.0 r is).0 w.2),
      λ m. (m.0, m.1, (tell commands i table m.0 r is).1 m.2),
    ))

pub finds_all : PostingsTell → (commands : Commands) (i : ℕ) (table : Table) (tokens : List Text)
    (references : List Bytes)
    → IsTableOf commands i table → HaveAll table tokens references → FindsAll commands i tokens references
finds_all tell commands i table tokens references is have = alike _ _ references have
    (λ r. (
      λ w. (w.0, λ token there. (tell commands i table token r is).0 (w.1 token there)),
      λ m. (m.0, λ token there. (tell commands i table token r is).1 (m.1 token there)),
    ))
