-- Postings in one or more of several tables.
use Rattle.std.proofs.Common.{◌≡◌, ◌↔◌, ◌<◌, ◌≤◌, ◌+◌, ℕ, true, ◌||◌, List, [], ◌∷◌, ◌++◌, length, take, get_or}
use Rattle.std.proofs.Common.{is_some, refl, ap, ◌∙◌, arith}
use Rattle.std.specs.Borrow.{Bor}
use Rattle.std.specs.List.{list_all, list_any}
use Rattle.std.specs.List.Sorted.{IsStrictlySortedBy}
use Rattle.std.proofs.lemmas.List.{get_or-map, length-map, map-append, take_all, take_more}
use Rattle.std.proofs.lemmas.List.Folds.{list_any-append, list_any_at}
use Rattle.elasticlunr_text.specs.Text.{Text, Bytes, text_cmp, is_listed}
use Rattle.elasticlunr_trie.specs.Table.{Table, posting}
use Rattle.elasticlunr_trie.proofs.Keys.{no_keys_sorted}
use Rattle.elasticlunr_search.specs.Tries.{HasAmong, HaveAllAmong, has_among, tables_of}
use Rattle.elasticlunr_search.proofs.Joining.{or_none}
use Rattle.elasticlunr_search.proofs.Those.{all_tells, any_tells, are_those, filled}

-- one trie more
pub next_table : (tries : List (Bor Table)) (i : ℕ) (other : Bor Table) → i < length tries
    → tables_of (take (i + 1) tries) ≡ tables_of (take i tries) ++ (get_or tries i other).now ∷ []
next_table tries i other lt = ap tables_of (take_more tries i other lt)
    ∙ map-append (λ trie. trie.now) (take i tries) (get_or tries i other ∷ [])

pub has_among_more : (tries : List (Bor Table)) (i : ℕ) (other : Bor Table) (token : Text) (r : Bytes)
    → i < length tries
    → has_among (tables_of (take (i + 1) tries)) token r
    ≡ (has_among (tables_of (take i tries)) token r || is_some (posting (get_or tries i other).now token r))
has_among_more tries i other token r lt =
    let has = λ (table : Table). is_some (posting table token r) in
    let table = (get_or tries i other).now in
    ap (list_any has) (next_table tries i other lt) ∙ list_any-append has (tables_of (take i tries)) (table ∷ [])
    ∙ ap (λ b. list_any has (tables_of (take i tries)) || b) (or_none (has table))

pub all_tables : (tries : List (Bor Table)) (i : ℕ) (token : Text) (r : Bytes) → length tries ≤ i
    → has_among (tables_of (take i tries)) token r ≡ has_among (tables_of tries) token r
all_tables tries i token r past = ap (λ ts. has_among (tables_of ts) token r) (take_all i tries past)

-- where one trie has it
pub has_one : (tries : List (Bor Table)) (i : ℕ) (other : Bor Table) (token : Text) (r : Bytes) → i < length tries
    → is_some (posting (get_or tries i other).now token r) ≡ true → has_among (tables_of tries) token r ≡ true
has_one tries i other token r lt is = list_any_at (λ table. is_some (posting table token r)) (tables_of tries) i
    (get_or tries i other).now (omega (arith, length-map tries (λ (trie : Bor Table). trie.now), lt))
    (ap (λ table. is_some (posting table token r)) (get_or-map (λ (trie : Bor Table). trie.now) tries i other
    (get_or tries i other).now lt) ∙ is)

-- a reference has a posting in one of the tables exactly if the test says so
among_tells : (tables : List Table) (t : Text) (r : Bytes) → (has_among tables t r ≡ true) ↔ HasAmong tables t r
among_tells tables t r = any_tells (λ table. is_some (posting table t r)) tables

pub have_all_among : (tables : List Table) (t : Text) (ts : List Text) (rs : List Bytes)
    → IsStrictlySortedBy text_cmp rs
    → ((r : Bytes) → is_listed r rs ≡ list_all (λ t. has_among tables t r) (t ∷ ts)) → HaveAllAmong tables (t ∷ ts) rs
have_all_among tables t ts rs order has = are_those _ (λ r. list_all (λ t. has_among tables t r) (t ∷ ts))
    (λ r. let tells = all_tells (λ t. has_among tables t r) (t ∷ ts) in (
      λ e. (filled t ts, λ token c. (among_tells tables token r).0 (tells.0 e token c)),
      λ h. tells.1 (λ token c. (among_tells tables token r).1 (h.1 token c)),
    )) rs order has

-- no token finds nothing
pub have_none_among : (tables : List Table) → HaveAllAmong tables [] []
have_none_among tables = record {
  sorted = no_keys_sorted;
  exact =
      λ r. (λ c. absurd (omega (arith, c.1)), λ h. absurd (h.0 refl));
}
