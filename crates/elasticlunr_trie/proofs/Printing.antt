-- What is left to write, step by step.
use Rattle.elasticlunr_trie_nodes.specs.Names.{Names}
use Rattle.elasticlunr_trie.specs.Children.{Children}
use Rattle.elasticlunr_trie_nodes.specs.Trie.{named}
use Rattle.std.proofs.Common.{◌≡◌, ℕ, ◌<◌, ◌≤◌, List, [], ◌∷◌, ◌++◌, codes, encode_utf8, refl, sym, ap, ◌∙◌}
use Rattle.std.proofs.Common.{append_assoc, append-nil, decimal}
use Rattle.std.proofs.lemmas.Bool.{lt-ltb, le-ltb}
use Rattle.json.specs.Token.{Token}
use Rattle.serde_json.specs.Data.{Members, member}
use Rattle.elasticlunr_trie.specs.Tree.{frequencies}
use Rattle.elasticlunr_trie_nodes.specs.Table.{Postings}
use Rattle.elasticlunr_trie.specs.Printed.{children_members, place_members, postings_before, postings_tokens, node_tree}
use Rattle.elasticlunr_trie.specs.Printed.{node_members, left_members, stack_tokens, HasTrees}
use Rattle.elasticlunr_json.specs.Tokens.{tokens_of}
use Rattle.elasticlunr_trie_nodes.proofs.Named.{no_df, no_entries}
use Rattle.std.specs.FinMap.{empty}
use Rattle.elasticlunr_trie_nodes.specs.declared.nodes.Node.{Node}
use Rattle.elasticlunr_trie.specs.declared.inverted_index.write.Left.{Left}

pub no_postings_tokens : (names : Names) → postings_tokens (named names empty) ≡ Token.key (codes "df")
    ∷ Token.number (decimal 0) ∷ Token.key (codes "docs") ∷ Token.begin_object ∷ Token.end_object ∷ []
no_postings_tokens names = λ i. Token.key (codes "df") ∷ Token.number (decimal (no_df names i))
    ∷ Token.key (codes "docs") ∷ Token.begin_object ∷ tokens_of (frequencies (no_entries names i))

-- `df` and `docs`, and then the other members
pub postings_first : (P : Postings) (ms : Members) → tokens_of (postings_before P ms)
    ≡ postings_tokens P ++ tokens_of ms
postings_first P ms = refl

module _ (names : Names) (nodes : List Node) where
  pub stack_push : (ls : List Left) (l : Left) → stack_tokens names nodes (ls ++ l ∷ [])
      ≡ tokens_of (left_members names nodes l) ++ stack_tokens names nodes ls
  stack_push [] l = sym (append-nil (tokens_of (left_members names nodes l)))
  stack_push (x ∷ ls) l = ap (λ ts. ts ++ tokens_of (left_members names nodes x)) (stack_push ls l)
      ∙ append_assoc (tokens_of (left_members names nodes l)) (stack_tokens names nodes ls) _

  -- a child comes first: its key, the beginning of its object, its members, and then the others
  pub child_first : HasTrees names nodes → (c k : ℕ) (ms : Members) (more : List Token)
      → tokens_of (member (encode_utf8 c) (node_tree names nodes k) ms) ++ more
      ≡ (Token.key (encode_utf8 c) ∷ Token.begin_object ∷ []) ++
      (tokens_of (node_members names nodes k) ++ (tokens_of ms ++ more))
  child_first trees c k ms more =
      ap (λ d. tokens_of (member (encode_utf8 c) d ms) ++ more) (trees k)
      ∙ ap (λ ts. Token.key (encode_utf8 c) ∷ Token.begin_object ∷ ts)
      (append_assoc (tokens_of (node_members names nodes k)) (tokens_of ms) more)

  -- `df` and `docs` before a child above `d`
  pub above_d : (P : Postings) (es : Children) → ((c k : ℕ) (rest : Children) → es ≡ (c, k) ∷ rest → 100 < c)
      → place_members (node_tree names nodes) P es ≡ postings_before P (children_members (node_tree names nodes) es)
  above_d P [] above = refl
  above_d P ((c, k) ∷ es) above = rw (lt-ltb 100 c (above c k es refl)) refl

  -- a child up to `d`
  pub up_to_d : (P : Postings) (c k : ℕ) (es : Children) → c ≤ 100
      → place_members (node_tree names nodes) P ((c, k) ∷ es) ≡ member (encode_utf8 c) (node_tree names nodes k)
      (place_members (node_tree names nodes) P es)
  up_to_d P c k es low = rw (le-ltb 100 c low) refl

  -- the key of a child is written, and its members and then those after it are left
  pub opened : HasTrees names nodes → (ls : List Left) (l : Left) (c k : ℕ) (ls1 ls2 : List Left) → ls1 ≡ ls ++ l ∷ []
      → stack_tokens names nodes ls2 ≡ tokens_of (node_members names nodes k) ++ stack_tokens names nodes ls1
      → tokens_of (member (encode_utf8 c) (node_tree names nodes k) (left_members names nodes l)) ++ stack_tokens names
      nodes ls ≡ (Token.key (encode_utf8 c) ∷ Token.begin_object ∷ []) ++ stack_tokens names nodes ls2
  opened trees ls l c k ls1 ls2 one two =
      child_first trees c k (left_members names nodes l) (stack_tokens names nodes ls)
      ∙ ap (λ ts. (Token.key (encode_utf8 c) ∷ Token.begin_object ∷ []) ++ ts)
      (sym (two ∙ ap (λ ts. tokens_of (node_members names nodes k) ++ ts) (ap (stack_tokens names nodes) one
      ∙ stack_push ls l)))

  -- `df` and `docs` are written, and the other members are left
  pub postings_first_more : (P : Postings) (ls : List Left) (l : Left) (ls1 : List Left) → ls1 ≡ ls ++ l ∷ []
      → tokens_of (postings_before P (left_members names nodes l)) ++ stack_tokens names nodes ls
      ≡ postings_tokens P ++ stack_tokens names nodes ls1
  postings_first_more P ls l ls1 one =
      append_assoc (postings_tokens P) (tokens_of (left_members names nodes l)) (stack_tokens names nodes ls)
      ∙ ap (λ ts. postings_tokens P ++ ts) (sym (ap (stack_tokens names nodes) one ∙ stack_push ls l))
