-- No nodes.
use Rattle.std.proofs.Common.{◌≡◌, ℕ, [], ◌∷◌, Some, None, sym, ◌∙◌, arith}
use Rattle.std.specs.Ordering.{nat_cmp}
use Rattle.std.specs.Cmp.Lexicographic.{slice_cmp}
use Rattle.std.specs.FinMap.{get, empty, get-insert, get-empty}
use Rattle.std.proofs.lemmas.Cmp.{nat_list_cmp_total}
use Rattle.elasticlunr_error.specs.Text.{Text}
use Rattle.elasticlunr_trie_nodes.specs.Table.{new_table}
use Rattle.elasticlunr_trie_nodes.specs.Nodes.{postings_at}
use Rattle.elasticlunr_trie_nodes.specs.Trie.{look, table_of, IsIndex}
use Rattle.elasticlunr_trie_nodes.proofs.Tables.{get_table, empty_trie}
use Rattle.elasticlunr_trie_nodes.proofs.Settled.{same_table}

none : (k n f : ℕ) → get (postings_at [] k) n ≡ Some f → ⊥
none k n f e = let nothing : get (postings_at [] k) n ≡ None = get-empty nat_cmp n in cc

pub blank_index : IsIndex [] [] [] []
blank_index = record {
  trie = empty_trie;
  parents = λ k lt. absurd (omega arith);
  names_are = record { distinct = λ n r e. absurd (cc); texts = λ n r e. absurd (cc) };
  listed = record {
    listed = λ k n f e. absurd (none k n f e);
    named = λ k n f e. absurd (none k n f e);
    small =
        λ k n f e. absurd (none k n f e);
  };
}

pub blank_table : table_of [] [] [] ≡ new_table
blank_table = same_table _ _ (λ t. get_table [] [] empty_trie [] t ∙ sym (here t))
  where
    here : (t : Text) → get new_table t ≡ look [] [] [] t
    here [] = get-insert nat_list_cmp_total empty [] empty []
    here (c ∷ t) = get-insert nat_list_cmp_total empty [] empty (c ∷ t) ∙ get-empty (slice_cmp nat_cmp) (c ∷ t)
