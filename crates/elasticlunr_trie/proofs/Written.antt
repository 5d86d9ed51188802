-- One node has other postings.
use Rattle.std.proofs.Common.{◌≡◌, ℕ, ◌<◌, inl, inr, List, length, length-set, set, get_or, Some, sym, ap, ◌∙◌}
use Rattle.std.proofs.lemmas.Bool.{cases_eq}
use Rattle.std.specs.List.{slice_get}
use Rattle.std.specs.FinMap.{insert, remove}
use Rattle.elasticlunr_trie_nodes.specs.Frequencies.{Frequencies}
use Rattle.elasticlunr_trie_nodes.specs.Nodes.{children_of, entries_of, SameShape, ClearsNumber, SetsNumber}
use Rattle.elasticlunr_trie_nodes.specs.declared.nodes.Node.{Node}
use Rattle.elasticlunr_trie_nodes.proofs.Places.{get_set, get_set_other, get_there}

module _ (nodes : List Node) (k : ℕ) (node : Node) (in_range : k < length nodes) (is : node ≡ get_or nodes k node)
    (P : Frequencies) where
  abbrev other : Node
  other = record { children = node.children; postings = P }

  before : slice_get nodes k ≡ Some node
  before = get_there nodes k node in_range ∙ ap Some (sym is)

  after : slice_get (set nodes k other) k ≡ Some other
  after = get_set nodes k other in_range

  shape : SameShape nodes (set nodes k other)
  shape = record {
    count = length-set nodes k other;
    children = λ j. elim (cases_eq j k) [
      | inl same ↦ ap (λ x. children_of (slice_get (set nodes k other) x)) same ∙ ap children_of after
          ∙ sym (ap children_of before) ∙ ap (λ x. children_of (slice_get nodes x)) (sym same)
      | inr apart ↦ ap children_of (get_set_other nodes j k other apart)
    ];
  }

  pub number_cleared : (n : ℕ) → P ≡ remove node.postings n → ClearsNumber nodes (set nodes k other) k n
  number_cleared n e = record {
    shape = shape;
    here = ap entries_of after ∙ e ∙ ap (λ o. remove (entries_of o) n) (sym before);
    elsewhere = λ j apart. ap entries_of (get_set_other nodes j k other apart);
  }

  pub number_set : (n f : ℕ) → P ≡ insert node.postings n f → SetsNumber nodes (set nodes k other) k n f
  number_set n f e = record {
    shape = shape;
    here = ap entries_of after ∙ e ∙ ap (λ o. insert (entries_of o) n f) (sym before);
    elsewhere = λ j apart. ap entries_of (get_set_other nodes j k other apart);
  }
