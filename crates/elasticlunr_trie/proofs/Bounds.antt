-- What nodes represent is a table.
use Rattle.std.proofs.Common.{◌≡◌, ℕ, ◌<◌, ◌^◌, Bool, true, false, List, [], ◌∷◌, Option, Some, None, refl, sym, ◌∙◌}
use mathlib.Core.Bool.{◌&&◌}
use Rattle.std.specs.Str.{all_scalars, IsUtf8}
use Rattle.elasticlunr_error.specs.Text.{Text, Bytes}
use Rattle.elasticlunr_trie_nodes.specs.Table.{IsTable, posting}
use Rattle.elasticlunr_trie_nodes.specs.Names.{Names, at}
use Rattle.elasticlunr_trie.specs.Children.{Children}
use Rattle.elasticlunr_trie_nodes.specs.Trie.{entries_at, step_of, walk, table_of, IsTrie, IsIndex}
use Rattle.elasticlunr_trie_nodes.proofs.Named.{number_there}
use Rattle.elasticlunr_trie_nodes.proofs.Removed.{number-name}
use Rattle.elasticlunr_trie_nodes.proofs.Settled.{bare_root}
use Rattle.elasticlunr_trie_nodes.specs.declared.nodes.Reference.{Reference}
use Rattle.elasticlunr_trie_nodes.specs.declared.nodes.Node.{Node}
use Rattle.elasticlunr_trie_nodes.specs.declared.nodes.Place.{Place}
use Rattle.elasticlunr_trie_nodes.specs.declared.nodes.Place.TheVariants.{Root, At}
use Rattle.elasticlunr_trie_nodes.proofs.Forest.{walk_cons}
use Rattle.elasticlunr_trie_nodes.proofs.Adding.{known_to, posting_walk, posting_none}
use Rattle.elasticlunr_trie.proofs.Unique.{closed_nodes}

joined : (a b : Bool) → (a && true) ≡ true → b ≡ true → (a && b) ≡ true
joined true b one two = two
joined false b one two = one

module _ (root : Children) (nodes : List Node) (trie : IsTrie root nodes) (names : Names) where
  walk_scalars : (t : Text) (p q : Place) → walk (step_of root nodes) p t ≡ Some q → all_scalars t ≡ true
  walk_scalars [] p q e = refl
  walk_scalars (c ∷ t) p q e =
      let step = walk_cons (step_of root nodes) p q c t e in
      joined _ _ (trie.characters p c step.0 step.1) (walk_scalars t _ q step.2)

  -- the place of a posting
  pub posted : (P : Type 0) (t : Text) (r : Bytes) (n : ℕ) → posting (table_of root nodes names) t r ≡ Some n
      → ((p : Place) → at names r (entries_at root nodes p) ≡ Some n → P) → P
  posted P t r n e f = by (walk (step_of root nodes) Root t) refl
    where
      by : (o : Option Place) → walk (step_of root nodes) Root t ≡ o → P
      by None is = let none = sym (posting_none root nodes trie names t r is) ∙ e in absurd (cc)
      by (Some p) is = f p (sym (posting_walk root nodes trie names t p r is) ∙ e)

  module _ (references : List Reference) (index : IsIndex root nodes names references) where
    -- a reference of a posting is a text
    utf8_at : (p : Place) (r : Bytes) (n : ℕ) → at names r (entries_at root nodes p) ≡ Some n → IsUtf8 r
    utf8_at p r n e =
        let number = number_there names r (entries_at root nodes p) n e in
        index.names_are.texts number.0 r (number-name names r number.0 number.1)

    small_at : (p : Place) (r : Bytes) (n : ℕ) → at names r (entries_at root nodes p) ≡ Some n → n < 2 ^ 64
    small_at Root r n e = let none = bare_root names r _ refl root nodes in absurd (cc)
    small_at (At k) r n e =
        let number = number_there names r (entries_at root nodes (At k)) n e in
        index.listed.small k number.0 n number.2

    pub nodes_table : IsTable (table_of root nodes names)
    nodes_table = record {
      empty_known = (closed_nodes root nodes trie names).empty_known;
      beginnings = (closed_nodes root nodes trie names).beginnings;
      bare_root = λ r. posting_walk root nodes trie names [] Root r refl ∙ bare_root names r _ refl root nodes;
      characters = λ t known. let to = known_to root nodes trie names t known in walk_scalars t Root to.0 to.1;
      texts = λ t r n e. posted (IsUtf8 r) t r n e (λ p there. utf8_at p r n there);
      small = λ t r n e. posted (n < 2 ^ 64) t r n e (λ p there. small_at p r n there);
    }
