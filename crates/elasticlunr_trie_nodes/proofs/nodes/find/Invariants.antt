use Rattle.std.proofs.Common.{◌≡◌}
use Rattle.std.specs.Str.{chars, IsUtf8}
use Rattle.std.specs.Str.Iter.{chars_rest}
use Rattle.elasticlunr_trie_nodes.specs.Trie.{walk, step_of}
use Rattle.elasticlunr_trie_nodes.specs.declared.nodes.Place.TheVariants.{Root}
use Rattle.elasticlunr_trie_nodes.proofs.nodes.find.Given as goal

-- the rest of the token leads from here to where the token leads
abbrev pub invariant-loop-c : goal.invariant-loop-c
invariant-loop-c l =
    IsUtf8 (chars_rest l.c-iterator) × (walk (step_of l.root l.nodes) l.place (chars (chars_rest l.c-iterator))
    ≡ walk (step_of l.root l.nodes) Root (chars l.token))
