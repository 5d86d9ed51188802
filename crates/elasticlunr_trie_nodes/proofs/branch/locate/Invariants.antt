use Rattle.std.proofs.Common.{◌≡◌, ◌++◌, Some, length}
use denote.Text.{Utf8}
use denote.Shadow.{shadow}
use Rattle.std.specs.Str.{chars}
use Rattle.std.specs.Str.Iter.{chars_rest}
use Rattle.elasticlunr_error.specs.Text.{Text}
use Rattle.elasticlunr_trie_nodes.specs.Trie.{step_of, walk}
use Rattle.elasticlunr_trie_nodes.specs.declared.nodes.Place.TheVariants.{Root}
use Rattle.elasticlunr_trie_nodes.proofs.branch.locate.Given as goal

-- what was read leads to the place, and the rest of the token is left
abbrev pub invariant-loop-c : goal.invariant-loop-c
invariant-loop-c l =
    shadow (Utf8 l.rest) × (l.rest ≡ chars_rest l.letters)
    × ((known : Text) × (chars l.start.token.now ≡ known ++ chars l.rest)
    × (walk (step_of l.root l.nodes) Root known ≡ Some l.place))

abbrev pub decreases-loop-c : goal.decreases-loop-c
decreases-loop-c l = length (chars_rest l.letters)
