use Rattle.std.proofs.Common.{◌≡◌, ◌++◌}
use Rattle.std.specs.Str.{chars, IsUtf8}
use Rattle.std.specs.Str.Iter.{chars_rest}
use Rattle.elasticlunr_trie_nodes.specs.Branch.{IsInner}
use Rattle.elasticlunr_trie_nodes.proofs.branch.new_branch.Given as goal

-- a node for each character that was read
abbrev pub invariant-loop-c : goal.invariant-loop-c
invariant-loop-c l =
    record {
      utf8 : IsUtf8 (chars_rest l.c-iterator);
      split : chars l.text ≡ l.yielded ++ chars (chars_rest l.c-iterator);
      inner : IsInner l.number l.yielded l.branch.items;
    }
