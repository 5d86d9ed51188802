use Rattle.std.proofs.Common.{◌≡◌, suc, take}
use Rattle.std.specs.List.{list_all}
use Rattle.std.specs.List.Sorted.{IsStrictlySortedBy}
use Rattle.elasticlunr_text.specs.Text.{Bytes, texts_of, bytes_of, text_cmp, is_listed}
use Rattle.elasticlunr_search.specs.Tries.{has_among, tables_of}
use Rattle.elasticlunr_search.proofs.tries.find_all_among.Given as goal

-- those that have a posting at each token so far, in order
abbrev pub invariant-loop-token : goal.invariant-loop-token
invariant-loop-token l = IsStrictlySortedBy text_cmp (bytes_of l.found.items)
    × ((r : Bytes) → is_listed r (bytes_of l.found.items) ≡ list_all (λ t. has_among (tables_of l.tries) t r)
    (take (suc l.token-index) (texts_of l.tokens)))
