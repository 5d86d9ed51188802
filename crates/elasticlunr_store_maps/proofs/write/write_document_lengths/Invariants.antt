use Rattle.std.proofs.Common.{◌≡◌, ◌++◌}
use Rattle.elasticlunr_json.specs.Maps.{members, keyed, count}
use Rattle.elasticlunr_store_maps.specs.Contents.{length_map}
use Rattle.elasticlunr_json.specs.Tokens.{tokens_of}
use Rattle.elasticlunr_json.proofs.Sorted.{shown}
use Rattle.elasticlunr_store_maps.proofs.write.write_document_lengths.Given as goal

-- what was written, and the entries that are left
abbrev pub invariant-loop-doc_ref : goal.invariant-loop-doc_ref
invariant-loop-doc_ref g l =
    g.W.Tokens.written l.out ++ tokens_of (members (keyed count) (shown (λ m. length_map m.entries) l.doc_ref-iterator))
    ≡ g.W.Tokens.written l.initial.out ++ tokens_of
    (members (keyed count) (shown (λ m. length_map m.entries) l.doc_info.entries))
