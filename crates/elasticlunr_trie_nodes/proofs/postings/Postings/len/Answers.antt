use Rattle.std.proofs.Common.{ap, sym, ◌∙◌, length}
use Rattle.std.specs.FinMap as map
use Rattle.elasticlunr_trie_nodes.proofs.Frequencies.{seen_entries}
use Rattle.elasticlunr_trie_nodes.proofs.postings.Postings.len.Goals as goal

pub returns : goal.returns
returns c =
    c.len.ensures ∙ ap length (sym (seen_entries _ c.self.invariant) ∙ ap map.entries c.self.view_is)
    ∙ sym (map.len-entries _)
