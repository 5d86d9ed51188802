use Rattle.std.proofs.Common.{ap, sym, ◌∙◌, ◌<◌, length, subst, slice_index_or}
use Rattle.std.specs.FinMap as map
use Rattle.elasticlunr_trie_nodes.proofs.Frequencies.{seen_entries}
use Rattle.elasticlunr_trie_nodes.proofs.postings.Postings.at.Goals as goal

pub get-requires : goal.get-requires
get-requires c =
    subst (λ n. c.args.i < n) (map.len-entries _
    ∙ ap length (sym (ap map.entries c.self.view_is) ∙ seen_entries _ c.self.invariant)) c.requires

pub returns : goal.returns
returns c =
    c.get.ensures ∙ ap (λ l. slice_index_or l c.args.i (0, 0)) (sym (seen_entries _ c.self.invariant)
    ∙ ap map.entries c.self.view_is)
