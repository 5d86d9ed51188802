use Rattle.std.proofs.Common.{ap, sym, ◌∙◌}
use Rattle.std.specs.FinMap as map
use Rattle.elasticlunr_trie_nodes.proofs.Frequencies.{seen_get}
use Rattle.elasticlunr_trie_nodes.proofs.postings.Postings.get.Goals as goal

pub returns : goal.returns
returns c =
    c.value_of.ensures
    ∙ sym (seen_get _ c.self.invariant c.args.number)
    ∙ ap (λ m. map.get m c.args.number) c.self.view_is
