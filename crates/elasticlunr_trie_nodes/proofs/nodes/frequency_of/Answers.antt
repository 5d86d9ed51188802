use Rattle.std.proofs.Common.{sym, ap, ◌∙◌, option_and_then}
use Rattle.std.specs.FinMap.{get}
use Rattle.elasticlunr_trie_nodes.proofs.nodes.frequency_of.Goals as goal

pub returns : goal.returns
returns c =
    c.get.ensures
    ∙ ap (λ o. option_and_then (λ n. get c.args.postings.now n) o) (sym (sym c.number_of.ensures ∙ c.in_ok-number.was))
