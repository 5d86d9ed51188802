use Rattle.std.proofs.Common.{sym, ap, ◌∙◌, Some}
use Rattle.elasticlunr_trie_nodes.proofs.Places.{get_there, get_set_other}
use Rattle.elasticlunr_trie.proofs.inverted_index.value.take_value.Goals as goal

pub returns-clause-taken : goal.returns-clause-taken
returns-clause-taken c = get_there c.args.values.now c.args.i c.index-values-i.result c.requires
    ∙ ap Some (sym c.take.ensures.taken)

pub returns-clause-others : goal.returns-clause-others
returns-clause-others c k other = get_set_other c.args.values.now k c.args.i _ other
