use Rattle.std.proofs.Common.{IsTrue, sym, subst, ◌∙◌}
use Rattle.elasticlunr_trie_nodes.specs.Nodes.{has, LosesOne}
use Rattle.elasticlunr_trie_nodes.proofs.Listed.{has_removed}
use Rattle.elasticlunr_trie_nodes.proofs.Unlisted.{loses_at}
use Rattle.elasticlunr_trie_nodes.proofs.lists.forget.Goals as goal

pub returns-in-Some-clause-loses : goal.returns-in-Some-clause-loses
returns-in-Some-clause-loses c =
    let place = c.in-Some.ensures.some in
    subst (λ js. LosesOne c.args.list.now.items js c.args.k) (sym c.remove.ensures)
    (loses_at c.args.list.now.items c.args.k c.in-Some.at place.0 place.1)

pub returns-in-Some-clause-keeps : goal.returns-in-Some-clause-keeps
returns-in-Some-clause-keeps c q apart h =
    let place = c.in-Some.ensures.some in
    subst (λ js. IsTrue (has js q)) (sym c.remove.ensures)
    (has_removed c.args.list.now.items c.in-Some.at q place.0 (λ e. apart (e ∙ place.1)) h)
