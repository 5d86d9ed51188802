use Rattle.std.proofs.Common.{◌≡◌, Some, chars, sym, subst, ◌∙◌}
use Rattle.std.proofs.lemmas.Bool.{eqb-true}
use Rattle.elasticlunr_trie_nodes.specs.Trie.{step_of, walk}
use Rattle.elasticlunr_trie_nodes.specs.declared.nodes.Place.TheVariants.{Root, At}
use Rattle.elasticlunr_trie.proofs.TokenCache.{start_end}
use Rattle.elasticlunr_trie.proofs.inverted_index.ends.remember.Goals as goal

pub returns : goal.returns
returns c =
    let step = step_of c.args.root.now c.args.nodes.now in
    let leads = start_end step c.args.start c.in-At.k c.requires.start
    (eqb-true _ 0 (sym c.is_empty.ensures ∙ c.if-not-is_empty.false)) c.in-At.is in
    record {
      ends = c.put.ensures step c.requires.ends
          (subst (λ n. walk step Root (chars c.args.start.token.now) ≡ Some (At n)) (sym c.in-Ok.ensures.1) leads);
    }
