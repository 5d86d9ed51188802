use Rattle.std.proofs.Common.{sym, ap, ◌∙◌, ◌++◌, ◌∷◌, []}
use Rattle.std.specs.Str.{chars}
use Rattle.std.specs.Prelude.{encode_utf8}
use Rattle.elasticlunr_trie_nodes.specs.Pairs.{value_of}
use Rattle.elasticlunr_trie_nodes.specs.Trie.{step_of}
use Rattle.elasticlunr_trie_nodes.proofs.Letters.{one_more}
use Rattle.elasticlunr_trie_nodes.proofs.Forest.{walk_to}
use Rattle.elasticlunr_trie_nodes.specs.declared.nodes.Place.TheVariants.{Root}
use Rattle.elasticlunr_trie.proofs.inverted_index.starts.step.Goals as goal

-- the character is taken off the text that is left
pub returns-in-Some-child-clause-start : goal.returns-in-Some-child-clause-start
returns-in-Some-child-clause-start c =
    let held = c.requires.start in
    let parts = sym c.chars-letters.ensures.rest ∙ c.in-Some.ensures.steps.0
    ∙ ap (λ t. encode_utf8 c.in-Some.c ++ t) (sym c.as_str.ensures) in
    let here = ap (λ es. value_of es c.in-Some.c) c.children_at.ensures in
    record {
      known = held.known ++ c.in-Some.c ∷ [];
      split = one_more (chars c.args.start.token.now) held.known c.args.start.rest.now c.as_str.result.now c.in-Some.c
          held.rest held.split parts;
      leads = walk_to (step_of c.args.root.now c.args.nodes.now) held.known c.in-Some.c c.in-Some-child.k Root
          c.args.start.place held.leads (sym here ∙ sym c.child.ensures ∙ c.in-Some-child.is);
      token = held.token;
      rest = c.as_str.utf8;
    }
