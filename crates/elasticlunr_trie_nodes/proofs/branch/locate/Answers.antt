use Rattle.std.proofs.Common.{sym, ap, ◌∙◌, ◌++◌, ◌∷◌, []}
use Rattle.std.specs.Str.{chars}
use Rattle.std.specs.Prelude.{encode_utf8}
use Rattle.elasticlunr_trie_nodes.specs.Pairs.{value_of}
use Rattle.elasticlunr_trie_nodes.specs.Trie.{step_of}
use Rattle.elasticlunr_trie_nodes.proofs.Letters.{one_more}
use Rattle.elasticlunr_trie_nodes.proofs.Forest.{walk_to}
use Rattle.elasticlunr_trie_nodes.specs.declared.nodes.Place.TheVariants.{Root}
use Rattle.elasticlunr_trie_nodes.proofs.branch.locate.Goals as goal

-- the character is taken off the text that is left
pub loop-c-preserved : goal.loop-c-preserved
loop-c-preserved c =
    let held = c.loop-c.invariant in
    let parts = held.1 ∙ c.in-Some.ensures.steps.0 ∙ ap (λ t. encode_utf8 c.in-Some.c ++ t) (sym c.as_str-rest.ensures)
    in
    let here = ap (λ es. value_of es c.in-Some.c) c.children_at.ensures in (
      c.as_str-rest.utf8,
      c.as_str-rest.ensures,
      (
        held.2.0 ++ c.in-Some.c ∷ [],
        one_more (chars c.args.start.token.now) held.2.0 c.loop-c.rest.now c.as_str-rest.result.now c.in-Some.c held.0
            held.2.1 parts,
        walk_to (step_of c.args.root.now c.args.nodes.now) held.2.0 c.in-Some.c c.in-Some-child.k Root c.loop-c.place
            held.2.2 (sym here ∙ sym c.child.ensures ∙ c.in-Some-child.is),
      ),
    )

pub loop-c-init : goal.loop-c-init
loop-c-init c = (
  c.requires.start.rest,
  sym c.chars-letters.ensures.rest,
  (c.requires.start.known, c.requires.start.split, c.requires.start.leads),
)
