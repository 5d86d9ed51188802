use Rattle.std.proofs.Common.{sym, ◌∙◌}
use mathlib.Core.Bool.{false≢true}
use Rattle.elasticlunr_trie_nodes.proofs.Named.{pairs_are, same_both_ways, one_way, other_way}
use Rattle.elasticlunr_trie.proofs.inverted_index.same.same_postings.Goals as goal

pub includes-requires-clause-postings : goal.includes-requires-clause-postings
includes-requires-clause-postings c = pairs_are c.args.names.now c.args.postings.now c.requires.numbered

pub includes-requires-then-includes-clause-postings : goal.includes-requires-then-includes-clause-postings
includes-requires-then-includes-clause-postings c = pairs_are c.args.names2.now c.args.postings2.now
    c.requires.numbered2

pub returns-then-includes : goal.returns-then-includes
returns-then-includes c =
    let names = c.args.names.now in
    let names2 = c.args.names2.now in
    let P = c.args.postings.now in
    let Q = c.args.postings2.now in
    let one = c.includes.ensures in
    let other = c.includes-then-includes.ensures in (
      λ h. same_both_ways names c.requires.names P c.requires.numbered names2 c.requires.names2 Q c.requires.numbered2
          (one.0 c.if-includes.true) (other.0 h),
      λ same. other.1 (other_way names c.requires.names P c.requires.numbered names2 c.requires.names2 Q
          c.requires.numbered2 same),
    )

pub returns-else-includes : goal.returns-else-includes
returns-else-includes c =
    let one = c.includes.ensures in (
      λ h. absurd (false≢true (sym c.if-includes.false ∙ h)),
      λ same. one.1 (one_way c.args.names.now c.requires.names c.args.postings.now c.requires.numbered c.args.names2.now
          c.requires.names2 c.args.postings2.now c.requires.numbered2 same),
    )
