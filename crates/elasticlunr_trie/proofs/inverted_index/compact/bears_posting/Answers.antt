use Rattle.std.proofs.Common.{refl, inl, inr, arith}
use Rattle.std.specs.FinMap.{len-entries}
use Rattle.elasticlunr_trie.proofs.Compact.{some_posting, bare_posting}
use Rattle.elasticlunr_trie.proofs.inverted_index.compact.bears_posting.Goals as goal

pub returns-then-len-gt0 : goal.returns-then-len-gt0
returns-then-len-gt0 c = (
  λ _. inl (some_posting c.args.node.now.postings
      (λ none. omega (arith, c.if-len-gt0.true, c.len.ensures, len-entries c.args.node.now.postings, none))),
  λ _. refl,
)

pub returns : goal.returns
returns c =
    let found = rw c.as_slice.ensures at c.has_marked.ensures in (
      λ h. inr (found.0 h),
      λ either. elim either [
        | inl own ↦ absurd (bare_posting c.args.node.now.postings (omega (
          arith,
          c.if-len-gt0.false,
          c.len.ensures,
          len-entries c.args.node.now.postings,
        )) own.0 own.1 own.2)
        | inr other ↦ found.1 other
      ],
    )
