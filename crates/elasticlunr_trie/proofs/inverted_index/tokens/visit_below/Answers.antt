use Rattle.std.proofs.Common.{◌≡◌, ◌+◌, ◌++◌, ◌∷◌, [], length, sym, ap, ◌∙◌, arith, append_assoc, length-append}
use Rattle.std.specs.Str.{chars}
use Rattle.elasticlunr_error.specs.Text.{text_of, texts_of}
use Rattle.elasticlunr_trie.specs.Visits.{left, posted}
use Rattle.elasticlunr_trie.proofs.Visiting.{left_first}
use Rattle.elasticlunr_trie.proofs.Visits.{posted_append}
use Rattle.elasticlunr_trie.proofs.inverted_index.tokens.visit_below.Goals as goal

pub loop-left-smaller : goal.loop-left-smaller
loop-left-smaller c =
    let nodes = c.args.nodes.now in
    let n = length (chars c.args.text.now) in
    let t = text_of c.loop-left.path in
    let rest = c.pop.new.self.items in
    let count : length c.loop-left.stack.items ≡ length rest + 1 = ap length c.in-Some.ensures.items
    ∙ length-append rest (c.in-Some.left ∷ []) in
    let level : length t ≡ n + length rest =
    omega (
      arith,
      count,
      c.loop-left.invariant.level (λ e. let none : length c.loop-left.stack.items
          ≡ 0 = ap length e in omega (arith, none, count)),
    ) in
    let step = c.in_ok-visit_next.ensures n level in
    let first = left_first nodes n t rest c.loop-left.stack.items c.in-Some.left c.in-Some.ensures.items level in
    omega (
      arith,
      count,
      ap length (first ∙ step.split),
      length-append step.visited
          (left nodes n (text_of c.visit_next.new.path) c.visit_next.new.stack.items),
      step.smaller,
    )

pub loop-left-preserved : goal.loop-left-preserved
loop-left-preserved c =
    let nodes = c.args.nodes.now in
    let n = length (chars c.args.text.now) in
    let t = text_of c.loop-left.path in
    let rest = c.pop.new.self.items in
    let count : length c.loop-left.stack.items ≡ length rest + 1 = ap length c.in-Some.ensures.items
    ∙ length-append rest (c.in-Some.left ∷ []) in
    let level : length t ≡ n + length rest =
    omega (
      arith,
      count,
      c.loop-left.invariant.level (λ e. let none : length c.loop-left.stack.items
          ≡ 0 = ap length e in omega (arith, none, count)),
    ) in
    let step = c.in_ok-visit_next.ensures n level in
    let first = left_first nodes n t rest c.loop-left.stack.items c.in-Some.left c.in-Some.ensures.items level in
    let after = left nodes n (text_of c.visit_next.new.path) c.visit_next.new.stack.items in
    record {
      level = step.level;
      tokens = ap (λ ts. ts ++ posted nodes after) step.more ∙ append_assoc (texts_of c.loop-left.found.items)
          (posted nodes step.visited) (posted nodes after)
          ∙ ap (λ ts. texts_of c.loop-left.found.items ++ ts)
          (sym (ap (posted nodes) (first ∙ step.split) ∙ posted_append nodes step.visited after))
          ∙ c.loop-left.invariant.tokens;
    }
