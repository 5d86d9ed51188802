use Rattle.std.proofs.Common.{ap, sym, ◌∙◌, ◌++◌, append_assoc, arith, length-append, length}
use Rattle.elasticlunr_trie.specs.Printed.{stack_tokens}
use Rattle.elasticlunr_trie.proofs.Printing.{stack_push}
use Rattle.elasticlunr_trie.proofs.inverted_index.write.write_members.Goals as goal

pub loop-left-smaller : goal.loop-left-smaller
loop-left-smaller g c =
    let nodes = c.args.nodes.now in
    let names = c.args.order.names.now in
    let top = ap (stack_tokens names nodes) c.in-Some.ensures.items
    ∙ stack_push names nodes c.pop.new.self.items c.in-Some.left in
    let step = c.in_ok-write_next.ensures in
    omega (
      arith,
      ap length (top ∙ step.3),
      step.1,
      length-append step.0
          (stack_tokens names nodes c.write_next.new.stack.items),
    )

pub loop-left-preserved : goal.loop-left-preserved
loop-left-preserved g c =
    let nodes = c.args.nodes.now in
    let names = c.args.order.names.now in
    let top = ap (stack_tokens names nodes) c.in-Some.ensures.items
    ∙ stack_push names nodes c.pop.new.self.items c.in-Some.left in
    let step = c.in_ok-write_next.ensures in
    let written = g.W.Tokens.written c.loop-left.out in
    let left = stack_tokens names nodes c.write_next.new.stack.items in
    ap (λ ts. ts ++ left) step.2 ∙ append_assoc written step.0 left ∙ ap (λ ts. written ++ ts) (sym (top ∙ step.3))
    ∙ c.loop-left.invariant
