use Rattle.std.proofs.Common.{◌≡◌, ap, sym, ◌∙◌, ◌++◌, [], arith, ℕ, length}
use Rattle.elasticlunr_trie_nodes.specs.Trie.{entries_at, named}
use Rattle.elasticlunr_trie.specs.Printed.{place_members, children_members, node_tree, left_members, stack_tokens}
use Rattle.elasticlunr_trie.specs.Printed.{postings_before}
use Rattle.elasticlunr_json.specs.Tokens.{tokens_of}
use Rattle.elasticlunr_trie.specs.declared.inverted_index.write.Left.TheVariants.{WithPostings, WithoutPostings}
use Rattle.elasticlunr_trie.proofs.Finishing.{some_of}
use Rattle.elasticlunr_trie.proofs.Printing.{above_d, up_to_d, opened, postings_first_more}
use Rattle.elasticlunr_trie.proofs.inverted_index.write.write_next.Goals as goal
use Rattle.elasticlunr_trie.proofs.inverted_index.write.write_next.Goals.{in_default-via-in-Some+else-character-le100}
use Rattle.elasticlunr_trie.proofs.inverted_index.write.write_next.Goals.{in_default-via-in_default}

-- a child up to `d`
pub returns-in_ok-open_child-in-Some : goal.returns-in_ok-open_child-in-Some
returns-in_ok-open_child-in-Some g c =
    let nodes = c.args.nodes.now in
    let names = c.args.order.names.now in
    let stack = c.args.stack.now.items in
    let P = named names (entries_at [] nodes c.in-WithPostings.place) in
    let first = c.in-Some.child.now in
    let rest = c.in-Some.rest in (
      _,
      omega arith,
      c.in_ok-open_child-in-Some.ensures.written,
      ap (λ l. tokens_of (left_members names nodes l) ++ stack_tokens names nodes stack) c.in-WithPostings.is
          ∙ ap (λ es. tokens_of (place_members (node_tree names nodes) P es) ++ stack_tokens names nodes stack)
          c.in-Some.ensures.cases.0
          ∙ ap (λ ms. tokens_of ms ++ stack_tokens names nodes stack)
          (up_to_d names nodes P first.0 first.1 rest.now
          (omega (arith, c.if-character-le100.true, c.character.ensures)))
          ∙ opened names nodes c.requires.trees stack (WithPostings c.in-WithPostings.place rest) first.0 first.1
          c.push.new.self.items c.open_child.new.stack.items c.in_ok-push-in-Some.ensures.items
          (c.in_ok-open_child-in-Some.ensures.left names),
    )

-- `df` and `docs`
pub returns-in_ok-push-in_default : goal.returns-in_ok-push-in_default
returns-in_ok-push-in_default g c =
    let nodes = c.args.nodes.now in
    let names = c.args.order.names.now in
    let stack = c.args.stack.now.items in
    let P = named names (entries_at [] nodes c.in-WithPostings.place) in
    let es = c.in-WithPostings.children in
    let now : place_members (node_tree names nodes) P es.now
    ≡ postings_before P (children_members (node_tree names nodes) es.now) =
    above_d names nodes P es.now (λ d k rest is. elim c.in_default.branch [
      | in_default-via-in-Some+else-character-le100 w ↦
          let both = sym w.in-Some.ensures.cases.0 ∙ is in
          let heads : w.in-Some.child.now ≡ (d, k) = cc in
          omega (arith, w.if-character-le100.false, w.character.ensures, ap (λ (p : ℕ × ℕ). p.0) heads)
      | in_default-via-in_default w ↦
          let some = some_of c.split_first.result (c.split_first.ensures.variant.1 (omega (arith, ap length is))) in
          absurd (w.in_default.not-Some some.0 some.1)
    ]) in (
      _,
      omega arith,
      c.in_ok-write_postings-in_default.ensures,
      ap (λ l. tokens_of (left_members names nodes l) ++ stack_tokens names nodes stack) c.in-WithPostings.is
          ∙ ap (λ ms. tokens_of ms ++ stack_tokens names nodes stack) now
          ∙ postings_first_more names nodes P stack (WithoutPostings es) _ c.in_ok-push-in_default.ensures.items,
    )

-- a child above `d`
pub returns-in_ok-open_child-in-Some-split_first :
    goal.returns-in_ok-open_child-in-Some-split_first
returns-in_ok-open_child-in-Some-split_first g c =
    let nodes = c.args.nodes.now in
    let names = c.args.order.names.now in
    let stack = c.args.stack.now.items in
    let first = c.in-Some-split_first.child.now in
    let rest = c.in-Some-split_first.rest in (
      _,
      omega arith,
      c.in_ok-open_child-in-Some-split_first.ensures.written,
      ap (λ l. tokens_of (left_members names nodes l) ++ stack_tokens names nodes stack) c.in-WithoutPostings.is
          ∙ ap (λ es. tokens_of (children_members (node_tree names nodes) es) ++ stack_tokens names nodes stack)
          c.in-Some-split_first.ensures.cases.0
          ∙ opened names nodes c.requires.trees stack (WithoutPostings rest) first.0 first.1
          c.push-in-Some-split_first.new.self.items c.open_child-in-Some-split_first.new.stack.items
          c.in_ok-push-in-Some-split_first.ensures.items (c.in_ok-open_child-in-Some-split_first.ensures.left
          names),
    )
