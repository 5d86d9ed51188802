use Rattle.std.proofs.Common.{◌≡◌, true, false, ◌++◌, ◌∷◌, [], cond, sym, ap, ◌∙◌, append-nil}
use Rattle.std.specs.List.{slice_get}
use Rattle.std.specs.Str.{chars}
use Rattle.elasticlunr_error.specs.Text.{text_of, texts_of}
use Rattle.elasticlunr_trie_nodes.specs.Nodes.{children_of}
use Rattle.elasticlunr_trie.specs.Visits.{is_posted, posted}
use Rattle.elasticlunr_trie.proofs.Visiting.{advances_child, advances_back, chars_before, chars_behind, texts_behind}
use Rattle.elasticlunr_trie.proofs.inverted_index.tokens.visit_next.Goals as goal
use Rattle.elasticlunr_trie.proofs.inverted_index.tokens.visit_next.Goals.{then-has_posting+in_ok-clone-in-Some+in_ok-push-in-Some-2}
use Rattle.elasticlunr_trie.proofs.inverted_index.tokens.visit_next.Goals.{else-has_posting}

pub returns-in_ok-push-in-Some-4 : goal.returns-in_ok-push-in-Some-4
returns-in_ok-push-in-Some-4 c n level =
    let t = text_of c.args.path.now in
    let t2 = text_of c.push.new.self in
    let child = c.in-Some.child.now in
    let old = c.args.found.now.items in
    let path : t2 ≡ t ++ child.0 ∷ [] = chars_behind c.args.path.now c.push.new.self c.character.result
    c.in_ok-push-in-Some.ensures.bytes ∙ ap (λ x. t ++ x ∷ []) c.character.ensures in
    let number : c.node-k.result ≡ child.1 = c.node-k.ensures in
    let more : texts_of c.if-has_posting.found.items ≡ texts_of old ++ posted c.args.nodes.now ((t2, child.1) ∷ []) =
    elim c.if-has_posting.branch [
      | then-has_posting+in_ok-clone-in-Some+in_ok-push-in-Some-2 w ↦
          let is : is_posted c.args.nodes.now child.1 ≡ true = ap (is_posted c.args.nodes.now) (sym number)
          ∙ sym w.if-has_posting.ensures in
          ap (λ v. texts_of v.items) w.found-is
          ∙ texts_behind old w.push-then-has_posting.new.self.items w.in_ok-clone-in-Some.field-0 t2
          w.in_ok-push-in-Some-2.ensures.items (ap chars w.in_ok-clone-in-Some.ensures.cases)
          ∙ ap (λ b. texts_of old ++ cond b (t2 ∷ []) []) (sym is)
      | else-has_posting w ↦
          let is : is_posted c.args.nodes.now child.1 ≡ false = ap (is_posted c.args.nodes.now) (sym number)
          ∙ sym w.if-has_posting.ensures in
          ap (λ v. texts_of v.items) w.found-is ∙ sym (append-nil (texts_of old))
          ∙ ap (λ b. texts_of old ++ cond b (t2 ∷ []) []) (sym is)
    ] in
    advances_child c.args.nodes.now c.requires n t c.args.children.now c.args.stack.now.items (texts_of old) t2
    c.push-in-Some-2.new.self.items (texts_of c.if-has_posting.found.items) child.0 child.1 c.in-Some.rest
    c.children_of.result
    level c.in-Some.ensures.cases.0 path (c.in_ok-push-in-Some-4.ensures.items
    ∙ ap (λ ls. ls ++ c.children_of.result ∷ []) c.in_ok-push-in-Some-3.ensures.items) (c.children_of.ensures
    ∙ ap (λ k. children_of (slice_get c.args.nodes.now k)) number) more

pub returns-in-None : goal.returns-in-None
returns-in-None c n level =
    advances_back c.args.nodes.now c.requires n (text_of c.args.path.now) c.args.children.now c.args.stack.now.items
    (texts_of c.args.found.now.items) (text_of c.pop.new.self)
    level c.in-None.ensures.cases (chars_before c.args.path.now c.pop.new.self c.pop.result c.pop.ensures.bytes
    c.pop.ensures.none)
