use Rattle.std.proofs.Common.{sym, ap, subst, ◌∙◌, ◌∷◌, [], ◌+◌}
use Rattle.std.proofs.lemmas.Str.{IsUtf8-past_char}
use Rattle.std.specs.Str.{chars, IsUtf8}
use Rattle.std.specs.Str.Iter.{chars_rest}
use Rattle.std.specs.FinMap as map
use Rattle.elasticlunr_trie_nodes.specs.Branch.{IsInner}
use Rattle.elasticlunr_trie_nodes.proofs.Branches.{no_nodes, inner_push}
use Rattle.elasticlunr_trie_nodes.proofs.Letters.{one_more, all_read}
use Rattle.elasticlunr_trie_nodes.proofs.branch.new_branch.Goals as goal

pub loop-c-init : goal.loop-c-init
loop-c-init c =
    let same = ap chars_rest c.into_iter-c-iterator.ensures.into_iter_gives ∙ c.chars-c-items.ensures.rest in
    record {
      utf8 = subst IsUtf8 (sym same) c.utf8.text;
      split = ap chars (sym same);
      inner = rw c.in_ok-branch.ensures.items (no_nodes c.args.number);
    }

pub loop-c-preserved : goal.loop-c-preserved
loop-c-preserved c = record {
  utf8 = IsUtf8-past_char _ _ c.in-Some.c c.loop-c.invariant.utf8 c.in-Some.ensures.steps.0;
  split = one_more _ _ _ _ c.in-Some.c c.loop-c.invariant.utf8 c.loop-c.invariant.split c.in-Some.ensures.steps.0;
  inner = rw c.in_ok-push.ensures.items (inner_push c.args.number c.loop-c.yielded c.loop-c.branch.items c.in-Some.c _
      c.loop-c.invariant.inner
      (c.one.ensures ∙ (λ i. c.in_ok-next.ensures.ok i ∷ [])
      ∙ (λ i. (c.in-Some.c, c.args.number + (c.len.ensures ∙ c.loop-c.branch.ok.0) i) ∷ []))
      c.new-in-loop-c.ensures);
}

pub returns : goal.returns
returns c =
    let read = all_read (chars c.args.text.now) c.loop-c.yielded _ c.loop-c.invariant.split c.in-None.ensures.steps.0.0
    in
    record {
      front = c.loop-c.branch.items;
      leaf = record { children = c.new-2.result; postings = c.set.new.self };
      split = c.in_ok-push-2.ensures.items;
      inner = subst (λ t. IsInner c.args.number t c.loop-c.branch.items) (sym read) c.loop-c.invariant.inner;
      no_children = c.new-2.ensures;
      posting = c.in_ok-set.ensures.ok ∙ ap (λ P. map.insert P c.args.reference c.args.term_freq)
          c.new-postings.ensures;
    }
