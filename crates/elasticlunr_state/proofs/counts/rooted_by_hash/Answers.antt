use Rattle.std.proofs.Common.{◌≡◌, [], ◌∷◌, ◌++◌, map, ap, sym, subst, ◌∙◌}
use Rattle.std.specs.Str.{chars}
use Rattle.std.proofs.lemmas.List.{map-append}
use Rattle.std.proofs.lemmas.Simd.{map-map}
use Rattle.std.proofs.lemmas.Iterator.Consumers.{YieldsList-from_rest, YieldsList-end}
use Rattle.elasticlunr_error.specs.Text.{text_of}
use Rattle.elasticlunr_trie.specs.Table.{told_tokens}
use Rattle.elasticlunr_state.specs.Counted.{AreRooted, counted_texts}
use Rattle.elasticlunr_state.proofs.Counting.{rooted_more}
use Rattle.elasticlunr_state.proofs.counts.rooted_by_hash.Goals as goal

pub loop-token-init : goal.loop-token-init
loop-token-init c = subst (λ ts. AreRooted [] (told_tokens ts)) (sym c.in_ok-rooted.ensures.items) tt

pub loop-token-preserved : goal.loop-token-preserved
loop-token-preserved c =
    let spelled : chars c.as_str.result.now ≡ text_of c.in-Some.token.now = ap chars c.as_str.ensures.value in
    let more = rooted_more _ _ (text_of c.in-Some.token.now) (chars c.as_str.result.now) c.in-Some.count.now
    c.root.result c.loop-token.invariant spelled c.root.ensures in
    subst (λ cs. AreRooted cs (told_tokens c.push.new.self.items))
    (sym (map-append (λ e. (text_of e.0.now, e.1.now)) c.loop-token.yielded _))
    (subst (AreRooted (map (λ e. (text_of e.0.now, e.1.now)) c.loop-token.yielded ++
    (text_of c.in-Some.token.now, c.in-Some.count.now) ∷ []))
    (sym (ap told_tokens c.in_ok-push.ensures.items ∙ map-append (λ t. (chars t.0.now, t.1)) c.loop-token.rooted.items
    _)) more)

pub returns-clause-rooted : goal.returns-clause-rooted
returns-clause-rooted c =
    let all = c.into_iter-token-iterator.ensures.into_iter_gives ∙ c.iter-token-items.ensures.rest in
    let t = YieldsList-end (YieldsList-from_rest c.args.counts.now.entries all) c.loop-token.yielded
    c.loop-token.token-iterator c.loop-token.yielded_by c.next.result c.next.new.self c.in-None.is
    c.next.ensures.steps in
    subst (λ cs. AreRooted cs (told_tokens c.loop-token.rooted.items)) (sym (map-map _ _ c.loop-token.yielded)
    ∙ ap counted_texts t.0) c.loop-token.invariant
