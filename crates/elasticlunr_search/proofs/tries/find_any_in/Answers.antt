use Rattle.std.proofs.Common.{refl, sym, ap, subst, ◌∙◌, arith, is_some}
use Rattle.std.proofs.lemmas.List.{length-map, take_all}
use Rattle.std.specs.List.{list_any}
use Rattle.elasticlunr_text.specs.Text.{text_of, texts_of}
use Rattle.elasticlunr_trie.specs.References.{texts_in}
use Rattle.elasticlunr_trie.specs.Table.{posting}
use Rattle.elasticlunr_search.specs.Tries.{HaveAny}
use Rattle.elasticlunr_search.proofs.Steps.{step_any}
use Rattle.elasticlunr_search.proofs.Those.{have_any}
use Rattle.elasticlunr_search.proofs.tries.find_any_in.Goals as goal

pub loop-token-preserved : goal.loop-token-preserved
loop-token-preserved c r =
    step_any (λ t. is_some (posting c.args.trie.now t r)) c.args.tokens.now c.loop-token.token-index c.token-item.result
    c.as_str.result.now _ _ _
    (omega arith) c.token-item.is c.as_str.ensures.value (c.in_ok-put_references.ensures r) (c.loop-token.invariant r)
    refl

pub returns : goal.returns
returns c =
    let found = texts_in c.loop-token.found in
    let tokens = c.args.tokens.now in
    subst (HaveAny c.args.trie.now (texts_of tokens)) (sym c.in_ok-found.ensures.texts)
    (have_any c.args.trie.now (texts_of tokens) found c.in_ok-found.ensures.order
    (λ r. c.loop-token.invariant r ∙ ap (list_any (λ t. is_some (posting c.args.trie.now t r)))
    (take_all c.loop-token.token-index (texts_of tokens) (omega (arith, length-map tokens text_of)))))
