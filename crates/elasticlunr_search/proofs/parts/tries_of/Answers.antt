use Rattle.std.proofs.Common.{arith, sym, subst}
use Rattle.std.specs.Prelude.{IsSomeAnd}
use Rattle.std.specs.List.{AllZip}
use Rattle.serde_json.specs.View.{view}
use Rattle.elasticlunr_text.specs.Text.{bytes_of}
use Rattle.elasticlunr_search.specs.Fields.{HasWholeTrie}
use Rattle.elasticlunr_search.specs.declared.error.SearchError.TheVariants.{BadTries}
use Rattle.elasticlunr_search.proofs.Stops.{at_exit}
use Rattle.elasticlunr_search.proofs.FieldTries.{next_trie, no_trie, whole}
use Rattle.elasticlunr_search.proofs.parts.tries_of.Goals as goal

pub loop-name-preserved : goal.loop-name-preserved
loop-name-preserved c = next_trie (view c.in-Some.index.now) c.args.names.now c.loop-name.name-index c.name-item.result
    c.as_str.result.now c.loop-name.tries.items c.push.new.self.items c.in_ok-trie_of.field-0
    (omega arith) c.name-item.is c.as_str.ensures.value c.loop-name.invariant c.in_ok-trie_of.ensures.ok
    c.in_ok-push.ensures.items

pub returns-in_err-trie_of-clause-err : goal.returns-in_err-trie_of-clause-err
returns-in_err-trie_of-clause-err c = at_exit c.from_residual.result BadTries _ _ c.in_err-trie_of.field-0.0
    c.from_residual.ensures.1
    (λ none tables has. no_trie (view c.in-Some.index.now) c.args.names.now c.loop-name.name-index c.name-item.result
    (omega arith) c.name-item.is
    (λ table trie. none table (subst (λ k. HasWholeTrie (view c.in-Some.index.now) k table) (sym c.as_str.ensures.value)
    trie)) tables
    (subst (λ o. IsSomeAnd o (λ index. AllZip (HasWholeTrie index) (bytes_of c.args.names.now) tables))
    (sym c.in-Some.ensures) has))
    c.in_err-trie_of.ensures.err

pub returns-clause-ok : goal.returns-clause-ok
returns-clause-ok c = subst (λ o. IsSomeAnd o (λ index. AllZip (HasWholeTrie index) (bytes_of c.args.names.now)
    c.loop-name.tries.items)) c.in-Some.ensures
    (whole (view c.in-Some.index.now) c.args.names.now c.loop-name.name-index c.loop-name.tries.items
    c.loop-name-test.false c.loop-name.invariant)
