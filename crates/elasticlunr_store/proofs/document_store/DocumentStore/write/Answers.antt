use Rattle.std.proofs.Common.{◌++◌, sym, ap, ◌∙◌}
use Rattle.json.specs.Tree.{json_tokens}
use Rattle.serde_json.specs.Written.{outline}
use Rattle.serde_json.specs.Data.{string}
use Rattle.elasticlunr_json.specs.Maps.{keyed, count}
use Rattle.elasticlunr_store.specs.Contents.{store_object, store_value, text_map, document_texts, document_lengths}
use Rattle.elasticlunr_json.proofs.Seen.{on_ok}
use Rattle.elasticlunr_json.proofs.Sorted.{len_seen}
use Rattle.elasticlunr_json.proofs.Rows.{six}
use Rattle.std.proofs.Common.{rules}
use Rattle.elasticlunr_store.proofs.document_store.DocumentStore.write.Goals as goal

pub returns-clause-written : goal.returns-clause-written
returns-clause-written g c =
    let old = g.W.Tokens.written c.args.out.now in
    let docs = c.self.inside.docs.entries in
    let all = len_seen (λ m. text_map m.entries) docs c.len-length.ensures.ordered in
    on_ok c.write_last_members.result _ _ (λ last. six old _ _ _ _ _ _ _ _ _ _ _ _ c.in_ok-token.ensures
    c.in_ok-token-2.ensures c.in_ok-write_document_lengths.ensures c.in_ok-token-3.ensures
    c.in_ok-write_document_texts.ensures last
    ∙ ap (λ n. old ++ json_tokens (outline (store_object c.self.inside.save (keyed (keyed string) (document_texts docs))
    (keyed (keyed count) (document_lengths c.self.inside.doc_info.entries)) n))) (c.len-length.ensures.len
    ∙ sym all)
    ∙ ap (λ s. old ++ json_tokens (outline (store_value s))) c.self.view_is) c.write_last_members.ensures

pub returns-clause-contents : goal.returns-clause-contents
returns-clause-contents g c = search rules
