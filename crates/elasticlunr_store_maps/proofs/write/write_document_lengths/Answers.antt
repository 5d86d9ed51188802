use Rattle.std.proofs.Common.{rules, ◌≡◌, [], string_bytes, ◌∷◌, ◌++◌, sym, ap, ◌∙◌, append_assoc}
use Rattle.json.specs.Token.{Token, key}
use Rattle.elasticlunr_json.specs.Maps.{members, keyed, count}
use Rattle.elasticlunr_store_maps.specs.Contents.{length_map}
use Rattle.elasticlunr_json.specs.Tokens.{tokens_of}
use Rattle.elasticlunr_json.proofs.Seen.{on_ok}
use Rattle.elasticlunr_json.proofs.Sorted.{shown, entries_seen}
use Rattle.elasticlunr_store_maps.proofs.Writing.{one_more}
use Rattle.elasticlunr_store_maps.proofs.write.write_document_lengths.Goals as goal

pub returns : goal.returns
returns g c =
    let es = c.args.doc_info.now.entries in
    let old = g.W.Tokens.written c.args.out.now in
    let end = ap (λ rest. g.W.Tokens.written c.loop-doc_ref.out ++ tokens_of
    (members (keyed count) (shown (λ m. length_map m.entries) rest))) c.in-None.ensures.steps.0 in
    on_ok c.token-2.result _ _ (λ last. last ∙ sym end ∙ c.loop-doc_ref.invariant
    ∙ ap (λ ts. ts ++ tokens_of (members (keyed count) (shown (λ m. length_map m.entries) es)))
    c.in_ok-token.ensures
    ∙ append_assoc old _ _
    ∙ ap (λ xs. old ++ Token.begin_object ∷ tokens_of (members (keyed count) xs))
    (sym (entries_seen (λ m. length_map m.entries) es c.iter-doc_ref-items.ensures.ordered))) c.token-2.ensures

pub loop-doc_ref-init : goal.loop-doc_ref-init
loop-doc_ref-init g c = ap (λ es. g.W.Tokens.written c.token.new.self ++ tokens_of
    (members (keyed count) (shown (λ m. length_map m.entries) es)))
    (c.into_iter-doc_ref-iterator.ensures.into_iter_gives ∙ c.iter-doc_ref-items.ensures.rest)

pub loop-doc_ref-preserved : goal.loop-doc_ref-preserved
loop-doc_ref-preserved g c =
    let step : c.loop-doc_ref.doc_ref-iterator ≡ (c.in-Some.doc_ref.now, c.in-Some.lengths.now)
    ∷ c.next.new.self = search rules in
    let written_key : g.W.Tokens.written c.token-in-loop-doc_ref.new.self
    ≡ g.W.Tokens.written c.loop-doc_ref.out ++ key (string_bytes c.in-Some.doc_ref.now) ∷ [] = search rules in
    one_more _ _ _ _ _ _ _ c.in_ok-write_lengths.ensures written_key
    (ap (λ es. g.W.Tokens.written c.loop-doc_ref.out ++ tokens_of
    (members (keyed count) (shown (λ m. length_map m.entries) es))) (sym step) ∙ c.loop-doc_ref.invariant)
