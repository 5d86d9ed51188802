use Rattle.std.proofs.Common.{rules, ◌≡◌, [], ◌∷◌, ◌++◌, sym, ap, ◌∙◌, append_assoc, string_bytes}
use Rattle.json.specs.Token.{Token, key}
use Rattle.serde_json.specs.Data.{string}
use Rattle.elasticlunr_json.specs.Maps.{members}
use Rattle.elasticlunr_json.specs.Tokens.{tokens_of}
use Rattle.elasticlunr_json.proofs.Seen.{on_ok}
use Rattle.elasticlunr_json.proofs.Sorted.{shown, entries_seen}
use Rattle.elasticlunr_store_maps.proofs.Writing.{one_more}
use Rattle.elasticlunr_pieces.proofs.texts.write_document.Goals as goal

pub returns : goal.returns
returns g c =
    let es = c.args.document.now.entries in
    let old = g.W.Tokens.written c.args.out.now in
    let end = ap (λ rest. g.W.Tokens.written c.loop-field.out ++ tokens_of
    (members (string) (shown (string_bytes) rest))) c.in-None.ensures.steps.0 in
    on_ok c.token-2.result _ _ (λ last. last ∙ sym end ∙ c.loop-field.invariant
    ∙ ap (λ ts. ts ++ tokens_of (members (string) (shown (string_bytes) es))) c.in_ok-token.ensures
    ∙ append_assoc old _ _
    ∙ ap (λ xs. old ++ Token.begin_object ∷ tokens_of (members (string) xs))
    (sym (entries_seen (string_bytes) es c.iter-field-items.ensures.ordered))) c.token-2.ensures

pub loop-field-init : goal.loop-field-init
loop-field-init g c = ap (λ es. g.W.Tokens.written c.token.new.self ++ tokens_of
    (members (string) (shown (string_bytes) es))) (c.into_iter-field-iterator.ensures.into_iter_gives
    ∙ c.iter-field-items.ensures.rest)

pub loop-field-preserved : goal.loop-field-preserved
loop-field-preserved g c =
    let step : c.loop-field.field-iterator ≡ (c.in-Some.field.now, c.in-Some.text.now)
    ∷ c.next.new.self = search rules in
    let written_key : g.W.Tokens.written c.token-in-loop-field.new.self
    ≡ g.W.Tokens.written c.loop-field.out ++ key (string_bytes c.in-Some.field.now) ∷ [] = search rules in
    one_more _ _ _ _ _ _ _ (c.in_ok-token-3.ensures
    ∙ ap (λ bytes. g.W.Tokens.written c.token-in-loop-field.new.self ++ Token.string bytes ∷ [])
    c.deref-in-loop-field.ensures) written_key
    (ap (λ es. g.W.Tokens.written c.loop-field.out ++ tokens_of (members (string) (shown (string_bytes) es))) (sym step)
    ∙ c.loop-field.invariant)
