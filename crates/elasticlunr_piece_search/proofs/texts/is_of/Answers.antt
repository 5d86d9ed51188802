use Rattle.std.proofs.Common.{◌≡◌, Some, None, true≢false, option_map, string_bytes, refl, sym, ap, ◌∙◌}
use Rattle.std.proofs.lemmas.Slice.Eq.{bytes_eq-Decides}
use Rattle.elasticlunr_error.specs.Text.{Bytes}
use Rattle.elasticlunr_json.proofs.Seen.{get_seen}
use Rattle.elasticlunr_store.specs.Contents.{text_map}
use Rattle.elasticlunr_piece_search.proofs.Filling.{for_name}
use Rattle.elasticlunr_piece_search.proofs.texts.is_of.Goals as goal

one : (a b : Bytes) → Some a ≡ Some b → a ≡ b
one a b e = cc

none : (b : Bytes) → None ≡ Some b → ⊥
none b e = cc

pub returns-in-Some-get : goal.returns-in-Some-get
returns-in-Some-get c =
    let there = ap (option_map string_bytes) c.in-Some-get.ensures.value
    ∙ sym (get_seen string_bytes c.args.texts.now c.in-Some.name.now) in
    let named = for_name c.args.name c.in-Some.name c.in-Some.is (string_bytes c.args.reference.now)
    (text_map c.args.texts.now.entries) in (
      λ is. named.0 (sym there ∙ ap Some (sym c.as_str.ensures.value
          ∙ (bytes_eq-Decides c.as_str.result.now c.as_str-in-Some-get.result.now).0 (sym c.eq.ensures ∙ is)
          ∙ c.as_str-in-Some-get.ensures.value)),
      λ has. c.eq.ensures ∙ (bytes_eq-Decides c.as_str.result.now c.as_str-in-Some-get.result.now).1
          (c.as_str.ensures.value ∙ one _ _ (there ∙ named.1 has) ∙ sym c.as_str-in-Some-get.ensures.value),
    )

pub returns-in-None : goal.returns-in-None
returns-in-None c =
    let there = ap (option_map string_bytes) c.in-None.ensures.value
    ∙ sym (get_seen string_bytes c.args.texts.now c.in-Some.name.now) in
    let named = for_name c.args.name c.in-Some.name c.in-Some.is (string_bytes c.args.reference.now)
    (text_map c.args.texts.now.entries) in
    (λ e. absurd (true≢false (sym e)), λ has. absurd (none _ (there ∙ named.1 has)))
