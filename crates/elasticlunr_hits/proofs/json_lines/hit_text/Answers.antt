use Rattle.std.proofs.Common.{◌≡◌, ◌≤◌, ◌∙◌, Some, ap, subst, sym, option_map, string_bytes}
use Rattle.std.proofs.lemmas.Result.{IfOk-weaker}
use Rattle.serde_json.specs.Data.{depth, string}
use Rattle.serde_json.specs.Read.{max_depth, read}
use Rattle.serde_json.specs.Written.{compact_text, has_float}
use Rattle.elasticlunr_json.proofs.Sorted.{view-String}
use Rattle.elasticlunr_store.specs.Contents.{text_map}
use Rattle.elasticlunr_hits.specs.Lines.{object_text, texts_value}
use Rattle.elasticlunr_hits.proofs.Texts.{flat, no_fraction, put_together}
use Rattle.elasticlunr_hits.proofs.json_lines.hit_text.Goals as goal

pub returns : goal.returns
returns c =
    let hit = c.args.hit.now in
    let texts = option_map (λ t. text_map t.entries) c.args.texts in
    let score = string_bytes c.in_ok-score.score in
    let named = view-String c.in_ok-clone.field-0 ∙ ap string c.in_ok-clone.ensures.cases in
    let reference : string_bytes c.in_ok-reference.reference ≡ compact_text (string (string_bytes hit.reference)) =
    c.in_ok-reference.ensures.text (ap has_float named) ∙ ap compact_text named in
    let document : string_bytes c.in_ok-document.document ≡ compact_text (texts_value texts) =
    c.in_ok-document.ensures.text (ap has_float c.in_ok-document_value.ensures ∙ no_fraction texts)
    ∙ ap compact_text c.in_ok-document_value.ensures in
    IfOk-weaker c.format.result _ _ (λ text is. record {
      score = score;
      of_score = record {
        compact = c.in_ok-score.ensures.compact;
        is_read = subst (λ v. read score ≡ Some v) c.score_value.ensures (c.in_ok-score.ensures.reads_back
            (subst (λ v. depth v ≤ max_depth) (sym c.score_value.ensures) (flat hit.score)));
      };
      is = put_together (string_bytes c.in_ok-reference.reference) score (string_bytes c.in_ok-document.document)
          (string_bytes text) is ∙ (λ j. object_text (reference j) score (document j));
    }) c.format.ensures.ok
