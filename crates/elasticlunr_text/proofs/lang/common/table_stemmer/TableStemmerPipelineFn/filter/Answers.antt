use Rattle.std.proofs.Common.{◌≡◌, ap, None, refl, Some, sym, ◌∙◌}
use Rattle.elasticlunr_error.specs.Text.{text_of}
use Rattle.elasticlunr_text.specs.Trimmed.{unless_empty}
use Rattle.elasticlunr_text.proofs.TextLemmas.{is_not_empty-text_of}
use Rattle.elasticlunr_text.proofs.lang.common.table_stemmer.TableStemmerPipelineFn.filter.Goals as goal

pub returns-then-is_empty : goal.returns-then-is_empty
returns-then-is_empty c =
    let stem = c.in_ok-stem.stem in
    let dropped : None ≡ unless_empty (text_of stem) =
    rw (is_not_empty-text_of stem, sym c.is_empty.ensures ∙ c.if-is_empty.true) refl in
    dropped ∙ ap unless_empty c.in_ok-stem.ensures

pub returns : goal.returns
returns c =
    let stem = c.in_ok-stem.stem in
    let left : Some (text_of stem) ≡ unless_empty (text_of stem) =
    rw (is_not_empty-text_of stem, sym c.is_empty.ensures ∙ c.if-is_empty.false) refl in
    left ∙ ap unless_empty c.in_ok-stem.ensures
