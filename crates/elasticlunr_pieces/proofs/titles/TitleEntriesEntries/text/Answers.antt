use Rattle.std.proofs.Common.{◌++◌, ◌∷◌, get_or, sym, ap, ◌∙◌, []}
use Rattle.json.specs.Print.{print}
use Rattle.json.specs.Token.{Token}
use Rattle.serde_json.specs.Data.{string}
use Rattle.serde_json.proofs.Texts.{print-outline}
use Rattle.elasticlunr_pieces.proofs.FieldNames.{title_at}
use Rattle.elasticlunr_pieces.proofs.titles.TitleEntriesEntries.text.Goals as goal

pub returns : goal.returns
returns c =
    let titles = c.args.self.now.titles.now in
    let title = (get_or titles c.args.at (record { ref_ptr = (0, 0); now = [] })).now in
    c.into_string.ensures.text ∙ ap print (c.in_ok-token.ensures
    ∙ ap (λ ts. ts ++ Token.string title ∷ []) c.in_ok-out.ensures)
    ∙ print-outline (string title) ∙ sym (title_at titles c.args.at (record { ref_ptr = (0, 0); now = [] }) c.requires)
