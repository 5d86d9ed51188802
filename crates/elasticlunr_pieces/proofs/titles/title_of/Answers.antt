use Rattle.std.proofs.Common.{string_bytes, unwrap_or, [], ap, sym, ◌∙◌, option_map}
use Rattle.std.specs.Option.{option_copied}
use Rattle.elasticlunr_json.proofs.Seen.{get_seen}
use Rattle.elasticlunr_pieces.proofs.titles.title_of.Goals as goal

pub returns-in-Some : goal.returns-in-Some
returns-in-Some c = c.as_str.ensures.value
    ∙ sym (ap (λ o. unwrap_or o []) (get_seen string_bytes c.args.document.now c.args.field.now
    ∙ ap (option_map string_bytes) (sym c.get.ensures.value ∙ ap option_copied c.in-Some.is)))

pub returns-in-None : goal.returns-in-None
returns-in-None c = sym (ap (λ o. unwrap_or o []) (get_seen string_bytes c.args.document.now c.args.field.now
    ∙ ap (option_map string_bytes) (sym c.get.ensures.value ∙ ap option_copied c.in-None.is)))
