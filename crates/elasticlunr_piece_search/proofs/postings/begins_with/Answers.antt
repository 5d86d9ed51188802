use Rattle.std.proofs.Common.{◌∷◌, sym, ap, ◌∙◌}
use Rattle.std.proofs.lemmas.Slice.Eq.{bytes_eq-Decides}
use Rattle.elasticlunr_piece_search.specs.Entries.{tokens_in}
use Rattle.elasticlunr_piece_search.proofs.postings.begins_with.Goals as goal

pub returns-in-Some-clause-yes : goal.returns-in-Some-clause-yes
returns-in-Some-clause-yes c is =
    let name = sym c.as_str.ensures.value
    ∙ (bytes_eq-Decides c.as_str.result.now c.args.first.now).0 (sym c.eq.ensures ∙ is) in (
      tokens_in c.next.new.self,
      ap tokens_in (sym c.iter.ensures.rest ∙ c.in-Some.ensures.steps) ∙ ap (λ t. t ∷ tokens_in c.next.new.self) name,
    )
