use Rattle.std.proofs.Common.{length, All, subst, sym, ◌∙◌}
use Rattle.std.specs.List.Sorted.{IsBinarySearchResult, IsSearchInRange}
use Rattle.elasticlunr_error.specs.Text.{text_cmp}
use Rattle.elasticlunr_pieces.specs.Numbers.{told_texts}
use Rattle.elasticlunr_pieces.specs.Slots.{HasPlace}
use Rattle.elasticlunr_pieces.proofs.Numbering.{search_numbers}
use Rattle.elasticlunr_pieces.proofs.numbers.Numbers.number.Goals as goal

pub returns-in-Some : goal.returns-in-Some
returns-in-Some c =
    let it = c.args.self.now in
    let texts = told_texts it.references.items in
    sym (c.in-Some.ensures texts (subst (All (HasPlace texts)) (sym c.as_slice-slots.ensures.value) it.placed))

pub returns-in-None : goal.returns-in-None
returns-in-None c =
    let r = c.args.reference.now in
    let answer = c.binary_search.result in
    let same = c.as_slice-references.ensures.value in
    c.ok.ensures.value ∙ search_numbers c.args.self.now.references.items r c.args.self.now.ordered answer
    (subst (λ names. IsSearchInRange answer (length names)) same c.binary_search.ensures.bound)
    (subst (λ names. IsBinarySearchResult (λ y. text_cmp y.now r) names answer) same c.binary_search.ensures.position)
