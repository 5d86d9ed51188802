use Rattle.std.proofs.Common.{◌≡◌, IsTrue, List, sym, ◌∙◌, ap, subst, arith}
use Rattle.std.specs.List.{filter}
use Rattle.elasticlunr_stems.specs.Tables.{Row}
use Rattle.elasticlunr_stems.specs.Stems.{longest}
use Rattle.elasticlunr_stems.specs.Safe.{are_longest_first}
use Rattle.elasticlunr_stems.specs.RowViews.{rows_of, rows_in_list, may_end}
use Rattle.elasticlunr_stems.specs.Runs.{Cuts}
use Rattle.elasticlunr_stems.proofs.RunLemmas.{get_at}
use Rattle.elasticlunr_stems.proofs.ListLemmas.{filter-ordered, longest-filter}
use Rattle.elasticlunr_stems.proofs.suffixes.Suffixes.longest.Goals as goal

pub longest-requires : goal.longest-requires
longest-requires c =
    let number = c.number_for.result in
    let at = get_at c.args.self.now.lists.items number c.index-list.result.now
    (omega (arith, c.args.self.now.many, c.number_for.ensures.below)) c.index-list.ensures in
    let list : rows_of c.as_slice.result.now ≡ filter (may_end number) (rows_of c.args.self.now.rows.items) =
    ap rows_of c.as_slice.ensures.value
    ∙ (sym (ap rows_in_list at) ∙ c.args.self.now.each number c.number_for.ensures.below) in
    subst (λ (rows : List Row). IsTrue (are_longest_first rows)) (sym list)
    (filter-ordered (may_end number) (rows_of c.args.self.now.rows.items) c.requires)

pub returns : goal.returns
returns c =
    let number = c.number_for.result in
    let at = get_at c.args.self.now.lists.items number c.index-list.result.now
    (omega (arith, c.args.self.now.many, c.number_for.ensures.below)) c.index-list.ensures in
    let list : rows_of c.as_slice.result.now ≡ filter (may_end number) (rows_of c.args.self.now.rows.items) =
    ap rows_of c.as_slice.ensures.value
    ∙ (sym (ap rows_in_list at) ∙ c.args.self.now.each number c.number_for.ensures.below) in
    let found = ap (longest c.args.region c.args.text.now) list
    ∙ longest-filter number c.args.region c.args.text.now (rows_of c.args.self.now.rows.items) c.number_for.ensures.last in
    subst (λ o. Cuts o c.args.text.now c.longest.result) found c.longest.ensures
