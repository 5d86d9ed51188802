use Rattle.std.proofs.Common.{Ok, Err, Some, None, length, sym, ap, subst, ◌∙◌}
use Rattle.std.proofs.lemmas.Option.{slice_get-get_or, slice_get_past}
use Rattle.std.specs.List.Sorted.{IsBinarySearchResult, IsSearchInRange}
use Rattle.std.specs.Prelude.{slice_get, string_cmp}
use Rattle.elasticlunr_piece_head.proofs.Holding.{found_holder, no_holder}
use Rattle.elasticlunr_piece_head.proofs.head.PieceHead.holder_in.Goals as goal

pub returns-in-Some : goal.returns-in-Some
returns-in-Some c sorted n =
    let x = c.args.reference.now in
    let i = c.in-Ok.place in
    let same = c.deref.ensures.value in
    let holders = c.args.holders.now in
    let lookup = c.in-Some.ensures.lookup in
    found_holder c.args.self.now x sorted i (subst (λ xs. IsSearchInRange (Ok i) (length xs)) same c.in-Ok.ensures.bound)
    (subst (λ xs. IsBinarySearchResult (λ y. string_cmp y x) xs (Ok i)) same c.in-Ok.ensures.position)
    (Some c.in-Some.number.now)
    (ap (λ xs. slice_get xs i) (sym c.requires) ∙ slice_get-get_or holders i c.in-Some.number.now lookup.3.0
    ∙ ap Some (sym lookup.1)) n

pub returns-in-None : goal.returns-in-None
returns-in-None c sorted n =
    let x = c.args.reference.now in
    let i = c.in-Ok.place in
    let same = c.deref.ensures.value in
    let holders = c.args.holders.now in
    found_holder c.args.self.now x sorted i (subst (λ xs. IsSearchInRange (Ok i) (length xs)) same c.in-Ok.ensures.bound)
    (subst (λ xs. IsBinarySearchResult (λ y. string_cmp y x) xs (Ok i)) same c.in-Ok.ensures.position) None
    (ap (λ xs. slice_get xs i) (sym c.requires) ∙ slice_get_past holders i c.in-None.ensures.lookup.3) n

pub returns-in-Err : goal.returns-in-Err
returns-in-Err c sorted n =
    let x = c.args.reference.now in
    let i = c.in-Err.field-0 in
    let same = c.deref.ensures.value in
    no_holder c.args.self.now x sorted i (subst (λ xs. IsSearchInRange (Err i) (length xs)) same c.in-Err.ensures.bound)
    (subst (λ xs. IsBinarySearchResult (λ y. string_cmp y x) xs (Err i)) same c.in-Err.ensures.position) n
