use Rattle.std.proofs.Common.{◌≡◌, List, Option, None, ap, sym, subst, ◌∙◌, option_map}
use Rattle.std.specs.Borrow.{Bor}
use Rattle.elasticlunr_text.specs.Text.{Bytes}
use Rattle.elasticlunr.specs.Fields.{borrowed}
use Rattle.elasticlunr_search.specs.Standing.{LacksFieldOf}
use Rattle.elasticlunr_search.specs.Words.{asked_fields}
use Rattle.elasticlunr_search.proofs.searcher.Searcher.find_within.Goals as goal

-- where no field is named, all are asked for
all_asked : (field : Option (Bor Bytes)) (texts items : List (Bor Bytes)) (names all : List Bytes) → texts ≡ items
    → borrowed items ≡ names → names ≡ all → field ≡ None
    → borrowed texts ≡ asked_fields (option_map (λ f. f.now) field) all
all_asked field texts items names all same are own none = ap borrowed same ∙ are ∙ own
    ∙ ap (λ o. asked_fields (option_map (λ f. f.now) o) all) (sym none)

pub returns-in-Some-clause-in_tries : goal.returns-in-Some-clause-in_tries
returns-in-Some-clause-in_tries g c = rw c.in-Some.is c.find_joined.ensures.in_tries

pub returns-in_ok-names-in-None-clause-no_field : goal.returns-in_ok-names-in-None-clause-no_field
returns-in_ok-names-in-None-clause-no_field g c none =
    let asked = all_asked c.args.field c.deref.result.now _ _ _ c.deref.ensures.value c.in_ok-names-in-None.ensures
    c.fields.ensures c.in-None.is in
    subst (LacksFieldOf c.args.self.now) asked (c.find_joined-in-None.ensures.no_field none)

pub returns-in_ok-names-in-None-clause-has_fields : goal.returns-in_ok-names-in-None-clause-has_fields
returns-in_ok-names-in-None-clause-has_fields g c =
    let asked = all_asked c.args.field c.deref.result.now _ _ _ c.deref.ensures.value c.in_ok-names-in-None.ensures
    c.fields.ensures c.in-None.is in
    rw (← asked) c.find_joined-in-None.ensures.has_fields

pub returns-in_ok-names-in-None-clause-found : goal.returns-in_ok-names-in-None-clause-found
returns-in_ok-names-in-None-clause-found g c =
    let asked = all_asked c.args.field c.deref.result.now _ _ _ c.deref.ensures.value c.in_ok-names-in-None.ensures
    c.fields.ensures c.in-None.is in
    rw (← asked) c.find_joined-in-None.ensures.found

pub returns-in_ok-names-in-None-clause-in_tries : goal.returns-in_ok-names-in-None-clause-in_tries
returns-in_ok-names-in-None-clause-in_tries g c =
    let asked = all_asked c.args.field c.deref.result.now _ _ _ c.deref.ensures.value c.in_ok-names-in-None.ensures
    c.fields.ensures c.in-None.is in
    rw (← asked) c.find_joined-in-None.ensures.in_tries
