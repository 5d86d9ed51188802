use Rattle.std.proofs.Common.{◌≡◌, inr, subst}
use Rattle.std.proofs.lemmas.Result.{IfErr-weaker, IfOk-weaker}
use Rattle.elasticlunr_text.specs.Text.{bytes_of}
use Rattle.serde_json.specs.Read.{max_depth}
use Rattle.elasticlunr_print.proofs.Readers.{one_read}
use Rattle.elasticlunr_search.specs.Source.{IsSource}
use Rattle.elasticlunr_search.proofs.Refusing.{accepted}
use Rattle.elasticlunr_search.proofs.Whole.{print_parts}
use Rattle.elasticlunr_search.proofs.searcher.Searcher.with_pipeline.Goals as goal

pub returns-clause-stands : goal.returns-clause-stands
returns-clause-stands g c = IfOk-weaker c.of_source.result _ _ (λ s parts plan commands print.
    let made = c.in_ok-source.ensures.ok in
    c.printed_texts_have_their_parts.ensures.only_within plan commands c.args.text.now made.1.0 made.0
    (bytes_of s.printed.fields.items) s.printed.tries.items s.printed.store print made.1.1
    (print_parts plan commands c.args.text.now made.0 _ _ _ print made.1 (parts made.0 made.2)))
    c.of_source.ensures.parts

pub returns-clause-parts : goal.returns-clause-parts
returns-clause-parts g c = IfOk-weaker c.of_source.result _ _
    (λ s parts. let made = c.in_ok-source.ensures.ok in (made.0, made.1, parts made.0 made.2))
    c.of_source.ensures.parts

pub returns-clause-refused : goal.returns-clause-refused
returns-clause-refused g c = IfErr-weaker c.of_source.result _ _
    (λ e refused. let made = c.in_ok-source.ensures.ok in inr (made.0, made.1, refused made.0 made.2))
    c.of_source.ensures.refused

pub returns-clause-accepted : goal.returns-clause-accepted
returns-clause-accepted g c =
    let laws = c.printed_texts_have_their_parts.ensures in
    let text = c.args.text.now in
    let made = c.in_ok-source.ensures.ok in
    IfErr-weaker c.of_source.result _ _ (λ e refused plan commands print. accepted
    c.a_value_has_its_parts_once.ensures.language c.a_value_has_its_parts_once.ensures.fields _ _ text e
    (inr (made.0, made.1, refused made.0 made.2)) plan commands print (laws.parts plan commands text print)
    (laws.language plan commands text print)) c.of_source.ensures.refused

pub returns-clause-other : goal.returns-clause-other
returns-clause-other g c = λ v reads.
    let made = c.in_ok-source.ensures.ok in
    let same : made.0 ≡ v = one_read c.args.text.now made.1.0 max_depth made.0 v made.1.1 reads in
    c.of_source.ensures.other v (subst (IsSource c.in_ok-source.source) same made.2)
