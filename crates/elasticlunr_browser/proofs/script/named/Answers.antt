use Rattle.std.proofs.Common.{◌≡◌, ◌≢◌, ◌∙◌, length, ap, subst, arith}
use Rattle.std.specs.Prelude.{IfOk, IsNone}
use Rattle.std.specs.List.{Any}
use Rattle.std.specs.Str.Lines.{lines}
use Rattle.std.proofs.lemmas.Grind.{common_steps}
use Rattle.std.proofs.lemmas.Iterator.{items_from_drains}
use Rattle.std.proofs.lemmas.Iterator.Splits.{YieldsList-from_lines}
use Rattle.elasticlunr_browser.specs.Named.{IsNoName}
use Rattle.elasticlunr_browser.proofs.NameLemmas.{texts_of_all, chosen_by}
use Rattle.elasticlunr_browser.proofs.script.named.Goals as goal

pub returns-clause-some : goal.returns-clause-some
returns-clause-some c =
    let ran = c.in_ok-each.ensures.ran in
    let whole : texts_of_all c.deref.result.now ≡ lines c.args.names.now =
    ap texts_of_all (c.deref.ensures.value ∙ ran.2.0)
    ∙ items_from_drains ran.0 ran.1 (YieldsList-from_lines c.args.names.now c.lines.ensures.rest) in
    let some : length c.deref.result.now ≢ 0 = λ none. grind (arith, common_steps, none) in
    chosen_by (λ v. v.items) c.of_names.result (lines c.args.names.now) c.deref.result.now whole some
    c.of_names.ensures.some

pub returns-clause-none : goal.returns-clause-none
returns-clause-none c =
    let ran = c.in_ok-each.ensures.ran in
    let whole : texts_of_all c.deref.result.now ≡ lines c.args.names.now =
    ap texts_of_all (c.deref.ensures.value ∙ ran.2.0)
    ∙ items_from_drains ran.0 ran.1 (YieldsList-from_lines c.args.names.now c.lines.ensures.rest) in
    subst (λ ls. IfOk c.of_names.result (λ found. IsNone found → Any IsNoName ls)) whole c.of_names.ensures.none
