use Rattle.std.proofs.Common.{[], ◌∷◌, ◌++◌, map, sym, ap, take_all}
use Rattle.std.specs.List.{filter}
use Rattle.std.proofs.lemmas.Bool.{le-leb}
use Rattle.elasticlunr.specs.Calls.{removing, compacting}
use Rattle.elasticlunr.proofs.Adding.{after_equal, next_call, next_passes}
use Rattle.elasticlunr.proofs.Holding.{if_ok}
use Rattle.elasticlunr_site.specs.Site.{adding_page, fits}
use Rattle.elasticlunr_site.proofs.filled.Goals as goal

pub loop-page-init : goal.loop-page-init
loop-page-init g c = c.requires (record {})

pub loop-page-preserved : goal.loop-page-preserved
loop-page-preserved g c =
    let passes = le-leb _ _ c.if-page-gt2.false in
    after_equal (c.in_ok-add_doc.ensures.after (record {}) _ _ c.loop-page.invariant) _
    (next_passes adding_page c.args.pages.now c.loop-page.page-index _ c.loop-page-test.true fits passes)

pub loop-draft-preserved : goal.loop-draft-preserved
loop-draft-preserved g c =
    after_equal (c.in_ok-remove_doc.ensures.after (record {}) _ _ c.loop-draft.invariant) _
    (next_call (λ draft. removing draft.now) c.args.drafts.now c.loop-draft.draft-index _ c.loop-draft-test.true _)

pub returns-clause-text : goal.returns-clause-text
returns-clause-text g c =
    let all_removed = ap (λ drafts. map adding_page (filter fits c.args.pages.now) ++ map (λ draft. removing draft.now) drafts
    ++ compacting ∷ []) (sym (take_all c.loop-draft.draft-index c.args.drafts.now c.loop-draft-test.false)) in
    let all = c.in_ok-compact.ensures.after (record {}) _ _ c.loop-draft.invariant in
    if_ok c.to_json.result _ _ (λ text printed. printed (record {}) _ _ (after_equal all _ all_removed)) c.to_json.ensures.after
