use Rattle.std.proofs.Common.{[], ◌∷◌, Some, bytes_eq}
use Rattle.elasticlunr.specs.AnyLanguage.TheVariants.{English as english}
use Rattle.elasticlunr.specs.Written.{compact_text}
use Rattle.elasticlunr.specs.Calls.{adding, removing}
use Rattle.elasticlunr_laws.proofs.Differing.{not_both, two_differ}
use Rattle.elasticlunr_uses.proofs.Orders.{after_update}
use Rattle.elasticlunr_uses.proofs.update.updated_and_new.Goals as goal

pub returns-clause-updated : goal.returns-clause-updated
returns-clause-updated c = c.in_ok-updated.ensures.text

pub returns-clause-new : goal.returns-clause-new
returns-clause-new c = c.in_ok-new.ensures.text

pub returns-clause-equal : goal.returns-clause-equal
returns-clause-equal c stays_changes stays_goes changes_goes =
    let stays = c.args.stays.reference.now in
    let changes = c.args.changes.reference.now in
    let goes = c.args.goes.reference.now in
    let kept = c.args.stays.text.now ∷ [] in
    let old = c.args.changes.text.now ∷ [] in
    let gone = c.args.goes.text.now ∷ [] in
    let new = c.args.new_text.now ∷ [] in
    c.a_compacted_index_prints_as_a_new_one.ensures (adding stays kept ∷ adding changes old ∷ adding goes gone
    ∷ adding changes new ∷ removing goes ∷ []) ((stays, kept) ∷ (changes, new) ∷ []) (two_differ stays changes
    stays_changes) (λ q. after_update (bytes_eq q stays) (bytes_eq q changes) (bytes_eq q goes) (Some kept) (Some old)
    (Some gone) (Some new) (not_both q stays goes stays_goes) (not_both q changes goes changes_goes))
    english _ compact_text _ _ c.in_ok-updated.ensures.text c.in_ok-new.ensures.text
