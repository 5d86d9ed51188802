use Rattle.std.proofs.Common.{◌≡◌, ◌++◌, Some, ap, bytes_eq, sym, ◌∙◌}
use Rattle.std.specs.BTreeMap.{get_by_text}
use Rattle.std.specs.Map.{update}
use Rattle.std.proofs.lemmas.Map.Text.{btree_map_updates_text}
use Rattle.elasticlunr_text.specs.Text.{bytes_of}
use Rattle.elasticlunr_input.specs.Warnings.{last_number, replacing_text, replacing_warnings, warnings_of}
use Rattle.elasticlunr_input.proofs.Warned.{one_more}
use Rattle.elasticlunr_input.proofs.notes.Notes.replacing.Goals as goal

pub returns-in_default-clause-number : goal.returns-in_default-clause-number
returns-in_default-clause-number c r =
    let old = c.args.self.now in
    btree_map_updates_text _ old.references c.insert.new.self _ c.in_ok-before.ensures.updates r
    ∙ ap (λ bs. update bytes_eq (get_by_text old.references) bs (Some old.taken) r) c.in_ok-key.ensures.ok

pub returns-clause-number : goal.returns-clause-number
returns-clause-number c r =
    let old = c.args.self.now in
    btree_map_updates_text _ old.references c.insert.new.self _ c.in_ok-before.ensures.updates r
    ∙ ap (λ bs. update bytes_eq (get_by_text old.references) bs (Some old.taken) r) c.in_ok-key.ensures.ok

pub returns-clause-warnings : goal.returns-clause-warnings
returns-clause-warnings c =
    let old = c.args.self.now in
    let reference = c.args.reference.now in
    let was : last_number old reference ≡ Some c.in-Some.before =
    ap (get_by_text old.references) (sym c.in_ok-key.ensures.ok) ∙ (sym c.in_ok-before.ensures.old ∙ c.in-Some.is) in
    ap bytes_of c.in_ok-push.ensures.items
    ∙ (one_more old.warnings.items c.in_ok-said.said (replacing_text old.taken reference c.in-Some.before)
    c.in_ok-said.ensures.ok
    ∙ ap (λ before. warnings_of old ++ replacing_warnings old.taken reference before) (sym was))
