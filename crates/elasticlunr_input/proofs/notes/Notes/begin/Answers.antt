use Rattle.std.proofs.Common.{◌≡◌, ◌+◌, ◌++◌, ◌∷◌, [], true, false, cond, bytes_eq, get_or, take, refl, sym, ap, ◌∙◌}
use Rattle.std.specs.BTreeSet.{contains_text}
use Rattle.std.proofs.lemmas.Map.Text.{btree_set_updates_text}
use Rattle.elasticlunr_job_format.specs.ObjectsTold.{texts_told}
use Rattle.elasticlunr_text.specs.Text.{Bytes, is_listed}
use Rattle.elasticlunr_input.proofs.Noting.{listed_more}
use Rattle.elasticlunr_input.proofs.Warned.{map_more}
use Rattle.std.proofs.Common.{arith, rules}
use Rattle.std.proofs.lemmas.Grind.{common_steps}
use Rattle.elasticlunr_input.proofs.notes.Notes.begin.Goals as goal

pub loop-field-init : goal.loop-field-init
loop-field-init c key =
    let reference = c.args.options.now.reference_key.now in
    let none : contains_text c.new-known.result key ≡ false = rw c.new-known.ensures.empty refl in
    btree_set_updates_text _ c.new-known.result c.insert.new.self true c.in_ok-insert.ensures.updates key
    ∙ (ap (λ bs. cond (bytes_eq bs key) true (contains_text c.new-known.result key)) c.in_ok-from_str.ensures.ok
    ∙ (ap (λ b. cond (bytes_eq reference key) true b) none ∙ listed_more key reference []))

pub loop-field-preserved : goal.loop-field-preserved
loop-field-preserved c key =
    let i = c.loop-field.field-index in
    let given = c.deref-field-items.result.now in
    let all = c.deref-field-items.ensures.value in
    let reference = c.args.options.now.reference_key.now in
    let name : Bytes = (get_or given i (record { ref_ptr = (0, 0); now = [] })).now in
    let keys = reference ∷ take i (texts_told given) in
    let more : reference ∷ take (i + 1) (texts_told given) ≡ keys ++ name ∷ [] =
    ap (λ ks. reference ∷ ks)
    (map_more (λ s. s.now) given i (record { ref_ptr = (0, 0); now = [] }) c.loop-field-test.true) in
    btree_set_updates_text _ c.loop-field.known c.insert-in-loop-field.new.self true c.in_ok-insert-2.ensures.updates key
    ∙ (ap (λ bs. cond (bytes_eq bs key) true (contains_text c.loop-field.known key)) c.in_ok-from_str-2.ensures.ok
    ∙ (ap (λ b. cond (bytes_eq name key) true b) (c.loop-field.invariant key
    ∙ ap (λ gs. is_listed key (reference ∷ take i (texts_told gs))) (sym all))
    ∙ (listed_more key name keys ∙ (ap (is_listed key) (sym more)
    ∙ ap (λ gs. is_listed key (reference ∷ take (i + 1) (texts_told gs))) all))))

pub returns-then-is_some-clause-longest : goal.returns-then-is_some-clause-longest
returns-then-is_some-clause-longest c = search rules

pub returns-then-is_some-clause-stored : goal.returns-then-is_some-clause-stored
returns-then-is_some-clause-stored c = search rules

pub returns-then-is_some-clause-known : goal.returns-then-is_some-clause-known
returns-then-is_some-clause-known c = search rules

pub returns-then-is_some-clause-seen : goal.returns-then-is_some-clause-seen
returns-then-is_some-clause-seen c = search rules

pub returns-clause-longest : goal.returns-clause-longest
returns-clause-longest c = search rules

pub returns-clause-stored : goal.returns-clause-stored
returns-clause-stored c = search rules

pub returns-clause-known : goal.returns-clause-known
returns-clause-known c = grind (arith, common_steps)

pub returns-clause-seen : goal.returns-clause-seen
returns-clause-seen c = search rules
