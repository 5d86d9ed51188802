use Rattle.std.proofs.Common.{◌≡◌, ◌+◌, ◌++◌, ◌∷◌, [], map, get_or, take, sym, ap, ◌∙◌, append_assoc}
use Rattle.std.proofs.lemmas.List.{map-append}
use Rattle.elasticlunr_job_format.specs.ObjectsTold.{texts_told}
use Rattle.elasticlunr_text.specs.Text.{Bytes, bytes_of, is_listed}
use Rattle.elasticlunr_input.proofs.Warned.{map_more}
use Rattle.std.proofs.Common.{arith, rules}
use Rattle.std.proofs.lemmas.Grind.{common_steps}
use Rattle.elasticlunr_input.proofs.notes.Notes.rules.Goals as goal

pub loop-field-preserved : goal.loop-field-preserved
loop-field-preserved c =
    let so_far = c.loop-field.invariant in
    let i = c.loop-field.field-index in
    let given = c.args.fields.now in
    let names = c.in-Some.rules.stored.items in
    let listed = λ (field : Bytes). is_listed field (bytes_of names) in
    let name : Bytes = (get_or given i (record { ref_ptr = (0, 0); now = [] })).now in
    let old = c.args.self.now.is_stored.items in
    let before = map listed (take i (texts_told given)) in
    let same : c.is_stored.result ≡ listed name = c.is_stored.ensures
    ∙ ap (λ ss. is_listed name (bytes_of ss)) c.deref.ensures.value in
    let more : map listed (take (i + 1) (texts_told given)) ≡ before ++ listed name ∷ [] =
    ap (map listed) (map_more (λ s. s.now) given i (record { ref_ptr = (0, 0); now = [] }) c.loop-field-test.true)
    ∙ map-append listed (take i (texts_told given)) (name ∷ []) in
    record {
      stored = c.in_ok-push.ensures.items ∙ (ap (λ fs. fs ++ c.is_stored.result ∷ []) so_far.stored
          ∙ (append_assoc old before (c.is_stored.result ∷ [])
          ∙ ap (λ fs. old ++ fs) (ap (λ b. before ++ b ∷ []) same ∙ sym more)));
      longest = so_far.longest;
      seen = so_far.seen;
      known = so_far.known;
    }

pub returns-in_default-clause-longest : goal.returns-in_default-clause-longest
returns-in_default-clause-longest c = search rules

pub returns-in_default-clause-stored : goal.returns-in_default-clause-stored
returns-in_default-clause-stored c = search rules

pub returns-in_default-clause-seen : goal.returns-in_default-clause-seen
returns-in_default-clause-seen c = search rules

pub returns-in_default-clause-known : goal.returns-in_default-clause-known
returns-in_default-clause-known c = search rules

pub loop-field-init : goal.loop-field-init
loop-field-init c = search rules

pub returns-clause-longest : goal.returns-clause-longest
returns-clause-longest c = search rules

pub returns-clause-stored : goal.returns-clause-stored
returns-clause-stored c = grind (arith, common_steps)

pub returns-clause-seen : goal.returns-clause-seen
returns-clause-seen c = search rules

pub returns-clause-known : goal.returns-clause-known
returns-clause-known c = search rules
