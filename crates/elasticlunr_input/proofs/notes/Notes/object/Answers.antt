use Rattle.std.proofs.Common.{◌++◌, true, map, sym, ap, ◌∙◌, append_assoc}
use Rattle.std.specs.BTreeSet.{contains_text}
use Rattle.std.specs.Option.{option_map_or}
use Rattle.serde_json.specs.View.{view}
use Rattle.elasticlunr_text.specs.Text.{Bytes}
use Rattle.elasticlunr_input.specs.Noted.{document_warnings, new_keys, texts_keys}
use Rattle.elasticlunr_input.specs.Warnings.{is_known, last_number, reference_warnings, unindexed_text, warnings_of}
use Rattle.elasticlunr_input.proofs.Noting.{same_new_keys}
use Rattle.std.proofs.Common.{rules}
use Rattle.elasticlunr_input.proofs.notes.Notes.object.Goals as goal

pub returns-clause-warnings : goal.returns-clause-warnings
returns-clause-warnings c =
    let old = c.args.self.now in
    let mid = c.document.new.self in
    let reference = c.as_str-reference.result.now in
    let keys = texts_keys (view c.args.object.now.value.now) in
    let its = reference_warnings mid.taken reference (last_number old reference) in
    c.in_ok-members.ensures.warnings
    ∙ (ap (λ ws. ws ++ map (unindexed_text mid.taken reference) (new_keys (is_known mid) keys))
    c.in_ok-document.ensures.warnings
    ∙ (append_assoc (warnings_of old) its (map (unindexed_text mid.taken reference) (new_keys (is_known mid) keys))
    ∙ (ap (λ ks. warnings_of old ++ (its ++ map (unindexed_text mid.taken reference) ks))
    (same_new_keys (is_known mid) (is_known old) keys
    (λ k. ap (λ held. option_map_or (λ ks. contains_text ks k) held true) c.document.ensures.known))
    ∙ (ap (λ n. warnings_of old ++ document_warnings n reference (last_number old reference) (is_known old) keys)
    (sym c.in_ok-members.ensures.taken)
    ∙ ap (λ (r : Bytes). warnings_of old ++ document_warnings c.members.new.self.taken r (last_number old r)
    (is_known old) keys) c.as_str-reference.ensures.value))))

pub returns-clause-taken : goal.returns-clause-taken
returns-clause-taken c = search rules

pub returns-clause-number : goal.returns-clause-number
returns-clause-number c = search rules

pub returns-clause-known : goal.returns-clause-known
returns-clause-known c = search rules

pub returns-clause-texts : goal.returns-clause-texts
returns-clause-texts c = search rules

pub returns-clause-words : goal.returns-clause-words
returns-clause-words c = search rules

pub returns-clause-limits : goal.returns-clause-limits
returns-clause-limits c = search rules
