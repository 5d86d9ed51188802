use Rattle.std.proofs.Common.{string_bytes, sym, ap, ◌∙◌}
use Rattle.std.proofs.lemmas.List.{length-map}
use Rattle.serde_json.specs.View.{view, members_view}
use Rattle.serde_json.specs.declared.value.Value.{Object}
use Rattle.serde_json.proofs.Views.{view-Object}
use Rattle.elasticlunr_print.specs.Parts.{plan_of_parts}
use Rattle.elasticlunr_print.proofs.Values.{seven_members}
use Rattle.elasticlunr_print.proofs.Plain.{no_float}
use Rattle.elasticlunr_print.proofs.PlainValues.{value_plain}
use Rattle.elasticlunr_print.proofs.value.index_value.Goals as goal

pub returns-clause-value : goal.returns-clause-value
returns-clause-value c =
    let tries = c.in_ok-tries.ensures.value in
    record {
      differ = c.args.parts.distinct;
      one_each = c.args.parts.one_each ∙ sym (length-map c.args.parts.fields.now string_bytes);
      are_tables = c.in_ok-tries.ensures.tables;
      printed = record {
        tries = tries.0;
        documents = view c.in_ok-documents.documents;
        each_trie = tries.1;
        store = c.in_ok-documents.ensures.value;
        whole = view-Object c.set_member-7.new.members
            ∙ seven_members (plan_of_parts c.args.parts) tries.0 (view c.in_ok-documents.documents) _ _ _ _ _ _ _ _ _ _
            _ _ _ _
            c.in_ok-fields.ensures tries.2 c.in_ok-language.ensures c.in_ok-stages.ensures c.in_ok-reference.ensures
            c.in_ok-version.ensures
            (ap (λ es. members_view es) c.new-members.ensures.empty)
            c.in_ok-set_member.ensures.put
            c.in_ok-set_member-2.ensures.put
            c.in_ok-set_member-3.ensures.put
            c.in_ok-set_member-4.ensures.put
            c.in_ok-set_member-5.ensures.put
            c.in_ok-set_member-6.ensures.put
            c.in_ok-set_member-7.ensures.put;
      };
    }

pub returns-clause-whole : goal.returns-clause-whole
returns-clause-whole c = no_float _ (value_plain (plan_of_parts c.args.parts) c.args.parts.tries.now
    c.args.parts.store.now (view (Object c.set_member-7.new.members)) (returns-clause-value c).printed)
