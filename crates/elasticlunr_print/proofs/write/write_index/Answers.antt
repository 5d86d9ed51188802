use Rattle.std.proofs.Common.{◌≡◌, length, map, string_bytes, refl, sym, ap, ◌∙◌, ◌++◌}
use Rattle.std.proofs.lemmas.List.{length-map}
use Rattle.json.specs.Tree.{json_tokens}
use Rattle.serde_json.specs.Data.{object}
use Rattle.serde_json.specs.Written.{outline}
use Rattle.elasticlunr_store.specs.Contents.{store_value}
use Rattle.elasticlunr_print.specs.Printed.{index_object}
use Rattle.elasticlunr_print.specs.Parts.{plan_of_parts}
use Rattle.elasticlunr_print.proofs.Sorting.{members_by_name}
use Rattle.elasticlunr_print.proofs.Writing.{index_tokens, ok_then}
use Rattle.elasticlunr_print.proofs.write.write_index.Goals as goal

pub returns : goal.returns
returns g c = ok_then c.write_settings.result c.write_settings.ensures (λ done.
    let names = map string_bytes c.args.parts.fields.now in
    let many : length c.args.parts.tries.now ≡ length names = c.args.parts.one_each
    ∙ sym (length-map c.args.parts.fields.now string_bytes) in
    let sorted = c.in_ok-write_tries.ensures in
    let tries = members_by_name names c.args.parts.tries.now c.in_ok-tries.tries.entries sorted.0 many
    c.args.parts.distinct c.in_ok-tries.ensures sorted.2 sorted.1 in
    let documents = store_value c.args.parts.store.now in
    let index = sorted.3 ∙ ap (λ ms. g.W.Tokens.written c.token-4.new.self ++ json_tokens (outline (object ms))) tries.2
    in (
      index_object (plan_of_parts c.args.parts) tries.0 documents,
      record {
        differ = c.args.parts.distinct;
        one_each = many;
        are_tables = tries.3;
        printed = record { tries = tries.0; documents = documents; each_trie = tries.1; store = refl; whole = refl };
      },
      index_tokens (plan_of_parts c.args.parts) tries.0 documents (g.W.Tokens.written c.args.out.now) _ _ _ _ _ _ _ _
          c.in_ok-token.ensures c.in_ok-token-2.ensures c.in_ok-write.ensures.written c.in_ok-token-3.ensures
          c.in_ok-write_names.ensures
          c.in_ok-token-4.ensures index done,
    ))
