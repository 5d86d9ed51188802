use Rattle.std.proofs.Common.{[], ◌∷◌, ◌++◌, ◌∙◌, ap, append_assoc, append-nil, map, string_bytes, sym, String, Global}
use Rattle.std.specs.Borrow.{Bor}
use Rattle.std.specs.Map.{keys_of}
use Rattle.elasticlunr_error.specs.Text.{Bytes}
use Rattle.elasticlunr_store.specs.declared.config.SearchOptionsField.{SearchOptionsField}
use Rattle.elasticlunr_json.proofs.Sorted.{entries_seen}
use Rattle.elasticlunr_ranking.proofs.Choosing.{keys_shown, names_push}
use Rattle.elasticlunr_ranking.proofs.choice.names_of_options.Goals as goal

pub loop-name-preserved : goal.loop-name-preserved
loop-name-preserved c =
    let done = c.loop-name.invariant in
    let entry : String Global × SearchOptionsField = (c.in-Some.name.now, c.in-Some.field-0-1.now) in
    let more = ap (λ es. done.0 ++ es) (sym c.in-Some.ensures.steps) ∙ done.1 in (
      done.0 ++ entry ∷ [],
      append_assoc done.0 _ c.next.new.self ∙ more,
      ap (map (λ (name : Bor Bytes). name.now)) c.in_ok-push.ensures.items
          ∙ names_push done.0 entry c.loop-name.names.items c.as_str.result done.2 c.as_str.ensures.value,
    )

pub returns : goal.returns
returns c =
    let done = c.loop-name.invariant in
    let entries = c.args.options.now.fields.entries in
    let all = sym (append-nil done.0) ∙ ap (λ es. done.0 ++ es) (sym c.in-None.ensures.steps.0) ∙ done.1 in
    done.2 ∙ ap (λ es. map string_bytes (keys_of es)) all ∙ sym (keys_shown entries)
    ∙ sym (ap (map (λ (e : Bytes × SearchOptionsField). e.0)) (entries_seen (λ (f : SearchOptionsField). f) entries
    c.iter-name-items.ensures.ordered))
