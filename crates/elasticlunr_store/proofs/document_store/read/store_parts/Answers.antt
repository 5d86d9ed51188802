use Rattle.std.proofs.Common.{◌≡◌, ℕ, List, sym, ap, ◌∙◌}
use Rattle.serde_json.specs.Data.{Data, Members, no_members, member}
use Rattle.serde_json.specs.View.{members_view}
use Rattle.elasticlunr_store.proofs.document_store.read.store_parts.Goals as goal

rest : (k l : List ℕ) (d e : Data) (ms ns : Members) → member k d ms ≡ member l e ns → ms ≡ ns
rest k l d e ms ns same = cc

some_left : (k : List ℕ) (d : Data) (ms : Members) → member k d ms ≡ no_members → ⊥
some_left k d ms same = cc

pub returns-in-Some : goal.returns-in-Some
returns-in-Some c = record {
  some = tt;
  none = λ lengths texts count save is.
      let one = rest _ _ _ _ _ _ (sym c.in_ok-doc_info.ensures.some ∙ ap members_view c.iter-rest.ensures.rest ∙ is) in
      let two = rest _ _ _ _ _ _ (sym c.in_ok-docs.ensures.some ∙ one) in
      let three = rest _ _ _ _ _ _ (sym c.in_ok-length.ensures.some ∙ two) in
      let four = rest _ _ _ _ _ _ (sym c.in_ok-save.ensures.some ∙ three) in
      some_left _ _ _ (sym (ap members_view c.in-Some.ensures.steps) ∙ four);
}
