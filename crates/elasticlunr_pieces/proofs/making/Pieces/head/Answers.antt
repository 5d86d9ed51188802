use Rattle.std.proofs.Common.{refl, string_bytes, ◌∙◌, ◌++◌, arith}
use Rattle.std.proofs.lemmas.List.{length-map}
use Rattle.serde_json.specs.Written.{compact_text}
use Rattle.elasticlunr_error.specs.Text.{bytes_of}
use Rattle.elasticlunr_print.specs.Parts.{plan_of_parts}
use Rattle.elasticlunr_pieces.specs.Head.{head_value}
use Rattle.elasticlunr_pieces.specs.Numbers.{texts_at, told_texts}
use Rattle.elasticlunr_pieces.proofs.Made.{all_made, head_of}
use Rattle.elasticlunr_pieces.proofs.making.Pieces.head.Goals as goal

pub returns-clause-head : goal.returns-clause-head
returns-clause-head c tries texts titles has = head_of c.args.self tries texts titles _ (string_bytes c.in_ok-folder.folder)
    (told_texts c.in_ok-firsts.firsts.items) c.in_ok-sizes.sizes.items has c.in_ok-folder.ensures refl
    (c.in_ok-firsts.ensures ∙ (λ i. texts_at (bytes_of (c.deref.ensures.value i)) (c.deref-2.ensures.value i)))
    (c.in_ok-sizes.ensures
    ∙ (λ i. (c.deref-3.ensures.value i ++ c.deref-4.ensures.value i) ++ c.deref-5.ensures.value i))
    (c.in_ok-text.ensures ∙ (λ i. compact_text (head_value (plan_of_parts c.args.self.parts) c.args.self.parts.store.now
    (told_texts (c.references.ensures i)) (record {
      folder = c.deref-6.ensures i;
      tries = told_texts (c.deref-7.ensures.value i);
      texts = c.deref-8.ensures.value i;
      titles = c.deref-9.ensures.value i;
      sizes = c.deref-10.ensures.value i;
      title = c.args.self.field.now;
    }))))

pub returns-clause-all : goal.returns-clause-all
returns-clause-all c none tries texts titles has =
    let tokens = c.args.self.tokens.ok.0 in
    let documents = c.args.self.documents.ok.0 in
    let headings = c.args.self.headings.ok.0 in
    all_made c.args.self tries texts titles has
    (omega (arith, none, tokens, length-map c.args.self.tokens.items string_bytes))
    (omega (arith, none, documents)) (omega (arith, none, headings))
