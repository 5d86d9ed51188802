use Rattle.std.proofs.Common.{◌≡◌, ◌<◌, ◌++◌, [], length, map, get_or, sym, ap, ◌∙◌, arith}
use Rattle.std.proofs.lemmas.List.{length-map}
use Rattle.json.specs.Print.{print}
use Rattle.json.specs.Tree.{json_tokens}
use Rattle.serde_json.specs.Data.{string}
use Rattle.serde_json.specs.Written.{outline, compact_text}
use Rattle.serde_json.proofs.Texts.{print-outline}
use Rattle.elasticlunr_json.specs.Maps.{keyed}
use Rattle.elasticlunr_store.specs.Contents.{TextMap, text_map}
use Rattle.elasticlunr_pieces.proofs.Numbering.{mapped_at}
use Rattle.elasticlunr_pieces.proofs.texts.DocumentEntriesEntries.text.Goals as goal

pub returns : goal.returns
returns c =
    let documents = c.args.self.now.documents.now in
    let borrowed = get_or documents c.args.at c.index-self-at.result in
    let document = text_map borrowed.now.entries in
    let text_at = λ (d : TextMap). compact_text (keyed string d) in
    let there : c.args.at < length documents = omega (
      arith,
      c.requires,
      length-map documents (λ b. text_map b.now.entries),
      length-map (map (λ b. text_map b.now.entries) documents) text_at,
    ) in
    let at : get_or (map (λ b. text_map b.now.entries) documents) c.args.at document ≡ document =
    mapped_at (λ b. text_map b.now.entries) documents c.args.at borrowed document there
    (ap (get_or documents c.args.at) c.index-self-at.is) in
    let lt : c.args.at < length (map (λ b. text_map b.now.entries) documents) =
    omega (arith, there, length-map documents (λ b. text_map b.now.entries)) in
    c.into_string.ensures.text ∙ ap print (c.in_ok-write_document.ensures
    ∙ ap (λ ts. ts ++ json_tokens (outline (keyed string document))) c.in_ok-out.ensures)
    ∙ print-outline (keyed string document)
    ∙ sym (mapped_at text_at (map (λ b. text_map b.now.entries) documents) c.args.at document [] lt (sym at))
