use Rattle.std.proofs.Common.{◌≡◌, ◌<◌, [], length, get_or, string_bytes, sym, ap, ◌∙◌, arith}
use Rattle.std.proofs.lemmas.List.{length-map}
use Rattle.elasticlunr_error.specs.Text.{bytes_of}
use Rattle.elasticlunr_pieces.specs.EntryTexts.{token_text_of}
use Rattle.elasticlunr_pieces.specs.Numbers.{told_texts}
use Rattle.elasticlunr_pieces.proofs.Numbering.{mapped_at}
use Rattle.elasticlunr_pieces.proofs.Writing.{if_ok}
use Rattle.elasticlunr_pieces.proofs.tries.TokenEntriesEntries.text.Goals as goal

pub returns : goal.returns
returns c =
    let names = told_texts c.args.self.now.numbers.now.references.items in
    let tables = c.args.self.now.tries.now in
    let tokens = c.args.self.now.tokens.now in
    let text_at = token_text_of names tables in
    let token = get_or tokens c.args.at c.index-self-at.result in
    let bytes = string_bytes token in
    let there : c.args.at < length tokens = omega (
      arith,
      c.requires,
      length-map tokens string_bytes,
      length-map (bytes_of tokens) text_at,
    ) in
    let lt : c.args.at < length (bytes_of tokens) = omega (arith, there, length-map tokens string_bytes) in
    let at : get_or (bytes_of tokens) c.args.at bytes ≡ bytes =
    mapped_at string_bytes tokens c.args.at token bytes there (ap (get_or tokens c.args.at) c.index-self-at.is) in
    if_ok c.token_text.result _ _ (λ text is. is ∙ ap text_at c.deref.ensures
    ∙ sym (mapped_at text_at (bytes_of tokens) c.args.at bytes [] lt (sym at))) c.token_text.ensures
