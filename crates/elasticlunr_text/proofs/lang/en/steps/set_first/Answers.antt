use Rattle.std.proofs.Common.{◌∙◌, ap, string_bytes, arith}
use Rattle.std.specs.List.{insert_slice}
use Rattle.std.proofs.lemmas.Str.{IsUtf8-string_bytes}
use Rattle.elasticlunr_text.proofs.EndingLemmas.{chars-some, first_set}
use Rattle.elasticlunr_text.proofs.lang.en.steps.set_first.Goals as goal

pub remove-requires-clause-in_bounds : goal.remove-requires-clause-in_bounds
remove-requires-clause-in_bounds c =
    let h = chars-some (string_bytes c.args.word.now) c.requires.first.1 c.requires.first.0 c.requires.first.3 in
    omega (arith, h)

pub returns : goal.returns
returns c d rest e =
    let w = c.args.word.now in
    let grown = rw c.unwrap.ensures at c.insert.ensures.bytes in
    let b = c.remove.ensures.bytes in
    first_set (string_bytes w) (string_bytes c.remove.new.self) _ b.0 c.remove.result c.args.letter
    (IsUtf8-string_bytes w) c.requires.ascii b.1 b.2
    (grown ∙ ap (λ t. insert_slice (string_bytes c.remove.new.self) 0 t) (c.insert.ensures.ascii c.requires.ascii)) d
    rest e
