use Rattle.std.proofs.Common.{string_bytes, ◌∙◌, ap, ◌++◌, lit<}
use Rattle.std.proofs.lemmas.Str.{IsUtf8-string_bytes}
use Rattle.elasticlunr_text.proofs.EndingLemmas.{pushed_ascii}
use Rattle.elasticlunr_text.proofs.lang.en.endings.push_e.Goals as goal

pub returns : goal.returns
returns c =
    let w = c.args.word.now in
    let grown = rw c.unwrap.ensures at c.push.ensures.bytes in
    pushed_ascii (string_bytes w) _ 101 (IsUtf8-string_bytes w) (lit< tt)
    (grown ∙ ap (λ t. string_bytes w ++ t) (c.push.ensures.ascii (lit< tt)))
