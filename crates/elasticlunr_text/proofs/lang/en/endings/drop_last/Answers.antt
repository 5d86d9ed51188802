use Rattle.std.proofs.Common.{string_bytes, string_len, arith}
use Rattle.std.proofs.lemmas.Str.{IsUtf8-string_bytes}
use Rattle.elasticlunr_text.proofs.EndingLemmas.{dropped_last}
use Rattle.elasticlunr_text.proofs.lang.en.endings.drop_last.Goals as goal

pub returns : goal.returns
returns c front d e =
    let w = c.args.word.now in
    let v = c.pop.new.self in
    dropped_last (string_bytes w) (string_bytes v) front (string_len w) c.pop.result d (IsUtf8-string_bytes w)
    (IsUtf8-string_bytes v) (omega arith) c.pop.ensures.none c.pop.ensures.bytes e
