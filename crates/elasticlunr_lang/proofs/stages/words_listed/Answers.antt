use Rattle.std.proofs.Common.{ap, chars, lit<, map, sym, ◌∙◌}
use Rattle.std.proofs.lemmas.Iterator.Consumers.{map_from_collect}
use Rattle.std.proofs.lemmas.Iterator.Splits.{YieldsList-from_str_split}
use Rattle.std.proofs.lemmas.Result.{IfOk-weaker}
use Rattle.std.proofs.lemmas.Simd.{map-map}
use Rattle.elasticlunr_lang.proofs.stages.words_listed.Goals as goal

pub returns : goal.returns
returns c =
    let parts = YieldsList-from_str_split 0x2C c.args.list.now (lit< tt) c.split.ensures.text c.split.ensures.has_more
    c.split.ensures.pattern in
    IfOk-weaker c.collect.result _ _ (λ words are. sym (map-map _ _ _) ∙ ap (map chars) are)
    (map_from_collect c.collect.result c.collect.ensures.ran parts)
