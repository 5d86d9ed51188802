use Rattle.std.proofs.Common.{sym, ◌∙◌, ap}
use Rattle.std.proofs.lemmas.List.{map-id}
use Rattle.std.proofs.lemmas.Iterator.{YieldsList-from_chars}
use Rattle.std.proofs.lemmas.Iterator.Consumers.{YieldsList-end}
use Rattle.elasticlunr_text.proofs.TextLemmas.{text_of-empty}
use Rattle.elasticlunr_lang.specs.Words.{in_lower_case}
use Rattle.elasticlunr_lang.proofs.words.word_of.Goals as goal

pub loop-c-init : goal.loop-c-init
loop-c-init c = text_of-empty c.in_ok-word.word c.in_ok-word.ensures.bytes

pub returns : goal.returns
returns c =
    let t = YieldsList-end (YieldsList-from_chars c.args.run.now c.utf8.run cc) c.loop-c.yielded _ c.loop-c.yielded_by _
    _ c.in-None.is c.next.ensures.steps in
    c.loop-c.invariant ∙ ap in_lower_case (sym (map-id c.loop-c.yielded) ∙ t.0)
