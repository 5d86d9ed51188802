use Rattle.elasticlunr_stems.proofs.TextLemmas.{text_of-push}
use Rattle.elasticlunr_stems.proofs.text.push_letter.Goals as goal

pub returns : goal.returns
returns c =
    text_of-push c.args.text.now c.push.new.self c.args.c c.push.result c.ranges.c.0 c.push.ensures.bytes
