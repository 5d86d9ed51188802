use Rattle.std.proofs.Common.{sym, ◌∙◌, ap}
use Rattle.std.specs.List.{flat_map}
use Rattle.std.proofs.lemmas.List.{map-id}
use Rattle.std.proofs.lemmas.Iterator.{YieldsList-from_chars}
use Rattle.std.proofs.lemmas.Iterator.Consumers.{YieldsList-end}
use Rattle.elasticlunr_diagnostics.specs.Shown.{shown_char}
use Rattle.elasticlunr_diagnostics.proofs.shown.shown.Goals as goal

pub returns : goal.returns
returns c =
    let t = YieldsList-end (YieldsList-from_chars c.args.text.now c.utf8.text cc) c.loop-c.yielded _ c.loop-c.yielded_by
    _ _ c.in-None.is c.next.ensures.steps in
    c.loop-c.invariant ∙ ap (flat_map shown_char) (sym (map-id c.loop-c.yielded) ∙ t.0)
