use Rattle.std.proofs.Common.{ap, lit<, nat_eq, ◌∙◌}
use Rattle.std.specs.List.{slice_split}
use Rattle.std.specs.Str.Iter.{split_text, split_has_more, split_pattern}
use Rattle.std.proofs.lemmas.Iterator.Consumers.{YieldsList-end}
use Rattle.std.proofs.lemmas.Iterator.Splits.{YieldsList-from_str_split}
use Rattle.elasticlunr_tests.proofs.Strings.{pieces_push, pieces_of}
use Rattle.elasticlunr_tests.proofs.own_language.CommasLanguage.tokenize.Goals as goal

pub loop-piece-preserved : goal.loop-piece-preserved
loop-piece-preserved c =
    pieces_push c.loop-piece.tokens.items _ c.in_ok-from_str.field-0 c.loop-piece.yielded c.in-Some.piece
    c.in_ok-push.ensures.items c.loop-piece.invariant c.in_ok-from_str.ensures.ok

pub returns : goal.returns
returns c =
    let from = c.into_iter-piece-iterator.ensures.into_iter_gives in
    let split = c.split-piece-items.ensures in
    let t = YieldsList-end (YieldsList-from_str_split 0x2C c.args.text.now (lit< tt) (ap split_text from ∙ split.text)
    (ap split_has_more from ∙ split.has_more) (ap split_pattern from ∙ split.pattern))
    c.loop-piece.yielded _ c.loop-piece.yielded_by _ _ c.in-None.is c.next.ensures.steps in
    c.loop-piece.invariant ∙ pieces_of c.args.text.now (slice_split (λ b. nat_eq b 0x2C)) c.loop-piece.yielded
    c.utf8.text t.0
