use Rattle.std.proofs.Common.{refl, ap, length, ◌∙◌, ◌++◌, ◌∷◌, [], rules, arith}
use Rattle.std.proofs.lemmas.Grind.{common_steps}
use Rattle.elasticlunr_pieces.proofs.progress.next_of.Goals as goal

pub returns-clause-made : goal.returns-clause-made
returns-clause-made g c held = record {
  cut = c.in_ok-cut.cut;
  at = c.in_ok-cut.ensures.cut (c.deref.ensures ∙ c.in_ok-first.ensures held);
  text = refl;
  next = refl;
  pending = refl;
  starts = c.in_ok-note_piece.ensures.starts;
  sizes = c.in_ok-note_piece.ensures.sizes ∙ ap (λ n. c.args.progress.now.sizes.items ++ n ∷ []) (ap length c.as_bytes.ensures.value);
  counts = c.in_ok-note_piece.ensures.counts ∙ ap (λ n. c.args.progress.now.counts.items ++ n ∷ []) c.saturating_sub-count.ensures;
  name = first_of (search rules, grind (arith, common_steps));
}

pub returns-clause-further : goal.returns-clause-further
returns-clause-further g c = c.in_ok-cut.ensures.further
