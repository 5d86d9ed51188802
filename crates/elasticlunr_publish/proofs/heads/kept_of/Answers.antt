use Rattle.std.proofs.Common.{option_map, ap, sym, ◌-◌, ◌∙◌}
use Rattle.elasticlunr_publish.specs.Heads.{told_texts}
use Rattle.elasticlunr_publish.proofs.Listed.{all_after, kept, ok_map}
use Rattle.elasticlunr_publish.proofs.heads.kept_of.Goals as goal

pub returns : goal.returns
returns c = ok_map c.copies_of.result
    (λ copies is. kept (told_texts c.args.recorded.now) (option_map (λ it. it.now) c.args.current) c.args.new.now
    c.args.keep c.saturating_sub-first.result c.in_ok-heads.heads.items c.deref.result.now copies.items
    c.in_ok-heads.ensures (ap told_texts c.deref.ensures.value ∙ c.in_ok-follow.ensures)
    (c.saturating_sub-first.ensures ∙ ap (λ n. n - c.args.keep) (c.len.ensures ∙ sym c.deref.ensures.len))
    (is ∙ all_after c.saturating_sub-first.result c.deref.result.now)) c.copies_of.ensures
