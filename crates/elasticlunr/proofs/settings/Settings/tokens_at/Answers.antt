use Rattle.std.proofs.Common.{IsTrue, refl, sym, subst, ◌∙◌, true≢false}
use Rattle.std.specs.List.{AllByRecursion}
use Rattle.std.specs.Str.{all_scalars}
use Rattle.elasticlunr_text.specs.Stages.{IsRunBy}
use Rattle.elasticlunr_text.specs.Text.{texts_of}
use Rattle.elasticlunr_text.proofs.TextLemmas.{texts_are_texts}
use Rattle.elasticlunr.proofs.settings.Settings.tokens_at.Goals as goal

pub returns-then-holds_reference : goal.returns-then-holds_reference
returns-then-holds_reference g c = record {
  of_reference = λ _. refl;
  of_value = λ other. absurd (other (c.holds_reference.ensures.0 c.if-holds_reference.true));
}

pub returns-in_ok-run-in-IntoPipeline : goal.returns-in_ok-run-in-IntoPipeline
returns-in_ok-run-in-IntoPipeline g c =
    let same = c.in_ok-made-in-IntoPipeline.ensures in record {
      of_reference = λ r. absurd
          (true≢false (sym (c.holds_reference.ensures.1 r) ∙ c.if-holds_reference.false));
      of_value = λ _. rw c.in-IntoPipeline.is (record {
        are_texts = subst (λ ts. AllByRecursion (λ token. IsTrue (all_scalars token)) ts) same
            (texts_are_texts c.in_ok-made-in-IntoPipeline.made.items);
        left = subst (λ ts. IsRunBy (λ z. (goal.PipelineFn-dyn g z).leaves z.1) c.args.self.now.pipeline ts
            (texts_of c.in_ok-run-in-IntoPipeline.field-0.items)) same c.in_ok-run-in-IntoPipeline.ensures;
      });
    }
