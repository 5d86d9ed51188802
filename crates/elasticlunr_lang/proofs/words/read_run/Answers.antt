use Rattle.std.proofs.Common.{◌++◌, ◌∷◌, [], ap, sym, subst, ◌∙◌, append-nil}
use Rattle.elasticlunr_text.specs.Text.{text_of, texts_of}
use Rattle.elasticlunr_text.proofs.StageLemmas.{MayRun-on}
use Rattle.elasticlunr_lang.specs.Read.{IsReadAs}
use Rattle.elasticlunr_lang.proofs.WordsLemmas.{one_word, no_word, texts_and_one}
use Rattle.elasticlunr_lang.proofs.words.read_run.Goals as goal

pub returns-in_ok-run_on : goal.returns-in_ok-run_on
returns-in_ok-run_on g c tokens read =
    let on = c.in_ok-run_on.ensures.ok in
    let word = ap (λ w. w ∷ []) c.in_ok-word.ensures
    ∙ sym (one_word c.args.run.now c.utf8.run (sym c.is_empty.ensures ∙ c.if-not-is_empty.true)) in
    subst (λ ts. IsReadAs (λ z. (goal.PipelineFn-dyn g z).leaves z.1) c.args.pipeline.now ts
    (texts_of c.run_on.new.kept.items)) (ap (λ ws. tokens ++ ws) word) (
      texts_and_one tokens c.in_ok-word.word read.0,
      MayRun-on _ c.args.pipeline.now.queue.items tokens
          c.args.kept.now.items c.run_on.new.kept.items (text_of c.in_ok-word.word) on.0 read.1 on.1 on.2,
    )

pub returns-else-not-is_empty : goal.returns-else-not-is_empty
returns-else-not-is_empty g c tokens read =
    let none = no_word c.args.run.now c.utf8.run (sym c.is_empty.ensures ∙ c.if-not-is_empty.false) in
    subst (λ ts. IsReadAs (λ z. (goal.PipelineFn-dyn g z).leaves z.1) c.args.pipeline.now ts
    (texts_of c.args.kept.now.items)) (sym (append-nil tokens) ∙ ap (λ ws. tokens ++ ws) (sym none)) read
