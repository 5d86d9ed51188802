use Rattle.std.proofs.Common.{◌++◌, ◌∷◌, [], ◌∙◌, ap, refl, chars, option_map, map, filter}
use Rattle.elasticlunr_text.specs.Text.{is_not_empty}
use Rattle.elasticlunr_lang.specs.Words.{words, in_lower_case}
use Rattle.elasticlunr_lang.proofs.WordsLemmas.{words_left, words-more}
use Rattle.elasticlunr_lang.proofs.words.run_on_words.Goals as goal

pub loop-left-preserved : goal.loop-left-preserved
loop-left-preserved g c =
    let (tokens, are, read) = c.loop-left.invariant in
    let so_far = are ∙ ap (λ left. tokens ++ words_left (option_map (λ text. chars text.now) left)) c.in-Some.is in (
      tokens ++ map in_lower_case (filter is_not_empty (chars c.split_run.result.0.now ∷ [])),
      words-more (words (chars c.args.text.now)) tokens _ (chars c.in-Some.text.now) (chars c.split_run.result.0.now) _
          so_far c.split_run.ensures.run refl,
      c.in_ok-read_run.ensures tokens read,
    )
