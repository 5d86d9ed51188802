use Rattle.std.proofs.Common.{◌≡◌, ◌∙◌, ◌+◌, ◌-◌, ap, drop, sym, take, arith}
use Rattle.std.proofs.lemmas.List.{drop-map, take-map}
use Rattle.elasticlunr_text.specs.Text.{word_texts}
use Rattle.elasticlunr_job.proofs.kept.source_at.Goals as goal

pub returns-in-Some : goal.returns-in-Some
returns-in-Some c =
    let start = c.args.start in
    let count = c.in-Some.count in
    let words = c.args.words.now in
    let many : start + count - start ≡ count = omega arith in
    rw c.in-Some.is (ap (λ n. word_texts (take n (drop start words))) many
    ∙ sym (take-map (λ word. _) count (drop start words))
    ∙ ap (take count) (sym (drop-map (λ word. _) start words)))
