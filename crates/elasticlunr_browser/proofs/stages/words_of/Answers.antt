use Rattle.std.proofs.Common.{◌≡◌, ◌∙◌, ◌∷◌, [], rules, map, string_bytes, sym}
use Rattle.std.specs.Map.Iter.{deref}
use Rattle.std.proofs.lemmas.Map.Iter.{iter_end}
use Rattle.std.proofs.lemmas.List.{map-append}
use Rattle.elasticlunr_text.specs.Text.{texts_of}
use Rattle.std.proofs.Common.{ap}
use Rattle.elasticlunr_browser.proofs.StageLemmas.{listed-sorted, texts_of-clone}
use Rattle.elasticlunr_browser.proofs.stages.words_of.Goals as goal

pub returns : goal.returns
returns c = λ token.
    let whole : map deref c.loop-word.yielded ≡ c.stop_words-word-items.result.now.keys = search (rules, iter_end) in
    c.stop_words-word-items.ensures token ∙ listed-sorted c.stop_words-word-items.result.now.keys
    c.loop-word.words.items c.sort.new.self.items token (c.loop-word.invariant ∙ ap texts_of whole)
    c.in_ok-sort.ensures.permutation

pub loop-word-preserved : goal.loop-word-preserved
loop-word-preserved c =
    let word = c.in-Some.word.now in
    let copied : string_bytes c.in_ok-clone.field-0 ≡ string_bytes word = search rules in
    texts_of-clone c.loop-word.words.items c.push.new.self.items (map deref c.loop-word.yielded) word
    c.in_ok-clone.field-0 c.loop-word.invariant copied c.in_ok-push.ensures.items
    ∙ ap texts_of (sym (map-append deref c.loop-word.yielded (c.in-Some.word ∷ [])))
