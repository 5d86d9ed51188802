use Rattle.std.proofs.Common.{◌∙◌, [], sym, map}
use Rattle.std.proofs.lemmas.List.{append-nil}
use Rattle.serde_json.specs.View.{view}
use Rattle.elasticlunr_browser.specs.Stemmers.{stemmer_of}
use Rattle.elasticlunr_browser.proofs.KindLemmas.{held_of, holds_none, holds_language, with_stemmer, appended}
use Rattle.elasticlunr_browser.proofs.stages.push_stages.Goals as goal

pub returns : goal.returns
returns c =
    let pipeline = c.in_ok-pipeline.pipeline in
    let first = c.in_ok-its_own.its_own.items in
    let its = c.push_some.new.list.items in
    let (kinds, are, held) = held_of _ _ c.args.language pipeline.queue.items (map view first)
    c.in_ok-pipeline.ensures.names c.in_ok-pipeline.ensures.leaves c.in_ok-pipeline.ensures.known
    c.in_ok-its_own.ensures in
    let more = with_stemmer first its c.in_ok-stemmer.stemmer (stemmer_of c.args.language) c.in_ok-stemmer.ensures
    c.in_ok-push_some.ensures in
    appended c.append.result c.args.language c.args.stages.now.items c.append.new.self.items its c.append.ensures.items
    (holds_language c.args.language (map view its) (sym c.is_english.ensures ∙ c.if-is_english.false)
    (kinds, map view first, are, held, more))

pub returns-then-is_english : goal.returns-then-is_english
returns-then-is_english c = (
  [],
  holds_none c.args.language (sym c.is_english.ensures ∙ c.if-is_english.true),
  sym (append-nil (map view c.args.stages.now.items)),
)
