use Rattle.std.proofs.Common.{◌∙◌, ap, refl, rules, string_bytes}
use Rattle.std.proofs.lemmas.Fn.{filter_same}
use Rattle.elasticlunr_text.specs.Text.{bytes_of, is_listed}
use Rattle.elasticlunr_ranking.specs.Order.{told_hits}
use Rattle.elasticlunr_ranking.specs.declared.hits.Hit.{Hit}
use Rattle.elasticlunr_search.proofs.Steps.{map-filter}
use Rattle.elasticlunr_hits.specs.Hits.{Told}
use Rattle.elasticlunr_hits.proofs.hits.keep_found.Goals as goal

pub returns : goal.returns
returns c sorted =
    let found = bytes_of c.args.found.now in
    let passes = λ (h : Told). is_listed h.0 found in
    let stays = λ (h : Hit). is_listed (string_bytes h.reference) found in
    let only = filter_same _ stays _ (λ x b f k. (search rules, search rules)) c.args.hits.now.items c.retain.new.self.items
    c.retain.ensures.filtered in
    ap told_hits only ∙ map-filter (λ h. (string_bytes h.reference, h.score)) passes stays (λ h. refl) c.args.hits.now.items
