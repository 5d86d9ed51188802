use Rattle.std.proofs.Common.{◌∙◌, ℕ, ap, sym}
use Rattle.std.specs.Str.{chars}
use Rattle.std.proofs.lemmas.List.{length-map}
use Rattle.elasticlunr_error.specs.Text.{Bytes}
use Rattle.elasticlunr_trie.specs.Tokens.{told_postings}
use Rattle.std.specs.Borrow.{Bor}
use Rattle.elasticlunr_ranking.specs.Fields.{field_of}
use Rattle.elasticlunr_ranking.specs.Held.{add_weight, held, under}
use Rattle.elasticlunr_ranking.proofs.Weighing.{word_added}
use Rattle.elasticlunr_ranking.proofs.token.add_word.Goals as goal

pub returns : goal.returns
returns c r =
    let field = field_of c.args.field.now in
    let items = c.in_ok-postings.postings.items in
    let before = held c.args.scores.now r in
    c.in_ok-add_postings.ensures r
    ∙ ap (λ l. under (add_weight field c.idf-idf.result c.penalty-penalty.result) r before (told_postings l))
    c.deref.ensures.value
    ∙ word_added field (chars c.args.token.now) (chars c.args.word.now) (told_postings items) c.in_ok-postings.ensures
    c.idf-idf.result c.penalty-penalty.result c.len-documents.result c.len.result c.len-documents.ensures
    (c.len.ensures ∙ c.in_ok-postings.postings.ok.0 ∙ sym (length-map items (λ (p : Bor Bytes × ℕ). (p.0.now, p.1))))
    c.idf-idf.ensures c.penalty-penalty.ensures r before
