use Rattle.std.proofs.Common.{not, nat_eq, string_len, refl}
use Rattle.std.proofs.lemmas.Fn.{filter_same}
use Rattle.elasticlunr_text.specs.Text.{texts_of}
use Rattle.elasticlunr_search.proofs.Asking.{asked}
use Rattle.elasticlunr_search.proofs.searcher.Searcher.tokens.Goals as goal

pub returns-clause-read : goal.returns-clause-read
returns-clause-read g c i stages =
    let query = c.args.query.now in
    let made = c.in_ok-made.made.items in
    let left = c.in_ok-tokens.tokens.items in
    let law = c.a_language_reads_what_its_pipeline_leaves.ensures in
    let only = filter_same _ (λ s. not (nat_eq (string_len s) 0)) _ (λ x b f k. ((cc), refl)) left
    c.retain.new.self.items c.retain.ensures.filtered in
    asked _ i query left c.retain.new.self.items (law.reads i query made (texts_of left) stages c.in_ok-made.ensures
    c.in_ok-tokens.ensures)
    (λ others reads. law.only i query made (texts_of left) others stages c.in_ok-made.ensures c.in_ok-tokens.ensures
    reads) only

pub returns-clause-run : goal.returns-clause-run
returns-clause-run g c i =
    let query = c.args.query.now in
    let left = c.in_ok-tokens.tokens.items in
    let only = filter_same _ (λ s. not (nat_eq (string_len s) 0)) _ (λ x b f k. ((cc), refl)) left
    c.retain.new.self.items c.retain.ensures.filtered in
    let run = rw (c.in_ok-made.ensures) at c.in_ok-tokens.ensures in
    asked _ i query left c.retain.new.self.items run
    (λ others reads. c.a_run_has_one_answer.ensures _ others (texts_of left) reads run) only
