use Rattle.std.proofs.Common.{Err, ap}
use Rattle.elasticlunr_search.proofs.Stemming.{exit_error}
use Rattle.elasticlunr_search.proofs.Stops.{told_exit}
use Rattle.elasticlunr_search.specs.Standing.{fields_of}
use Rattle.elasticlunr_search.specs.declared.answer.Refusal.TheVariants as refusal
use Rattle.elasticlunr_hits.proofs.Unfound.{hits_apart, refused_hits, unsearched}
use Rattle.elasticlunr_hits.proofs.in_text.lines_in.Goals as goal

pub returns-in_err-searcher-clause-refused : goal.returns-in_err-searcher-clause-refused
returns-in_err-searcher-clause-refused c = told_exit _ _ _ c.from_residual.ensures.1
    (unsearched c.args.text.now c.args.asked.now c.in_err-searcher.field-0.0 c.in_err-searcher.ensures.refused)

pub returns-in_err-searcher-clause-other_stages : goal.returns-in_err-searcher-clause-other_stages
returns-in_err-searcher-clause-other_stages c other = c.in_err-searcher.ensures.other_stages
    (ap Err (exit_error _ _ refusal.OtherPipeline c.from_residual.ensures.1 other))

pub returns-in_err-lines-clause-refused : goal.returns-in_err-lines-clause-refused
returns-in_err-lines-clause-refused c =
    let searcher = c.in_ok-searcher.searcher in
    let named = c.in_ok-searcher.ensures.named in
    told_exit _ _ _ c.from_residual-in_err-lines.ensures.1
    (refused_hits c.args.text.now c.args.asked.now named.value named.reads (fields_of searcher)
    (searcher.printed.tries.items, searcher.printed.store, named.parts) c.in_err-lines.field-0.0
    c.in_err-lines.ensures.errors (λ is. c.in_err-lines.ensures.no_field (ap Err is)))

pub returns-in_err-lines-clause-other_stages : goal.returns-in_err-lines-clause-other_stages
returns-in_err-lines-clause-other_stages c other = absurd (hits_apart c.in_err-lines.field-0.0
    c.in_err-lines.ensures.errors
    (exit_error _ _ refusal.OtherPipeline c.from_residual-in_err-lines.ensures.1 other))

pub returns-clause-lines : goal.returns-clause-lines
returns-clause-lines c =
    let searcher = c.in_ok-searcher.searcher in
    let named = c.in_ok-searcher.ensures.named in
    let found = c.in_ok-lines.ensures.lines in
    record {
      value = named.value;
      reads = named.reads;
      fields = fields_of searcher;
      tables = searcher.printed.tries.items;
      contents = searcher.printed.store;
      of_index = named.parts;
      are_there = c.in_ok-lines.ensures.has_fields;
      language = named.language;
      named = named.named;
      stems = named.stems;
      staged = named.staged;
      hits = found.0;
      are_hits = found.1 named.stems named.language named.speaks;
      are_lines = found.2;
      of_print = named.searches;
    }
