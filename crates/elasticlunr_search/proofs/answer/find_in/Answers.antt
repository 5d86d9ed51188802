use Rattle.std.proofs.Common.{Err, Some, ap}
use Rattle.elasticlunr.specs.Fields.{has_name}
use Rattle.elasticlunr_text.specs.Text.{bytes_of}
use Rattle.elasticlunr_search.specs.Standing.{fields_of}
use Rattle.elasticlunr_search.proofs.Requested.{not_opened, refused_for, searched}
use Rattle.elasticlunr_search.proofs.Whole.{print_parts}
use Rattle.elasticlunr_search.proofs.Stops.{told_exit}
use Rattle.elasticlunr_search.proofs.answer.find_in.Goals as goal

pub returns-in_err-searcher-clause-refused : goal.returns-in_err-searcher-clause-refused
returns-in_err-searcher-clause-refused c = told_exit _ _ _ c.from_residual-in_err-searcher.ensures.1
    (λ v is. not_opened v (Some c.args.request.now.field.now) c.in_ok-language.language
    (c.in_ok-language.ensures.named v is) c.in_err-searcher.field-0.0 (c.in_err-searcher.ensures.refused v is))

pub returns-in_err-found-clause-refused : goal.returns-in_err-found-clause-refused
returns-in_err-found-clause-refused c =
    let searcher = c.in_ok-searcher.searcher in
    told_exit _ _ _ c.from_residual-in_err-found.ensures.1
    (λ v is. refused_for v (Some c.args.request.now.field.now) c.in_err-found.field-0.0 c.in_err-found.ensures.errors
    (λ none. (
      fields_of searcher,
      (
        searcher.printed.tries.items,
        searcher.printed.store,
        c.in_ok-searcher.ensures.parts
            v is,
      ),
      c.in_err-found.ensures.no_field.0 (ap Err none),
    )))

pub returns-clause-found : goal.returns-clause-found
returns-clause-found c v is =
    let language = c.in_ok-language.language in
    let searcher = c.in_ok-searcher.searcher in
    let parts = c.in_ok-searcher.ensures.parts v is in
    let speaks = c.in_ok-searcher.ensures.speaks in
    let law = c.printed_texts_have_their_parts.ensures.only_within in
    record {
      fields = fields_of searcher;
      tables = searcher.printed.tries.items;
      contents = searcher.printed.store;
      of_index = parts;
      is_there = searched (has_name c.args.request.now.field.now (fields_of searcher)) c.in_ok-found.ensures.no_field.1;
      language = language;
      named = c.in_ok-language.ensures.named v is;
      in_trie = c.in_ok-found.ensures.in_trie language speaks;
      are_found = λ plan commands text reads print. c.in_ok-found.ensures.found language plan commands (record {
        speaks = speaks;
        read = law plan commands text reads.0 v (bytes_of searcher.printed.fields.items) searcher.printed.tries.items
            searcher.printed.store print reads.1 (print_parts plan commands text v _ _ _ print reads parts);
      });
    }
