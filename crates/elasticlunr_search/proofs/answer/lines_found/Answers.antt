use Rattle.std.proofs.Common.{Err, ap, option_map, ◌∙◌}
use Rattle.elasticlunr_text.specs.Text.{bytes_of}
use Rattle.elasticlunr_search.specs.Lines.{lines}
use Rattle.elasticlunr_search.specs.Standing.{fields_of}
use Rattle.elasticlunr_search.specs.Unanswered.{IsTextNotSearched}
use Rattle.elasticlunr_search.proofs.Requested.{not_asked, not_opened, refused_for, why_text, unread_text}
use Rattle.elasticlunr_search.proofs.Whole.{print_parts}
use Rattle.elasticlunr_search.proofs.Stops.{told_exit}
use Rattle.elasticlunr_search.proofs.answer.lines_found.Goals as goal

pub returns-in_err-source-clause-refused : goal.returns-in_err-source-clause-refused
returns-in_err-source-clause-refused c = unread_text _ c.args.text.now _ c.in_err-source.field-0.0
    c.from_residual.ensures.1 c.in_err-source.ensures.err

pub returns-in_err-language-clause-refused : goal.returns-in_err-language-clause-refused
returns-in_err-language-clause-refused c =
    let v = c.in_ok-source.ensures.ok in
    let none = c.in_err-language.ensures.none in
    told_exit _ _ _ c.from_residual-in_err-language.ensures.1 (rw (none.0) (v.0, v.1, none.1 v.0 v.2))

pub returns-in_err-searcher-clause-refused : goal.returns-in_err-searcher-clause-refused
returns-in_err-searcher-clause-refused c =
    let v = c.in_ok-source.ensures.ok in
    let field = option_map (λ f. f.now) c.args.field in
    told_exit _ (IsTextNotSearched c.args.text.now field) _ c.from_residual-in_err-searcher.ensures.1
    (why_text c.args.text.now v.0 field _ v.1
    (not_opened v.0 field c.in_ok-language.language (c.in_ok-language.ensures.named v.0 v.2)
    c.in_err-searcher.field-0.0 (c.in_err-searcher.ensures.refused v.0 v.2)))

pub returns-in_err-found-clause-refused : goal.returns-in_err-found-clause-refused
returns-in_err-found-clause-refused c =
    let v = c.in_ok-source.ensures.ok in
    let searcher = c.in_ok-searcher.searcher in
    let field = option_map (λ f. f.now) c.args.field in
    told_exit _ (IsTextNotSearched c.args.text.now field) _ c.from_residual-in_err-found.ensures.1
    (why_text c.args.text.now v.0 field _ v.1
    (refused_for v.0 field c.in_err-found.field-0.0 c.in_err-found.ensures.errors
    (λ is. not_asked v.0 (fields_of searcher) (
      searcher.printed.tries.items,
      searcher.printed.store,
      c.in_ok-searcher.ensures.parts v.0 v.2,
    ) field (c.in_err-found.ensures.no_field (ap Err is)))))

pub returns-clause-found : goal.returns-clause-found
returns-clause-found c =
    let v = c.in_ok-source.ensures.ok in
    let language = c.in_ok-language.language in
    let searcher = c.in_ok-searcher.searcher in
    let parts = c.in_ok-searcher.ensures.parts v.0 v.2 in
    let speaks = c.in_ok-searcher.ensures.speaks in
    let law = c.printed_texts_have_their_parts.ensures.only_within in (
      v.0,
      v.1,
      record {
        fields = fields_of searcher;
        tables = searcher.printed.tries.items;
        contents = searcher.printed.store;
        of_index = parts;
        are_there = c.in_ok-found.ensures.has_fields;
        language = language;
        named = c.in_ok-language.ensures.named v.0 v.2;
        found = bytes_of c.in_ok-found.found.items;
        in_tries = c.in_ok-found.ensures.in_tries language speaks;
        are_found = λ plan commands text reads print. c.in_ok-found.ensures.found language plan commands (record {
          speaks = speaks;
          read = law plan commands text reads.0 v.0 (bytes_of searcher.printed.fields.items)
              searcher.printed.tries.items searcher.printed.store print reads.1
              (print_parts plan commands text v.0 _ _ _ print reads parts);
        });
        are_lines = c.in_ok-lines_of.ensures ∙ ap (λ references. lines (bytes_of references)) c.deref.ensures.value;
      },
    )
