use Rattle.std.proofs.Common.{◌∙◌, Some, ap, arith, sym}
use Rattle.std.proofs.lemmas.Str.Pattern.{split_once_first}
use Rattle.elasticlunr.specs.Printed.{read_within}
use Rattle.elasticlunr_text.specs.Text.{bytes_of}
use Rattle.elasticlunr_search.specs.Lines.{lines}
use Rattle.elasticlunr_search.proofs.Requested.{refused_below, unread_below}
use Rattle.serde_json.specs.Read.{read}
use Rattle.serde_json.specs.View.{view}
use Rattle.elasticlunr_search.proofs.answer.answer.Goals as goal

pub returns-in_err-source-clause-refused : goal.returns-in_err-source-clause-refused
returns-in_err-source-clause-refused c =
    let split = split_once_first 10 c.args.input.now (Some (c.in-Some.line, c.in-Some.text)) c.in-Some.ensures.cases
    (omega arith) in
    unread_below _ c.args.input.now c.in-Some.text.now c.in-Some-request_of.request c.in_err-source.field-0.0
    c.from_residual-in_err-source.ensures.1
    (view c.in_ok-line.line, ap read (sym split.1) ∙ c.in_ok-line.ensures.ok, c.in-Some-request_of.ensures.some)
    split.2 c.in_err-source.ensures.err

pub returns-in_err-found-clause-refused : goal.returns-in_err-found-clause-refused
returns-in_err-found-clause-refused c =
    let split = split_once_first 10 c.args.input.now (Some (c.in-Some.line, c.in-Some.text)) c.in-Some.ensures.cases
    (omega arith) in
    let v = c.in_ok-source.ensures.ok in
    refused_below _ c.args.input.now c.in-Some-request_of.request v.0 c.in_err-found.field-0.0
    c.from_residual-in_err-found.ensures.1
    (view c.in_ok-line.line, ap read (sym split.1) ∙ c.in_ok-line.ensures.ok, c.in-Some-request_of.ensures.some)
    (v.1.0, ap (read_within v.1.0) (sym split.2) ∙ v.1.1)
    (c.in_err-found.ensures.refused v.0 v.2)

pub returns-clause-found : goal.returns-clause-found
returns-clause-found c =
    let split = split_once_first 10 c.args.input.now (Some (c.in-Some.line, c.in-Some.text)) c.in-Some.ensures.cases
    (omega arith) in
    let v = c.in_ok-source.ensures.ok in
    record {
      request = c.in-Some-request_of.request;
      index = v.0;
      found = bytes_of c.in_ok-found.found.items;
      asks = (
        view c.in_ok-line.line,
        ap read (sym split.1)
            ∙ c.in_ok-line.ensures.ok,
        c.in-Some-request_of.ensures.some,
      );
      below = (v.1.0, ap (read_within v.1.0) (sym split.2) ∙ v.1.1);
      are_found = c.in_ok-found.ensures.found v.0 v.2;
      are_lines = c.in_ok-lines_of.ensures ∙ ap (λ references. lines (bytes_of references)) c.deref.ensures.value;
    }
