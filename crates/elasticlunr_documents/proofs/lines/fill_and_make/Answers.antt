use Rattle.std.proofs.Common.{◌≡◌, [], map, if◌then◌else◌, inl, inr, refl, sym, ap, subst, ◌∙◌, ◌+◌, ◌++◌, ◌∷◌}
use Rattle.std.proofs.Common.{append_assoc, arith}
use Rattle.std.specs.Io.KnownBytes.{Consumes}
use Rattle.serde_json.specs.View.{view}
use Rattle.elasticlunr_lang.specs.Known.{language_name}
use Rattle.elasticlunr_text.specs.Text.{texts_of}
use Rattle.elasticlunr.specs.Fields.{borrowed}
use Rattle.elasticlunr_job.specs.Given.{AreGiven, kept_lists}
use Rattle.elasticlunr_job.proofs.Filling.{are_given}
use Rattle.elasticlunr_job_format.specs.LineRead.{fed}
use Rattle.elasticlunr_job_format.specs.ObjectsTold.{object_told, options_told, texts_told}
use Rattle.elasticlunr_job_format.proofs.LineParts.{all_more, consumes_more, consumes_none}
use Rattle.elasticlunr_documents.specs.declared.lines.LastLine.{LastLine}
use Rattle.elasticlunr_job.proofs.Alike.{given_alike, plan_alike}
use Rattle.elasticlunr_documents.proofs.LineStops.{exit_for, no_document, on_line, on_no_device, stops_filling}
use Rattle.elasticlunr_documents.proofs.LineStops.{unread_line}
use Rattle.elasticlunr_documents.proofs.ReadLines.{added_blank, added_document, all_filled, feeds_next}
use Rattle.elasticlunr_documents.proofs.ReadLines.{first_no_document, line_after, none_blank, one_fed, one_last}
use Rattle.elasticlunr_documents.proofs.ReadLines.{some_filled, taken_feeds}
use Rattle.elasticlunr_documents.proofs.SeenLines.{on_ok, saw_blank, saw_document}
use Rattle.elasticlunr_job.proofs.Stops.{ok_more}
use Rattle.elasticlunr_documents.proofs.lines.fill_and_make.Goals as goal

pub lines-init : goal.lines-init
lines-init g c = record {
  text = [];
  taken = consumes_none (g.R.Read.remaining c.args.reader.now);
  whole = inl refl;
  feeds = refl;
  added = record {
    items = [];
    documents = [];
    are_values = refl;
    are_documents = tt;
    number_is = refl;
    taken =
        record { documents = []; each = tt; follows = record { stands = λ commands stands. stands } };
  };
  seen = ([], [], refl, tt, refl);
  settings = refl;
  within = omega arith;
}

pub lines-preserved-then-more : goal.lines-preserved-then-more
lines-preserved-then-more g c =
    let left = g.R.Read.remaining in
    let line = c.next_value.new.line.items in
    let so_far = c.lines.invariant in
    let read = c.in_ok-value.ensures.taken in
    record {
      text = so_far.text ++ fed line;
      taken = consumes_more (left c.args.reader.now) (left c.lines.reader) (left c.next_value.new.reader) so_far.text
          (fed line) so_far.taken
          (subst (λ b. Consumes (left c.lines.reader) (left c.next_value.new.reader) (if b then fed line else line))
          c.if-more.true read.taken);
      whole = inr (so_far.text ++ line, sym (append_assoc so_far.text line (10 ∷ [])));
      feeds = ap (λ n. n + 1) so_far.feeds ∙ sym (feeds_next so_far.text line read.no_feed);
      added = added_blank (options_told c.args.options.now) so_far.text line (fed line) c.lines.number _ _ _
          so_far.whole so_far.added (one_fed line read.no_feed)
          (none_blank line c.in_ok-value.value c.in_ok-value.ensures.value c.in_default.is);
      seen = saw_blank g.W.Watch.sees (options_told c.args.options.now) so_far.text line (fed line) c.args.watch.now
          c.lines.watch so_far.whole so_far.seen (one_fed line read.no_feed)
          (none_blank line c.in_ok-value.value c.in_ok-value.ensures.value c.in_default.is);
      settings = so_far.settings;
      within = (let within = so_far.within in omega arith);
    }

pub returns-in_default-clause-ok : goal.returns-in_default-clause-ok
returns-in_default-clause-ok g c =
    let left = g.R.Read.remaining in
    let line = c.next_value.new.line.items in
    let so_far = c.lines.invariant in
    let read = c.in_ok-value.ensures.taken in
    let options = options_told c.args.options.now in
    ok_more c.made.result _ _
    (λ made_here holds language built. all_filled options language (left c.args.reader.now) (so_far.text ++ line) _ _ _ _ _
    _ (g.M.Make.makes c.args.maker.now made_here)
    (all_more (left c.args.reader.now) (left c.lines.reader) so_far.text line so_far.taken (read.last c.if-more.false))
    (added_blank options so_far.text line line c.lines.number _ _ _ so_far.whole so_far.added
    (one_last line read.no_feed)
    (none_blank line c.in_ok-value.value c.in_ok-value.ensures.value c.in_default.is))
    (plan_alike language_name (λ z. (goal.PipelineFn-dyn g z).name_text z.1) c.args.index c.lines.index so_far.settings)
    built holds)
    c.made.ensures.ok

pub returns-in_err-value-clause-err : goal.returns-in_err-value-clause-err
returns-in_err-value-clause-err g c =
    let left = g.R.Read.remaining in
    let line = c.next_value.new.line.items in
    let so_far = c.lines.invariant in
    let options = options_told c.args.options.now in
    let last : LastLine = record { text = c.next_value.new.line; before = c.lines.before } in
    stops_filling c.from_residual.result options (left c.args.reader.now) last (c.lines.number + 1) _
    c.in_err-value.field-0.0 c.from_residual.ensures.1
    (λ problem unread. (
      so_far.text,
      line_after (left c.args.reader.now) (left c.lines.reader) (left c.next_value.new.reader) so_far.text line unread.0
          c.lines.before so_far.taken so_far.whole so_far.feeds unread.1 unread.2,
      first_no_document options so_far.text line c.lines.number _ _ _ problem so_far.added
          (unread_line options line problem (unread.3, unread.4)),
    ))
    c.in_err-value.ensures.err

pub returns-in_err-object-clause-err : goal.returns-in_err-object-clause-err
returns-in_err-object-clause-err g c =
    let left = g.R.Read.remaining in
    let line = c.next_value.new.line.items in
    let so_far = c.lines.invariant in
    let options = options_told c.args.options.now in
    let last : LastLine = record { text = c.next_value.new.line; before = c.lines.before } in
    let value = some_filled line c.in_ok-value.value c.in-Some.value c.in_ok-value.ensures.value c.in-Some.is in
    stops_filling c.from_residual-in_err-object.result options (left c.args.reader.now) last (c.lines.number + 1) _
    c.in_err-object.field-0.0 c.from_residual-in_err-object.ensures.1
    (λ problem has. (
      so_far.text,
      line_after (left c.args.reader.now) (left c.lines.reader) (left c.next_value.new.reader) so_far.text line
          c.in_ok-value.more c.lines.before so_far.taken so_far.whole so_far.feeds c.in_ok-value.ensures.taken
          value.0,
      first_no_document options so_far.text line c.lines.number _ _ _ problem so_far.added
          (no_document options line (view c.in-Some.value) problem value.1 has),
    ))
    (on_line (c.lines.number + 1) _ c.in_err-object.field-0.0 c.in_err-object.ensures.err)

pub returns-then-not-more-clause-ok : goal.returns-then-not-more-clause-ok
returns-then-not-more-clause-ok g c =
    let left = g.R.Read.remaining in
    let line = c.next_value.new.line.items in
    let so_far = c.lines.invariant in
    let read = c.in_ok-value.ensures.taken in
    let options = options_told c.args.options.now in
    let rules = options.rules in
    let fields = options.fields in
    let texts = texts_told c.in_ok-texts.texts.items in
    let lists = map (λ list. texts_of list.items) c.deref-in-lines-5.result.now in
    let kept : lists ≡ kept_lists rules fields texts =
    ap (map (λ list. texts_of list.items)) c.deref-in-lines-5.ensures.value ∙ c.in_ok-kept.ensures
    ∙ ap (λ names. kept_lists rules (borrowed names) (borrowed c.deref-in-lines.result.now)) c.deref.ensures.value
    ∙ ap (λ values. kept_lists rules fields (borrowed values)) c.deref-in-lines.ensures.value in
    let given : AreGiven texts (kept_lists rules fields texts) c.deref-in-lines-6.result.now =
    are_given rules fields texts lists c.in_ok-values.values.items c.deref-in-lines-6.result.now kept
    c.deref-in-lines-6.ensures.value
    (subst (λ values. AreGiven (borrowed values) lists c.in_ok-values.values.items) c.deref-in-lines-3.ensures.value
    c.in_ok-values.ensures) in
    let made = c.in-Ok.ensures.added in
    let value = some_filled line c.in_ok-value.value c.in-Some.value c.in_ok-value.ensures.value c.in-Some.is in
    ok_more c.made-then-not-more.result _ _
    (λ made_here holds language built. all_filled options language (left c.args.reader.now) (so_far.text ++ line) _ _ _ _ _
    _ (g.M.Make.makes c.args.maker.now made_here)
    (all_more (left c.args.reader.now) (left c.lines.reader) so_far.text line so_far.taken
    (read.last c.if-not-more.true))
    (added_document options so_far.text line line c.lines.number _ _ _ so_far.whole so_far.added
    (one_last line read.no_feed)
    _ (view c.in-Some.value) (object_told c.in_ok-object.object) _ texts made.0 value.0 value.1 c.in_ok-object.ensures.ok
    c.as_str.ensures.value c.in_ok-texts.ensures
    (given_alike rules fields _ (λ z. (goal.PipelineFn-dyn g z).leaves z.1) c.args.index c.lines.index so_far.settings _
    texts made.0 (c.deref-in-lines-6.result.now, given, made.1)) made.2)
    (plan_alike language_name (λ z. (goal.PipelineFn-dyn g z).name_text z.1) c.args.index c.add_doc_with_tokens.new.self
    (c.add_doc_with_tokens.ensures.settings ∙ so_far.settings))
    built holds)
    c.made-then-not-more.ensures.ok

pub lines-preserved : goal.lines-preserved
lines-preserved g c =
    let left = g.R.Read.remaining in
    let line = c.next_value.new.line.items in
    let so_far = c.lines.invariant in
    let read = c.in_ok-value.ensures.taken in
    let options = options_told c.args.options.now in
    let rules = options.rules in
    let fields = options.fields in
    let texts = texts_told c.in_ok-texts.texts.items in
    let lists = map (λ list. texts_of list.items) c.deref-in-lines-5.result.now in
    let kept : lists ≡ kept_lists rules fields texts =
    ap (map (λ list. texts_of list.items)) c.deref-in-lines-5.ensures.value ∙ c.in_ok-kept.ensures
    ∙ ap (λ names. kept_lists rules (borrowed names) (borrowed c.deref-in-lines.result.now)) c.deref.ensures.value
    ∙ ap (λ values. kept_lists rules fields (borrowed values)) c.deref-in-lines.ensures.value in
    let given : AreGiven texts (kept_lists rules fields texts) c.deref-in-lines-6.result.now =
    are_given rules fields texts lists c.in_ok-values.values.items c.deref-in-lines-6.result.now kept
    c.deref-in-lines-6.ensures.value
    (subst (λ values. AreGiven (borrowed values) lists c.in_ok-values.values.items) c.deref-in-lines-3.ensures.value
    c.in_ok-values.ensures) in
    let made = c.in-Ok.ensures.added in
    let value = some_filled line c.in_ok-value.value c.in-Some.value c.in_ok-value.ensures.value c.in-Some.is in
    record {
      text = so_far.text ++ fed line;
      taken = consumes_more (left c.args.reader.now) (left c.lines.reader) (left c.next_value.new.reader) so_far.text
          (fed line) so_far.taken
          (subst (λ b. Consumes (left c.lines.reader) (left c.next_value.new.reader) (if b then fed line else line))
          c.if-not-more.false read.taken);
      whole = inr (so_far.text ++ line, sym (append_assoc so_far.text line (10 ∷ [])));
      feeds = ap (λ n. n + 1) so_far.feeds ∙ sym (feeds_next so_far.text line read.no_feed);
      added = added_document (options_told c.args.options.now) so_far.text line (fed line) c.lines.number _ _ _
          so_far.whole so_far.added (one_fed line read.no_feed)
          _ (view c.in-Some.value) (object_told c.in_ok-object.object) _ texts made.0 value.0 value.1
          c.in_ok-object.ensures.ok c.as_str.ensures.value c.in_ok-texts.ensures
          (given_alike rules fields _ (λ z. (goal.PipelineFn-dyn g z).leaves z.1) c.args.index c.lines.index
          so_far.settings _ texts made.0 (c.deref-in-lines-6.result.now, given, made.1)) made.2;
      seen = saw_document g.W.Watch.sees (options_told c.args.options.now) so_far.text line (fed line) c.args.watch.now
          c.lines.watch so_far.whole so_far.seen (one_fed line read.no_feed) c.object_on.new.watch (view c.in-Some.value)
          (object_told c.in_ok-object.object) value.0 value.1 c.in_ok-object.ensures.ok c.in_ok-object.ensures.seen;
      settings = c.add_doc_with_tokens.ensures.settings ∙ so_far.settings;
      within = (let within = so_far.within in omega arith);
    }

pub returns-in_default-clause-seen : goal.returns-in_default-clause-seen
returns-in_default-clause-seen g c =
    let left = g.R.Read.remaining in
    let line = c.next_value.new.line.items in
    let so_far = c.lines.invariant in
    let read = c.in_ok-value.ensures.taken in
    on_ok c.made.result _ (
      so_far.text ++ line,
      all_more (left c.args.reader.now) (left c.lines.reader) so_far.text line so_far.taken (read.last c.if-more.false),
      saw_blank g.W.Watch.sees (options_told c.args.options.now) so_far.text line line c.args.watch.now
          c.lines.watch so_far.whole so_far.seen (one_last line read.no_feed)
          (none_blank line c.in_ok-value.value c.in_ok-value.ensures.value c.in_default.is),
    )

pub returns-then-not-more-clause-seen : goal.returns-then-not-more-clause-seen
returns-then-not-more-clause-seen g c =
    let left = g.R.Read.remaining in
    let line = c.next_value.new.line.items in
    let so_far = c.lines.invariant in
    let read = c.in_ok-value.ensures.taken in
    let value = some_filled line c.in_ok-value.value c.in-Some.value c.in_ok-value.ensures.value c.in-Some.is in
    on_ok c.made-then-not-more.result _ (
      so_far.text ++ line,
      all_more (left c.args.reader.now) (left c.lines.reader) so_far.text line so_far.taken
          (read.last c.if-not-more.true),
      saw_document g.W.Watch.sees (options_told c.args.options.now) so_far.text line line c.args.watch.now
          c.lines.watch so_far.whole so_far.seen (one_last line read.no_feed) c.object_on.new.watch (view c.in-Some.value)
          (object_told c.in_ok-object.object) value.0 value.1 c.in_ok-object.ensures.ok c.in_ok-object.ensures.seen,
    )

pub returns-in_err-value-clause-device : goal.returns-in_err-value-clause-device
returns-in_err-value-clause-device g c = exit_for c.from_residual.result _ c.in_err-value.field-0.0
    c.from_residual.ensures.1 c.in_err-value.ensures.device

pub returns-in_err-object-clause-device : goal.returns-in_err-object-clause-device
returns-in_err-object-clause-device g c =
    exit_for c.from_residual-in_err-object.result _ c.in_err-object.field-0.0 c.from_residual-in_err-object.ensures.1
    (on_no_device _ (c.lines.number + 1) _ c.in_err-object.field-0.0 c.in_err-object.ensures.err)

pub returns-clause-err : goal.returns-clause-err
returns-clause-err g c =
    let left = g.R.Read.remaining in
    let so_far = c.lines.invariant in
    taken_feeds (left c.args.reader.now) (left c.lines.reader) so_far.text so_far.taken
    (omega (arith, c.lines-test.false, so_far.feeds))
