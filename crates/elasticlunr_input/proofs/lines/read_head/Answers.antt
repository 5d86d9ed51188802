use Rattle.std.proofs.Common.{◌≡◌, ◌+◌, ◌++◌, ◌∷◌, ◌==◌, [], true, false, count_by, if◌then◌else◌, inr, refl, sym, ap}
use Rattle.std.proofs.Common.{subst, ◌∙◌, append_assoc, arith}
use Rattle.std.proofs.lemmas.List.Sums.{count_by-le-length}
use Rattle.std.specs.Io.KnownBytes.{Consumes}
use Rattle.elasticlunr_job_format.specs.LineRead.{fed}
use Rattle.elasticlunr_job_format.specs.Lines.{filled_lines, is_blank}
use Rattle.elasticlunr_job_format.proofs.LineParts.{consumes_more}
use Rattle.elasticlunr_documents.proofs.ReadLines.{feeds_next}
use Rattle.elasticlunr_input.proofs.HeadLemmas.{blank_next, head_filled, head_last}
use Rattle.std.proofs.Common.{rules}
use Rattle.elasticlunr_input.proofs.lines.read_head.Goals as goal

pub returns-then-not-more-clause-ok : goal.returns-then-not-more-clause-ok
returns-then-not-more-clause-ok g c =
    let left = g.R.Read.remaining in
    let line = c.read_line.new.line.items in
    let so_far = c.lines.invariant in
    head_last (left c.args.reader.now) (left c.lines.reader) (left c.read_line.new.reader) c.lines.head.items line
    c.extend_from_slice.new.self.items (record { text = c.read_line.new.line; before = c.lines.before })
    so_far.taken so_far.whole so_far.blank so_far.feeds refl c.in_ok-more.ensures.line
    (subst (λ b. Consumes (left c.lines.reader) (left c.read_line.new.reader) (if b then fed line else line))
    c.if-not-more.true c.in_ok-more.ensures.taken) (c.in_ok-more.ensures.last c.if-not-more.true)
    (c.in_ok-extend_from_slice.ensures.items ∙ ap (λ bs. c.lines.head.items ++ bs) c.deref.ensures.value)

pub returns-then-not-is_blank-clause-ok : goal.returns-then-not-is_blank-clause-ok
returns-then-not-is_blank-clause-ok g c =
    let left = g.R.Read.remaining in
    let line = c.read_line.new.line.items in
    let so_far = c.lines.invariant in
    let blank : is_blank line ≡ false = ap is_blank (sym c.deref-in-lines.ensures.value)
    ∙ (sym c.is_blank.ensures ∙ c.if-not-is_blank.true) in
    let whole : c.extend_from_slice.new.self.items
    ≡ c.lines.head.items ++ line = c.in_ok-extend_from_slice.ensures.items
    ∙ ap (λ bs. c.lines.head.items ++ bs) c.deref.ensures.value in
    head_filled (left c.args.reader.now) (left c.lines.reader) (left c.read_line.new.reader) c.lines.head.items line
    c.push.new.self.items (record { text = c.read_line.new.line; before = c.lines.before }) so_far.taken
    so_far.whole so_far.blank so_far.feeds refl c.in_ok-more.ensures.line
    (subst (λ b. Consumes (left c.lines.reader) (left c.read_line.new.reader) (if b then fed line else line))
    c.if-not-more.false c.in_ok-more.ensures.taken)
    (ap (λ b. if b then false else true) blank) (c.in_ok-push.ensures.items
    ∙ (ap (λ h. h ++ 10 ∷ []) whole ∙ append_assoc c.lines.head.items line (10 ∷ [])))

pub lines-preserved : goal.lines-preserved
lines-preserved g c =
    let left = g.R.Read.remaining in
    let line = c.read_line.new.line.items in
    let so_far = c.lines.invariant in
    let head = c.lines.head.items in
    let blank : is_blank line ≡ true = ap is_blank (sym c.deref-in-lines.ensures.value)
    ∙ (sym c.is_blank.ensures ∙ c.if-not-is_blank.false) in
    let fed_head : c.push.new.self.items ≡ fed (head ++ line) = c.in_ok-push.ensures.items
    ∙ ap (λ h. h ++ 10 ∷ []) (c.in_ok-extend_from_slice.ensures.items
    ∙ ap (λ bs. head ++ bs) c.deref.ensures.value) in
    let whole : c.push.new.self.items ≡ head ++ fed line = fed_head ∙ append_assoc head line (10 ∷ []) in
    record {
      taken = subst (Consumes (left c.args.reader.now) (left c.read_line.new.reader)) (sym whole)
          (consumes_more (left c.args.reader.now) (left c.lines.reader) (left c.read_line.new.reader) head (fed line)
          so_far.taken
          (subst (λ b. Consumes (left c.lines.reader) (left c.read_line.new.reader) (if b then fed line else line))
          c.if-not-more.false c.in_ok-more.ensures.taken));
      whole = inr (head ++ line, fed_head);
      blank = ap filled_lines whole ∙ blank_next head line so_far.whole so_far.blank c.in_ok-more.ensures.line blank;
      feeds = ap (λ n. n + 1) so_far.feeds ∙ (sym (feeds_next head line c.in_ok-more.ensures.line)
          ∙ ap (count_by (λ b. b == 10)) (sym whole));
    }

pub unreachable-requires : goal.unreachable-requires
unreachable-requires g c =
    let head = c.lines.head in
    let feeds = c.lines.invariant.feeds in
    let few = count_by-le-length (λ b. b == 10) head.items in
    omega (arith, c.lines-test.false, feeds, few, head.ok.0, head.ok.1, head.small)

pub lines-init : goal.lines-init
lines-init g c = search rules
