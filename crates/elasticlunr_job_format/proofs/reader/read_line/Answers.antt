use Rattle.std.proofs.Common.{◌≡◌, ◌<◌, ◌-◌, Result, Ok, Err, OnErr, length, take, sym, ap, subst, ◌∙◌, arith}
use Rattle.std.specs.Io.KnownBytes.{Consumes}
use Rattle.elasticlunr_job_format.specs.LineRead.{HasNoFeed, fed}
use Rattle.elasticlunr_job_format.proofs.LineParts.{before_last, consumes_more, fed_is, joined, last_read, still_none}
use Rattle.std.proofs.Common.{rules}
use Rattle.std.proofs.lemmas.Grind.{common_steps}
use Rattle.elasticlunr_job_format.proofs.reader.read_line.Goals as goal

on_err : {T E : Type 0} (r : Result T E) (P : Type 0) → P → OnErr r P
on_err (Ok x) P p = tt
on_err (Err e) P p = p

pub returns-in_err-count-clause-none_lost : goal.returns-in_err-count-clause-none_lost
returns-in_err-count-clause-none_lost g c =
    let buf = c.read_until.new.buf in
    let old = c.parts.line in
    let left = g.R.Read.remaining in
    on_err c.from_residual.result _ (subst (Consumes (left c.args.reader.now) (left c.read_until.new.self))
    (joined old.items buf.items c.in_err-count.ensures.appends)
    (consumes_more (left c.args.reader.now) (left c.parts.reader) (left c.read_until.new.self) old.items _
    c.parts.invariant.taken c.in_err-count.ensures.none_lost))

pub returns-then-index-eq10-clause-line : goal.returns-then-index-eq10-clause-line
returns-then-index-eq10-clause-line g c =
    let buf = c.read_until.new.buf in
    let old = c.parts.line in
    let more : length old.items < length buf.items = omega (
      arith,
      buf.ok.0,
      old.ok.0,
      c.in_ok-count.ensures.ok,
      c.if-count-eq0.false,
    ) in
    let n : c.len-then-index-eq10.result ≡ length buf.items = omega (arith, buf.ok.0, c.len-then-index-eq10.ensures) in
    let cut : c.truncate.new.self.items ≡ take (length buf.items - 1) buf.items = c.truncate.ensures.items
    ∙ ap (λ k. take (k - 1) buf.items) n in
    subst HasNoFeed (sym cut) (before_last old.items buf.items c.parts.invariant.no_feed c.in_ok-count.ensures.appends
    c.in_ok-count.ensures.stops more)

pub returns-then-index-eq10-clause-taken : goal.returns-then-index-eq10-clause-taken
returns-then-index-eq10-clause-taken g c =
    let buf = c.read_until.new.buf in
    let old = c.parts.line in
    let left = g.R.Read.remaining in
    let more : length old.items < length buf.items = omega (
      arith,
      buf.ok.0,
      old.ok.0,
      c.in_ok-count.ensures.ok,
      c.if-count-eq0.false,
    ) in
    let n : c.len-then-index-eq10.result ≡ length buf.items = omega (arith, buf.ok.0, c.len-then-index-eq10.ensures) in
    let cut : c.truncate.new.self.items ≡ take (length buf.items - 1) buf.items = c.truncate.ensures.items
    ∙ ap (λ k. take (k - 1) buf.items) n in
    let is : fed c.truncate.new.self.items ≡ buf.items =
    ap fed cut ∙ fed_is old.items buf.items c.parts.invariant.no_feed c.in_ok-count.ensures.appends
    c.in_ok-count.ensures.stops more c.index.result.now
    (last_read buf.items c.len.result c.index.result.now (omega (arith, buf.ok.0, c.len.ensures)) (omega arith)
    c.index.ensures) c.if-index-eq10.true in
    subst (Consumes (left c.args.reader.now) (left c.read_until.new.self))
    (joined old.items buf.items c.in_ok-count.ensures.appends ∙ sym is)
    (consumes_more (left c.args.reader.now) (left c.parts.reader) (left c.read_until.new.self) old.items _
    c.parts.invariant.taken c.in_ok-count.ensures.none_lost)

pub parts-preserved : goal.parts-preserved
parts-preserved g c =
    let buf = c.read_until.new.buf in
    let old = c.parts.line in
    let left = g.R.Read.remaining in
    let more : length old.items < length buf.items = omega (
      arith,
      buf.ok.0,
      old.ok.0,
      c.in_ok-count.ensures.ok,
      c.if-count-eq0.false,
    ) in
    record {
      taken = subst (Consumes (left c.args.reader.now) (left c.read_until.new.self))
          (joined old.items buf.items c.in_ok-count.ensures.appends)
          (consumes_more (left c.args.reader.now) (left c.parts.reader) (left c.read_until.new.self) old.items _
          c.parts.invariant.taken c.in_ok-count.ensures.none_lost);
      no_feed = still_none old.items buf.items c.parts.invariant.no_feed c.in_ok-count.ensures.appends
          c.in_ok-count.ensures.stops more c.index.result.now
          (last_read buf.items c.len.result c.index.result.now (omega (arith, buf.ok.0, c.len.ensures)) (omega arith)
          c.index.ensures) c.if-index-eq10.false;
    }

pub parts-init : goal.parts-init
parts-init g c = search rules

pub returns-then-count-eq0-clause-line : goal.returns-then-count-eq0-clause-line
returns-then-count-eq0-clause-line g c = grind (arith, common_steps)

pub returns-then-count-eq0-clause-taken : goal.returns-then-count-eq0-clause-taken
returns-then-count-eq0-clause-taken g c = search rules

pub returns-then-count-eq0-clause-last : goal.returns-then-count-eq0-clause-last
returns-then-count-eq0-clause-last g c = search rules

pub returns-then-index-eq10-clause-last : goal.returns-then-index-eq10-clause-last
returns-then-index-eq10-clause-last g c = search rules

pub returns-clause-none_lost : goal.returns-clause-none_lost
returns-clause-none_lost g c = search rules
