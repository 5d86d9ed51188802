use Rattle.elasticlunr_flat.proofs.Fields.{text_short, text_not_utf8}
use Rattle.elasticlunr_flat.proofs.reader.Reader.text.Goals as goal

pub returns-then-self-length-clause-malformed : goal.returns-then-self-length-clause-malformed
returns-then-self-length-clause-malformed c = text_short c.args.self.now.rest.now c.number.new.self.rest.now
    c.in_ok-length.field-0 c.in_ok-length.ensures.ok c.if-self-length.true

pub returns-in-Err-clause-malformed : goal.returns-in-Err-clause-malformed
returns-in-Err-clause-malformed c = text_not_utf8 c.args.self.now.rest.now c.number.new.self.rest.now
    c.split_at.result.0.now c.in_ok-length.field-0 c.in_ok-length.ensures.ok c.split_at.ensures.front
    c.in-Err.ensures.cases.0
