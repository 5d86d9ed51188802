use Rattle.std.proofs.Common.{◌≡◌, eqb, true, length, eq-eqb, ap, rules, sym, ◌∙◌}
use Rattle.std.proofs.lemmas.Bool.{eqb-true}
use Rattle.std.proofs.lemmas.List.{nil_from_length}
use Rattle.elasticlunr_flat.proofs.Exits.{at_exit}
use Rattle.elasticlunr_flat.proofs.Parts.{none_whole, not_whole, whole}
use Rattle.elasticlunr_flat.proofs.read.read_whole.Goals as goal

pub returns-then-not-is_empty-clause-malformed : goal.returns-then-not-is_empty-clause-malformed
returns-then-not-is_empty-clause-malformed g c =
    not_whole g.T.Item.Fits g.T.Item.flat (g.met.T.Item c.lifetimes (search rules)).one_way c.args.bytes.now
    c.read.new.reader.rest.now (g.T.Item.told c.in_ok-item.item) c.in_ok-item.ensures.ok
    (λ ended. let empty : eqb (length c.read.new.reader.rest.now) 0 ≡ true = eq-eqb _ _ (ap length ended) in
    cc (sym empty ∙ sym c.is_empty.ensures ∙ c.if-not-is_empty.true))

pub returns-clause-ok : goal.returns-clause-ok
returns-clause-ok g c = whole g.T.Item.Fits g.T.Item.flat c.args.bytes.now c.read.new.reader.rest.now
    (g.T.Item.told c.in_ok-item.item) c.in_ok-item.ensures.ok
    (nil_from_length c.read.new.reader.rest.now (eqb-true _ _ (sym c.is_empty.ensures ∙ c.if-not-is_empty.false)))

pub returns-in_err-item-clause-malformed : goal.returns-in_err-item-clause-malformed
returns-in_err-item-clause-malformed g c = at_exit c.from_residual.result _ _ c.in_err-item.field-0.0
    c.from_residual.ensures.1 (none_whole g.T.Item.Fits g.T.Item.flat c.args.bytes.now) c.in_err-item.ensures.malformed
