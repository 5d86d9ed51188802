use Rattle.std.proofs.Common.{◌+◌, [], ap, sym, ◌∙◌}
use Rattle.elasticlunr.specs.Values.{MayComeWith}
use Rattle.elasticlunr.specs.declared.values.TokenSource.TheVariants.{FromText}
use Rattle.elasticlunr.proofs.Documents.{each_pushed}
use Rattle.elasticlunr.proofs.settings.Settings.tokens_of_all.Goals as goal

pub loop-i-init : goal.loop-i-init
loop-i-init g c = record {
  as_many = c.in_ok-tokens.ensures.len;
  each = λ i value left there is. absurd
      (cc (rw c.in_ok-tokens.ensures.items at is));
}

pub loop-i-preserved : goal.loop-i-preserved
loop-i-preserved g c = record {
  as_many = c.in_ok-push.ensures.len ∙ ap (λ n. n + 1) c.loop-i.invariant.as_many;
  each = each_pushed (λ i value left. MayComeWith g.L.Language.tokens_of (λ z. (goal.PipelineFn-dyn g z).leaves z.1)
      c.args.self.now i value left) c.args.values.now c.loop-i.tokens.items c.push.new.self.items
      c.in_ok-tokens_at.field-0 c.loop-i.i
      (record { text = record { ref_ptr = (0, 0); now = [] }; tokens = FromText }) (sym c.loop-i.tokens.ok.0 ∙ c.loop-i.invariant.as_many)
      c.in_ok-push.ensures.items c.in_ok-tokens_at.ensures c.loop-i.invariant.each;
}

pub returns-clause-each : goal.returns-clause-each
returns-clause-each g c = c.loop-i.invariant.each
