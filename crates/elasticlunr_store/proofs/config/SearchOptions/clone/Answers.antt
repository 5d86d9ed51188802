use Rattle.elasticlunr_json.proofs.Seen.{cloned}
use Rattle.elasticlunr_store.specs.Options.{options_of}
use Rattle.elasticlunr_store.proofs.WrittenOptions.{small_boosts}
use Rattle.elasticlunr_store.proofs.config.SearchOptions.clone.Goals as goal

pub returns-clause-ok : goal.returns-clause-ok
returns-clause-ok c = λ i. record {
  bool = c.args.self.now.bool;
  expand = c.args.self.now.expand;
  fields = cloned (λ field. field) _ (λ x y e. e) c.args.self.now.fields.entries c.in_ok-clone.field-0.entries
      c.in_ok-clone.ensures.cases i;
}

pub returns-clause-small : goal.returns-clause-small
returns-clause-small c = small_boosts (options_of c.args.self.now)
