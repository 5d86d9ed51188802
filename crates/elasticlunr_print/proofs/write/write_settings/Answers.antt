use Rattle.elasticlunr_print.specs.Parts.{plan_of_parts}
use Rattle.elasticlunr_print.proofs.Writing.{ok_then, settings_tokens}
use Rattle.elasticlunr_print.proofs.write.write_settings.Goals as goal

pub returns : goal.returns
returns g c = ok_then c.token-8.result c.token-8.ensures
    (settings_tokens (plan_of_parts c.args.parts) (g.W.Tokens.written c.args.out.now) _ _ _ _ _ _ _ _ _
    c.in_ok-token.ensures c.in_ok-token-2.ensures c.in_ok-token-3.ensures c.in_ok-write_names.ensures
    c.in_ok-token-4.ensures c.in_ok-token-5.ensures c.in_ok-token-6.ensures c.in_ok-token-7.ensures)
