use Rattle.elasticlunr_json.proofs.Rows.{five}
use Rattle.elasticlunr_json.proofs.Seen.{on_ok}
use Rattle.elasticlunr_store_maps.proofs.write.write_last_members.Goals as goal

pub returns : goal.returns
returns g c = on_ok c.token-4.result _ _ (λ last. five _ _ _ _ _ _ _ _ _ _ _ c.in_ok-token.ensures
    c.in_ok-number.ensures c.in_ok-token-2.ensures c.in_ok-token-3.ensures last) c.token-4.ensures
