use Rattle.std.proofs.Common.{◌≡◌, ◌∙◌, ap, false, true, None, Some, refl, sym, unwrap_or}
use Rattle.elasticlunr_ranking.proofs.Choosing.{as_chosen, for_all, for_some}
use Rattle.elasticlunr_ranking.proofs.choice.field_for.Goals as goal
use Rattle.elasticlunr_ranking.proofs.choice.field_for.Goals.{then-is_empty, else-is_empty+in-Some}

pub returns-in-None : goal.returns-in-None
returns-in-None c =
    let options = c.args.options.now in
    sym (for_some options c.args.store.now c.args.name.now c.args.trie.now
    (λ e. let h : false ≡ true = c.if-is_empty.ensures.1 e in cc) None (sym c.in-None.ensures.value))

pub returns : goal.returns
returns c =
    let options = c.args.options.now in
    let own = c.if-is_empty.own in
    let made = as_chosen options c.args.store.now c.args.name.now c.args.trie.now c.unwrap_or.result
    c.unwrap_or-2.result c.unwrap_or-3.result in
    elim c.if-is_empty.branch [
      | then-is_empty w ↦
          let d = w.default-own.ensures in
          made None None None
          (c.unwrap_or.ensures ∙ ap (λ o. unwrap_or o options.bool) (ap (λ o. o.bool) w.own-is ∙ d.bool))
          (c.unwrap_or-2.ensures ∙ ap (λ o. unwrap_or o options.expand) (ap (λ o. o.expand) w.own-is ∙ d.expand))
          (c.unwrap_or-3.ensures ∙ ap (λ o. unwrap_or o 1) (ap (λ o. o.boost) w.own-is ∙ d.boost))
          ∙ sym (for_all options c.args.store.now c.args.name.now c.args.trie.now (w.if-is_empty.ensures.0 refl))
      | else-is_empty+in-Some w ↦
          let given = w.in-Some.own.now in
          made given.bool given.expand given.boost
          (c.unwrap_or.ensures ∙ ap (λ o. unwrap_or o.bool options.bool) w.own-is)
          (c.unwrap_or-2.ensures ∙ ap (λ o. unwrap_or o.expand options.expand) w.own-is)
          (c.unwrap_or-3.ensures ∙ ap (λ o. unwrap_or o.boost 1) w.own-is)
          ∙ sym (for_some options c.args.store.now c.args.name.now c.args.trie.now
          (λ e. let h : false ≡ true = w.if-is_empty.ensures.1 e in cc) (Some given) (sym w.in-Some.ensures.value))
    ]
