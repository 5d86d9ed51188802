use Rattle.std.proofs.Common.{◌∷◌, ◌++◌, refl, sym, ap, subst, ◌∙◌, append_assoc}
use Rattle.json.specs.Token.{key}
use Rattle.json.specs.Tree.{json_tokens, members_tokens}
use Rattle.serde_json.specs.Data.{no_members, member}
use Rattle.serde_json.specs.Written.{outline, members_outline}
use Rattle.elasticlunr_print.specs.Sorted.{AreMembersOf}
use Rattle.elasticlunr_print.proofs.Writing.{joined, ok_then}
use Rattle.elasticlunr_print.proofs.write.write_tries.Goals as goal

pub loop-name-preserved : goal.loop-name-preserved
loop-name-preserved g c rest are =
    let name = c.in-Some.name.now.now in
    let value = c.in_ok-write.ensures.written in
    let both = joined _ _ _ _ _ c.in_ok-token-2.ensures value.2 in
    let all = c.loop-name.invariant (member name value.0 rest)
    (subst (λ es. AreMembersOf es (member name value.0 rest)) (sym c.in-Some.ensures.steps)
    (refl, value.1, c.write.ensures.table, are)) in (
      all.0,
      all.1,
      ap (λ ts. ts ++ members_tokens (members_outline rest)) both
          ∙ append_assoc (g.W.Tokens.written c.loop-name.out) (key name ∷ json_tokens (outline value.0))
          (members_tokens (members_outline rest))
          ∙ all.2,
    )

pub returns : goal.returns
returns g c = ok_then c.token-2.result c.token-2.ensures (λ done.
    let all = c.loop-name.invariant no_members (subst (λ es. AreMembersOf es no_members) (sym c.in-None.ensures.steps.0)
    tt) in
    (all.0, all.1, c.iter-name-items.ensures.ordered, joined _ _ _ _ _ c.in_ok-token.ensures (done ∙ all.2)))
