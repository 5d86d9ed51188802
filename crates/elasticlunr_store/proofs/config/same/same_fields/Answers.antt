use Rattle.std.proofs.Common.{◌&&◌, sym, ◌∙◌, bytes_eq}
use Rattle.std.specs.Cmp.Lexicographic.{pointwise}
use Rattle.elasticlunr_store.specs.Options.{same_field}
use Rattle.elasticlunr_json.proofs.Sorted.{entries_seen}
use Rattle.elasticlunr_store_maps.proofs.SameMaps.{pointwise_shown, apart_shown}
use Rattle.elasticlunr_store.proofs.config.same.same_fields.Goals as goal

pub returns-then-len : goal.returns-then-len
returns-then-len c =
    apart_shown (λ n. n) (λ p q. bytes_eq p.0 q.0 && same_field p.1 q.1) c.args.a.now.entries c.args.b.now.entries
    (λ e. c.if-len.true (c.len.ensures.len ∙ e ∙ sym c.len-2.ensures.len))
    ∙ (λ i. pointwise (λ p q. bytes_eq p.0 q.0 && same_field p.1 q.1)
    (sym (entries_seen (λ n. n) c.args.a.now.entries c.len.ensures.ordered) i)
    (sym (entries_seen (λ n. n) c.args.b.now.entries c.len-2.ensures.ordered) i))

pub returns : goal.returns
returns c =
    c.eq.ensures ∙ pointwise_shown (λ n. n) (λ p q. bytes_eq p.0 q.0 && same_field p.1 q.1) c.args.a.now.entries
    c.args.b.now.entries
    ∙ (λ i. pointwise (λ p q. bytes_eq p.0 q.0 && same_field p.1 q.1)
    (sym (entries_seen (λ n. n) c.args.a.now.entries c.len.ensures.ordered) i)
    (sym (entries_seen (λ n. n) c.args.b.now.entries c.len-2.ensures.ordered) i))
