use Rattle.std.proofs.Common.{◌≡◌, ◌∙◌, sym, ap, Option, Some, None, IfSome, option_map}
use Rattle.std.specs.Borrow.{Bor}
use Rattle.serde_json.specs.Data.{Data, object, member, no_members}
use Rattle.serde_json.specs.View.{view}
use Rattle.serde_json.specs.declared.value.Value.{Value}
use Rattle.serde_json.proofs.Views.{members_len-members_view}
use Rattle.elasticlunr_trie.proofs.Reading.{one_member, not_alone, more_members}
use Rattle.elasticlunr_trie.proofs.inverted_index.read.only_member.Goals as goal

pub returns-then-len-ne1-clause-none : goal.returns-then-len-ne1-clause-none
returns-then-len-ne1-clause-none c _ d =
    more_members _ _ c.args.key.now d c.in_ok-members.ensures
    (λ one. c.if-len-ne1.true (c.len.ensures.len
    ∙ sym (members_len-members_view c.in_ok-members.members.now.entries) ∙ one))

found : (o : Option (Bor Value)) (g : Option Data) (P : Data → Type 0) → option_map (λ v. view v.now) o ≡ g
    → ((x : Data) → g ≡ Some x → P x) → IfSome o (λ v. P (view v.now))
found None g P e h = tt
found (Some v) g P e h = h (view v.now) (sym e)

pub returns-clause-found : goal.returns-clause-found
returns-clause-found c =
    found c.get.result _ (λ x. view c.args.value.now ≡ object (member c.args.key.now x no_members)) c.get.ensures
    (λ x e. one_member _ _ c.args.key.now x c.in_ok-members.ensures
    (members_len-members_view c.in_ok-members.members.now.entries ∙ sym c.len.ensures.len ∙ c.if-len-ne1.false) e)

pub returns-clause-none : goal.returns-clause-none
returns-clause-none c none d =
    not_alone _ c.args.key.now d (sym c.get.ensures ∙ ap (option_map (λ v. view v.now)) none)
